-- Passes that are together: what they have noted leads from the one map to the other.
use Rattle.std.proofs.Common.{◌≡◌, ℕ, suc, ◌+◌, ◌<◌, List, [], ◌∷◌, ◌++◌, length, refl, sym, ap, ◌∙◌, subst, arith}
use Rattle.std.specs.Prelude.{All, flat_map}
use Rattle.std.proofs.lemmas.List.Concat.{flat_map-append, flat_map-cons}
use Rattle.std.proofs.lemmas.List.Elements.{All-head, All-tail}
use Rattle.bl_journal.specs.Rows.{times, Leads}
use Rattle.bl_journal.proofs.Leaving.{times-append}
use Rattle.bl_changes.specs.declared.changes.Changes.{Changes}
use Rattle.bl_changes.specs.Changes.{came_of, went_of, all_came, all_went}
use Rattle.bl_model.specs.declared.operation.Entry.{Entry}
use Rattle.bl_model.specs.History.{IsLegalFrom, entries_of_pass, final_map}
use Rattle.bl_model.specs.Map.{Map}
use Rattle.bl_serve_lines.specs.Served.{Interleaves}
use Rattle.bl_serve_lines.specs.Served.Interleaves.{Done, Takes}
use Rattle.bl_claims.specs.Trails.{Trail, history_of}
use Rattle.bl_claims.specs.Seeing.{first_map, own, AreWithin}
use Rattle.bl_index.specs.declared.index.Index.{Index}
use Rattle.bl_index.specs.declared.index.Pass.{Pass}
use Rattle.bl_index.specs.Calls.{first_of, map_after, number_of, trail}
use Rattle.bl_serve.specs.Noting.{HaveNoted, StillLead}
use Rattle.bl_serve_ground.specs.Together.{AreFrom, AreTogether}
use Rattle.bl_serve.proofs.Holding.{all_within}
use Rattle.bl_serve_ground.proofs.Gathered.{all_below}
use Rattle.bl_serve.proofs.Weaving.{by_part, parts}

-- ---- the rows that entries give, some each

module _ (rows_of : Entry → List (ℕ × ℕ)) where
  abbrev pub rows : List Entry → List (ℕ × ℕ)
  rows es = flat_map rows_of es

  none_left : (lists : List (List Entry)) → All (λ list. list ≡ []) lists → flat_map rows lists ≡ []
  none_left [] none = refl
  none_left (l ∷ ls) none = ap (λ (z : List Entry). rows z ++ flat_map rows ls) (All-head (λ (list : List Entry). list ≡ []) l ls none) ∙ none_left ls (All-tail (λ (list : List Entry). list ≡ []) l ls none)

  parted : (key value : ℕ) (before : List (List Entry)) (list : List Entry) (after : List (List Entry))
      → times key value (flat_map rows (before ++ list ∷ after)) ≡ times key value (flat_map rows before) + (times key value (rows list) + times key value (flat_map rows after))
  parted key value before list after = ap (λ (z : List (ℕ × ℕ)). times key value z) (flat_map-append rows before (list ∷ after))
      ∙ (times-append key value (flat_map rows before) (flat_map rows (list ∷ after))
      ∙ ap (λ (n : ℕ). times key value (flat_map rows before) + n) (ap (λ (z : List (ℕ × ℕ)). times key value z) (flat_map-cons rows list after) ∙ times-append key value (rows list) (flat_map rows after)))

  one_more : (key value : ℕ) (e : Entry) (es : List Entry) → times key value (rows (e ∷ es)) ≡ times key value (rows_of e) + times key value (rows es)
  one_more key value e es = ap (λ (z : List (ℕ × ℕ)). times key value z) (flat_map-cons rows_of e es) ∙ times-append key value (rows_of e) (rows es)

  -- an interleaving gives each row as often as its lists
  pub interleaved : {lists : List (List Entry)} {h : List Entry} (key value : ℕ) → Interleaves lists h → times key value (flat_map rows lists) ≡ times key value (rows h)
  interleaved key value (Done lists none) = ap (λ (z : List (ℕ × ℕ)). times key value z) (none_left lists none)
  interleaved key value (Takes before e list after h more) =
      let so_far = interleaved key value more in
      let left = parted key value before list after in
      let whole = parted key value before (e ∷ list) after in
      let one = one_more key value e list in
      let last = one_more key value e h in
      omega (arith, so_far, left, whole, one, last)

  -- the rows of passes' own entries
  abbrev pub own_rows : List Pass → List (ℕ × ℕ)
  own_rows passes = flat_map (λ pass. rows (own (number_of pass) (trail pass))) passes

  own_parts : (index : Index) (seen : Trail) (from : ℕ) (passes : List Pass) → AreFrom index seen from passes → own_rows passes ≡ flat_map rows (parts from (length passes) (history_of seen))
  own_parts index seen from [] h = refl
  own_parts index seen from (p ∷ ps) h =
      let one : own (number_of p) (trail p) ≡ entries_of_pass from (history_of seen) = λ i. own (h.1 i) (h.2 i) in
      ap (λ (z : List Entry). rows z ++ own_rows ps) one ∙ ap (λ (z : List (ℕ × ℕ)). rows (entries_of_pass from (history_of seen)) ++ z) (own_parts index seen (suc from) ps h.3)

  -- of all passes that have met they are those of the history
  pub counted_together : (index : Index) (seen : Trail) (passes : List Pass) (key value : ℕ) → 0 < length passes → AreTogether index seen passes → times key value (own_rows passes) ≡ times key value (rows (history_of seen))
  counted_together index seen passes key value some t =
      let within : AreWithin (length passes) seen = subst (λ (z : ℕ). AreWithin z seen) (sym t.count) (all_within index seen 0 passes some t.each) in
      ap (λ (z : List (ℕ × ℕ)). times key value z) (own_parts index seen 0 passes t.each) ∙ interleaved key value (by_part (length passes) (history_of seen) (all_below (length passes) seen within))

-- ---- the maps

-- The law that what a legal history changes leads from its first map to its last one.
abbrev pub HistoriesLead : Type 0
HistoriesLead = (m : Map) (entries : List Entry) → IsLegalFrom m entries → Leads (all_came entries) (all_went entries) m (final_map m entries)

-- what passes have noted, which had met and have met again, leads from the map that they had seen to that which they see
pub leads : HistoriesLead → (index : Index) (base now : Trail) (olds news : List Pass) (came went : List (ℕ × ℕ)) → 0 < length olds → 0 < length news → AreTogether index base olds → AreTogether index now news → HaveNoted olds news came went
    → Leads came went (map_after (first_of index) base) (map_after (first_of index) now)
leads law index base now olds news came went some many met again noted key value =
    let came_before = counted_together (λ (e : Entry). came_of e.op e.reply) index base olds key value some met in
    let came_now = counted_together (λ (e : Entry). came_of e.op e.reply) index now news key value many again in
    let went_before = counted_together (λ (e : Entry). went_of e.op e.reply) index base olds key value some met in
    let went_now = counted_together (λ (e : Entry). went_of e.op e.reply) index now news key value many again in
    let came = noted.came_are key value in
    let went = noted.went_are key value in
    let was = law (first_map (first_of index)) (history_of base) met.may_be.legal key value in
    let is = law (first_map (first_of index)) (history_of now) again.may_be.legal key value in
    omega (arith, came_before, came_now, went_before, went_now, came, went, was, is)

-- nothing came and nothing went
pub leads_nowhere : (came went : List (ℕ × ℕ)) (m : Map) → came ≡ [] → went ≡ [] → Leads came went m m
leads_nowhere came went m no_came no_went key value =
    let a = ap (λ (z : List (ℕ × ℕ)). times key value z) no_came in
    let b = ap (λ (z : List (ℕ × ℕ)). times key value z) no_went in
    omega (arith, a, b)

-- what was noted behind what led to a map leads on from there
pub leads_more : (noted more : Changes) (came went : List (ℕ × ℕ)) (old new : Map) → more.came.items ≡ noted.came.items ++ came → more.went.items ≡ noted.went.items ++ went → Leads came went old new → StillLead noted old more new
leads_more noted more came went old new came_is went_is one first so_far key value =
    let a = so_far key value in
    let b = one key value in
    let d = ap (λ (z : List (ℕ × ℕ)). times key value z) came_is ∙ times-append key value noted.came.items came in
    let e = ap (λ (z : List (ℕ × ℕ)). times key value z) went_is ∙ times-append key value noted.went.items went in
    omega (arith, a, b, d, e)
