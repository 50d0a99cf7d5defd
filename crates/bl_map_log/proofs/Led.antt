-- What the handles of all seats have noted leads from the one map to the other.
use Rattle.std.proofs.Common.{◌≡◌, ℕ, suc, ◌+◌, List, [], ◌∷◌, ◌++◌, length, refl, sym, ap, ◌∙◌, subst, arith}
use Rattle.std.specs.Prelude.{All, flat_map}
use Rattle.std.proofs.lemmas.List.Elements.{All-head, All-tail}
use Rattle.bl_model.specs.declared.operation.Entry.{Entry}
use Rattle.bl_model.specs.History.{IsLegalFrom, entries_of_pass, final_map}
use Rattle.bl_model.specs.Map.{Map as PlainMap}
use Rattle.bl_journal.specs.Rows.{times, Leads}
use Rattle.bl_journal.proofs.Leaving.{times-append}
use Rattle.bl_changes.specs.Changes.{came_of, went_of, all_came, all_went}
use Rattle.bl_claims.specs.Trails.{Trail, history_of}
use Rattle.bl_claims.specs.Seeing.{first_map, AreWithin}
use Rattle.bl_index.specs.Calls.{first_of, passes_of}
use Rattle.bl_map.specs.declared.map.Map.{Map}
use Rattle.bl_map.specs.Handles.{number_of_seat}
use Rattle.bl_map_log.specs.declared.handle.NotingHandle.{NotingHandle}
use Rattle.bl_map_log.specs.Notes.{came_noted, went_noted, done_in}
use Rattle.bl_map_log.specs.Commits.{AreFrom, AreAllOf, IsWhole, map_told}
use Rattle.bl_map_log.proofs.Counting.{by_passes, often, all_counted, all_below, counted}

-- The law that what a legal history changes leads from its first map to its last one.
abbrev pub HistoriesLead : Type 0
HistoriesLead = (m : PlainMap) (entries : List Entry) → IsLegalFrom m entries → Leads (all_came entries) (all_went entries) m (final_map m entries)

-- What the handle has done by the one trail it had done by the other one, but for what gives these rows.
abbrev pub Gives : (List Entry → List (ℕ × ℕ)) → (NotingHandle → List (ℕ × ℕ)) → Trail → Trail → NotingHandle → Type 0
Gives rows noted base now h = rows (done_in now h) ≡ rows (done_in base h) ++ noted h

module _ (key value : ℕ) (rows_of : Entry → List (ℕ × ℕ)) (noted : NotingHandle → List (ℕ × ℕ)) (map : Map) (base now : Trail) where
  one_gives : (from : ℕ) (h : NotingHandle) → number_of_seat h.handle ≡ from → Gives (flat_map rows_of) noted base now h
      → often key value rows_of (entries_of_pass from (history_of now)) ≡ often key value rows_of (entries_of_pass from (history_of base)) + times key value (noted h)
  one_gives from h is gives =
      let here : often key value rows_of (done_in now h) ≡ often key value rows_of (done_in base h) + times key value (noted h) =
      ap (λ (z : List (ℕ × ℕ)). times key value z) gives ∙ times-append key value (flat_map rows_of (done_in base h)) (noted h) in
      subst (λ (n : ℕ). often key value rows_of (entries_of_pass n (history_of now)) ≡ often key value rows_of (entries_of_pass n (history_of base)) + times key value (noted h)) is here

  each_gives : (from : ℕ) (handles : List NotingHandle) → AreFrom map from handles → All (Gives (flat_map rows_of) noted base now) handles
      → by_passes key value rows_of from (length handles) (history_of now) ≡ by_passes key value rows_of from (length handles) (history_of base) + times key value (flat_map noted handles)
  each_gives from [] are all = refl
  each_gives from (h ∷ hs) are all =
      let one = one_gives from h are.1 (All-head (Gives (flat_map rows_of) noted base now) h hs all) in
      let more = each_gives (suc from) hs are.2 (All-tail (Gives (flat_map rows_of) noted base now) h hs all) in
      let both = counted key value noted h hs in
      omega (arith, one, more, both)

  -- the history has given these rows since
  pub gives_all : (handles : List NotingHandle) → AreAllOf map handles → AreWithin (passes_of map.index) base → AreWithin (passes_of map.index) now → All (Gives (flat_map rows_of) noted base now) handles
      → often key value rows_of (history_of now) ≡ often key value rows_of (history_of base) + times key value (flat_map noted handles)
  gives_all handles all was is gives =
      let n = length handles in
      let a = all_counted key value rows_of n (history_of base) (all_below n base (subst (λ (z : ℕ). AreWithin z base) (sym all.count) was)) in
      let b = all_counted key value rows_of n (history_of now) (all_below n now (subst (λ (z : ℕ). AreWithin z now) (sym all.count) is)) in
      let c = each_gives 0 handles all.each gives in
      omega (arith, a, b, c)

pub leads : HistoriesLead → (map : Map) (base now : Trail) (handles : List NotingHandle) → IsWhole map base → IsWhole map now → AreAllOf map handles
    → All (Gives all_came came_noted base now) handles → All (Gives all_went went_noted base now) handles
    → Leads (flat_map came_noted handles) (flat_map went_noted handles) (map_told map base) (map_told map now)
leads law map base now handles was is all came went key value =
    let c = gives_all key value (λ (e : Entry). came_of e.op e.reply) came_noted map base now handles all was.within is.within came in
    let w = gives_all key value (λ (e : Entry). went_of e.op e.reply) went_noted map base now handles all was.within is.within went in
    let before = law (first_map (first_of map.index)) (history_of base) was.legal.legal key value in
    let behind = law (first_map (first_of map.index)) (history_of now) is.legal.legal key value in
    omega (arith, c, w, before, behind)
