-- The image of a closed index, whose passes had met: its rows are the map after what they had seen.
use Rattle.std.proofs.Common.{◌≡◌, ℕ, zero, suc, ◌+◌, ◌<◌, List, [], ◌∷◌, ◌++◌, length, refl, sym, ap, ◌∙◌, subst, append-nil, arith}
use Rattle.std.specs.Prelude.{All, Option}
use Rattle.std.proofs.lemmas.List.{append_cancel_left}
use Rattle.std.proofs.lemmas.List.Elements.{All-nil, All-cons, All-head}
use mathlib.Core.Option.{some, some-ne-none}
use lib.ListN.{get_elem?}
use Rattle.bl_model.specs.declared.operation.Entry.{Entry}
use Rattle.bl_model.specs.Map.{Map, SameMap}
use Rattle.bl_model.specs.Rows.{map_of}
use Rattle.bl_model.specs.History.{final_map, entries_of_pass}
use Rattle.bl_model.proofs.Histories.{entries_of_pass-append, entries_of_pass-own}
use Rattle.bl_page.specs.declared.page.Page.{Page}
use Rattle.bl_claims.specs.Trails.{Trail, history_of}
use Rattle.bl_claims.specs.Seeing.{first_map, AreWithin, GoesOnFrom, own}
use Rattle.bl_index.specs.declared.index.Index.{Index}
use Rattle.bl_index.specs.declared.index.Pass.{Pass}
use Rattle.bl_index.specs.Calls.{first_of, number_of, trail, pages_of, passes_of}
use Rattle.bl_index.specs.Closed.{HasPass, AreAll, Closes}
use Rattle.bl_serve_ground.specs.Together.{AreFrom, AreTogether, seen_by}
use Rattle.bl_serve_ground.specs.Leaving.{HoldMapAfter}
use Rattle.bl_index_range.proofs.Told.{history_append}
use Rattle.bl_serve_ground.proofs.Gathered.{IsBelow, all_below, own_more, within_rest}

-- ---- all passes are there

same_item : {A : Type 0} (x y : A) → some x ≡ some y → x ≡ y
same_item x y e = cc

seen_at : (index : Index) (seen : Trail) (from : ℕ) (passes : List Pass) → AreFrom index seen from passes → (k : ℕ) (pass : Pass) → get_elem? passes k ≡ some pass → trail pass ≡ seen
seen_at index seen from [] h k pass at = absurd (some-ne-none pass (sym at))
seen_at index seen from (p ∷ ps) h zero pass at = subst (λ (z : Pass). trail z ≡ seen) (same_item p pass at) h.2
seen_at index seen from (p ∷ ps) h (suc k) pass at = seen_at index seen (suc from) ps h.3 k pass at

pass_at : (index : Index) (seen : Trail) (from : ℕ) (passes : List Pass) → AreFrom index seen from passes → (k n : ℕ) → k < length passes → n ≡ from + k → HasPass passes n
pass_at index seen from [] h k n low is = absurd (omega arith)
pass_at index seen from (p ∷ ps) h zero n low is = record { place = 0; pass = p; at = refl; numbered = (let e = h.1 in omega arith) }
pass_at index seen from (p ∷ ps) h (suc k) n low is = let r = pass_at index seen (suc from) ps h.3 k n (omega arith) (omega arith) in record { place = suc r.place; pass = r.pass; at = r.at; numbered = r.numbered }

pub all_there : (index : Index) (seen : Trail) (passes : List Pass) → AreTogether index seen passes → AreAll index passes
all_there index seen passes t n low = pass_at index seen 0 passes t.each n n (let c = t.count in omega arith) (omega arith)

-- ---- nothing happened to the map behind what they had seen

no_entries : (passes : ℕ) (es : List Entry) → All (IsBelow passes) es → ((n : ℕ) → n < passes → entries_of_pass n es ≡ []) → es ≡ []
no_entries passes [] below none = refl
no_entries passes (e ∷ es) below none =
    let one : entries_of_pass e.pass (e ∷ []) ≡ e ∷ [] = entries_of_pass-own e.pass (e ∷ []) (All-cons (λ (x : Entry). x.pass ≡ e.pass) e [] refl (All-nil (λ (x : Entry). x.pass ≡ e.pass))) in
    let whole : (e ∷ []) ++ entries_of_pass e.pass es ≡ [] = ap (λ (z : List Entry). z ++ entries_of_pass e.pass es) (sym one) ∙ (sym (entries_of_pass-append e.pass (e ∷ []) es) ∙ none e.pass (All-head (IsBelow passes) e es below)) in
    absurd (let long = ap length whole in omega arith)

-- the passes' entries are in what they had seen, and there are no others
pub history_kept : (index : Index) (seen : Trail) (passes : List Pass) (pages : List (Option Page)) → 0 < length passes → AreTogether index seen passes → (c : Closes index passes pages) → history_of c.whole ≡ history_of seen
history_kept index seen passes pages any t c =
    let first = pass_at index seen 0 passes t.each 0 0 any (omega arith) in
    let on : GoesOnFrom seen c.whole = subst (λ (z : Trail). GoesOnFrom z c.whole) (seen_at index seen 0 passes t.each first.place first.pass first.at) (c.begins first.place first.pass first.at) in
    let more : Trail = on.0 in
    let below = all_below (passes_of index) more (within_rest (passes_of index) seen more (subst (AreWithin (passes_of index)) on.1 c.within)) in
    let none : history_of more ≡ [] = no_entries (passes_of index) (history_of more) below (λ n low.
    let h = c.all n low in
    let same : own n c.whole ≡ own n seen = subst (λ (z : ℕ). own z c.whole ≡ own z seen) h.numbered (c.none h.place h.pass h.at ∙ ap (own (number_of h.pass)) (seen_at index seen 0 passes t.each h.place h.pass h.at)) in
    append_cancel_left (own n seen) (entries_of_pass n (history_of more)) [] (sym (own_more seen c.whole more on.1 n) ∙ (same ∙ sym (append-nil (own n seen))))) in
    ap history_of on.1 ∙ (history_append seen more ∙ (ap (λ (z : List Entry). history_of seen ++ z) none ∙ append-nil (history_of seen)))

pub hold_map : (index : Index) (seen : Trail) (passes : List Pass) (pages : List (Option Page)) → 0 < length passes → AreTogether index seen passes → Closes index passes pages → HoldMapAfter (first_map (first_of index)) (history_of seen) (pages_of index, pages_of index) pages
hold_map index seen passes pages any t c = record {
  least = (let same = c.count in omega (arith, same));
  most = (let same = c.count in omega (arith, same));
  rows = c.rows;
  are_rows = c.are_rows;
  same = subst (λ (z : List Entry). SameMap (final_map (first_map (first_of index)) z) (map_of c.rows)) (history_kept index seen passes pages any t c) c.map;
}
