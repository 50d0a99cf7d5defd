-- Histories that go on: one behind another, and one more entry.
use Rattle.std.proofs.Common.{◌≡◌, ℕ, List, [], ◌∷◌, ◌++◌, refl, arith}
use Rattle.std.specs.Prelude.{All, ◌==◌}
use Rattle.std.proofs.lemmas.Bool.Decides.{nat_tests}
use Rattle.std.proofs.lemmas.List.Elements.{filter-append, All-head, All-tail}
use Rattle.bl_model.specs.declared.operation.Entry.{Entry}
use Rattle.bl_model.specs.Map.{Map, MayAnswer, map_step}
use Rattle.bl_model.specs.History.{IsLegalFrom, final_map, entries_of_pass}

pub final_map-append : (m : Map) (es fs : List Entry) → final_map m (es ++ fs) ≡ final_map (final_map m es) fs
final_map-append m [] fs = refl
final_map-append m (e ∷ es) fs = final_map-append (map_step e.op e.reply m) es fs

pub final_map-push : (m : Map) (es : List Entry) (e : Entry) → final_map m (es ++ e ∷ []) ≡ map_step e.op e.reply (final_map m es)
final_map-push m es e = final_map-append m es (e ∷ [])

pub legal_append : (m : Map) (es fs : List Entry) → IsLegalFrom m es → IsLegalFrom (final_map m es) fs → IsLegalFrom m (es ++ fs)
legal_append m [] fs h k = k
legal_append m (e ∷ es) fs h k = (h.0, legal_append (map_step e.op e.reply m) es fs h.1 k)

pub legal_push : (m : Map) (es : List Entry) (e : Entry) → IsLegalFrom m es → MayAnswer (final_map m es) e.op e.reply → IsLegalFrom m (es ++ e ∷ [])
legal_push m es e h may = legal_append m es (e ∷ []) h (may, tt)

-- a beginning of a legal history is legal, and so is what follows it, from the map after it
pub legal_front : (m : Map) (es fs : List Entry) → IsLegalFrom m (es ++ fs) → IsLegalFrom m es
legal_front m [] fs h = tt
legal_front m (e ∷ es) fs h = (h.0, legal_front (map_step e.op e.reply m) es fs h.1)

pub legal_rest : (m : Map) (es fs : List Entry) → IsLegalFrom m (es ++ fs) → IsLegalFrom (final_map m es) fs
legal_rest m [] fs h = h
legal_rest m (e ∷ es) fs h = legal_rest (map_step e.op e.reply m) es fs h.1

pub entries_of_pass-append : (pass : ℕ) (es fs : List Entry) → entries_of_pass pass (es ++ fs) ≡ entries_of_pass pass es ++ entries_of_pass pass fs
entries_of_pass-append pass es fs = filter-append (λ e. e.pass == pass) es fs

pub entries_of_pass-own : (pass : ℕ) (es : List Entry) → All (λ e. e.pass ≡ pass) es → entries_of_pass pass es ≡ es
entries_of_pass-own pass [] h = refl
entries_of_pass-own pass (e ∷ es) h = let here : e.pass ≡ pass = All-head (λ x. x.pass ≡ pass) e es h in
    grind (arith, nat_tests, here, entries_of_pass-own pass es (All-tail (λ x. x.pass ≡ pass) e es h))
