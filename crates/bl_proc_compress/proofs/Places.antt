-- The two children of a parent that stand side by side, by their places.
use Rattle.std.proofs.Common.{ℕ, zero, suc, ◌≡◌, ◌+◌, ◌<◌, ◌≤◌, List, [], ◌∷◌, length, get_or, Some, arith, inl, inr}
use Rattle.std.proofs.lemmas.Bool.{cases_lt}
use Rattle.bl_model.specs.Rows.{map_of}
use Rattle.bl_page.specs.Pairs.{IsWithin, RisesFrom, AllWithin, BeginsWith, place}
use Rattle.bl_page.proofs.Lookups.{place-le, place-some}
use Rattle.bl_proc_compress.specs.Compressions.{right_place}

pub right_place-some : (low k : ℕ) (pairs : List (ℕ × ℕ)) → BeginsWith low pairs → low ≤ k → 2 ≤ length pairs → 0 < right_place k pairs
right_place-some low k pairs begins le two =
    let some = place-some low k pairs begins le in
    elim (cases_lt (place k pairs) (length pairs)) [
      | inl lt ↦ grind (arith, some, lt)
      | inr ge ↦ grind (arith, place-le k pairs, ge, two)
    ]

key_from : (least i : ℕ) (pairs : List (ℕ × ℕ)) → RisesFrom least pairs → i < length pairs → least ≤ (get_or pairs i (0, 0)).0
key_from least i [] h lt = absurd (omega arith)
key_from least zero (pair ∷ pairs) h lt = h.0
key_from least (suc i) (pair ∷ pairs) h lt = omega (arith, h.0, key_from (pair.0 + 1) i pairs h.1 (omega arith))

pub listed_at : (least i : ℕ) (pairs : List (ℕ × ℕ)) → RisesFrom least pairs → i < length pairs → map_of pairs (get_or pairs i (0, 0)).0 ≡ Some (get_or pairs i (0, 0)).1
listed_at least i [] h lt = absurd (omega arith)
listed_at least zero (pair ∷ pairs) h lt = grind arith
listed_at least (suc i) (pair ∷ pairs) h lt = grind (arith, key_from (pair.0 + 1) i pairs h.1 (omega arith), listed_at (pair.0 + 1) i pairs h.1 (omega arith))

pub above_first : (least low i : ℕ) (pairs : List (ℕ × ℕ)) → RisesFrom least pairs → BeginsWith low pairs → 0 < i → i < length pairs → low < (get_or pairs i (0, 0)).0
above_first least low i [] h b some lt = absurd b
above_first least low zero (pair ∷ pairs) h b some lt = absurd (omega arith)
above_first least low (suc i) (pair ∷ pairs) h b some lt = omega (arith, b, key_from (pair.0 + 1) i pairs h.1 (omega arith))

pub within_at : (low high i : ℕ) (pairs : List (ℕ × ℕ)) → AllWithin low high pairs → i < length pairs → IsWithin low high (get_or pairs i (0, 0)).0
within_at low high i [] h lt = absurd (omega arith)
within_at low high zero (pair ∷ pairs) h lt = h.0
within_at low high (suc i) (pair ∷ pairs) h lt = within_at low high i pairs h.1 (omega arith)
