-- Rows are written into an array, one after another.
use Rattle.std.proofs.Common.{ℕ, zero, suc, ◌≡◌, ◌+◌, ◌<◌, ◌≤◌, ◌++◌, List, [], ◌∷◌, length, map, set, get_or, take, drop, refl, sym, ap, ◌∙◌, append_assoc, add-one, arith}
use Rattle.std.proofs.lemmas.List.{take_more}
use Rattle.bl_ffi.specs.declared.calls.Row.{Row}
use Rattle.bl_model.specs.declared.operation.Reply.{Reply}
use Rattle.bl_model.specs.declared.operation.Reply.TheVariants.{Rows}
use Rattle.bl_proc.specs.declared.parts.Direction.{Direction}
use Rattle.bl_proc.specs.declared.parts.Direction.TheVariants.{Up, Down}
use Rattle.bl_proc.specs.Parts.{op_toward}
use Rattle.bl_model.specs.Map.{Map, MayAnswer}
use Rattle.bl_ffi.specs.Told.{row_of, IsRows}

set_behind : (front old : List Row) (x : Row) → 0 < length old → set (front ++ old) (length front) x ≡ front ++ x ∷ drop 1 old
set_behind [] [] x lt = absurd (omega (arith, lt))
set_behind [] (y ∷ old) x lt = refl
set_behind (z ∷ front) old x lt = ap (λ (w : List Row). z ∷ w) (set_behind front old x lt)

drop_more : (l : List Row) (i : ℕ) → drop 1 (drop i l) ≡ drop (i + 1) l
drop_more l i = rw add-one (go l i)
  where
    go : (l : List Row) (i : ℕ) → drop 1 (drop i l) ≡ drop (suc i) l
    go [] zero = refl
    go [] (suc i) = refl
    go (x ∷ l) zero = refl
    go (x ∷ l) (suc i) = go l i

drop_some : (l : List Row) (i : ℕ) → i < length l → 0 < length (drop i l)
drop_some [] i lt = absurd (omega (arith, lt))
drop_some (x ∷ l) zero lt = omega arith
drop_some (x ∷ l) (suc i) lt = drop_some l i (omega (arith, lt))

map_length : (l : List (ℕ × ℕ)) → length (map row_of l) ≡ length l
map_length [] = refl
map_length (x ∷ l) = ap suc (map_length l)

map_push : (l : List (ℕ × ℕ)) (a : ℕ × ℕ) → map row_of (l ++ a ∷ []) ≡ map row_of l ++ row_of a ∷ []
map_push [] a = refl
map_push (x ∷ l) a = ap (λ (z : List Row). row_of x ∷ z) (map_push l a)

take_length : (l : List (ℕ × ℕ)) (i : ℕ) → i ≤ length l → length (take i l) ≡ i
take_length [] zero le = refl
take_length [] (suc i) le = absurd (omega (arith, le))
take_length (x ∷ l) zero le = refl
take_length (x ∷ l) (suc i) le = ap suc (take_length l i (omega (arith, le)))

pub list_next : (pairs : List (ℕ × ℕ)) (old rows : List Row) (i : ℕ) (pair : ℕ × ℕ) (row : Row) → i < length pairs → i < length old → pair ≡ get_or pairs i pair → row ≡ row_of pair
    → rows ≡ map row_of (take i pairs) ++ drop i old → set rows i row ≡ map row_of (take (i + 1) pairs) ++ drop (i + 1) old
list_next pairs old rows i pair row lt low is made so_far =
    let front = map row_of (take i pairs) in
    let long : length front ≡ i = map_length (take i pairs) ∙ take_length pairs i (omega (arith, lt)) in
    let more : take (i + 1) pairs ≡ take i pairs ++ pair ∷ [] = take_more pairs i pair lt ∙ ap (λ (z : ℕ × ℕ). take i pairs ++ z ∷ []) (sym is) in
    (λ j. set (so_far j) (sym long j) (made j)) ∙ (set_behind front (drop i old) (row_of pair) (drop_some old i low)
    ∙ (ap (λ (z : List Row). front ++ row_of pair ∷ z) (drop_more old i) ∙ (sym (append_assoc front (row_of pair ∷ []) (drop (i + 1) old)) ∙ ap (λ (z : List Row). z ++ drop (i + 1) old) (sym (ap (map row_of) more ∙ map_push (take i pairs) pair)))))

-- what stands at a place does not hang on what stands for a missing one
pub same_there : (l : List (ℕ × ℕ)) (i : ℕ) (d e : ℕ × ℕ) → i < length l → get_or l i d ≡ get_or l i e
same_there [] i d e lt = absurd (omega (arith, lt))
same_there (x ∷ l) zero d e lt = refl
same_there (x ∷ l) (suc i) d e lt = same_there l i d e (omega (arith, lt))

pub part_has_rows : (m : Map) (direction : Direction) (from : ℕ) (reply : Reply) → MayAnswer m (op_toward direction from) reply → IsRows reply
part_has_rows m Up from (Rows pairs next) may = tt
part_has_rows m Down from (Rows pairs next) may = tt
part_has_rows m Up from reply may = absurd may
part_has_rows m Down from reply may = absurd may
