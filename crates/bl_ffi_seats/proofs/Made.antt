-- Seats that are made for passes one after another.
use Rattle.std.proofs.Common.{◌≡◌, ◌+◌, ◌<◌, List, [], ◌∷◌, ◌++◌, length, take, drop, get_or, sym, ap, ◌∙◌, subst, append_assoc, arith}
use Rattle.std.specs.Prelude.{All}
use Rattle.std.specs.List.{AllZip}
use Rattle.std.proofs.lemmas.List.Elements.{All-head, All-tail}
use Rattle.bl_index.specs.Calls.{IsPassOf}
use Rattle.bl_index.specs.declared.index.Index.{Index}
use Rattle.bl_index.specs.declared.index.Pass.{Pass}
use Rattle.bl_ffi_seats.specs.declared.seat.Seat.{Seat}
use Rattle.bl_ffi_seats.specs.Opened.{IsNewSeat, AreSeatsOf}

-- the first of some is taken away
pub first_taken : {A : Type 0} (all rest : List A) (one : A) → 0 < length all → one ≡ get_or all 0 one → rest ≡ take 0 all ++ drop (0 + 1) all → all ≡ one ∷ rest
first_taken [] rest one some is left = absurd (omega arith)
first_taken (x ∷ xs) rest one some is left = ap (λ (z : _). z ∷ xs) (sym is) ∙ ap (λ (z : _). one ∷ z) (sym left)

zip_push : {A B : Type 0} (R : A → B → Type 0) (xs : List A) (ys : List B) (x : A) (y : B) → AllZip R xs ys → R x y → AllZip R (xs ++ x ∷ []) (ys ++ y ∷ [])
zip_push R [] [] x y h k = (k, tt)
zip_push R [] (b ∷ ys) x y h k = absurd h
zip_push R (a ∷ xs) [] x y h k = absurd h
zip_push R (a ∷ xs) (b ∷ ys) x y h k = (h.0, zip_push R xs ys x y h.1 k)

-- so many of the passes have a seat
pub record AreMadeSo (index : Index) (passes rest : List Pass) (seats : List Seat) : Type 0 where
  pub taken : List Pass
  pub all : passes ≡ taken ++ rest
  pub over : AreSeatsOf index taken seats

pub one_made : (index : Index) (passes rest left : List Pass) (pass : Pass) (seats now : List Seat) (seat : Seat) → rest ≡ pass ∷ left → IsNewSeat index pass seat → now ≡ seats ++ seat ∷ []
    → AreMadeSo index passes rest seats → AreMadeSo index passes left now
one_made index passes rest left pass seats now seat next over is s = record {
  taken = s.taken ++ pass ∷ [];
  all = s.all ∙ (ap (λ (z : List Pass). s.taken ++ z) next ∙ sym (append_assoc s.taken (pass ∷ []) left));
  over = subst (AreSeatsOf index (s.taken ++ pass ∷ [])) (sym is) (zip_push (IsNewSeat index) s.taken seats pass seat s.over over);
}

-- what is left of an index's passes is its
pub left_own : (index : Index) (rest left : List Pass) (pass : Pass) → rest ≡ pass ∷ left → All (IsPassOf index) rest → IsPassOf index pass × All (IsPassOf index) left
left_own index rest left pass next own = let all : All (IsPassOf index) (pass ∷ left) = subst (All (IsPassOf index)) next own in (All-head (IsPassOf index) pass left all, All-tail (IsPassOf index) pass left all)
