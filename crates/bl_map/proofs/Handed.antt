-- Handles that are made for seats one after another.
use Rattle.std.proofs.Common.{◌≡◌, ◌+◌, ◌<◌, List, [], ◌∷◌, ◌++◌, length, take, drop, get_or, refl, sym, ap, ◌∙◌, subst, append_assoc, arith}
use Rattle.std.specs.Prelude.{All}
use Rattle.std.specs.List.{AllZip}
use Rattle.std.proofs.lemmas.List.Elements.{All-head, All-tail}
use Rattle.bl_index.specs.Calls.{IsPassOf}
use Rattle.bl_index.specs.declared.index.Index.{Index}
use Rattle.bl_index.specs.declared.index.Pass.{Pass}
use Rattle.bl_map.specs.declared.handle.Handle.{Handle}
use Rattle.bl_map.specs.Handles.{IsHandleOver, seats_of}

-- the first of some is taken away
pub first_taken : {A : Type 0} (all rest : List A) (one : A) → 0 < length all → one ≡ get_or all 0 one → rest ≡ take 0 all ++ drop (0 + 1) all → all ≡ one ∷ rest
first_taken [] rest one some is left = absurd (omega arith)
first_taken (x ∷ xs) rest one some is left = ap (λ (z : _). z ∷ xs) (sym is) ∙ ap (λ (z : _). one ∷ z) (sym left)

-- ---- handles for seats

zip_push : {A B : Type 0} (R : A → B → Type 0) (xs : List A) (ys : List B) (x : A) (y : B) → AllZip R xs ys → R x y → AllZip R (xs ++ x ∷ []) (ys ++ y ∷ [])
zip_push R [] [] x y h k = (k, tt)
zip_push R [] (b ∷ ys) x y h k = absurd h
zip_push R (a ∷ xs) [] x y h k = absurd h
zip_push R (a ∷ xs) (b ∷ ys) x y h k = (h.0, zip_push R xs ys x y h.1 k)

-- so many of the seats have a handle
pub record IsSeatedSo (index : Index) (seats rest : List Pass) (handles : List Handle) : Type 0 where
  pub taken : List Pass
  pub all : seats ≡ taken ++ rest
  pub over : AllZip (IsHandleOver index) taken handles

pub one_seated : (index : Index) (seats rest left : List Pass) (seat : Pass) (handles now : List Handle) (handle : Handle) → rest ≡ seat ∷ left → IsHandleOver index seat handle → now ≡ handles ++ handle ∷ []
    → IsSeatedSo index seats rest handles → IsSeatedSo index seats left now
one_seated index seats rest left seat handles now handle next over is s = record {
  taken = s.taken ++ seat ∷ [];
  all = s.all ∙ (ap (λ (z : List Pass). s.taken ++ z) next ∙ sym (append_assoc s.taken (seat ∷ []) left));
  over = subst (AllZip (IsHandleOver index) (s.taken ++ seat ∷ [])) (sym is) (zip_push (IsHandleOver index) s.taken handles seat handle s.over over);
}

-- what is left of an index's seats is its
pub left_own : (index : Index) (rest left : List Pass) (seat : Pass) → rest ≡ seat ∷ left → All (IsPassOf index) rest → IsPassOf index seat × All (IsPassOf index) left
left_own index rest left seat next own = let all : All (IsPassOf index) (seat ∷ left) = subst (All (IsPassOf index)) next own in (All-head (IsPassOf index) seat left all, All-tail (IsPassOf index) seat left all)

-- the handles of seats work from them
pub their_seats : (index : Index) (seats : List Pass) (handles : List Handle) → AllZip (IsHandleOver index) seats handles → seats_of handles ≡ seats
their_seats index [] [] h = refl
their_seats index [] (x ∷ xs) h = absurd h
their_seats index (s ∷ ss) [] h = absurd h
their_seats index (s ∷ ss) (x ∷ xs) h = ap (λ (z : Pass). z ∷ seats_of xs) h.0.1 ∙ ap (λ (z : List Pass). s ∷ z) (their_seats index ss xs h.1)
