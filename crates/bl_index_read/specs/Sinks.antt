-- Where the rows of a scan go.
use Rattle.std.specs.Prelude.{◌≡◌, ℕ, ◌++◌, List, [], ◌∷◌}
use Rattle.std.specs.List.{FoldsTo}
use Rattle.std.proofs.Common.{sym, subst}

-- they stand behind those of before
abbrev pub Appends : List (ℕ × ℕ) → List (ℕ × ℕ) → List (ℕ × ℕ) → Type 0
Appends before rows after = after ≡ before ++ rows

module _ {P A : Type 0} (R : P → A → P → Type 0) where
  -- Some steps, and then others: it is a lemma, and stands here since an impl cites it.
  pub folds_append : (p : P) (xs : List A) (q : P) (ys : List A) (r : P) → FoldsTo R p xs q → FoldsTo R q ys r → FoldsTo R p (xs ++ ys) r
  folds_append p [] q ys r f g = subst (λ (z : P). FoldsTo R z ys r) (sym f) g
  folds_append p (x ∷ xs) q ys r f g = (f.0, f.1, folds_append f.0 xs q ys r f.2 g)
