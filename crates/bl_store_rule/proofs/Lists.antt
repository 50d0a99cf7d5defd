-- Lists read by `get_elem?`, and sums of numbers.
use Rattle.std.proofs.Common.{◌≡◌, ℕ, zero, suc, ◌+◌, ◌*◌, ◌<◌, ◌≤◌, List, [], ◌∷◌, length, get_or, set, sym, refl, ◌∙◌, arith}
use mathlib.Core.Option.{some, some-ne-none, some-injective}
use lib.ListN.{get_elem?}
use Rattle.bl_store_rule.specs.Frames.{total_of}
use Rattle.atomic_table.proofs.Lists.{set_here}

module _ {A : Type 0} where
  pub at_below : (l : List A) (i : ℕ) (a : A) → get_elem? l i ≡ some a → i < length l
  at_below [] i a e = absurd (some-ne-none a (sym e))
  at_below (x ∷ xs) zero a e = omega arith
  at_below (x ∷ xs) (suc i) a e = let h = at_below xs i a e in omega arith

  pub there : (l : List A) (i : ℕ) → i < length l → (a : A) × (get_elem? l i ≡ some a)
  there [] i h = absurd (omega arith)
  there (x ∷ xs) zero h = (x, refl)
  there (x ∷ xs) (suc i) h = there xs i (omega arith)

  -- what is listed at two places is listed once
  pub one_there : (l : List A) (i : ℕ) (a b : A) → get_elem? l i ≡ some a → get_elem? l i ≡ some b → a ≡ b
  one_there l i a b e f = some-injective a b (sym e ∙ f)

  -- what is listed at an index is there
  pub index_there : (l : List A) (i : ℕ) (d : A) → i < length l → get_elem? l i ≡ some (get_or l i d)
  index_there [] i d h = absurd (omega arith)
  index_there (x ∷ xs) zero d h = refl
  index_there (x ∷ xs) (suc i) d h = index_there xs i d (omega arith)

  pub index_of : (l : List A) (i : ℕ) (d a : A) → get_elem? l i ≡ some a → get_or l i d ≡ a
  index_of l i d a e = one_there l i (get_or l i d) a (index_there l i d (at_below l i a e)) e

  pub set_there : (l : List A) (i : ℕ) (a b : A) → get_elem? l i ≡ some a → get_elem? (set l i b) i ≡ some b
  set_there l i a b e = set_here l i b (at_below l i a e)

pub total_set : (l : List ℕ) (i b n : ℕ) → get_elem? l i ≡ some b → total_of (set l i n) + b ≡ total_of l + n
total_set [] i b n e = absurd (some-ne-none b (sym e))
total_set (x ∷ xs) zero b n e = let same : x ≡ b = some-injective x b e in omega arith
total_set (x ∷ xs) (suc i) b n e = let rest = total_set xs i b n e in omega arith

pub total_small : (l : List ℕ) → ((i b : ℕ) → get_elem? l i ≡ some b → b ≤ 4) → total_of l ≤ 4 * length l
total_small [] each = omega arith
total_small (x ∷ xs) each = let here : x ≤ 4 = each 0 x refl in let rest = total_small xs (λ i b e. each (suc i) b e) in omega arith
