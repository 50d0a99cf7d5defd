-- All hands of a store come back from the threads.
use Rattle.std.proofs.Common.{◌≡◌, ℕ, zero, suc, ◌<◌, List, [], ◌∷◌, ◌++◌, length, get_or, take, drop, take_all, sym, refl, ap, ◌∙◌, subst, arith, None}
use mathlib.Core.Option.{some, some-injective}
use lib.ListN.{get_elem?}
use Rattle.std.proofs.lemmas.List.{take-append-le}
use Rattle.atomic_table.specs.Seated.{TableId}
use Rattle.bl_layout.specs.declared.layout.Layout.{Layout}
use Rattle.bl_store.specs.Closing.{HasEach}
use Rattle.bl_store.specs.Opening.{IsDealt}
use Rattle.bl_store.specs.Hands.{IsOf, IsIdle}
use Rattle.bl_store.specs.declared.store.Hand.{Hand}
use Rattle.test_store_rule.specs.Holding.{holding, IsFresh}
use Rattle.test_store_rule.specs.declared.Mine.{Mine}

at_below : (l : List (Hand Mine)) (i : ℕ) (a : Hand Mine) → get_elem? l i ≡ some a → i < length l
at_below [] i a e = absurd (cc e)
at_below (x ∷ xs) zero a e = omega arith
at_below (x ∷ xs) (suc i) a e = let h = at_below xs i a e in omega arith

index_there : (l : List (Hand Mine)) (i : ℕ) (d : Hand Mine) → i < length l → get_elem? l i ≡ some (get_or l i d)
index_there [] i d h = absurd (omega arith)
index_there (x ∷ xs) zero d h = refl
index_there (x ∷ xs) (suc i) d h = index_there xs i d (omega arith)

-- the whole is what was written back
written : (len : ℕ) (xs ys : List (Hand Mine)) → length xs ≡ len → length ys ≡ length xs → take len (ys ++ drop (length ys) xs) ≡ ys
written len xs ys size same = take-append-le len ys _ (omega arith) ∙ take_all _ _ (omega arith)

module _ (t : TableId) (l : Layout) (len : ℕ) (xs ys : List (Hand Mine)) (size : length xs ≡ len) (same : length ys ≡ length xs) where
  pub all_idle : ((i : ℕ) (h : Hand Mine) → i < length xs → IsFresh t l (get_or ys i h)) → (k : ℕ) (hand : Hand Mine) → get_elem? (take len (ys ++ drop (length ys) xs)) k ≡ some hand → IsOf t l hand.seat × IsIdle hand.seat
  all_idle fresh k hand at = let here : get_elem? ys k ≡ some hand = ap (λ (z : List (Hand Mine)). get_elem? z k) (sym (written len xs ys size same)) ∙ at in let low = at_below ys k hand here in
      let is : get_or ys k hand ≡ hand = some-injective (get_or ys k hand) hand (sym (index_there ys k hand low) ∙ here) in let f = fresh k hand (omega arith) in
      subst (λ (z : Hand Mine). IsOf t l z.seat × IsIdle z.seat) is (f.0, f.1)

  pub all_back : (passes : ℕ) → IsDealt t l (holding None) passes xs → ((i : ℕ) (h : Hand Mine) → i < length xs → (get_or ys i h).number ≡ (get_or xs i h).number) → HasEach passes (take len (ys ++ drop (length ys) xs))
  all_back passes dealt numbers n low = let count = dealt.count in let first = there xs n (omega arith) in let old = index_there xs n first (omega arith) in
      (n, get_or ys n first, ap (λ (z : List (Hand Mine)). get_elem? z n) (written len xs ys size same) ∙ index_there ys n first (omega arith), numbers n first (omega arith) ∙ (dealt.each n (get_or xs n first) old).0)
    where
      there : (l : List (Hand Mine)) (i : ℕ) → i < length l → Hand Mine
      there [] i h = absurd (omega arith)
      there (x ∷ xs) i h = x
