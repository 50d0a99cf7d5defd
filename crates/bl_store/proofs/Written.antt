-- What a hand has written into the frame that it reserved last, and what it has left of its stock.
use Rattle.std.proofs.Common.{◌≡◌, ℕ, zero, suc, ◌+◌, ◌-◌, ◌<◌, ◌≤◌, List, [], ◌∷◌, ◌++◌, length, get_or, sym, refl, ap, ◌∙◌, subst, inl, inr, arith, ext_get_or}
use Rattle.std.proofs.lemmas.Bool.{cases_lt, cases_eq}
use Rattle.std.proofs.lemmas.List.{get_or_append_left, length-append}
use Rattle.atomic_table.specs.declared.shared.Seat.{Seat}
use Rattle.bl_layout.specs.declared.layout.Layout.{Layout}
use Rattle.bl_layout.specs.Words.{frame_count}
use Rattle.bl_store_rule.specs.Observed.{draft}
use Rattle.bl_store.specs.Drafts.{first_words, behind_first, IsSplice}
use Rattle.bl_store.specs.Hands.{drafts, BeginsAt, IsStockOf}
use Rattle.bl_store.specs.declared.put.Splice.{Splice}
use Rattle.bl_store.specs.declared.stock.Stock.{Stock}
use Rattle.bl_store_rule.specs.declared.view.Draft.{Draft}
use Rattle.bl_store_rule.specs.declared.view.Reading.{Reading}
use Rattle.bl_store_rule.specs.declared.view.View.{View}

-- a stock of one frame less
pub drafts_pop : (fs : List ℕ) (n : ℕ) → 0 < n → drafts fs n ≡ draft (get_or fs (n - 1) 0) [] ∷ drafts fs (n - 1)
drafts_pop fs zero some_frame = absurd (omega arith)
drafts_pop fs (suc n) some_frame = let e : n ≡ suc n - 1 = omega arith in λ i. draft (get_or fs (e i) 0) [] ∷ drafts fs (e i)

-- the frame that is written, by its words
pub has_draft : (s : List Draft) (f n : ℕ) (xs : List ℕ) (ds : List Draft) → s ≡ draft f xs ∷ ds → length xs ≡ n → (s ≡ draft f (first_words s) ∷ behind_first s) × (length (first_words s) ≡ n)
has_draft s f n xs ds is size = (is ∙ (λ i. draft f (first_words (sym is i)) ∷ behind_first (sym is i)), ap (λ (z : List Draft). length (first_words z)) is ∙ size)

-- one word more
module _ (s t : List Draft) (f n w : ℕ) (has : s ≡ draft f (first_words s) ∷ behind_first s) (size : length (first_words s) ≡ n) (is : t ≡ draft f (first_words s ++ w ∷ []) ∷ behind_first s) where
  pub next_draft : (t ≡ draft f (first_words t) ∷ behind_first t) × (length (first_words t) ≡ n + 1)
  next_draft = has_draft t f (n + 1) (first_words s ++ w ∷ []) (behind_first s) is (omega (arith, length-append (first_words s) (w ∷ []), size))

  pub next_others : behind_first t ≡ behind_first s
  next_others = ap behind_first is

  pub next_kept : (k : ℕ) → k < n → get_or (first_words t) k 0 ≡ get_or (first_words s) k 0
  next_kept k low = ap (λ (z : List Draft). get_or (first_words z) k 0) is ∙ get_or_append_left (first_words s) (w ∷ []) 0 k (omega (arith, size))

  pub next_there : get_or (first_words t) n 0 ≡ w
  next_there = ap (λ (z : List Draft). get_or (first_words z) n 0) is ∙ (ap (λ (k : ℕ). get_or (first_words s ++ w ∷ []) k 0) (sym size) ∙ last (first_words s) w)
    where
      last : (xs : List ℕ) (w : ℕ) → get_or (xs ++ w ∷ []) (length xs) 0 ≡ w
      last [] w = refl
      last (x ∷ xs) w = last xs w

-- there is one such list
pub splice_one : (change : Splice) (old xs ys : List ℕ) → change.at ≤ 30 → IsSplice change old xs → IsSplice change old ys → xs ≡ ys
splice_one change old xs ys few a b = ext_get_or 0 xs ys (a.size ∙ sym b.size) (λ k low. elim (cases_eq k 0) [
  | inl none ↦ ap (λ (z : ℕ). get_or xs z 0) none ∙ (a.head ∙ (sym b.head ∙ ap (λ (z : ℕ). get_or ys z 0) (sym none)))
  | inr some ↦ elim (cases_lt k change.at) [
    | inl less ↦ a.below k (omega (arith, some)) less ∙ sym (b.below k (omega (arith, some)) less)
    | inr more ↦ elim (cases_eq k change.at) [
      | inl here ↦ ap (λ (z : ℕ). get_or xs z 0) here ∙ (a.one_there ∙ (sym b.one_there ∙ ap (λ (z : ℕ). get_or ys z 0) (sym here)))
      | inr other ↦ elim (cases_eq k (change.at + 1)) [
        | inl next ↦ ap (λ (z : ℕ). get_or xs z 0) next ∙ (a.two_there ∙ (sym b.two_there ∙ ap (λ (z : ℕ). get_or ys z 0) (sym next)))
        | inr far ↦ (let e : k ≡ k - 2 + 2 = omega (arith, more, other, far) in
            ap (λ (z : ℕ). get_or xs z 0) e ∙ (a.above (k - 2) (omega (arith, more, other, far)) (omega (arith, low, a.size)) ∙ (sym (b.above (k - 2) (omega (arith, more, other, far)) (omega (arith, low, a.size))) ∙ ap (λ (z : ℕ). get_or ys z 0) (sym e))))
      ]
    ]
  ]
])

module _ {D : Type 0} where
  -- what is left of a stock whose last frame was given to a page
  pub stock_after : (h h' : Seat (Unit {0}) (View D)) (s t : Stock) → IsStockOf h s → t.frames ≡ s.frames → t.count + 1 ≡ s.count → h'.me.0.stock ≡ drafts s.frames (s.count - 1) → h.me.0.puts ≤ h'.me.0.puts + 1 → h'.me.0.layout ≡ h.me.0.layout → IsStockOf h' t
  stock_after h h' s t was frames count left ticks layout = let few = was.few in let enough = was.ticks in let one : s.count - 1 ≡ t.count = omega arith in record {
    frames = left ∙ (λ i. drafts (sym frames i) (one i));
    ticks = omega arith;
    few = omega arith;
    within = λ k low. subst (λ (z : List ℕ × Layout). get_or z.0 k 0 < frame_count z.1) (λ i. (sym frames i, sym layout i)) (was.within k (omega arith));
  }

-- a look that stood still stands
pub still_reads : (l l' : Layout) (r r' : Reading) (first : ℕ) → l' ≡ l → r' ≡ r → BeginsAt l first r → BeginsAt l' first r'
still_reads l l' r r' first layout reading = subst (λ (z : Layout × Reading). BeginsAt z.0 first z.1) (λ i. (sym layout i, sym reading i))
