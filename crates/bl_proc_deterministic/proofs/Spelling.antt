-- The words of a page: by its pairs, and by what stands at each place.
use Rattle.std.proofs.Common.{◌≡◌, ℕ, List, length, zero, suc, ◌+◌, ◌-◌, ◌<◌, ◌≤◌, ◌∷◌, get_or, refl, sym, ap, ◌∙◌, inl, inr, arith, ext_get_or}
use Rattle.bl_model.specs.Rows.{map_of}
use Rattle.bl_page.specs.declared.page.Page.{Page}
use Rattle.bl_page.specs.declared.page.Page.TheVariants as page
use Rattle.bl_page.specs.Words.{head, layout, entries_of, words_of}
use Rattle.bl_page.specs.Pairs.{RisesFrom}
use Rattle.bl_rearrange.specs.Rearranged.{pairs_of, KeepsFrame}
use Rattle.bl_proc_routes.specs.WordEdits.{words_by}
use Rattle.bl_proc_deterministic.proofs.Rows.{rows_one}
use Rattle.bl_proc_deterministic.proofs.Pages.{rising}
use Rattle.std.specs.Prelude.{replicate}
use Rattle.std.proofs.lemmas.List.{length-append, length-replicate, get_or_past}
use Rattle.std.proofs.lemmas.Bool.{cases_lt}
use Rattle.bl_proc_routes.proofs.Shifts.{padded}

-- a page without entries
zeros : (n m : ℕ) → get_or (replicate {A = ℕ} n 0) m 0 ≡ 0
zeros zero m = refl
zeros (suc n) zero = refl
zeros (suc n) (suc m) = zeros n m

pub blank : (first low high right k : ℕ) → get_or (first ∷ low ∷ high ∷ right ∷ replicate {A = ℕ} 28 0) (4 + k) 0 ≡ 0
blank first low high right k =
    let e : 4 + k ≡ suc (suc (suc (suc k))) = omega arith in
    ap (λ (j : ℕ). get_or (first ∷ low ∷ high ∷ right ∷ replicate {A = ℕ} 28 0) j 0) e ∙ zeros 28 k

-- words that say so are laid out
long : (first low high right : ℕ) (es : List ℕ) → length es ≤ 28 → length (layout first low high right es) ≡ 32
long first low high right es few = omega (arith, length-append es (replicate {A = ℕ} (28 - length es) 0), length-replicate {A = ℕ} (28 - length es) 0)

module _ (first low high right : ℕ) (words es : List ℕ) (size : length words ≡ 32) (few : length es ≤ 28) (is_first : get_or words 0 0 ≡ first) (is_low : get_or words 1 0 ≡ low) (is_high : get_or words 2 0 ≡ high) (is_right : get_or words 3 0 ≡ right)
    (read : (k : ℕ) → k < length es → get_or words (4 + k) 0 ≡ get_or es k 0) (rest : (k : ℕ) → length es ≤ k → k < 28 → get_or words (4 + k) 0 ≡ 0) where
  word_at : (k : ℕ) → k < 32 → get_or words k 0 ≡ get_or (layout first low high right es) k 0
  word_at zero lt = is_first
  word_at (suc zero) lt = is_low
  word_at (suc (suc zero)) lt = is_high
  word_at (suc (suc (suc zero))) lt = is_right
  word_at (suc (suc (suc (suc m)))) lt =
      let e : suc (suc (suc (suc m))) ≡ 4 + m = omega arith in
      let last = padded es (28 - length es) m in
      ap (λ (k : ℕ). get_or words k 0) e ∙ elim (cases_lt m (length es)) [
        | inl inside ↦ read m inside ∙ sym last
        | inr past ↦ rest m past (omega arith) ∙ sym (last ∙ get_or_past es m 0 past)
      ]

  pub laid : words ≡ layout first low high right es
  laid = ext_get_or 0 words (layout first low high right es) (size ∙ sym (long first low high right es few)) (λ k lt. word_at k (omega (arith, size, lt)))

-- a page of the same kind, bounds and link is spelled by its pairs
spelled_by : (c p : Page) (pairs : List (ℕ × ℕ)) → KeepsFrame c p → pairs_of p ≡ pairs → words_of p ≡ words_by c pairs
spelled_by (page.Leaf c) (page.Leaf p) pairs f e = λ i. layout (head 2 0 (length (e i))) (f.0 i) (f.1 i) (f.2 i) (entries_of (e i))
spelled_by (page.Inner c) (page.Inner p) pairs f e = λ i. layout (head 3 (f.0 i) (length (e i))) (f.1 i) (f.2 i) (f.3 i) (entries_of (e i))
spelled_by (page.Leaf c) (page.Anchor p) pairs f e = absurd f
spelled_by (page.Leaf c) (page.Inner p) pairs f e = absurd f
spelled_by (page.Leaf c) (page.Dead p) pairs f e = absurd f
spelled_by (page.Inner c) (page.Anchor p) pairs f e = absurd f
spelled_by (page.Inner c) (page.Leaf p) pairs f e = absurd f
spelled_by (page.Inner c) (page.Dead p) pairs f e = absurd f
spelled_by (page.Anchor c) p pairs f e = absurd f
spelled_by (page.Dead c) p pairs f e = absurd f

pub spelled : (c p : Page) (pairs : List (ℕ × ℕ)) → KeepsFrame c p → RisesFrom 0 pairs → ((j : ℕ) → map_of (pairs_of p) j ≡ map_of pairs j) → words_of p ≡ words_by c pairs
spelled c p pairs frame rises same = spelled_by c p pairs frame (rows_one 0 (pairs_of p) pairs (rising p) rises same)
