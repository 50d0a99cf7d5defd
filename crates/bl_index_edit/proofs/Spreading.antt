-- The words of a page with a pair more, by those that it had.
use Rattle.std.proofs.Common.{◌≡◌, ℕ, zero, suc, ◌+◌, ◌*◌, ◌-◌, ◌<◌, ◌≤◌, List, length, get_or, refl, sym, ap, subst, ◌∙◌, arith}
use Rattle.std.specs.Prelude.{replicate}
use Rattle.std.proofs.lemmas.List.{length-append, length-replicate}
use Rattle.bl_page.specs.declared.page.Page.{Page}
use Rattle.bl_page.specs.declared.page.Page.TheVariants as page
use Rattle.bl_page.specs.Words.{head, layout, entries_of, words_of}
use Rattle.bl_page.specs.Pairs.{place}
use Rattle.bl_page.specs.Faults.{pairs_of as pairs_in_words}
use Rattle.bl_page.proofs.Once.{rows_again, children_again}
use Rattle.bl_page.specs.Nodes.{IsTreePage}
use Rattle.bl_rearrange.specs.Entered.{entered}
use Rattle.bl_rearrange.specs.Rearranged.{pairs_of}
use Rattle.bl_rearrange.proofs.EnteredLemmas.{length-entered}
use Rattle.bl_proc_routes.specs.WordEdits.{words_by}
use Rattle.bl_proc_routes.proofs.Shifts.{padded, length-entries, entered-below, entered-key, entered-word, entered-above}
use Rattle.bl_store.specs.Drafts.{IsSplice}
use Rattle.bl_store.specs.declared.put.Splice.{Splice}

-- the words of a layout with a pair more
module _ (first top low high right key word : ℕ) (pairs : List (ℕ × ℕ)) where
  abbrev old : List ℕ
  old = layout first low high right (entries_of pairs)

  abbrev more : List (ℕ × ℕ)
  more = entered key word pairs

  abbrev new : List ℕ
  new = layout top low high right (entries_of more)

  below : (k : ℕ) → 0 < k → k < 4 + 2 * place key pairs → get_or new k 0 ≡ get_or old k 0
  below zero some lt = absurd (omega arith)
  below (suc zero) some lt = refl
  below (suc (suc zero)) some lt = refl
  below (suc (suc (suc zero))) some lt = refl
  below (suc (suc (suc (suc m)))) some lt = padded (entries_of more) (28 - length (entries_of more)) m ∙ (entered-below key word pairs m (omega arith) ∙ sym (padded (entries_of pairs) (28 - length (entries_of pairs)) m))

  key_there : get_or new (4 + 2 * place key pairs) 0 ≡ key
  key_there =
      let e : 4 + 2 * place key pairs ≡ suc (suc (suc (suc (2 * place key pairs)))) = omega arith in
      ap (λ (k : ℕ). get_or new k 0) e ∙ (padded (entries_of more) (28 - length (entries_of more)) (2 * place key pairs) ∙ entered-key key word pairs)

  word_there : get_or new (4 + 2 * place key pairs + 1) 0 ≡ word
  word_there =
      let e : 4 + 2 * place key pairs + 1 ≡ suc (suc (suc (suc (suc (2 * place key pairs))))) = omega arith in
      ap (λ (k : ℕ). get_or new k 0) e ∙ (padded (entries_of more) (28 - length (entries_of more)) (suc (2 * place key pairs)) ∙ entered-word key word pairs)

  above : (k : ℕ) → 4 + 2 * place key pairs ≤ k → k < 30 → get_or new (k + 2) 0 ≡ get_or old k 0
  above zero le lt = absurd (omega arith)
  above (suc zero) le lt = absurd (omega arith)
  above (suc (suc zero)) le lt = absurd (omega arith)
  above (suc (suc (suc zero))) le lt = absurd (omega arith)
  above (suc (suc (suc (suc m)))) le lt =
      let e : suc (suc (suc (suc m))) + 2 ≡ suc (suc (suc (suc (suc (suc m))))) = omega arith in
      ap (λ (k : ℕ). get_or new k 0) e ∙ (padded (entries_of more) (28 - length (entries_of more)) (suc (suc m)) ∙ (entered-above key word pairs m (omega arith) ∙ sym (padded (entries_of pairs) (28 - length (entries_of pairs)) m)))

  spread_layout : (s : Splice) → length pairs < 14 → s.head ≡ top → s.at ≡ 4 + 2 * place key pairs → get_or s.words 0 0 ≡ key → get_or s.words 1 0 ≡ word → IsSplice s old new
  spread_layout s room is_top is_at is_key is_word = record {
    size = omega (arith, length-append (entries_of more) (replicate {A = ℕ} (28 - length (entries_of more)) 0), length-replicate {A = ℕ} (28 - length (entries_of more)) 0, length-entries more, length-entered key word pairs);
    head = sym is_top;
    below = λ k some lt. below k some (omega (arith, is_at, lt));
    one_there = ap (λ (k : ℕ). get_or new k 0) is_at ∙ (key_there ∙ sym is_key);
    two_there = ap (λ (k : ℕ). get_or new (k + 1) 0) is_at ∙ (word_there ∙ sym is_word);
    above = λ k le lt. above k (omega (arith, is_at, le)) lt;
  }

-- the words of a leaf or an inner page with a pair more are its own, changed so
pub spread_entered : (s : Splice) (c p : Page) (key word : ℕ) → IsTreePage c → length (pairs_of c) < 14 → words_of p ≡ words_by c (entered key word (pairs_of c)) → s.head ≡ get_or (words_of c) 0 0 + 1 → s.at ≡ 4 + 2 * place key (pairs_in_words (words_of c))
    → get_or s.words 0 0 ≡ key → get_or s.words 1 0 ≡ word → IsSplice s (words_of c) (words_of p)
spread_entered s (page.Anchor a) p key word tree room e is_top is_at is_key is_word = absurd tree
spread_entered s (page.Leaf l) p key word tree room e is_top is_at is_key is_word =
    let rows = l.rows.items in
    let there : s.at ≡ 4 + 2 * place key rows = is_at ∙ ap (λ (z : List (ℕ × ℕ)). 4 + 2 * place key z) (rows_again l) in
    let first : s.head ≡ head 2 0 (length (entered key word rows)) = omega (arith, is_top, length-entered key word rows) in
    subst (λ (z : List ℕ). IsSplice s (words_of (page.Leaf l)) z) (sym e)
    (spread_layout (head 2 0 (length rows)) (head 2 0 (length (entered key word rows))) l.low l.high l.right key word rows s room first there is_key is_word)
spread_entered s (page.Inner n) p key word tree room e is_top is_at is_key is_word =
    let rows = n.children.items in
    let there : s.at ≡ 4 + 2 * place key rows = is_at ∙ ap (λ (z : List (ℕ × ℕ)). 4 + 2 * place key z) (children_again n) in
    let first : s.head ≡ head 3 n.level (length (entered key word rows)) = omega (arith, is_top, length-entered key word rows) in
    subst (λ (z : List ℕ). IsSplice s (words_of (page.Inner n)) z) (sym e)
    (spread_layout (head 3 n.level (length rows)) (head 3 n.level (length (entered key word rows))) n.low n.high n.right key word rows s room first there is_key is_word)
spread_entered s (page.Dead d) p key word tree room e is_top is_at is_key is_word = absurd tree
