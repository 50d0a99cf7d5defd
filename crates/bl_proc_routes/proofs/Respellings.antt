-- The words of a page with a pair more or less, or with another value in one.
use Rattle.std.proofs.Common.{◌≡◌, ℕ, zero, suc, ◌+◌, ◌*◌, ◌-◌, ◌<◌, ◌≤◌, List, length, get_or, set, Some, sym, ap, subst, ◌∙◌, inl, inr, arith, ext_get_or, get_or-set_other, get_or-set_same, length-set}
use Rattle.std.specs.Prelude.{replicate}
use Rattle.std.proofs.lemmas.List.{length-append, length-replicate, get_or_past, set-get_or}
use Rattle.std.proofs.lemmas.Bool.{cases_lt, cases_eq}
use Rattle.bl_model.specs.Rows.{map_of}
use Rattle.bl_page.specs.declared.page.Page.{Page}
use Rattle.bl_page.specs.declared.page.Page.TheVariants as page
use Rattle.bl_page.specs.Words.{head, layout, entries_of, words_of}
use Rattle.bl_page.specs.Pairs.{RisesFrom, place}
use Rattle.bl_page.specs.Faults.{pairs_of as pairs_in_words}
use Rattle.bl_page.proofs.Lookups.{place-le}
use Rattle.bl_page.proofs.Halving.{listed-before}
use Rattle.bl_page.proofs.Once.{rows_again, children_again}
use Rattle.bl_page.specs.Nodes.{IsTreePage}
use Rattle.bl_rearrange.specs.Entered.{entered, dropped, replaced}
use Rattle.bl_rearrange.specs.Rearranged.{pairs_of}
use Rattle.bl_rearrange.proofs.EnteredLemmas.{length-entered, length-dropped, length-dropped_le, length-replaced}
use Rattle.bl_proc_routes.specs.WordEdits.{words_by, IsShiftedUp, IsShiftedDown, HasValueAt}
use Rattle.bl_proc_routes.proofs.Shifts.{padded, length-entries, entered-below, entered-key, entered-word, entered-above, dropped-below, dropped-above, replaced-there, replaced-other}

long : (first low high right : ℕ) (es : List ℕ) → length es ≤ 28 → length (layout first low high right es) ≡ 32
long first low high right es few = omega (arith, length-append es (replicate {A = ℕ} (28 - length es) 0), length-replicate {A = ℕ} (28 - length es) 0)

-- the words of a layout by their indices
module _ (first low high right : ℕ) (es : List ℕ) (ws : List ℕ) (is : ws ≡ layout first low high right es) where
  entry : (m : ℕ) → get_or ws (4 + m) 0 ≡ get_or es m 0
  entry m =
      let e : 4 + m ≡ suc (suc (suc (suc m))) = omega arith in
      ap (λ (z : List ℕ). get_or z (4 + m) 0) is ∙ (ap (λ (k : ℕ). get_or (layout first low high right es) k 0) e ∙ padded es (28 - length es) m)

  word_one : get_or ws 1 0 ≡ low
  word_one = ap (λ (z : List ℕ). get_or z 1 0) is

  word_two : get_or ws 2 0 ≡ high
  word_two = ap (λ (z : List ℕ). get_or z 2 0) is

  word_three : get_or ws 3 0 ≡ right
  word_three = ap (λ (z : List ℕ). get_or z 3 0) is

-- words whose entries are those, and whose word 0 is set, are a layout
module _ (first low high right top : ℕ) (old : List ℕ) (es : List ℕ) (is : old ≡ layout first low high right es) (new : List ℕ) (fs : List ℕ) (size : length new ≡ 32) (few : length fs ≤ 28)
    (front : (k : ℕ) → k < 4 → get_or new k 0 ≡ get_or old k 0) (back : (m : ℕ) → m < 28 → get_or new (4 + m) 0 ≡ get_or fs m 0) where
  at_index : (k : ℕ) → k < 32 → get_or (set new 0 top) k 0 ≡ get_or (layout top low high right fs) k 0
  at_index zero lt = get_or-set_same new 0 top 0 (omega arith)
  at_index (suc zero) lt = get_or-set_other new 0 1 top 0 (λ e. absurd (omega arith)) ∙ (front 1 (omega arith) ∙ word_one first low high right es old is)
  at_index (suc (suc zero)) lt = get_or-set_other new 0 2 top 0 (λ e. absurd (omega arith)) ∙ (front 2 (omega arith) ∙ word_two first low high right es old is)
  at_index (suc (suc (suc zero))) lt = get_or-set_other new 0 3 top 0 (λ e. absurd (omega arith)) ∙ (front 3 (omega arith) ∙ word_three first low high right es old is)
  at_index (suc (suc (suc (suc m)))) lt =
      let e : suc (suc (suc (suc m))) ≡ 4 + m = omega arith in
      get_or-set_other new 0 (suc (suc (suc (suc m)))) top 0 (λ e. absurd (omega arith)) ∙ (ap (λ (k : ℕ). get_or new k 0) e ∙ (back m (omega arith) ∙ sym (padded fs (28 - length fs) m)))

  relaid : set new 0 top ≡ layout top low high right fs
  relaid =
      let size' : length (set new 0 top) ≡ 32 = length-set new 0 top ∙ size in
      ext_get_or 0 (set new 0 top) (layout top low high right fs) (size' ∙ sym (long top low high right fs few)) (λ k lt. at_index k (omega (arith, size', lt)))

module _ (first low high right : ℕ) (pairs : List (ℕ × ℕ)) (old new : List ℕ) (is : old ≡ layout first low high right (entries_of pairs)) (size : length new ≡ 32) (key : ℕ) where
  up_at : (word : ℕ) → IsShiftedUp (place key pairs) key word old new → (m : ℕ) → m < 28 → get_or new (4 + m) 0 ≡ get_or (entries_of (entered key word pairs)) m 0
  up_at word up m lt = elim (cases_lt m (2 * place key pairs)) [
    | inl less ↦ up.below (4 + m) (omega arith) ∙ (entry first low high right (entries_of pairs) old is m ∙ sym (entered-below key word pairs m less))
    | inr more ↦ elim (cases_eq m (2 * place key pairs)) [
      | inl here ↦ (let e : 4 + m ≡ 4 + 2 * place key pairs = omega arith in
          ap (λ (k : ℕ). get_or new k 0) e ∙ (up.key_there ∙ (sym (entered-key key word pairs) ∙ ap (λ (k : ℕ). get_or (entries_of (entered key word pairs)) k 0) (sym here))))
      | inr other ↦ elim (cases_eq m (suc (2 * place key pairs))) [
        | inl next ↦ (let e : 4 + m ≡ 5 + 2 * place key pairs = omega arith in
            ap (λ (k : ℕ). get_or new k 0) e ∙ (up.word_there ∙ (sym (entered-word key word pairs) ∙ ap (λ (k : ℕ). get_or (entries_of (entered key word pairs)) k 0) (sym next))))
        | inr far ↦ (let e : 4 + m ≡ 4 + (m - 2) + 2 = omega arith in let f : suc (suc (m - 2)) ≡ m = omega arith in
            ap (λ (k : ℕ). get_or new k 0) e ∙ (up.above (4 + (m - 2)) (omega arith) (omega arith) ∙ (entry first low high right (entries_of pairs) old is (m - 2)
            ∙ (sym (entered-above key word pairs (m - 2) (omega arith)) ∙ ap (λ (k : ℕ). get_or (entries_of (entered key word pairs)) k 0) f))))
      ]
    ]
  ]

  pub entered_layout : (word : ℕ) → length pairs < 14 → IsShiftedUp (place key pairs) key word old new → set new 0 (first + 1) ≡ layout (first + 1) low high right (entries_of (entered key word pairs))
  entered_layout word room up =
      let few : length (entries_of (entered key word pairs)) ≤ 28 = omega (arith, length-entries (entered key word pairs), length-entered key word pairs) in
      relaid first low high right (first + 1) old (entries_of pairs) is new (entries_of (entered key word pairs)) size few (λ k lt. up.below k (omega arith)) (up_at word up)

  down_at : (value : ℕ) → RisesFrom 0 pairs → map_of pairs key ≡ Some value → length pairs ≤ 14 → IsShiftedDown (place key pairs) old new → (m : ℕ) → m < 28 → get_or new (4 + m) 0 ≡ get_or (entries_of (dropped key pairs)) m 0
  down_at value rises listed few down m lt =
      let most = place-le key pairs in elim (cases_lt (m + 2) (2 * place key pairs)) [
        | inl less ↦ down.below (4 + m) (omega arith) ∙ (entry first low high right (entries_of pairs) old is m ∙ sym (dropped-below key value 0 pairs m rises listed less))
        | inr more ↦ elim (cases_lt m 26) [
          | inl inside ↦ (let e : 4 + m + 2 ≡ 4 + suc (suc m) = omega arith in
              down.above (4 + m) (omega arith) (omega arith) ∙ (ap (λ (k : ℕ). get_or old k 0) e ∙ (entry first low high right (entries_of pairs) old is (suc (suc m)) ∙ sym (dropped-above key value 0 pairs m rises listed more))))
          | inr outside ↦ (let past : length (entries_of pairs) ≤ suc (suc m) = omega (arith, length-entries pairs) in
              down.last (4 + m) (omega arith) (omega arith) ∙ (sym (get_or_past (entries_of pairs) (suc (suc m)) 0 past) ∙ sym (dropped-above key value 0 pairs m rises listed more)))
        ]
      ]

  pub dropped_layout : (value : ℕ) → RisesFrom 0 pairs → map_of pairs key ≡ Some value → length pairs ≤ 14 → IsShiftedDown (place key pairs) old new → set new 0 (first - 1) ≡ layout (first - 1) low high right (entries_of (dropped key pairs))
  dropped_layout value rises listed few down =
      let less : length (entries_of (dropped key pairs)) ≤ 28 = omega (arith, length-entries (dropped key pairs), length-dropped_le key pairs) in
      let some = (listed-before 0 key value pairs rises listed).0 in
      relaid first low high right (first - 1) old (entries_of pairs) is new (entries_of (dropped key pairs)) size less (λ k lt. down.below k (omega arith)) (down_at value rises listed few down)

  value_at : (word value : ℕ) → RisesFrom 0 pairs → map_of pairs key ≡ Some value → HasValueAt (place key pairs) word old new → (m : ℕ) → m < 28 → get_or new (4 + m) 0 ≡ get_or (entries_of (replaced key word pairs)) m 0
  value_at word value rises listed has m lt =
      let some = (listed-before 0 key value pairs rises listed).0 in
      elim (cases_eq (m + 1) (2 * place key pairs)) [
        | inl here ↦ (let e : 4 + m ≡ 3 + 2 * place key pairs = omega (arith, here) in
            ap (λ (k : ℕ). get_or new k 0) e ∙ (has.there ∙ sym (replaced-there key word value 0 pairs m rises listed here)))
        | inr other ↦ has.others (4 + m) (omega arith) (λ i. other (omega (arith, i))) ∙ (entry first low high right (entries_of pairs) old is m ∙ sym (replaced-other key word value 0 pairs m rises listed other))
      ]

  pub replaced_layout : (word value : ℕ) → RisesFrom 0 pairs → map_of pairs key ≡ Some value → length pairs ≤ 14 → HasValueAt (place key pairs) word old new → new ≡ layout first low high right (entries_of (replaced key word pairs))
  replaced_layout word value rises listed few has =
      let few' : length (entries_of (replaced key word pairs)) ≤ 28 = omega (arith, length-entries (replaced key word pairs), length-replaced key word pairs) in
      let some = (listed-before 0 key value pairs rises listed).0 in
      let front : (k : ℕ) → k < 4 → get_or new k 0 ≡ get_or old k 0 = λ k lt. has.others k (omega arith) (λ i. absurd (omega (arith, i, some))) in
      let top : get_or new 0 0 ≡ first = front 0 (omega arith) ∙ ap (λ (w : List ℕ). get_or w 0 0) is in
      sym (set-get_or new 0 0) ∙ (ap (set new 0) top ∙ relaid first low high right first old (entries_of pairs) is new (entries_of (replaced key word pairs)) size few' front (value_at word value rises listed has))

module _ (key : ℕ) (old new : List ℕ) (top at : ℕ) (size : length new ≡ 32) (is_top : top ≡ get_or old 0 0) (is_at : at ≡ place key (pairs_in_words old)) where
  pub respelled_with : (c : Page) (word : ℕ) → IsTreePage c → old ≡ words_of c → length (pairs_of c) < 14 → IsShiftedUp at key word old new → set new 0 (top + 1) ≡ words_by c (entered key word (pairs_of c))
  respelled_with (page.Anchor a) word tree e room up = absurd tree
  respelled_with (page.Leaf l) word tree e room up =
      let rows = l.rows.items in
      let there : at ≡ place key rows = is_at ∙ (ap (λ (w : List ℕ). place key (pairs_in_words w)) e ∙ ap (place key) (rows_again l)) in
      let first : top ≡ head 2 0 (length rows) = is_top ∙ ap (λ (w : List ℕ). get_or w 0 0) e in
      let more : top + 1 ≡ head 2 0 (length (entered key word rows)) = omega (arith, first, length-entered key word rows) in
      ap (λ (z : ℕ). set new 0 (z + 1)) first ∙ (entered_layout (head 2 0 (length rows)) l.low l.high l.right rows old new e size key word room (subst (λ (z : ℕ). IsShiftedUp z key word old new) there up)
      ∙ ap (λ (z : ℕ). layout z l.low l.high l.right (entries_of (entered key word rows))) (ap (λ (z : ℕ). z + 1) (sym first) ∙ more))
  respelled_with (page.Inner i) word tree e room up =
      let rows = i.children.items in
      let there : at ≡ place key rows = is_at ∙ (ap (λ (w : List ℕ). place key (pairs_in_words w)) e ∙ ap (place key) (children_again i)) in
      let first : top ≡ head 3 i.level (length rows) = is_top ∙ ap (λ (w : List ℕ). get_or w 0 0) e in
      let more : top + 1 ≡ head 3 i.level (length (entered key word rows)) = omega (arith, first, length-entered key word rows) in
      ap (λ (z : ℕ). set new 0 (z + 1)) first ∙ (entered_layout (head 3 i.level (length rows)) i.low i.high i.right rows old new e size key word room (subst (λ (z : ℕ). IsShiftedUp z key word old new) there up)
      ∙ ap (λ (z : ℕ). layout z i.low i.high i.right (entries_of (entered key word rows))) (ap (λ (z : ℕ). z + 1) (sym first) ∙ more))
  respelled_with (page.Dead d) word tree e room up = absurd tree

  pub respelled_without : (c : Page) (value : ℕ) → IsTreePage c → old ≡ words_of c → map_of (pairs_of c) key ≡ Some value → IsShiftedDown at old new → set new 0 (top - 1) ≡ words_by c (dropped key (pairs_of c))
  respelled_without (page.Anchor a) value tree e listed down = absurd tree
  respelled_without (page.Leaf l) value tree e listed down =
      let rows = l.rows.items in
      let there : at ≡ place key rows = is_at ∙ (ap (λ (w : List ℕ). place key (pairs_in_words w)) e ∙ ap (place key) (rows_again l)) in
      let first : top ≡ head 2 0 (length rows) = is_top ∙ ap (λ (w : List ℕ). get_or w 0 0) e in
      let less : top - 1 ≡ head 2 0 (length (dropped key rows)) = omega (arith, first, length-dropped key value rows listed) in
      ap (λ (z : ℕ). set new 0 (z - 1)) first ∙ (dropped_layout (head 2 0 (length rows)) l.low l.high l.right rows old new e size key value l.order listed (omega (arith, l.few)) (subst (λ (z : ℕ). IsShiftedDown z old new) there down)
      ∙ ap (λ (z : ℕ). layout z l.low l.high l.right (entries_of (dropped key rows))) (ap (λ (z : ℕ). z - 1) (sym first) ∙ less))
  respelled_without (page.Inner i) value tree e listed down =
      let rows = i.children.items in
      let there : at ≡ place key rows = is_at ∙ (ap (λ (w : List ℕ). place key (pairs_in_words w)) e ∙ ap (place key) (children_again i)) in
      let first : top ≡ head 3 i.level (length rows) = is_top ∙ ap (λ (w : List ℕ). get_or w 0 0) e in
      let less : top - 1 ≡ head 3 i.level (length (dropped key rows)) = omega (arith, first, length-dropped key value rows listed) in
      ap (λ (z : ℕ). set new 0 (z - 1)) first ∙ (dropped_layout (head 3 i.level (length rows)) i.low i.high i.right rows old new e size key value i.order listed (omega (arith, i.few)) (subst (λ (z : ℕ). IsShiftedDown z old new) there down)
      ∙ ap (λ (z : ℕ). layout z i.low i.high i.right (entries_of (dropped key rows))) (ap (λ (z : ℕ). z - 1) (sym first) ∙ less))
  respelled_without (page.Dead d) value tree e listed down = absurd tree

module _ (key : ℕ) (old new : List ℕ) (at : ℕ) (size : length new ≡ 32) (is_at : at ≡ place key (pairs_in_words old)) where
  pub respelled_value : (c : Page) (word value : ℕ) → IsTreePage c → old ≡ words_of c → map_of (pairs_of c) key ≡ Some value → HasValueAt at word old new → new ≡ words_by c (replaced key word (pairs_of c))
  respelled_value (page.Anchor a) word value tree e listed has = absurd tree
  respelled_value (page.Leaf l) word value tree e listed has =
      let rows = l.rows.items in
      let there : at ≡ place key rows = is_at ∙ (ap (λ (w : List ℕ). place key (pairs_in_words w)) e ∙ ap (place key) (rows_again l)) in
      replaced_layout (head 2 0 (length rows)) l.low l.high l.right rows old new e size key word value l.order listed (omega (arith, l.few)) (subst (λ (z : ℕ). HasValueAt z word old new) there has)
      ∙ ap (λ (z : ℕ). layout (head 2 0 z) l.low l.high l.right (entries_of (replaced key word rows))) (sym (length-replaced key word rows))
  respelled_value (page.Inner i) word value tree e listed has =
      let rows = i.children.items in
      let there : at ≡ place key rows = is_at ∙ (ap (λ (w : List ℕ). place key (pairs_in_words w)) e ∙ ap (place key) (children_again i)) in
      replaced_layout (head 3 i.level (length rows)) i.low i.high i.right rows old new e size key word value i.order listed (omega (arith, i.few)) (subst (λ (z : ℕ). HasValueAt z word old new) there has)
      ∙ ap (λ (z : ℕ). layout (head 3 i.level z) i.low i.high i.right (entries_of (replaced key word rows))) (sym (length-replaced key word rows))
  respelled_value (page.Dead d) word value tree e listed has = absurd tree

-- the place of a listed key
pub place_within : (c : Page) (words : List ℕ) (key value at : ℕ) → IsTreePage c → words ≡ words_of c → map_of (pairs_of c) key ≡ Some value → at ≡ place key (pairs_in_words words) → (0 < at) × (at ≤ 14)
place_within (page.Anchor a) words key value at tree e listed is = absurd tree
place_within (page.Leaf l) words key value at tree e listed is =
    let there : at ≡ place key l.rows.items = is ∙ (ap (λ (w : List ℕ). place key (pairs_in_words w)) e ∙ ap (place key) (rows_again l)) in
    let some = (listed-before 0 key value l.rows.items l.order listed).0 in
    (omega (arith, there, some), omega (arith, there, place-le key l.rows.items, l.few))
place_within (page.Inner i) words key value at tree e listed is =
    let there : at ≡ place key i.children.items = is ∙ (ap (λ (w : List ℕ). place key (pairs_in_words w)) e ∙ ap (place key) (children_again i)) in
    let some = (listed-before 0 key value i.children.items i.order listed).0 in
    (omega (arith, there, some), omega (arith, there, place-le key i.children.items, i.few))
place_within (page.Dead d) words key value at tree e listed is = absurd tree
