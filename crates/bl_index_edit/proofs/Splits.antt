-- A full page that is split, by its words and the entries with a pair more.
use Rattle.std.proofs.Common.{◌≡◌, ℕ, zero, suc, ◌+◌, ◌*◌, ◌-◌, ◌<◌, ◌≤◌, List, [], ◌∷◌, length, get_or, take, drop, None, refl, sym, ap, ◌∙◌, subst, inl, inr, arith, ext_get_or, take_all, length-drop}
use Rattle.std.proofs.lemmas.List.{take-append-drop, length-append}
use Rattle.std.proofs.lemmas.Bool.{cases_lt, cases_eq}
use Rattle.bl_model.specs.Rows.{map_of}
use Rattle.bl_page.specs.declared.page.Page.{Page}
use Rattle.bl_page.specs.declared.page.Page.TheVariants.{Anchor, Leaf, Inner, Dead}
use Rattle.bl_page.specs.Pages.{Covers}
use Rattle.bl_page.specs.Pairs.{RisesFrom, AllWithin, IsWithin, IsChild, end_of, place}
use Rattle.bl_page.specs.Words.{head, layout, entries_of, words_of}
use Rattle.bl_page.specs.Faults.{pairs_of as pairs_in_words}
use Rattle.bl_page.proofs.Once.{rows_again, children_again}
use Rattle.bl_page.specs.Nodes.{IsTreePage}
use Rattle.bl_rearrange.specs.Entered.{entered, AreHalves}
use Rattle.bl_rearrange.specs.declared.fitted.Fitted.TheVariants.{Split}
use Rattle.bl_rearrange.specs.Rearranged.{pairs_of, MayHold, IsFitted}
use Rattle.bl_rearrange.proofs.EnteredLemmas.{length-entered}
use Rattle.bl_rearrange.proofs.Parts.{halves_are}
use Rattle.bl_proc_steps.specs.declared.acts.Seen.TheVariants as seen
use Rattle.bl_proc_steps.specs.declared.edit.Full.{Full}
use Rattle.bl_proc_steps.specs.declared.edit.Edit.TheVariants as edit
use Rattle.bl_proc_steps.specs.declared.edit.Edited.TheVariants as changed
use Rattle.bl_proc_steps.specs.Edits.{Changes}
use Rattle.bl_proc_routes.proofs.Shifts.{padded, length-entries, entered-below, entered-key, entered-word, entered-above}
use Rattle.bl_index_edit.specs.Halves.{AreSpread, AreHalvesOf}

-- two words for each pair
entries-take : (n : ℕ) (pairs : List (ℕ × ℕ)) → entries_of (take n pairs) ≡ take (2 * n) (entries_of pairs)
entries-take zero pairs = refl
entries-take (suc n) [] = let e : 2 * suc n ≡ suc (suc (2 * n)) = omega arith in rw e refl
entries-take (suc n) (pair ∷ pairs) = let e : 2 * suc n ≡ suc (suc (2 * n)) = omega arith in rw e (ap (λ t. pair.0 ∷ pair.1 ∷ t) (entries-take n pairs))

entries-drop : (n : ℕ) (pairs : List (ℕ × ℕ)) → entries_of (drop n pairs) ≡ drop (2 * n) (entries_of pairs)
entries-drop zero pairs = refl
entries-drop (suc n) [] = let e : 2 * suc n ≡ suc (suc (2 * n)) = omega arith in rw e refl
entries-drop (suc n) (pair ∷ pairs) = let e : 2 * suc n ≡ suc (suc (2 * n)) = omega arith in rw e (entries-drop n pairs)

entries-key : (n : ℕ) (pairs : List (ℕ × ℕ)) → get_or (entries_of pairs) (2 * n) 0 ≡ (get_or (drop n pairs) 0 (0, 0)).0
entries-key zero [] = refl
entries-key zero (pair ∷ pairs) = refl
entries-key (suc n) [] = refl
entries-key (suc n) (pair ∷ pairs) = let e : 2 * suc n ≡ suc (suc (2 * n)) = omega arith in rw e (entries-key n pairs)

taken : (n : ℕ) (xs : List (ℕ × ℕ)) → n ≤ length xs → length (take n xs) ≡ n
taken zero xs le = refl
taken (suc n) [] le = absurd (omega arith)
taken (suc n) (x ∷ xs) le = ap suc (taken n xs (omega arith))

-- the entries behind the first 16, by their range
pub upper_part : (entries : List ℕ) → length entries ≡ 30 → take 14 (drop 16 entries) ≡ drop 16 entries
upper_part entries size = take_all 14 (drop 16 entries) (omega (arith, length-drop 16 entries, size))

-- the two pages that a full one becomes, by words
record HasParts (c : Page) (key word new : ℕ) (words entries : List ℕ) : Type 0 where
  left : Page
  right : Page
  is : IsFitted c key word new (Split left right (get_or entries 16 0))
  parts : AreHalvesOf new words entries left right

-- the pairs of full ones with one more, in two halves
module _ (low high key word : ℕ) (old : List (ℕ × ℕ)) (rises : RisesFrom 0 old) (in_all : AllWithin low high old) (in_it : IsWithin low high key) (absent : map_of old key ≡ None) (full : 14 ≤ length old) (few : length old ≤ 14) where
  abbrev all : List (ℕ × ℕ)
  all = entered key word old

  abbrev first : ℕ
  first = (get_or (drop 8 all) 0 (0, 0)).0

  eight : length (take 8 all) ≡ 8
  eight = let count = length-entered key word old in taken 8 all (omega arith)

  seven : length (drop 8 all) ≡ 7
  seven =
      let count = length-entered key word old in
      let sum = length-append (take 8 all) (drop 8 all) in
      let e = ap length (take-append-drop 8 all) in
      let some = eight in omega arith

  halves : AreHalves low high key word old (take 8 all) (drop 8 all) first
  halves = halves_are low high key word old (take 8 all) (drop 8 all) rises in_all in_it absent (take-append-drop 8 all) eight seven

parts : (c : Page) (key word new : ℕ) (words entries : List ℕ) → Covers c key → map_of (pairs_of c) key ≡ None → MayHold c word → IsChild new → 14 ≤ length (pairs_of c) → words ≡ words_of c → entries ≡ entries_of (entered key word (pairs_of c)) → HasParts c key word new words entries
parts (Anchor a) key word new words entries in_it absent may child full w e = absurd in_it
parts (Leaf l) key word new words entries in_it absent may child full w e =
    let old = l.rows.items in
    let all = entered key word old in
    let low = eight l.low l.high key word old l.order l.cover in_it absent full l.few in
    let up = seven l.low l.high key word old l.order l.cover in_it absent full l.few in
    let sep = get_or entries 16 0 in
    let there : (get_or (drop 8 all) 0 (0, 0)).0 ≡ sep = sym (ap (λ (z : List ℕ). get_or z 16 0) e ∙ entries-key 8 all) in
    let h = subst (AreHalves l.low l.high key word old (take 8 all) (drop 8 all)) there (halves l.low l.high key word old l.order l.cover in_it absent full l.few) in
    let end : l.low < end_of sep = (let above = h.above in grind arith) in
    let word_0 : get_or words 0 0 ≡ head 2 0 (length old) = ap (λ (z : List ℕ). get_or z 0 0) w in
    let head_low : head 2 0 (length (take 8 all)) ≡ get_or words 0 0 - 6 = omega (arith, word_0, low, full, l.few) in
    let head_up : head 2 0 (length (drop 8 all)) ≡ get_or words 0 0 - 7 = omega (arith, word_0, up, full, l.few) in
    let word_1 : l.low ≡ get_or words 1 0 = sym (ap (λ (z : List ℕ). get_or z 1 0) w) in
    let word_2 : l.high ≡ get_or words 2 0 = sym (ap (λ (z : List ℕ). get_or z 2 0) w) in
    let word_3 : l.right ≡ get_or words 3 0 = sym (ap (λ (z : List ℕ). get_or z 3 0) w) in
    let es_low : entries_of (take 8 all) ≡ take 16 entries = entries-take 8 all ∙ ap (take 16) (sym e) in
    let es_up : entries_of (drop 8 all) ≡ drop 16 entries = entries-drop 8 all ∙ ap (drop 16) (sym e) in
    record {
      left = Leaf (record { low = l.low; high = sep; right = new; rows = record { items = take 8 all }; bounds = end; link = child.1; few = omega (arith, low); order = h.lower_rising; cover = h.lower_within });
      right = Leaf (record { low = sep; high = l.high; right = l.right; rows = record { items = drop 8 all }; bounds = h.below; link = l.link; few = omega (arith, up); order = h.upper_rising; cover = h.upper_within });
      is = (full, low, up, (refl, refl, refl), (refl, refl, refl), h.upper_first, h.lower_map, h.upper_map, h.above);
      parts = record { lower = λ i. layout (head_low i) (word_1 i) sep new (es_low i); upper = λ i. layout (head_up i) sep (word_2 i) (word_3 i) (es_up i) };
    }
parts (Inner n) key word new words entries in_it absent may child full w e =
    let old = n.children.items in
    let all = entered key word old in
    let low = eight n.low n.high key word old n.order n.cover in_it absent full n.few in
    let up = seven n.low n.high key word old n.order n.cover in_it absent full n.few in
    let sep = get_or entries 16 0 in
    let there : (get_or (drop 8 all) 0 (0, 0)).0 ≡ sep = sym (ap (λ (z : List ℕ). get_or z 16 0) e ∙ entries-key 8 all) in
    let h = subst (AreHalves n.low n.high key word old (take 8 all) (drop 8 all)) there (halves n.low n.high key word old n.order n.cover in_it absent full n.few) in
    let end : n.low < end_of sep = (let above = h.above in grind arith) in
    let word_0 : get_or words 0 0 ≡ head 3 n.level (length old) = ap (λ (z : List ℕ). get_or z 0 0) w in
    let head_low : head 3 n.level (length (take 8 all)) ≡ get_or words 0 0 - 6 = omega (arith, word_0, low, full, n.few) in
    let head_up : head 3 n.level (length (drop 8 all)) ≡ get_or words 0 0 - 7 = omega (arith, word_0, up, full, n.few) in
    let word_1 : n.low ≡ get_or words 1 0 = sym (ap (λ (z : List ℕ). get_or z 1 0) w) in
    let word_2 : n.high ≡ get_or words 2 0 = sym (ap (λ (z : List ℕ). get_or z 2 0) w) in
    let word_3 : n.right ≡ get_or words 3 0 = sym (ap (λ (z : List ℕ). get_or z 3 0) w) in
    let es_low : entries_of (take 8 all) ≡ take 16 entries = entries-take 8 all ∙ ap (take 16) (sym e) in
    let es_up : entries_of (drop 8 all) ≡ drop 16 entries = entries-drop 8 all ∙ ap (drop 16) (sym e) in
    record {
      left = Inner (record { level = n.level; low = n.low; high = sep; right = new; children = record { items = take 8 all }; above_leaves = n.above_leaves; below_limit = n.below_limit; bounds = end; link = child.1; few = omega (arith, low); order = h.lower_rising; cover = h.lower_within; first = h.lower_first n.first; pages = h.lower_children may n.pages });
      right = Inner (record { level = n.level; low = sep; high = n.high; right = n.right; children = record { items = drop 8 all }; above_leaves = n.above_leaves; below_limit = n.below_limit; bounds = h.below; link = n.link; few = omega (arith, up); order = h.upper_rising; cover = h.upper_within; first = h.upper_first; pages = h.upper_children may n.pages });
      is = (full, low, up, (refl, refl, refl, refl), (refl, refl, refl, refl), h.upper_first, h.lower_map, h.upper_map, h.above);
      parts = record { lower = λ i. layout (head_low i) (word_1 i) sep new (es_low i); upper = λ i. layout (head_up i) sep (word_2 i) (word_3 i) (es_up i) };
    }
parts (Dead d) key word new words entries in_it absent may child full w e = absurd in_it

-- the full page that the process holds is split so
pub split_by : (f : Full) (at key word new : ℕ) (words entries : List ℕ) → f.at ≡ at → f.key ≡ key → f.word ≡ word → IsChild new → words ≡ words_of f.page → entries ≡ entries_of (entered key word (pairs_of f.page))
    → (left : Page) × (right : Page) × AreHalvesOf new words entries left right × Changes (edit.Taking f) (seen.Took new) (changed.On (edit.PuttingNew (record { at = at; new = new; left = left; right = right; separator = get_or entries 16 0 })))
split_by f at key word new words entries here same_key same_word child w e =
    let all : entries ≡ entries_of (entered f.key f.word (pairs_of f.page)) = e ∙ (λ i. entries_of (entered (sym same_key i) (sym same_word i) (pairs_of f.page))) in
    let s = parts f.page f.key f.word new words entries f.covers f.absent f.fits child f.full w all in
    (s.left, s.right, s.parts, (sym here, refl, s.is))

-- entries that are spread at the place of the key are those with the pair more
module _ (key word : ℕ) (words entries : List ℕ) (size : length entries ≡ 30) where
  module _ (first low high right : ℕ) (pairs : List (ℕ × ℕ)) (is : words ≡ layout first low high right (entries_of pairs)) (up : AreSpread (place key pairs) key word words entries) (full : length pairs ≡ 14) where
    entry : (m : ℕ) → get_or words (4 + m) 0 ≡ get_or (entries_of pairs) m 0
    entry m =
        let e : 4 + m ≡ suc (suc (suc (suc m))) = omega arith in
        ap (λ (z : List ℕ). get_or z (4 + m) 0) is ∙ (ap (λ (k : ℕ). get_or (layout first low high right (entries_of pairs)) k 0) e ∙ padded (entries_of pairs) (28 - length (entries_of pairs)) m)

    at : (m : ℕ) → m < 30 → get_or entries m 0 ≡ get_or (entries_of (entered key word pairs)) m 0
    at m lt = elim (cases_lt m (2 * place key pairs)) [
      | inl less ↦ up.below m less ∙ (entry m ∙ sym (entered-below key word pairs m less))
      | inr more ↦ elim (cases_eq m (2 * place key pairs)) [
        | inl here ↦ ap (λ (k : ℕ). get_or entries k 0) here ∙ (up.key_there ∙ (sym (entered-key key word pairs) ∙ ap (λ (k : ℕ). get_or (entries_of (entered key word pairs)) k 0) (sym here)))
        | inr other ↦ elim (cases_eq m (suc (2 * place key pairs))) [
          | inl next ↦ (let e : m ≡ 1 + 2 * place key pairs = omega arith in
              ap (λ (k : ℕ). get_or entries k 0) e ∙ (up.word_there ∙ (sym (entered-word key word pairs) ∙ ap (λ (k : ℕ). get_or (entries_of (entered key word pairs)) k 0) (sym next))))
          | inr far ↦ (let e : m ≡ (m - 2) + 2 = omega arith in let f : suc (suc (m - 2)) ≡ m = omega arith in
              ap (λ (k : ℕ). get_or entries k 0) e ∙ (up.above (m - 2) (omega arith) (omega arith) ∙ (entry (m - 2)
              ∙ (sym (entered-above key word pairs (m - 2) (omega arith)) ∙ ap (λ (k : ℕ). get_or (entries_of (entered key word pairs)) k 0) f))))
        ]
      ]
    ]

    whole : entries ≡ entries_of (entered key word pairs)
    whole =
        let long : length (entries_of (entered key word pairs)) ≡ 30 = omega (arith, length-entries (entered key word pairs), length-entered key word pairs, full) in
        ext_get_or 0 entries (entries_of (entered key word pairs)) (size ∙ sym long) (λ k lt. at k (omega (arith, size, lt)))

  pub spread_full : (c : Page) (at : ℕ) → IsTreePage c → words ≡ words_of c → 14 ≤ length (pairs_of c) → at ≡ place key (pairs_in_words words) → AreSpread at key word words entries → entries ≡ entries_of (entered key word (pairs_of c))
  spread_full (Anchor a) at tree is full is_at up = absurd tree
  spread_full (Leaf l) at tree is full is_at up =
      let there : at ≡ place key l.rows.items = is_at ∙ (ap (λ (w : List ℕ). place key (pairs_in_words w)) is ∙ ap (place key) (rows_again l)) in
      whole (head 2 0 (length l.rows.items)) l.low l.high l.right l.rows.items is (subst (λ (z : ℕ). AreSpread z key word words entries) there up) (omega (arith, full, l.few))
  spread_full (Inner n) at tree is full is_at up =
      let there : at ≡ place key n.children.items = is_at ∙ (ap (λ (w : List ℕ). place key (pairs_in_words w)) is ∙ ap (place key) (children_again n)) in
      whole (head 3 n.level (length n.children.items)) n.low n.high n.right n.children.items is (subst (λ (z : ℕ). AreSpread z key word words entries) there up) (omega (arith, full, n.few))
  spread_full (Dead d) at tree is full is_at up = absurd tree

-- a full page is a leaf or an inner page, and its first word says so
pub full_tree : (f : Full) → IsTreePage f.page
full_tree f = by_kind f.page f.key f.covers
  where
    by_kind : (c : Page) (key : ℕ) → Covers c key → IsTreePage c
    by_kind (Anchor a) key h = absurd h
    by_kind (Leaf l) key h = tt
    by_kind (Inner n) key h = tt
    by_kind (Dead d) key h = absurd h

pub full_head : (c : Page) (words : List ℕ) → IsTreePage c → words ≡ words_of c → 14 ≤ length (pairs_of c) → 14 ≤ get_or words 0 0
full_head (Anchor a) words tree is full = absurd tree
full_head (Leaf l) words tree is full = let first = ap (λ (z : List ℕ). get_or z 0 0) is in omega (arith, first, full)
full_head (Inner n) words tree is full = let first = ap (λ (z : List ℕ). get_or z 0 0) is in omega (arith, first, full)
full_head (Dead d) words tree is full = absurd tree
