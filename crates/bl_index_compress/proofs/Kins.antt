-- The two children of a parent that are compressed, by its words.
use Rattle.std.proofs.Common.{ℕ, zero, suc, ◌≡◌, ◌+◌, ◌*◌, ◌-◌, ◌<◌, ◌≤◌, List, [], ◌∷◌, length, get_or, true, false, refl, ap, ◌∙◌, arith}
use Rattle.std.specs.Prelude.{nat_lt}
use Rattle.bl_page.specs.declared.page.Page.TheVariants.{Inner as InnerPage}
use Rattle.bl_page.specs.declared.page.Inner.{Inner}
use Rattle.bl_page.specs.Pairs.{place}
use Rattle.bl_page.specs.Words.{entries_of, words_of}
use Rattle.bl_rearrange.specs.declared.families.Family.{Family}
use Rattle.bl_proc_compress.specs.Compressions.{right_place, IsFamily}
use Rattle.bl_index_compress.proofs.Parted.{entry_at}

-- the place of the right one
pub place_front : (key : ℕ) (pairs : List (ℕ × ℕ)) (at : ℕ) → at ≡ place key pairs → at < length pairs → at ≡ right_place key pairs
place_front key pairs at e lt = let t : nat_lt (place key pairs) (length pairs) ≡ true = grind (arith, e, lt) in rw t e

pub place_last : (key : ℕ) (pairs : List (ℕ × ℕ)) (at : ℕ) → at ≡ place key pairs → length pairs ≤ at → at - 1 ≡ right_place key pairs
place_last key pairs at e ge = let f : nat_lt (place key pairs) (length pairs) ≡ false = grind (arith, e, ge) in rw f (ap (λ (n : ℕ). n - 1) e)

-- the words of a pair
key_of : (n : ℕ) (pairs : List (ℕ × ℕ)) → get_or (entries_of pairs) (2 * n) 0 ≡ (get_or pairs n (0, 0)).0
key_of zero [] = refl
key_of zero (pair ∷ pairs) = refl
key_of (suc n) [] = refl
key_of (suc n) (pair ∷ pairs) = let e : 2 * suc n ≡ suc (suc (2 * n)) = omega arith in rw e (key_of n pairs)

word_of : (n : ℕ) (pairs : List (ℕ × ℕ)) → get_or (entries_of pairs) (suc (2 * n)) 0 ≡ (get_or pairs n (0, 0)).1
word_of zero [] = refl
word_of zero (pair ∷ pairs) = refl
word_of (suc n) [] = refl
word_of (suc n) (pair ∷ pairs) = let e : suc (2 * suc n) ≡ suc (suc (suc (2 * n))) = omega arith in rw e (word_of n pairs)

module _ (i : Inner) (words : List ℕ) (e : words ≡ words_of (InnerPage i)) (n : ℕ) where
  pub key_at : get_or words (4 + 2 * n) 0 ≡ (get_or i.children.items n (0, 0)).0
  key_at = entry_at (InnerPage i) words (2 * n) tt e ∙ key_of n i.children.items

  pub word_at : get_or words (5 + 2 * n) 0 ≡ (get_or i.children.items n (0, 0)).1
  word_at =
      let k : 5 + 2 * n ≡ 4 + suc (2 * n) = omega arith in
      ap (λ (m : ℕ). get_or words m 0) k ∙ (entry_at (InnerPage i) words (suc (2 * n)) tt e ∙ word_of n i.children.items)

  pub word_before : 0 < n → get_or words (3 + 2 * n) 0 ≡ (get_or i.children.items (n - 1) (0, 0)).1
  word_before some =
      let k : 3 + 2 * n ≡ 4 + suc (2 * (n - 1)) = omega (arith, some) in
      ap (λ (m : ℕ). get_or words m 0) k ∙ (entry_at (InnerPage i) words (suc (2 * (n - 1))) tt e ∙ word_of (n - 1) i.children.items)

-- the numbers and the key of the two, in those words
pub record Finds (f : Family) (x : ℕ) (words : List ℕ) (n : ℕ) : Type 0 where
  pub left : get_or words (3 + 2 * n) 0 ≡ f.at.left
  pub right : get_or words (5 + 2 * n) 0 ≡ f.at.right
  pub key : get_or words (4 + 2 * n) 0 ≡ f.key
  pub parent : f.at.parent ≡ x

pub finds : (f : Family) (x key : ℕ) (i : Inner) (words : List ℕ) (n : ℕ) → words ≡ words_of (InnerPage i) → n ≡ right_place key i.children.items → 0 < n → IsFamily x key i f → Finds f x words n
finds f x key i words n e is some family =
    let pair = ap (λ (z : ℕ). get_or i.children.items z (0, 0)) is ∙ family.right in
    record {
      left = word_before i words e n some ∙ (ap (λ (z : ℕ). (get_or i.children.items (z - 1) (0, 0)).1) is ∙ family.left);
      right = word_at i words e n ∙ ap (λ (z : ℕ × ℕ). z.1) pair;
      key = key_at i words e n ∙ ap (λ (z : ℕ × ℕ). z.0) pair;
      parent = family.parent_at;
    }
