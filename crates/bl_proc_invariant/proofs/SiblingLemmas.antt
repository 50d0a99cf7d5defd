-- What a compression is to put is what the moves of the tree want.
use Rattle.std.proofs.Common.{ℕ, suc, ◌≡◌, ◌≢◌, ◌⊎◌, ◌+◌, ◌/◌, ◌<◌, ◌≤◌, ◌++◌, List, [], ◌∷◌, length, Some, None, arith, ap, sym, ◌∙◌, refl, subst, inl, inr}
use Rattle.bl_model.specs.Rows.{map_of}
use Rattle.bl_page.specs.declared.page.Page.{Page}
use Rattle.bl_page.specs.declared.page.Page.TheVariants.{Inner as InnerPage}
use Rattle.bl_page.specs.declared.page.Inner.{Inner}
use Rattle.bl_page.specs.Pairs.{end_of, IsWithin, AllWithin}
use Rattle.bl_rearrange.specs.Rearranged.{pairs_of, low_of, high_of, right_of}
use Rattle.bl_rearrange.specs.Neighbours.{AreNeighbours, IsEvened, Gains}
use Rattle.bl_rearrange.specs.declared.sides.Evened.{Evened}
use Rattle.bl_rearrange.specs.declared.sides.Side.{Side}
use Rattle.bl_rearrange.specs.declared.sides.Side.TheVariants as side
use Rattle.bl_page.specs.Nodes.{Covers, node_of}
use Rattle.bl_tree.specs.Moves.{IsJoin, IsRow, IsRelisted, IsLeftGain, IsRightLoss, IsRightGain, IsLeftLoss}
use Rattle.bl_tree_worlds.proofs.Fitted.{look_of, frame_shape, end_is, fits_row, without_row}
use Rattle.bl_tree_worlds.proofs.Neighbours.{meets, cover_of, merged_join, now_low, shares, evened_left, evened_right}
use Rattle.bl_rearrange.specs.declared.families.Family.{Family}
use Rattle.bl_proc_compress.specs.declared.compression.Puts.{Puts}
use Rattle.bl_proc_compress.specs.Compressions.{IsBuried, Merges, MayEven, Evens, Relists, merge_hint}
use Rattle.bl_rearrange.specs.declared.families.Siblings.{Siblings}
use Rattle.bl_proc_invariant.specs.Compressing.{ToMerge, ToEvenLeft, ToEvenRight}
use Rattle.bl_proc_invariant.proofs.Holdings.{covered_in}

pub merge_is : (f : Family) (c d : Page) (u : Puts) (got : ℕ → Page) → AreNeighbours c d → Merges f c d u → got u.at.parent ≡ InnerPage f.parent → got u.at.left ≡ c → got u.at.right ≡ d → ToMerge got u f.key f.key
merge_is f c d u got n m got_parent got_left got_right = record {
  same = refl;
  gains = m.gains;
  hint = merge_hint f.parent.level u.parent u.left;
  decision = m.decision;
  join = subst (λ (v : Page × Page). IsJoin (node_of v.0) (node_of v.1) (node_of u.left)) (λ i. (sym got_left i, sym got_right i)) (merged_join c d u.left n m.left);
  row = subst (λ v. IsRow f.key None (node_of v) (node_of u.parent)) (sym got_parent) (without_row (InnerPage f.parent) u.parent f.key m.parent f.covers);
  buried = subst (λ v. IsBuried u.at.left v u.right) (sym got_right) (subst (λ z. IsBuried z d u.right) (ap (λ t. t.left) (sym m.at)) m.right);
}

-- a key that a parent lists in place of another is one that it covers
pub new_within : (parent : Inner) (old new child : ℕ) (page : Page) → Relists parent old new child (Some page) → IsWithin parent.low parent.high old → IsWithin parent.low parent.high new
new_within parent old new child page r covers =
    let first = without_row (InnerPage parent) r.0 old r.1 covers in
    let listed : (node_of page).look new ≡ Some child = look_of page new ∙ (r.2.2 new ∙ grind arith) in
    subst (λ s. Covers s new) (frame_shape r.0 page r.2.1 ∙ first.shape) (covered_in page new child listed)

pub relist_is : (parent : Inner) (old new child : ℕ) (page : Page) → Relists parent old new child (Some page) → IsWithin parent.low parent.high old → map_of parent.children.items old ≡ Some child → IsWithin parent.low parent.high new → new ≢ old → IsRelisted child old new (node_of (InnerPage parent)) (node_of page)
relist_is parent old new child page r covers lists within differ =
    let first = without_row (InnerPage parent) r.0 old r.1 covers in
    let second = fits_row r.0 page new child 0 r.2 (subst (λ s. Covers s new) (sym first.shape) within) in
    record {
      shape = second.shape ∙ first.shape;
      old_covered = covers;
      new_covered = within;
      differ = differ;
      was = lists;
      gone = second.rest old (λ e. differ (sym e)) ∙ first.here;
      here = second.here;
      rest = λ j i n. second.rest j n ∙ first.rest j i;
    }

-- Two lists of pairs, split at the same key in two ways, are split at one place.
abbrev pub AllBelow : ℕ → List (ℕ × ℕ) → Type 0
AllBelow s [] = Unit {0}
AllBelow s (x ∷ xs) = (x.0 < s) × AllBelow s xs

abbrev pub AllFrom : ℕ → List (ℕ × ℕ) → Type 0
AllFrom s [] = Unit {0}
AllFrom s (x ∷ xs) = (s ≤ x.0) × AllFrom s xs

below_of : (low high s : ℕ) (xs : List (ℕ × ℕ)) → end_of high ≡ s → AllWithin low high xs → AllBelow s xs
below_of low high s [] e h = tt
below_of low high s (x ∷ xs) e h = ((let b = h.0.1 in omega (arith, b, e)), below_of low high s xs e h.1)

from_of : (low high s : ℕ) (xs : List (ℕ × ℕ)) → low ≡ s → AllWithin low high xs → AllFrom s xs
from_of low high s [] e h = tt
from_of low high s (x ∷ xs) e h = ((let b = h.0.0 in omega (arith, b, e)), from_of low high s xs e h.1)

pub one_place : (s : ℕ) (xs zs ys ws : List (ℕ × ℕ)) → AllBelow s xs → AllBelow s zs → AllFrom s ys → AllFrom s ws → xs ++ ys ≡ zs ++ ws → length xs ≡ length zs
one_place s [] [] ys ws bx bz fy fw e = refl
one_place s [] (z ∷ zs) [] ws bx bz fy fw e = absurd (let f : ◌≡◌ {A = List (ℕ × ℕ)} [] (z ∷ (zs ++ ws)) = e in cc)
one_place s [] (z ∷ zs) (y ∷ ys) ws bx bz fy fw e = absurd (let f : ◌≡◌ {A = List (ℕ × ℕ)} (y ∷ ys) (z ∷ (zs ++ ws)) = e in let same : y ≡ z = cc in let k : y.0 ≡ z.0 = ap (λ (v : ℕ × ℕ). v.0) same in let a = fy.0 in let b = bz.0 in omega (arith, k, a, b))
one_place s (x ∷ xs) [] ys [] bx bz fy fw e = absurd (let f : ◌≡◌ {A = List (ℕ × ℕ)} (x ∷ (xs ++ ys)) [] = e in cc)
one_place s (x ∷ xs) [] ys (w ∷ ws) bx bz fy fw e = absurd (let f : ◌≡◌ {A = List (ℕ × ℕ)} (x ∷ (xs ++ ys)) (w ∷ ws) = e in let same : x ≡ w = cc in let k : x.0 ≡ w.0 = ap (λ (v : ℕ × ℕ). v.0) same in let a = bx.0 in let b = fw.0 in omega (arith, k, a, b))
one_place s (x ∷ xs) (z ∷ zs) ys ws bx bz fy fw e = (let f : ◌≡◌ {A = List (ℕ × ℕ)} (x ∷ (xs ++ ys)) (z ∷ (zs ++ ws)) = e in let rest : xs ++ ys ≡ zs ++ ws = cc in ap suc (one_place s xs zs ys ws bx.1 bz.1 fy fw rest))

-- of two pages one of which has few pairs, the half is another number than what the left one has
half_moves : (n m : ℕ) → n ≡ (n + m + 1) / 2 → 14 < n + m → (n < 7) ⊎ (m < 7) → ⊥
half_moves n m half past few = elim few [ inl l ↦ absurd (omega (arith, half, past, l)) | inr r ↦ absurd (omega (arith, half, past, r)) ]

-- so the bound between them moves
pub moves : (c d : Page) (e : Evened) → MayEven c d → IsEvened c d e → e.separator ≢ (node_of d).shape.low
moves c d e may f same =
    let k = meets c d may.neighbours in
    let above = f.above in
    let sep : end_of e.separator ≡ e.separator = end_is e.separator (omega (arith, above)) in
    let left = now_low (low_of c) e.separator (right_of c) c e.left f.left_frame in
    let right = now_low e.separator (high_of d) (right_of d) d e.right f.right_frame in
    let one : length (pairs_of c) ≡ length (pairs_of e.left) = one_place e.separator (pairs_of c) (pairs_of e.left) (pairs_of d) (pairs_of e.right)
    (below_of (low_of c) (high_of c) e.separator (pairs_of c) (sym k.left_end ∙ (k.end ∙ sym same)) (cover_of c))
    (below_of (low_of e.left) (high_of e.left) e.separator (pairs_of e.left) (ap end_of left.1 ∙ sep) (cover_of e.left))
    (from_of (low_of d) (high_of d) e.separator (pairs_of d) (sym k.low ∙ sym same) (cover_of d))
    (from_of (low_of e.right) (high_of e.right) e.separator (pairs_of e.right) right.0 (cover_of e.right))
    (sym f.pairs) in
    half_moves (length (pairs_of c)) (length (pairs_of d)) (one ∙ f.half) may.past may.few

-- What an evening is to put, where the pages hold what the process got, the right one has the low by which it is listed, and
-- the left one links to it.
module _ (f : Family) (c d : Page) (u : Puts) (got : ℕ → Page) (v : Evens f c d u) (got_parent : got u.at.parent ≡ InnerPage f.parent) (got_left : got u.at.left ≡ c) (got_right : got u.at.right ≡ d) (low : (node_of d).shape.low ≡ f.key) (linked : (node_of c).shape.right ≡ u.at.right) where
  abbrev now : Evened
  now = record { left = u.left; right = u.right; separator = v.separator; gains = u.gains }

  relisted : v.separator ≢ f.key → IsRelisted u.at.right f.key (node_of u.right).shape.low (node_of (got u.at.parent)) (node_of u.parent)
  relisted differ =
      let s = shares c d now v.may.neighbours v.evened in
      let within = new_within f.parent f.key v.separator f.at.right u.parent v.parent f.covers in
      let r : IsRelisted f.at.right f.key v.separator (node_of (InnerPage f.parent)) (node_of u.parent) = relist_is f.parent f.key v.separator f.at.right u.parent v.parent f.covers f.lists within differ in
      let same : f.at.right ≡ u.at.right = ap (λ (t : Siblings). t.right) (sym v.at) in
      subst (λ z. IsRelisted z f.key (node_of u.right).shape.low (node_of (got u.at.parent)) (node_of u.parent)) same
      (subst (λ z. IsRelisted f.at.right f.key z (node_of (got u.at.parent)) (node_of u.parent)) (sym s.right_low)
      (subst (λ z. IsRelisted f.at.right f.key v.separator (node_of z) (node_of u.parent)) (sym got_parent) r))

  even_left : u.gains ≡ side.Left → ToEvenLeft got u f.key (node_of u.right).shape.low
  even_left gains =
      let s = shares c d now v.may.neighbours v.evened in
      let k = meets c d v.may.neighbours in
      let gain : Gains side.Left (length (pairs_of c)) (length (pairs_of u.left)) (low_of d) v.separator = subst (λ z. Gains z (length (pairs_of c)) (length (pairs_of u.left)) (low_of d) v.separator) gains v.evened.gains in
      let other = moves c d now v.may v.evened in
      let lower = k.low in
      let moved : (node_of d).shape.low < v.separator = (let m = gain.1 in past (node_of d).shape.low v.separator other (omega (arith, m, lower))) in
      let both = evened_left c d now u.at.right v.may.neighbours v.evened moved linked in
      record {
        gains = gains;
        decision = v.decision;
        gain = subst (λ (z : Page × Page). IsLeftGain u.at.right (node_of z.0) (node_of z.1) (node_of u.left)) (λ i. (sym got_left i, sym got_right i)) both.0;
        loss = subst (λ z. IsRightLoss (node_of u.left) (node_of z) (node_of u.right)) (sym got_right) both.1;
        relisted = relisted (λ e. other (e ∙ sym low));
        new_is = s.right_low ∙ sym s.left_end;
      }
    where
      past : (n m : ℕ) → m ≢ n → n ≤ m → n < m
      past n m ne le = grind (arith, ne, le)

  even_right : u.gains ≡ side.Right → ToEvenRight got u f.key (node_of u.right).shape.low
  even_right gains =
      let k = meets c d v.may.neighbours in
      let gain : Gains side.Right (length (pairs_of c)) (length (pairs_of u.left)) (low_of d) v.separator = subst (λ z. Gains z (length (pairs_of c)) (length (pairs_of u.left)) (low_of d) v.separator) gains v.evened.gains in
      let other = moves c d now v.may v.evened in
      let lower = k.low in
      let moved : v.separator < (node_of d).shape.low = (let m = gain.1 in omega (arith, m, lower)) in
      let both = evened_right c d now u.at.right v.may.neighbours v.evened moved linked in
      record {
        gains = gains;
        decision = v.decision;
        gain = subst (λ (z : Page × Page). IsRightGain (node_of z.0) (node_of z.1) (node_of u.right)) (λ i. (sym got_left i, sym got_right i)) both.0;
        loss = subst (λ z. IsLeftLoss u.at.right (node_of z) (node_of u.right) (node_of u.left)) (sym got_left) both.1;
        relisted = relisted (λ e. other (e ∙ sym low));
        new_is = refl;
      }

  even_of : (s : Side) → u.gains ≡ s → ToEvenLeft got u f.key (node_of u.right).shape.low ⊎ ToEvenRight got u f.key (node_of u.right).shape.low
  even_of side.Left e = inl (even_left e)
  even_of side.Right e = inr (even_right e)

  pub evens_is : ToEvenLeft got u f.key (node_of u.right).shape.low ⊎ ToEvenRight got u f.key (node_of u.right).shape.low
  evens_is = even_of u.gains refl
