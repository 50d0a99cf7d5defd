-- A page with a pair more or less, or with another value in one: there is one, and it is the only one.
use Rattle.std.proofs.Common.{◌≡◌, ℕ, zero, suc, ◌<◌, ◌≤◌, List, [], ◌∷◌, length, take, drop, get_or, None, refl, sym, ap, ◌∙◌, subst, arith}
use Rattle.std.specs.Prelude.{IsSome}
use Rattle.std.proofs.lemmas.Bool.{false≢true}
use Rattle.std.proofs.lemmas.List.{take-append-drop, length-append}
use Rattle.arrayvec.specs.ArrayVec.{ArrayVec}
use Rattle.bl_model.specs.Map.{with_pair}
use Rattle.bl_model.specs.Rows.{map_of}
use Rattle.bl_page.specs.declared.page.Page.{Page}
use Rattle.bl_page.specs.declared.page.Page.TheVariants.{Anchor, Leaf, Inner, Dead}
use Rattle.bl_page.specs.Pages.{Covers}
use Rattle.bl_page.specs.Pairs.{RisesFrom, AllWithin, BeginsWith, IsChild, IsWithin, end_of}
use Rattle.bl_page.proofs.Same.{leaf_same, inner_same}
use Rattle.bl_rearrange.specs.Entered.{entered, dropped, replaced, AreHalves}
use Rattle.bl_rearrange.specs.declared.fitted.Fitted.TheVariants.{Fits, Split}
use Rattle.bl_rearrange.specs.Rearranged.{pairs_of, IsNow, low_of, high_of, right_of, MayHold, MayLose, IsFitted, IsWithout, IsWithValue}
use Rattle.bl_rearrange.proofs.EnteredLemmas.{length-entered}
use Rattle.bl_rearrange.proofs.Parts.{entered_is, halves_are, dropped_is, replaced_is}
use Rattle.bl_proc_deterministic.proofs.Rows.{rows_one, front_one, back_one, IsSplit, split_rows_one}

pub vec_one : {A : Type 0} (v w : ArrayVec A) → v.items ≡ w.items → v ≡ w
vec_one v w e = ap (λ xs. record { items = xs }) e

pub rising : (c : Page) → RisesFrom 0 (pairs_of c)
rising (Anchor a) = tt
rising (Leaf l) = l.order
rising (Inner i) = i.order
rising (Dead d) = tt

pub within : (c : Page) → AllWithin (low_of c) (high_of c) (pairs_of c)
within (Anchor a) = tt
within (Leaf l) = l.cover
within (Inner i) = i.cover
within (Dead d) = tt

-- pages of one kind, with these bounds and this link, are known by their pairs
pub now_one : (low high right : ℕ) (c p q : Page) → IsNow low high right c p → IsNow low high right c q → pairs_of p ≡ pairs_of q → p ≡ q
now_one low high right (Leaf c) (Leaf p) (Leaf q) a b e = ap Leaf (leaf_same p q (a.0 ∙ sym b.0) (a.1 ∙ sym b.1) (a.2 ∙ sym b.2) (vec_one p.rows q.rows e))
now_one low high right (Inner c) (Inner p) (Inner q) a b e = ap Inner (inner_same p q (a.0 ∙ sym b.0) (a.1 ∙ sym b.1) (a.2 ∙ sym b.2) (a.3 ∙ sym b.3) (vec_one p.children q.children e))
now_one low high right (Leaf c) (Leaf p) (Anchor q) a b e = absurd b
now_one low high right (Leaf c) (Leaf p) (Inner q) a b e = absurd b
now_one low high right (Leaf c) (Leaf p) (Dead q) a b e = absurd b
now_one low high right (Inner c) (Inner p) (Anchor q) a b e = absurd b
now_one low high right (Inner c) (Inner p) (Leaf q) a b e = absurd b
now_one low high right (Inner c) (Inner p) (Dead q) a b e = absurd b
now_one low high right old p q a b e = absurd a

-- such a page has these bounds
pub now_bounds : (low high right : ℕ) (c p : Page) → IsNow low high right c p → (low_of p ≡ low) × (high_of p ≡ high)
now_bounds low high right (Leaf c) (Leaf p) a = (a.0, a.1)
now_bounds low high right (Inner c) (Inner p) a = (a.1, a.2)
now_bounds low high right old p a = absurd a

now_within : (low high right : ℕ) (c p : Page) → IsNow low high right c p → AllWithin low high (pairs_of p)
now_within low high right c p a = (let b = now_bounds low high right c p a in subst (λ (z : ℕ × ℕ). AllWithin z.0 z.1 (pairs_of p)) (λ i. (b.0 i, b.1 i)) (within p))

-- One pair more, where it has room.

pub fits_one : (c : Page) (key word new : ℕ) (p q : Page) → IsFitted c key word new (Fits p) → IsFitted c key word new (Fits q) → p ≡ q
fits_one c key word new p q a b = now_one (low_of c) (high_of c) (right_of c) c p q a.1 b.1 (rows_one 0 (pairs_of p) (pairs_of q) (rising p) (rising q) (λ j. a.2 j ∙ sym (b.2 j)))

pub fits_some : (c : Page) (key word new : ℕ) → Covers c key → map_of (pairs_of c) key ≡ None → MayHold c word → length (pairs_of c) < 14 → (p : Page) × IsFitted c key word new (Fits p)
fits_some (Anchor a) key word new in_it absent may room = absurd in_it
fits_some (Leaf l) key word new in_it absent may room =
    let is = entered_is l.low l.high key word l.rows.items l.order l.cover in_it absent in
    let count = is.count in (
      Leaf (record { low = l.low; high = l.high; right = l.right; rows = record { items = entered key word l.rows.items }; bounds = l.bounds; link = l.link; few = omega arith; order = is.rising; cover = is.within }),
      (room, (refl, refl, refl), is.map),
    )
fits_some (Inner i) key word new in_it absent may room =
    let is = entered_is i.low i.high key word i.children.items i.order i.cover in_it absent in
    let count = is.count in (
      Inner (record {
        level = i.level;
        low = i.low;
        high = i.high;
        right = i.right;
        children = record { items = entered key word i.children.items };
        above_leaves = i.above_leaves;
        below_limit = i.below_limit;
        bounds = i.bounds;
        link = i.link;
        few = omega arith;
        order = is.rising;
        cover = is.within;
        first = is.first i.first;
        pages = is.children may i.pages;
      }),
      (room, (refl, refl, refl, refl), is.map),
    )
fits_some (Dead d) key word new in_it absent may room = absurd in_it

-- One pair more, where it is full.

pub begins : (separator : ℕ) (xs : List (ℕ × ℕ)) → BeginsWith separator xs → separator ≡ (get_or xs 0 (0, 0)).0
begins separator [] h = absurd h
begins separator (x ∷ xs) h = sym h

parts_of : (c : Page) (key word new : ℕ) (left right : Page) (separator : ℕ) → IsFitted c key word new (Split left right separator) → IsSplit (with_pair (map_of (pairs_of c)) key word) (low_of c) separator (high_of c) (pairs_of left) (pairs_of right)
parts_of c key word new left right separator f = record {
  some = (let h = f.8 in omega arith);
  lower = rising left;
  lower_in = now_within (low_of c) separator new c left f.3;
  upper = rising right;
  upper_in = now_within separator (high_of c) (right_of c) c right f.4;
  below = f.6;
  above = f.7;
}

pub record SameSplit (left right : Page) (separator : ℕ) (left' right' : Page) (separator' : ℕ) : Type 0 where
  pub left_one : left ≡ left'
  pub right_one : right ≡ right'
  pub separator_one : separator ≡ separator'

pub split_one : (c : Page) (key word new : ℕ) (left right : Page) (separator : ℕ) (left' right' : Page) (separator' : ℕ) → IsFitted c key word new (Split left right separator) → IsFitted c key word new (Split left' right' separator') → SameSplit left right separator left' right' separator'
split_one c key word new left right separator left' right' separator' a b =
    let both = split_rows_one (with_pair (map_of (pairs_of c)) key word) (low_of c) separator separator' (high_of c) (pairs_of left) (pairs_of right) (pairs_of left') (pairs_of right') (parts_of c key word new left right separator a) (parts_of c key word new left' right' separator' b) in
    let front : pairs_of left ≡ pairs_of left' = front_one (pairs_of left) (pairs_of right) (pairs_of left') (pairs_of right') (a.1 ∙ sym b.1) both in
    let back : pairs_of right ≡ pairs_of right' = back_one (pairs_of left) (pairs_of right) (pairs_of left') (pairs_of right') (a.1 ∙ sym b.1) both in
    let key_one : separator ≡ separator' = begins separator (pairs_of right) a.5 ∙ (ap (λ (z : List (ℕ × ℕ)). (get_or z 0 (0, 0)).0) back ∙ sym (begins separator' (pairs_of right') b.5)) in
    record {
      left_one = now_one (low_of c) separator new c left left' a.3 (subst (λ (z : ℕ). IsNow (low_of c) z new c left') (sym key_one) b.3) front;
      right_one = now_one separator (high_of c) (right_of c) c right right' a.4 (subst (λ (z : ℕ). IsNow z (high_of c) (right_of c) c right') (sym key_one) b.4) back;
      separator_one = key_one;
    }

pub record HasSplit (c : Page) (key word new : ℕ) : Type 0 where
  pub left : Page
  pub right : Page
  pub separator : ℕ
  pub is : IsFitted c key word new (Split left right separator)

halved : (low high key word : ℕ) (old : List (ℕ × ℕ)) → RisesFrom 0 old → AllWithin low high old → IsWithin low high key → map_of old key ≡ None → 14 ≤ length old → length old ≤ 14 → (lower : List (ℕ × ℕ)) × (upper : List (ℕ × ℕ)) × (length lower ≡ 8) × (length upper ≡ 7) × AreHalves low high key word old lower upper (get_or upper 0 (0, 0)).0
halved low high key word old rises in_all in_it absent full few =
    let all = entered key word old in
    let count = length-entered key word old in
    let is = take-append-drop 8 all in
    let sum = length-append (take 8 all) (drop 8 all) in
    let eight : length (take 8 all) ≡ 8 = taken 8 all (omega arith) in
    let seven : length (drop 8 all) ≡ 7 = (let e = ap length is in omega arith) in
    (take 8 all, drop 8 all, eight, seven, halves_are low high key word old (take 8 all) (drop 8 all) rises in_all in_it absent is eight seven)
  where
    taken : (n : ℕ) (xs : List (ℕ × ℕ)) → n ≤ length xs → length (take n xs) ≡ n
    taken zero xs le = refl
    taken (suc n) [] le = absurd (omega arith)
    taken (suc n) (x ∷ xs) le = ap suc (taken n xs (omega arith))

pub split_some : (c : Page) (key word new : ℕ) → Covers c key → map_of (pairs_of c) key ≡ None → MayHold c word → IsChild new → 14 ≤ length (pairs_of c) → HasSplit c key word new
split_some (Anchor a) key word new in_it absent may child full = absurd in_it
split_some (Leaf l) key word new in_it absent may child full =
    let h = halved l.low l.high key word l.rows.items l.order l.cover in_it absent full l.few in
    let sep = (get_or h.1 0 (0, 0)).0 in
    let is = h.4 in
    let end : l.low < end_of sep = (let above = is.above in grind arith) in
    record {
      left = Leaf (record { low = l.low; high = sep; right = new; rows = record { items = h.0 }; bounds = end; link = child.1; few = (let e = h.2 in omega arith); order = is.lower_rising; cover = is.lower_within });
      right = Leaf (record { low = sep; high = l.high; right = l.right; rows = record { items = h.1 }; bounds = is.below; link = l.link; few = (let e = h.3 in omega arith); order = is.upper_rising; cover = is.upper_within });
      separator = sep;
      is = (full, h.2, h.3, (refl, refl, refl), (refl, refl, refl), is.upper_first, is.lower_map, is.upper_map, is.above);
    }
split_some (Inner i) key word new in_it absent may child full =
    let h = halved i.low i.high key word i.children.items i.order i.cover in_it absent full i.few in
    let sep = (get_or h.1 0 (0, 0)).0 in
    let is = h.4 in
    let end : i.low < end_of sep = (let above = is.above in grind arith) in
    record {
      left = Inner (record { level = i.level; low = i.low; high = sep; right = new; children = record { items = h.0 }; above_leaves = i.above_leaves; below_limit = i.below_limit; bounds = end; link = child.1; few = (let e = h.2 in omega arith); order = is.lower_rising; cover = is.lower_within; first = is.lower_first i.first; pages = is.lower_children may i.pages });
      right = Inner (record { level = i.level; low = sep; high = i.high; right = i.right; children = record { items = h.1 }; above_leaves = i.above_leaves; below_limit = i.below_limit; bounds = is.below; link = i.link; few = (let e = h.3 in omega arith); order = is.upper_rising; cover = is.upper_within; first = is.upper_first; pages = is.upper_children may i.pages });
      separator = sep;
      is = (full, h.2, h.3, (refl, refl, refl, refl), (refl, refl, refl, refl), is.upper_first, is.lower_map, is.upper_map, is.above);
    }
split_some (Dead d) key word new in_it absent may child full = absurd in_it

-- One pair less.

pub without_one : (c : Page) (key : ℕ) (p q : Page) → IsWithout c key p → IsWithout c key q → p ≡ q
without_one c key p q a b = now_one (low_of c) (high_of c) (right_of c) c p q a.frame b.frame (rows_one 0 (pairs_of p) (pairs_of q) (rising p) (rising q) (λ j. a.pairs j ∙ sym (b.pairs j)))

pub without_some : (c : Page) (key : ℕ) → Covers c key → MayLose c key → (p : Page) × IsWithout c key p
without_some (Anchor a) key in_it may = absurd in_it
without_some (Leaf l) key in_it may =
    let is = dropped_is l.low l.high key l.rows.items l.order l.cover in
    let count = is.count in
    let few = l.few in (
      Leaf (record { low = l.low; high = l.high; right = l.right; rows = record { items = dropped key l.rows.items }; bounds = l.bounds; link = l.link; few = omega arith; order = is.rising; cover = is.within }),
      record { frame = (refl, refl, refl); count = is.one_less; pairs = is.map },
    )
without_some (Inner i) key in_it may =
    let is = dropped_is i.low i.high key i.children.items i.order i.cover in
    let count = is.count in
    let few = i.few in (
      Inner (record {
        level = i.level;
        low = i.low;
        high = i.high;
        right = i.right;
        children = record { items = dropped key i.children.items };
        above_leaves = i.above_leaves;
        below_limit = i.below_limit;
        bounds = i.bounds;
        link = i.link;
        few = omega arith;
        order = is.rising;
        cover = is.within;
        first = is.first may i.first;
        pages = is.children i.pages;
      }),
      record { frame = (refl, refl, refl, refl); count = is.one_less; pairs = is.map },
    )
without_some (Dead d) key in_it may = absurd in_it

-- Another value in one pair.

pub value_one : (c : Page) (key value : ℕ) (p q : Page) → IsWithValue c key value p → IsWithValue c key value q → p ≡ q
value_one c key value p q a b = now_one (low_of c) (high_of c) (right_of c) c p q a.frame b.frame (rows_one 0 (pairs_of p) (pairs_of q) (rising p) (rising q) (λ j. a.pairs j ∙ sym (b.pairs j)))

pub value_some : (c : Page) (key value : ℕ) → IsSome (map_of (pairs_of c) key) → MayHold c value → (p : Page) × IsWithValue c key value p
value_some (Anchor a) key value listed may = absurd (false≢true listed)
value_some (Leaf l) key value listed may =
    let is = replaced_is l.low l.high key value l.rows.items l.order l.cover listed in
    let count = is.count in
    let few = l.few in (
      Leaf (record { low = l.low; high = l.high; right = l.right; rows = record { items = replaced key value l.rows.items }; bounds = l.bounds; link = l.link; few = omega arith; order = is.rising; cover = is.within }),
      record { frame = (refl, refl, refl); count = count; pairs = is.map },
    )
value_some (Inner i) key value listed may =
    let is = replaced_is i.low i.high key value i.children.items i.order i.cover listed in
    let count = is.count in
    let few = i.few in (
      Inner (record {
        level = i.level;
        low = i.low;
        high = i.high;
        right = i.right;
        children = record { items = replaced key value i.children.items };
        above_leaves = i.above_leaves;
        below_limit = i.below_limit;
        bounds = i.bounds;
        link = i.link;
        few = omega arith;
        order = is.rising;
        cover = is.within;
        first = is.first i.first;
        pages = is.children may i.pages;
      }),
      record { frame = (refl, refl, refl, refl); count = count; pairs = is.map },
    )
value_some (Dead d) key value listed may = absurd (false≢true listed)
