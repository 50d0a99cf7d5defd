-- Two neighbours, merged or evened out: there is one way to do it.
use Rattle.std.proofs.Common.{◌≡◌, ◌≢◌, ℕ, ◌+◌, ◌/◌, ◌<◌, ◌≤◌, List, ◌++◌, length, take, drop, get_or, Some, refl, sym, ap, ◌∙◌, subst, inl, inr, arith}
use Rattle.std.specs.Prelude.{◌⊎◌}
use Rattle.std.proofs.lemmas.Bool.{cases_lt, cases_eq}
use Rattle.std.proofs.lemmas.List.{take-append-drop, length-append, length-take-le}
use Rattle.bl_page.specs.declared.page.Page.{Page}
use Rattle.bl_page.specs.declared.page.Page.TheVariants.{Anchor, Leaf, Inner, Dead}
use Rattle.bl_page.specs.declared.page.Leaf.{Leaf as LeafPage}
use Rattle.bl_page.specs.declared.page.Inner.{Inner as InnerPage}
use Rattle.bl_page.specs.Pairs.{RisesFrom, AllWithin, IsChild, end_of}
use Rattle.bl_page.proofs.Same.{dead_same}
use Rattle.bl_rearrange.specs.declared.sides.Side.{Side}
use Rattle.bl_rearrange.specs.declared.sides.Side.TheVariants as side
use Rattle.bl_rearrange.specs.declared.sides.Evened.{Evened}
use Rattle.bl_rearrange.specs.Joined.{AreSides, AreShares, MovesTo}
use Rattle.bl_rearrange.specs.Neighbours.{AreNeighbours, together, IsMerged, Gains, IsEvened}
use Rattle.bl_rearrange.specs.Rearranged.{pairs_of, IsNow, low_of, high_of, right_of}
use Rattle.bl_rearrange.proofs.Joins.{joined_is, shares_are, gains_are}
use Rattle.bl_proc_compress.specs.Compressions.{IsBuried}
use Rattle.bl_proc_deterministic.proofs.Pages.{now_one, begins}
use Rattle.bl_proc_deterministic.proofs.Rows.{front_one, back_one}

pub neighbours_or : (c d : Page) → AreNeighbours c d ⊎ (¬ AreNeighbours c d)
neighbours_or (Leaf l) (Leaf r) = elim (cases_eq l.high 0) [
  | inl none ↦ inr (λ n. n.0 none)
  | inr some ↦ elim (cases_eq r.low l.high) [ inl e ↦ inl (some, e) | inr differ ↦ inr (λ n. differ n.1) ]
]
neighbours_or (Inner l) (Inner r) = elim (cases_eq r.level l.level) [
  | inr differ ↦ inr (λ n. differ n.0)
  | inl same ↦ elim (cases_eq l.high 0) [
    | inl none ↦ inr (λ n. n.1 none)
    | inr some ↦ elim (cases_eq r.low l.high) [ inl e ↦ inl (same, some, e) | inr differ ↦ inr (λ n. differ n.2) ]
  ]
]
neighbours_or (Leaf l) (Anchor a) = inr (λ n. n)
neighbours_or (Leaf l) (Inner r) = inr (λ n. n)
neighbours_or (Leaf l) (Dead e) = inr (λ n. n)
neighbours_or (Inner l) (Anchor a) = inr (λ n. n)
neighbours_or (Inner l) (Leaf r) = inr (λ n. n)
neighbours_or (Inner l) (Dead e) = inr (λ n. n)
neighbours_or (Anchor a) d = inr (λ n. n)
neighbours_or (Dead e) d = inr (λ n. n)

-- the pairs of two neighbours are on both sides of the bound between them
sides_are : (low bound middle high : ℕ) (left right : List (ℕ × ℕ)) → bound ≢ 0 → middle ≡ bound → low < end_of bound → middle < end_of high → RisesFrom 0 left → RisesFrom 0 right → AllWithin low bound left → AllWithin middle high right → AreSides low middle high left right
sides_are low bound middle high left right some e above below left_rise right_rise left_in right_in =
    let is : end_of bound ≡ bound = grind (arith, some) in
    record {
      above = omega (arith, is, above, e);
      below = below;
      left_rising = left_rise;
      right_rising = right_rise;
      left_within = subst (λ (z : ℕ). AllWithin low z left) (sym e) left_in;
      right_within = right_in;
    }

-- One page in place of two.

pub merged_one : (c d p q : Page) → IsMerged c d (Some p) → IsMerged c d (Some q) → p ≡ q
merged_one c d p q a b = now_one (low_of c) (high_of d) (right_of d) c p q a.1 b.1 (a.2 ∙ sym b.2)

pub merged_some : (c d : Page) → AreNeighbours c d → together c d ≤ 14 → (p : Page) × IsMerged c d (Some p)
merged_some (Leaf l) (Leaf r) n fit =
    let sides = sides_are l.low l.high r.low r.high l.rows.items r.rows.items n.0 n.1 l.bounds r.bounds l.order r.order l.cover r.cover in
    let is = joined_is l.low r.low r.high l.rows.items r.rows.items (l.rows.items ++ r.rows.items) sides fit refl in
    let above = sides.above in (
      Leaf (record { low = l.low; high = r.high; right = r.right; rows = record { items = l.rows.items ++ r.rows.items }; bounds = omega (arith, above, r.bounds); link = r.link; few = is.few; order = is.rising; cover = is.within }),
      (fit, (refl, refl, refl), refl),
    )
merged_some (Inner l) (Inner r) n fit =
    let sides = sides_are l.low l.high r.low r.high l.children.items r.children.items n.1 n.2 l.bounds r.bounds l.order r.order l.cover r.cover in
    let is = joined_is l.low r.low r.high l.children.items r.children.items (l.children.items ++ r.children.items) sides fit refl in
    let above = sides.above in (
      Inner (record {
        level = l.level;
        low = l.low;
        high = r.high;
        right = r.right;
        children = record { items = l.children.items ++ r.children.items };
        above_leaves = l.above_leaves;
        below_limit = l.below_limit;
        bounds = omega (arith, above, r.bounds);
        link = r.link;
        few = is.few;
        order = is.rising;
        cover = is.within;
        first = is.first l.first;
        pages = is.children l.pages r.pages;
      }),
      (fit, (refl, refl, refl, refl), refl),
    )
merged_some old d n fit = absurd n

-- What is put in place of the right one.

pub buried_one : (x : ℕ) (d p q : Page) → IsBuried x d p → IsBuried x d q → p ≡ q
buried_one x d (Dead p) (Dead q) a b = ap Dead (dead_same p q (a.0 ∙ sym b.0) (a.1 ∙ sym b.1) (a.2 ∙ sym b.2))
buried_one x d (Dead p) (Anchor q) a b = absurd b
buried_one x d (Dead p) (Leaf q) a b = absurd b
buried_one x d (Dead p) (Inner q) a b = absurd b
buried_one x d old q a b = absurd a

pub buried_some : (x : ℕ) (d : Page) → IsChild x → (p : Page) × IsBuried x d p
buried_some x (Anchor a) child = (Dead (record { level = 0; low = 0; right = x; below_limit = omega arith; link = child.1 }), (refl, refl, refl))
buried_some x (Leaf l) child = (Dead (record { level = 0; low = l.low; right = x; below_limit = omega arith; link = child.1 }), (refl, refl, refl))
buried_some x (Inner i) child = (Dead (record { level = i.level; low = i.low; right = x; below_limit = i.below_limit; link = child.1 }), (refl, refl, refl))
buried_some x (Dead e) child = (Dead (record { level = e.level; low = e.low; right = x; below_limit = e.below_limit; link = child.1 }), (refl, refl, refl))

-- Two pages evened out.

gains_one : (s t : Side) (had has also old new bound : ℕ) → has ≡ also → Gains s had has old new → Gains t had also old bound → s ≡ t
gains_one side.Left side.Left had has also old new bound e a b = refl
gains_one side.Left side.Right had has also old new bound e a b = absurd (let le = a.0 in let lt = b.0 in omega (arith, e, le, lt))
gains_one side.Right side.Left had has also old new bound e a b = absurd (let lt = a.0 in let le = b.0 in omega (arith, e, le, lt))
gains_one side.Right side.Right had has also old new bound e a b = refl

pub evened_one : (c d : Page) (e f : Evened) → IsEvened c d e → IsEvened c d f → e ≡ f
evened_one c d e f a b =
    let both = a.pairs ∙ sym b.pairs in
    let many = a.half ∙ sym b.half in
    let front = front_one (pairs_of e.left) (pairs_of e.right) (pairs_of f.left) (pairs_of f.right) many both in
    let back = back_one (pairs_of e.left) (pairs_of e.right) (pairs_of f.left) (pairs_of f.right) many both in
    let key : e.separator ≡ f.separator = begins e.separator (pairs_of e.right) a.separator ∙ (ap (λ (z : List (ℕ × ℕ)). (get_or z 0 (0, 0)).0) back ∙ sym (begins f.separator (pairs_of f.right) b.separator)) in
    let left = now_one (low_of c) e.separator (right_of c) c e.left f.left a.left_frame (subst (λ (z : ℕ). IsNow (low_of c) z (right_of c) c f.left) (sym key) b.left_frame) front in
    let right = now_one e.separator (high_of d) (right_of d) d e.right f.right a.right_frame (subst (λ (z : ℕ). IsNow z (high_of d) (right_of d) d f.right) (sym key) b.right_frame) back in
    let gains = gains_one e.gains f.gains (length (pairs_of c)) (length (pairs_of e.left)) (length (pairs_of f.left)) (low_of d) e.separator f.separator many a.gains b.gains in
    λ i. record { left = left i; right = right i; separator = key i; gains = gains i }

-- the pairs on both sides of a bound, split in the middle
record HasShares (low middle high : ℕ) (left right : List (ℕ × ℕ)) : Type 0 where
  pub lower : List (ℕ × ℕ)
  pub upper : List (ℕ × ℕ)
  pub gains : Side
  pub are : AreShares low high left right lower upper (get_or upper 0 (0, 0)).0
  pub moves : Gains gains (length left) (length lower) middle (get_or upper 0 (0, 0)).0

moved : (had has : ℕ) → (s : Side) × MovesTo s had has
moved had has = elim (cases_lt has had) [ inl lt ↦ (side.Right, lt) | inr ge ↦ (side.Left, ge) ]

shared : (low middle high : ℕ) (left right : List (ℕ × ℕ)) → AreSides low middle high left right → length left ≤ 14 → length right ≤ 14 → 14 < length left + length right → HasShares low middle high left right
shared low middle high left right sides left_few right_few past =
    let half = (length left + length right + 1) / 2 in
    let lower = take half (left ++ right) in
    let upper = drop half (left ++ right) in
    let is : lower ++ upper ≡ left ++ right = take-append-drop half (left ++ right) in
    let sum = length-append left right in
    let count : length lower ≡ half = length-take-le half (left ++ right) (omega (arith, sum)) in
    let are = shares_are low middle high left right lower upper sides left_few right_few past is count in
    let s = moved (length left) (length lower) in
    record { lower = lower; upper = upper; gains = s.0; are = are; moves = gains_are s.0 low middle high left right lower upper sides is are.upper_first s.1 }

evened_leaves : (l r : LeafPage) → AreNeighbours (Leaf l) (Leaf r) → 14 < together (Leaf l) (Leaf r) → (e : Evened) × IsEvened (Leaf l) (Leaf r) e
evened_leaves l r n past =
    let sides = sides_are l.low l.high r.low r.high l.rows.items r.rows.items n.0 n.1 l.bounds r.bounds l.order r.order l.cover r.cover in
    let h = shared l.low r.low r.high l.rows.items r.rows.items sides l.few r.few past in
    let bound = (get_or h.upper 0 (0, 0)).0 in
    let is = h.are in
    let end : l.low < end_of bound = (let above = is.above in grind arith) in (
      record {
        left = Leaf (record { low = l.low; high = bound; right = l.right; rows = record { items = h.lower }; bounds = end; link = l.link; few = is.lower_few; order = is.lower_rising; cover = is.lower_within });
        right = Leaf (record { low = bound; high = r.high; right = r.right; rows = record { items = h.upper }; bounds = is.below; link = r.link; few = is.upper_few; order = is.upper_rising; cover = is.upper_within });
        separator = bound;
        gains = h.gains;
      },
      record { pairs = is.pairs; half = is.half; left_frame = (refl, refl, refl); right_frame = (refl, refl, refl); separator = is.upper_first; above = is.above; gains = h.moves },
    )

evened_inners : (l r : InnerPage) → AreNeighbours (Inner l) (Inner r) → 14 < together (Inner l) (Inner r) → (e : Evened) × IsEvened (Inner l) (Inner r) e
evened_inners l r n past =
    let sides = sides_are l.low l.high r.low r.high l.children.items r.children.items n.1 n.2 l.bounds r.bounds l.order r.order l.cover r.cover in
    let h = shared l.low r.low r.high l.children.items r.children.items sides l.few r.few past in
    let bound = (get_or h.upper 0 (0, 0)).0 in
    let is = h.are in
    let end : l.low < end_of bound = (let above = is.above in grind arith) in (
      record {
        left = Inner (record { level = l.level; low = l.low; high = bound; right = l.right; children = record { items = h.lower }; above_leaves = l.above_leaves; below_limit = l.below_limit; bounds = end; link = l.link; few = is.lower_few; order = is.lower_rising; cover = is.lower_within; first = is.lower_first l.first; pages = is.lower_children l.pages r.pages });
        right = Inner (record { level = r.level; low = bound; high = r.high; right = r.right; children = record { items = h.upper }; above_leaves = r.above_leaves; below_limit = r.below_limit; bounds = is.below; link = r.link; few = is.upper_few; order = is.upper_rising; cover = is.upper_within; first = is.upper_first; pages = is.upper_children l.pages r.pages });
        separator = bound;
        gains = h.gains;
      },
      record { pairs = is.pairs; half = is.half; left_frame = (refl, refl, refl, refl); right_frame = (refl, refl, refl, refl); separator = is.upper_first; above = is.above; gains = h.moves },
    )

pub evened_some : (c d : Page) → AreNeighbours c d → 14 < together c d → (e : Evened) × IsEvened c d e
evened_some (Leaf l) (Leaf r) n past = evened_leaves l r n past
evened_some (Inner l) (Inner r) n past = evened_inners l r n past
evened_some old d n past = absurd n
