-- Two neighbours that were merged or evened out, as the moves of the tree want them.
use Rattle.std.proofs.Common.{ℕ, ◌≡◌, ◌≢◌, ◌<◌, ◌≤◌, ◌++◌, List, [], ◌∷◌, Some, None, arith, ap, sym, ◌∙◌, refl}
use Rattle.bl_model.specs.Rows.{map_of}
use Rattle.bl_page.specs.declared.page.Page.{Page}
use Rattle.bl_page.specs.declared.page.Page.TheVariants.{Anchor, Leaf, Inner, Dead}
use Rattle.bl_page.specs.Pairs.{end_of, AllWithin}
use Rattle.bl_rearrange.specs.Rearranged.{pairs_of, IsNow, low_of, high_of, right_of}
use Rattle.bl_rearrange.specs.Neighbours.{AreNeighbours, IsMerged, IsEvened}
use Rattle.bl_rearrange.specs.declared.sides.Evened.{Evened}
use Rattle.bl_tree.specs.Moves.{IsJoin, IsLeftGain, IsRightLoss, IsRightGain, IsLeftLoss}
use Rattle.bl_page.specs.Nodes.{node_of}
use Rattle.bl_tree_worlds.proofs.Fitted.{look_of, now_bounds, end_is}

-- A key outside the bounds of pairs is not among them.

none_below : (low high j : ℕ) (pairs : List (ℕ × ℕ)) → AllWithin low high pairs → j < low → map_of pairs j ≡ None
none_below low high j [] h lt = refl
none_below low high j (pair ∷ pairs) h lt = grind (arith, h.0.0, none_below low high j pairs h.1 lt)

pub append_below : (low high j : ℕ) (xs ys : List (ℕ × ℕ)) → AllWithin low high ys → j < low → map_of (xs ++ ys) j ≡ map_of xs j
append_below low high j [] ys h lt = none_below low high j ys h lt
append_below low high j (x ∷ xs) ys h lt = grind (arith, append_below low high j xs ys h lt)

pub append_above : (low high j : ℕ) (xs ys : List (ℕ × ℕ)) → AllWithin low high xs → end_of high ≤ j → map_of (xs ++ ys) j ≡ map_of ys j
append_above low high j [] ys h le = refl
append_above low high j (x ∷ xs) ys h le = (let b = h.0.1 in let r = append_above low high j xs ys h.1 le in let n : x.0 ≢ j = (λ e. absurd (omega (arith, b, le, e))) in grind (arith, r, n))

-- every page lists keys within its bounds
pub cover_of : (page : Page) → AllWithin (low_of page) (high_of page) (pairs_of page)
cover_of (Anchor a) = tt
cover_of (Leaf l) = l.cover
cover_of (Inner i) = i.cover
cover_of (Dead d) = tt

-- how neighbours meet
pub record Meets (c d : Page) : Type 0 where
  pub level : (node_of d).shape.level ≡ (node_of c).shape.level
  pub end : (node_of c).shape.end ≡ (node_of d).shape.low
  pub below : (node_of c).shape.low < (node_of d).shape.low
  pub left_low : (node_of c).shape.low ≡ low_of c
  pub left_end : (node_of c).shape.end ≡ end_of (high_of c)
  pub left_right : (node_of c).shape.right ≡ right_of c
  pub low : (node_of d).shape.low ≡ low_of d
  pub right_end : (node_of d).shape.end ≡ end_of (high_of d)
  pub right_right : (node_of d).shape.right ≡ right_of d

positive : (n : ℕ) → n ≢ 0 → 0 < n
positive n h = grind (arith, h)

pub meets : (c d : Page) → AreNeighbours c d → Meets c d
meets (Leaf a) (Leaf b) n = (let e : end_of a.high ≡ a.high = end_is a.high (positive a.high n.0) in let bounds = a.bounds in record { level = refl; end = e ∙ sym n.1; below = omega (arith, e, n.1, bounds); left_low = refl; left_end = refl; left_right = refl; low = refl; right_end = refl; right_right = refl })
meets (Inner a) (Inner b) n = (let e : end_of a.high ≡ a.high = end_is a.high (positive a.high n.1) in let bounds = a.bounds in record { level = n.0; end = e ∙ sym n.2; below = omega (arith, e, n.2, bounds); left_low = refl; left_end = refl; left_right = refl; low = refl; right_end = refl; right_right = refl })
meets (Anchor a) d n = absurd n
meets (Dead a) d n = absurd n
meets (Leaf a) (Anchor b) n = absurd n
meets (Leaf a) (Inner b) n = absurd n
meets (Leaf a) (Dead b) n = absurd n
meets (Inner a) (Anchor b) n = absurd n
meets (Inner a) (Leaf b) n = absurd n
meets (Inner a) (Dead b) n = absurd n

pub merged_join : (c d m : Page) → AreNeighbours c d → IsMerged c d (Some m) → IsJoin (node_of c) (node_of d) (node_of m)
merged_join c d m n f =
    let k = meets c d n in
    let b = now_bounds (low_of c) (high_of d) (right_of d) c m f.1 in
    let all : (j : ℕ) → map_of (pairs_of m) j ≡ map_of (pairs_of c ++ pairs_of d) j = λ j. ap (λ xs. map_of xs j) f.2 in
    record {
      level = b.level;
      low = b.low ∙ sym k.left_low;
      end = b.end ∙ sym k.right_end;
      right = b.right ∙ sym k.right_right;
      look = λ j lt. look_of m j ∙ (all j ∙ (append_below (low_of d) (high_of d) j (pairs_of c) (pairs_of d) (cover_of d) (let low = k.low in omega (arith, lt, low)) ∙ sym (look_of c j)));
      right_look = λ j le. look_of m j ∙ (all j ∙ (append_above (low_of c) (high_of c) j (pairs_of c) (pairs_of d) (cover_of c) (let end = k.end in let left = k.left_end in omega (arith, le, end, left)) ∙ sym (look_of d j)));
    }

-- What two pages list together, below the low of the right one and from there on.
both_below : (c d : Page) → Meets c d → (j : ℕ) → j < (node_of d).shape.low → map_of (pairs_of c ++ pairs_of d) j ≡ (node_of c).look j
both_below c d k j lt = append_below (low_of d) (high_of d) j (pairs_of c) (pairs_of d) (cover_of d) (let low = k.low in omega (arith, lt, low)) ∙ sym (look_of c j)

both_above : (c d : Page) → Meets c d → (j : ℕ) → (node_of d).shape.low ≤ j → map_of (pairs_of c ++ pairs_of d) j ≡ (node_of d).look j
both_above c d k j le = append_above (low_of c) (high_of c) j (pairs_of c) (pairs_of d) (cover_of c) (let end = k.end in let left = k.left_end in omega (arith, le, end, left)) ∙ sym (look_of d j)

-- Pages evened out: where each of them is, and what it lists, by the pairs of both.
pub record Shares (c d : Page) (e : Evened) : Type 0 where
  pub left_level : (node_of e.left).shape.level ≡ (node_of c).shape.level
  pub left_low : (node_of e.left).shape.low ≡ (node_of c).shape.low
  pub left_end : (node_of e.left).shape.end ≡ e.separator
  pub left_right : (node_of e.left).shape.right ≡ (node_of c).shape.right
  pub right_level : (node_of e.right).shape.level ≡ (node_of d).shape.level
  pub right_low : (node_of e.right).shape.low ≡ e.separator
  pub right_end : (node_of e.right).shape.end ≡ (node_of d).shape.end
  pub right_right : (node_of e.right).shape.right ≡ (node_of d).shape.right
  pub below : e.separator < (node_of d).shape.end
  pub above : (node_of c).shape.low < e.separator
  pub left_look : (j : ℕ) → j < e.separator → (node_of e.left).look j ≡ map_of (pairs_of c ++ pairs_of d) j
  pub right_look : (j : ℕ) → e.separator ≤ j → (node_of e.right).look j ≡ map_of (pairs_of c ++ pairs_of d) j

pub now_low : (low high right : ℕ) (old new : Page) → IsNow low high right old new → (low_of new ≡ low) × (high_of new ≡ high)
now_low low high right (Leaf a) (Leaf b) e = (e.0, e.1)
now_low low high right (Inner a) (Inner b) e = (e.1, e.2)
now_low low high right (Anchor a) new e = absurd e
now_low low high right (Dead a) new e = absurd e
now_low low high right (Leaf a) (Anchor b) e = absurd e
now_low low high right (Leaf a) (Inner b) e = absurd e
now_low low high right (Leaf a) (Dead b) e = absurd e
now_low low high right (Inner a) (Anchor b) e = absurd e
now_low low high right (Inner a) (Leaf b) e = absurd e
now_low low high right (Inner a) (Dead b) e = absurd e

pub shares : (c d : Page) (e : Evened) → AreNeighbours c d → IsEvened c d e → Shares c d e
shares c d e n f =
    let k = meets c d n in
    let l = now_bounds (low_of c) e.separator (right_of c) c e.left f.left_frame in
    let r = now_bounds e.separator (high_of d) (right_of d) d e.right f.right_frame in
    let left = now_low (low_of c) e.separator (right_of c) c e.left f.left_frame in
    let right = now_low e.separator (high_of d) (right_of d) d e.right f.right_frame in
    let above = f.above in
    let sep : end_of e.separator ≡ e.separator = end_is e.separator (omega (arith, above)) in
    let all : (j : ℕ) → map_of (pairs_of e.left ++ pairs_of e.right) j ≡ map_of (pairs_of c ++ pairs_of d) j = λ j. ap (λ xs. map_of xs j) f.pairs in
    record {
      left_level = l.level;
      left_low = l.low ∙ sym k.left_low;
      left_end = l.end ∙ sep;
      left_right = l.right ∙ sym k.left_right;
      right_level = r.level;
      right_low = r.low;
      right_end = r.end ∙ sym k.right_end;
      right_right = r.right ∙ sym k.right_right;
      below = (let wide = r.wide in let low = r.low in let end = r.end in let own = k.right_end in omega (arith, wide, low, end, own));
      above = (let low = k.left_low in omega (arith, above, low));
      left_look = λ j lt. look_of e.left j ∙ (sym (append_below (low_of e.right) (high_of e.right) j (pairs_of e.left) (pairs_of e.right) (cover_of e.right) (let low = right.0 in omega (arith, lt, low))) ∙ all j);
      right_look = λ j le. look_of e.right j ∙ (sym (append_above (low_of e.left) (high_of e.left) j (pairs_of e.left) (pairs_of e.right) (cover_of e.left) (let high : end_of (high_of e.left) ≡ e.separator = ap end_of left.1 ∙ sep in omega (arith, le, high))) ∙ all j);
    }

-- Pairs have moved to the left.
pub evened_left : (c d : Page) (e : Evened) (y : ℕ) → AreNeighbours c d → IsEvened c d e → (node_of d).shape.low < e.separator → (node_of c).shape.right ≡ y → IsLeftGain y (node_of c) (node_of d) (node_of e.left) × IsRightLoss (node_of e.left) (node_of d) (node_of e.right)
evened_left c d e y n f moved linked =
    let k = meets c d n in
    let s = shares c d e n f in
    let end = s.left_end in
    let below = s.below in (
      record {
        level = s.left_level;
        low = s.left_low;
        above = omega (arith, moved, end);
        below = omega (arith, below, end);
        right = s.left_right ∙ linked;
        look = λ j lt. s.left_look j (omega (arith, lt, moved)) ∙ both_below c d k j lt;
        right_look = λ j le lt. s.left_look j (omega (arith, lt, end)) ∙ both_above c d k j le;
      },
      record {
        level = s.right_level;
        low = s.right_low ∙ sym s.left_end;
        end = s.right_end;
        right = s.right_right;
        look = λ j le. s.right_look j (omega (arith, le, end)) ∙ both_above c d k j (omega (arith, le, end, moved));
      },
    )

-- Pairs have moved to the right.
pub evened_right : (c d : Page) (e : Evened) (y : ℕ) → AreNeighbours c d → IsEvened c d e → e.separator < (node_of d).shape.low → (node_of c).shape.right ≡ y → IsRightGain (node_of c) (node_of d) (node_of e.right) × IsLeftLoss y (node_of c) (node_of e.right) (node_of e.left)
evened_right c d e y n f moved linked =
    let k = meets c d n in
    let s = shares c d e n f in
    let low = s.right_low in
    let above = s.above in (
      record {
        level = s.right_level;
        above = omega (arith, above, low);
        below = omega (arith, moved, low);
        end = s.right_end;
        right = s.right_right;
        look = λ j le lt. s.right_look j (omega (arith, le, low)) ∙ both_below c d k j lt;
        right_look = λ j le. s.right_look j (omega (arith, le, moved)) ∙ both_above c d k j le;
      },
      record {
        level = s.left_level;
        low = s.left_low;
        end = s.left_end ∙ sym s.right_low;
        right = s.left_right ∙ linked;
        look = λ j lt. s.left_look j (omega (arith, lt, low)) ∙ both_below c d k j (omega (arith, lt, low, moved));
      },
    )
