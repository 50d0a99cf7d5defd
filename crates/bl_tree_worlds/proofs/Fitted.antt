-- Pages that were rearranged, as the moves of the tree want them.
use Rattle.std.proofs.Common.{ℕ, ◌≡◌, ◌≢◌, ◌<◌, Some, None, arith, ap, sym, ◌∙◌, refl}
use Rattle.bl_model.specs.Map.{with_pair, without_key}
use Rattle.bl_model.specs.Rows.{map_of}
use Rattle.bl_page.specs.declared.page.Page.{Page}
use Rattle.bl_page.specs.declared.page.Page.TheVariants.{Anchor, Leaf, Inner, Dead}
use Rattle.bl_page.specs.Pairs.{end_of}
use Rattle.bl_rearrange.specs.declared.fitted.Fitted.TheVariants.{Fits, Split}
use Rattle.bl_rearrange.specs.Rearranged.{pairs_of, IsNow, low_of, high_of, right_of, KeepsFrame, IsWithout, IsWithValue, IsFitted}
use Rattle.bl_page.specs.Nodes.{Covers, node_of}
use Rattle.bl_tree.specs.Moves.{IsRow, IsCut}

-- with the pairs, a page's shape and its pairs
pub frame_shape : (old new : Page) → KeepsFrame old new → (node_of new).shape ≡ (node_of old).shape
frame_shape (Leaf a) (Leaf b) e = λ i. record { level = 0; low = e.0 i; end = end_of (e.1 i); right = e.2 i }
frame_shape (Inner a) (Inner b) e = λ i. record { level = e.0 i; low = e.1 i; end = end_of (e.2 i); right = e.3 i }
frame_shape (Anchor a) new e = absurd e
frame_shape (Dead a) new e = absurd e
frame_shape (Leaf a) (Anchor b) e = absurd e
frame_shape (Leaf a) (Inner b) e = absurd e
frame_shape (Leaf a) (Dead b) e = absurd e
frame_shape (Inner a) (Anchor b) e = absurd e
frame_shape (Inner a) (Leaf b) e = absurd e
frame_shape (Inner a) (Dead b) e = absurd e

pub look_of : (p : Page) → (k : ℕ) → (node_of p).look k ≡ map_of (pairs_of p) k
look_of (Anchor a) k = refl
look_of (Leaf a) k = refl
look_of (Inner a) k = refl
look_of (Dead a) k = refl

pub fits_row : (page new : Page) (key word new_page : ℕ) → IsFitted page key word new_page (Fits new) → Covers (node_of page).shape key → IsRow key (Some word) (node_of page) (node_of new)
fits_row page new key word new_page f c = record {
  covered = c;
  shape = frame_shape page new f.1;
  here = look_of new key ∙ (f.2 key ∙ grind arith);
  rest = λ j n. look_of new j ∙ (f.2 j ∙ ((let e : with_pair (map_of (pairs_of page)) key word j ≡ map_of (pairs_of page) j = grind arith in e) ∙ sym (look_of page j)));
}

pub without_row : (page new : Page) (key : ℕ) → IsWithout page key new → Covers (node_of page).shape key → IsRow key None (node_of page) (node_of new)
without_row page new key f c = record {
  covered = c;
  shape = frame_shape page new f.frame;
  here = look_of new key ∙ (f.pairs key ∙ grind arith);
  rest = λ j n. look_of new j ∙ (f.pairs j ∙ ((let e : without_key (map_of (pairs_of page)) key j ≡ map_of (pairs_of page) j = grind arith in e) ∙ sym (look_of page j)));
}

pub value_row : (page new : Page) (key value : ℕ) → IsWithValue page key value new → Covers (node_of page).shape key → IsRow key (Some value) (node_of page) (node_of new)
value_row page new key value f c = record {
  covered = c;
  shape = frame_shape page new f.frame;
  here = look_of new key ∙ (f.pairs key ∙ grind arith);
  rest = λ j n. look_of new j ∙ (f.pairs j ∙ ((let e : with_pair (map_of (pairs_of page)) key value j ≡ map_of (pairs_of page) j = grind arith in e) ∙ sym (look_of page j)));
}

-- the bounds of a page of the tree
pub record HasBounds (from high link : ℕ) (old new : Page) : Type 0 where
  pub level : (node_of new).shape.level ≡ (node_of old).shape.level
  pub low : (node_of new).shape.low ≡ from
  pub end : (node_of new).shape.end ≡ end_of high
  pub right : (node_of new).shape.right ≡ link
  pub wide : (node_of new).shape.low < (node_of new).shape.end

pub now_bounds : (low high right : ℕ) (old new : Page) → IsNow low high right old new → HasBounds low high right old new
now_bounds low high right (Leaf a) (Leaf b) e = record { level = refl; low = e.0; end = ap end_of e.1; right = e.2; wide = b.bounds }
now_bounds low high right (Inner a) (Inner b) e = record { level = e.0; low = e.1; end = ap end_of e.2; right = e.3; wide = b.bounds }
now_bounds low high right (Anchor a) new e = absurd e
now_bounds low high right (Dead a) new e = absurd e
now_bounds low high right (Leaf a) (Anchor b) e = absurd e
now_bounds low high right (Leaf a) (Inner b) e = absurd e
now_bounds low high right (Leaf a) (Dead b) e = absurd e
now_bounds low high right (Inner a) (Anchor b) e = absurd e
now_bounds low high right (Inner a) (Leaf b) e = absurd e
now_bounds low high right (Inner a) (Dead b) e = absurd e

-- a page of the tree has its own bounds
pub own_bounds : (page : Page) (low high right : ℕ) (new : Page) → IsNow low high right page new → ((node_of page).shape.low ≡ low_of page) × ((node_of page).shape.end ≡ end_of (high_of page)) × ((node_of page).shape.right ≡ right_of page)
own_bounds (Anchor a) low high right new e = absurd e
own_bounds (Leaf a) low high right new e = (refl, refl, refl)
own_bounds (Inner a) low high right new e = (refl, refl, refl)
own_bounds (Dead a) low high right new e = absurd e

pub end_is : (high : ℕ) → 0 < high → end_of high ≡ high
end_is high h = grind arith

pub split_cut : (page left right : Page) (key word new_page separator : ℕ) → IsFitted page key word new_page (Split left right separator) → Covers (node_of page).shape key → IsCut new_page key (Some word) (node_of page) (node_of left) (node_of right)
split_cut page left right key word new_page separator f c =
    let above = f.8 in
    let l = now_bounds (low_of page) separator new_page page left f.3 in
    let r = now_bounds separator (high_of page) (right_of page) page right f.4 in
    let o = own_bounds page (low_of page) separator new_page left f.3 in
    let sep : end_of separator ≡ separator = end_is separator (omega arith) in
    let kept : (j : ℕ) → j ≢ key → with_pair (map_of (pairs_of page)) key word j ≡ (node_of page).look j = λ j n. (let e : with_pair (map_of (pairs_of page)) key word j ≡ map_of (pairs_of page) j = grind arith in e) ∙ sym (look_of page j) in
    let new : with_pair (map_of (pairs_of page)) key word key ≡ Some word = grind arith in
    record {
      covered = c;
      above = omega (arith, r.low, o.0);
      below = omega (arith, r.wide, r.end, o.1);
      level = l.level;
      low = l.low ∙ sym o.0;
      end = l.end ∙ (sep ∙ sym r.low);
      right = l.right;
      right_level = r.level;
      right_end = r.end ∙ sym o.1;
      right_right = r.right ∙ sym o.2;
      look = λ j h n. look_of left j ∙ (f.6 j (omega (arith, r.low)) ∙ kept j n);
      right_look = λ j h n. look_of right j ∙ (f.7 j (omega (arith, r.low)) ∙ kept j n);
      here = λ h. look_of left key ∙ (f.6 key (omega (arith, r.low)) ∙ new);
      right_here = λ h. look_of right key ∙ (f.7 key (omega (arith, r.low)) ∙ new);
    }
