-- Pages with the same fields are the same.
use Rattle.std.proofs.Common.{◌≡◌, ◌<◌, ◌≤◌, ◌^◌, length}
use Rattle.std.specs.Coded.{le_prop}
use mathlib.Core.HLevel.{is_prop→PathP}
use Rattle.bl_page.specs.declared.page.Anchor.{Anchor}
use Rattle.bl_page.specs.declared.page.Leaf.{Leaf}
use Rattle.bl_page.specs.declared.page.Inner.{Inner}
use Rattle.bl_page.specs.declared.page.Dead.{Dead}
use Rattle.bl_page.specs.Pairs.{end_of, RisesFrom, RisesFrom-prop, AllWithin, AllWithin-prop, BeginsWith, BeginsWith-prop, NameChildren, NameChildren-prop, AreChildren, AreChildren-prop}

pub anchor_same : (a b : Anchor) → a.leftmost ≡ b.leftmost → a ≡ b
anchor_same a b leftmost = λ i. record {
  leftmost = leftmost i;
  some = is_prop→PathP (λ i. 0 < length (leftmost i).items) (λ i. le_prop) a.some b.some i;
  few = is_prop→PathP (λ i. length (leftmost i).items ≤ 12) (λ i. le_prop) a.few b.few i;
  pages = is_prop→PathP (λ i. AreChildren (leftmost i).items) (λ i. AreChildren-prop (leftmost i).items) a.pages b.pages i;
}

pub leaf_same : (a b : Leaf) → a.low ≡ b.low → a.high ≡ b.high → a.right ≡ b.right → a.rows ≡ b.rows → a ≡ b
leaf_same a b low high right rows = λ i. record {
  low = low i;
  high = high i;
  right = right i;
  rows = rows i;
  bounds = is_prop→PathP (λ i. low i < end_of (high i)) (λ i. le_prop) a.bounds b.bounds i;
  link = is_prop→PathP (λ i. right i < 2 ^ 32) (λ i. le_prop) a.link b.link i;
  few = is_prop→PathP (λ i. length (rows i).items ≤ 14) (λ i. le_prop) a.few b.few i;
  order = is_prop→PathP (λ i. RisesFrom 0 (rows i).items) (λ i. RisesFrom-prop 0 (rows i).items) a.order b.order i;
  cover = is_prop→PathP (λ i. AllWithin (low i) (high i) (rows i).items) (λ i. AllWithin-prop (low i) (high i) (rows i).items) a.cover b.cover i;
}

pub inner_same : (a b : Inner) → a.level ≡ b.level → a.low ≡ b.low → a.high ≡ b.high → a.right ≡ b.right → a.children ≡ b.children → a ≡ b
inner_same a b level low high right children = λ i. record {
  level = level i;
  low = low i;
  high = high i;
  right = right i;
  children = children i;
  above_leaves = is_prop→PathP (λ i. 0 < level i) (λ i. le_prop) a.above_leaves b.above_leaves i;
  below_limit = is_prop→PathP (λ i. level i < 12) (λ i. le_prop) a.below_limit b.below_limit i;
  bounds = is_prop→PathP (λ i. low i < end_of (high i)) (λ i. le_prop) a.bounds b.bounds i;
  link = is_prop→PathP (λ i. right i < 2 ^ 32) (λ i. le_prop) a.link b.link i;
  few = is_prop→PathP (λ i. length (children i).items ≤ 14) (λ i. le_prop) a.few b.few i;
  order = is_prop→PathP (λ i. RisesFrom 0 (children i).items) (λ i. RisesFrom-prop 0 (children i).items) a.order b.order i;
  cover = is_prop→PathP (λ i. AllWithin (low i) (high i) (children i).items) (λ i. AllWithin-prop (low i) (high i) (children i).items) a.cover b.cover i;
  first = is_prop→PathP (λ i. BeginsWith (low i) (children i).items) (λ i. BeginsWith-prop (low i) (children i).items) a.first b.first i;
  pages = is_prop→PathP (λ i. NameChildren (children i).items) (λ i. NameChildren-prop (children i).items) a.pages b.pages i;
}

pub dead_same : (a b : Dead) → a.level ≡ b.level → a.low ≡ b.low → a.right ≡ b.right → a ≡ b
dead_same a b level low right = λ i. record {
  level = level i;
  low = low i;
  right = right i;
  below_limit = is_prop→PathP (λ i. level i < 12) (λ i. le_prop) a.below_limit b.below_limit i;
  link = is_prop→PathP (λ i. right i < 2 ^ 32) (λ i. le_prop) a.link b.link i;
}
