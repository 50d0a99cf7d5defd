-- Small pages, by the definitions: an anchor with two levels, two leaves, and the inner page that lists them.
use Rattle.std.proofs.Common.{◌≡◌, ◌==◌, ◌||◌, List, [], ◌∷◌, true, false, Option, Some, None, refl, arith}
use Rattle.bl_page.specs.declared.page.Leaf.{Leaf as LeafPage}
use Rattle.bl_page.specs.declared.page.Page.{Page}
use Rattle.bl_page.specs.declared.page.Page.TheVariants.{Anchor, Leaf, Inner}
use Rattle.bl_check.specs.Spans.{span_at, StandsAt, levels, leftmost}
use Rattle.bl_check.specs.Rules.{OnChain, ChildrenFit}
use Rattle.bl_check.specs.Rules.Reaches.{Here, Next}
use Rattle.bl_check.specs.Rows.{AreRowsOf}
use Rattle.bl_check.specs.Rows.RowsFrom.{Last as LastRows, Next as NextRows}
use Rattle.bl_check.specs.Reports.{is_thin, lists, is_unposted, count_below}

abbrev anchor : Option Page
anchor = Some (Anchor (record { leftmost = record { items = 1 ∷ 3 ∷ [] }; some = omega arith; few = omega arith; pages = ((omega arith, omega arith), ((omega arith, omega arith), tt)) }))

-- the keys below 9, and page 2 to its right
abbrev lower : LeafPage
lower = record {
  low = 0;
  high = 9;
  right = 2;
  rows = record { items = (1, 10) ∷ [] };
  bounds = omega arith;
  link = omega arith;
  few = omega arith;
  order = (omega arith, tt);
  cover = ((omega arith, omega arith), tt);
}

-- the keys from 9 on
abbrev upper : LeafPage
upper = record {
  low = 9;
  high = 0;
  right = 0;
  rows = record { items = (9, 90) ∷ [] };
  bounds = omega arith;
  link = omega arith;
  few = omega arith;
  order = (omega arith, tt);
  cover = ((omega arith, omega arith), tt);
}

abbrev left_leaf : Option Page
left_leaf = Some (Leaf lower)

abbrev right_leaf : Option Page
right_leaf = Some (Leaf upper)

abbrev parent : Option Page
parent = Some (Inner (record {
  level = 1;
  low = 0;
  high = 0;
  right = 0;
  children = record { items = (0, 1) ∷ (9, 2) ∷ [] };
  above_leaves = omega arith;
  below_limit = omega arith;
  bounds = omega arith;
  link = omega arith;
  few = omega arith;
  order = (omega arith, (omega arith, tt));
  cover = ((omega arith, omega arith), ((omega arith, omega arith), tt));
  first = refl;
  pages = ((omega arith, omega arith), ((omega arith, omega arith), tt));
}))

abbrev pages : List (Option Page)
pages = anchor ∷ left_leaf ∷ right_leaf ∷ parent ∷ None ∷ []

two_levels : levels pages ≡ 2
two_levels = refl

second_root : leftmost pages 1 ≡ 3
second_root = refl

span_of_left : span_at pages 1 ≡ Some (record { level = 0; low = 0; high = 9; right = 2 })
span_of_left = refl

-- page 4 is not in use, and there is no page 9
none_there : span_at pages 4 ≡ None
none_there = refl

none_behind : span_at pages 9 ≡ None
none_behind = refl

right_stands : StandsAt pages 2 0 9
right_stands = (refl, refl)

-- the right leaf stands on the chain of level 0, behind the left one
right_on_chain : OnChain pages 0 2
right_on_chain = (omega arith, Next (record { level = 0; low = 0; high = 9; right = 2 }) refl ((λ e. absurd (omega arith)), (refl, refl)) Here)

-- the rows of the left leaf, and then those of the right one
rows_of_both : AreRowsOf pages ((1, 10) ∷ (9, 90) ∷ [])
rows_of_both = NextRows lower refl (λ e. absurd (omega arith)) (LastRows upper refl refl)

children_fit : ChildrenFit pages parent
children_fit = ((refl, refl), ((refl, refl), tt))

-- each leaf has fewer than 7 rows; the inner page has two children but is alone on its level
leaf_thin : is_thin left_leaf ≡ true
leaf_thin = refl

parent_alone : is_thin parent ≡ false
parent_alone = refl

parent_lists : lists 2 parent ≡ true
parent_lists = refl

-- no page lists the top one, but it is the leftmost of its level
none_unposted : count_below (is_unposted pages) 5 ≡ 0
none_unposted = refl

two_below : count_below (λ x. x == 1 || x == 3) 5 ≡ 2
two_below = refl
