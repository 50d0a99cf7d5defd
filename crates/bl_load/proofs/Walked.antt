-- The leaves of a sound image, along their chain.
use Rattle.std.proofs.Common.{◌≡◌, ◌≢◌, ℕ, ◌<◌, ◌≤◌, List, [], ◌++◌, length, true, Option, Some, refl, ap, sym, subst, ◌∙◌, append_assoc, arith}
use Rattle.std.specs.Prelude.{IfSome, IsSomeAnd}
use Rattle.std.proofs.lemmas.Bool.{false≢true}
use Rattle.bl_page.specs.declared.page.Leaf.{Leaf as LeafPage}
use Rattle.bl_page.specs.declared.page.Page.{Page}
use Rattle.bl_page.specs.declared.page.Page.TheVariants.{Anchor, Leaf, Inner}
use Rattle.bl_page.specs.Pages.{page_at}
use Rattle.bl_page.specs.Pairs.{end_of}
use Rattle.bl_check.specs.declared.span.Span.{Span}
use Rattle.bl_check.specs.Spans.{span_of, span_at, leftmost_of, levels, leftmost}
use Rattle.bl_check.specs.Rules.{AreSound, HasNext, LinkFits, Reaches, is_anchor}
use Rattle.bl_check.specs.Rules.Rule.{OneAnchor, Leftmost, Links}
use Rattle.bl_check.specs.Rules.Reaches.{Here}
use Rattle.bl_check.specs.Rows.{RowsFrom, AreRowsOf}
use Rattle.bl_check.specs.Rows.RowsFrom.{Last, Next}
use Rattle.bl_check.proofs.Reaching.{live_below, reach_next}
use Rattle.bl_load.specs.Loads.{IsLeaf, IsNoLeaf}

-- where a walk along the leaves stands, with the rows that it has met
pub record IsMet (pages : List (Option Page)) (x low : ℕ) (rows : List (ℕ × ℕ)) : Type 0 where
  pub leaf : LeafPage
  pub is_leaf : page_at pages x ≡ Some (Leaf leaf)
  pub low_is : leaf.low ≡ low
  pub reached : Reaches pages (leftmost pages 0) x
  pub rest : (more : List (ℕ × ℕ)) → RowsFrom pages x more → AreRowsOf pages (rows ++ more)

has_levels : (page : Option Page) → is_anchor page ≡ true → 0 < length (leftmost_of page)
has_levels (Some (Anchor a)) is = a.some
has_levels old is = absurd (false≢true is)

some_levels : (pages : List (Option Page)) → AreSound pages → 0 < length pages → 0 < levels pages
some_levels pages sound some = has_levels (page_at pages 0) ((sound OneAnchor 0 some).1 refl)

leaf_there : (page : Option Page) (low : ℕ) → IsSomeAnd (span_of page) (λ s. (s.level ≡ 0) × (s.low ≡ low)) → (leaf : LeafPage) × (page ≡ Some (Leaf leaf)) × (leaf.low ≡ low)
leaf_there (Some (Leaf l)) low h = (l, refl, h.1)
leaf_there (Some (Inner i)) low h = absurd (omega (arith, i.above_leaves, h.0))
leaf_there old low h = absurd h

pub met_first : (pages : List (Option Page)) (x : ℕ) → AreSound pages → 4 ≤ length pages → x ≡ leftmost pages 0 → IsMet pages x 0 []
met_first pages x sound some is =
    let stands = sound Leftmost 0 (omega arith) refl 0 (some_levels pages sound (omega arith)) in
    let there = leaf_there (page_at pages (leftmost pages 0)) 0 stands in
    subst (λ z. IsMet pages z 0 []) (sym is) (record { leaf = there.0; is_leaf = there.1; low_is = there.2; reached = Here; rest = λ more r. r })

next_of : (pages : List (Option Page)) (x : ℕ) (leaf : LeafPage) → AreSound pages → 4 ≤ length pages → page_at pages x ≡ Some (Leaf leaf) → Reaches pages (leftmost pages 0) x → leaf.right ≢ 0
    → HasNext pages (record { level = 0; low = leaf.low; high = leaf.high; right = leaf.right })
next_of pages x leaf sound some at reached linked =
    let span : span_at pages x ≡ Some (record { level = 0; low = leaf.low; high = leaf.high; right = leaf.right }) = ap span_of at in
    let fits = subst (λ (o : Option Span). IfSome o (λ s. LinkFits pages s)) span
    (sound Links x (live_below pages x (record { level = 0; low = leaf.low; high = leaf.high; right = leaf.right }) span) 0 (some_levels pages sound (omega arith), reached)) in
    fits.1 (λ none. linked (fits.0 none))

same_leaf : (page : Option Page) (l m : LeafPage) → page ≡ Some (Leaf l) → page ≡ Some (Leaf m) → l ≡ m
same_leaf page l m a b = let e : Some (Leaf l) ≡ Some (Leaf m) = sym a ∙ b in cc

pub met_next : (pages : List (Option Page)) (x low y : ℕ) (rows : List (ℕ × ℕ)) (leaf : LeafPage) → AreSound pages → 4 ≤ length pages → IsMet pages x low rows → IsLeaf leaf (page_at pages x)
    → leaf.right ≢ 0 → y ≡ leaf.right → IsMet pages y leaf.high (rows ++ leaf.rows.items)
met_next pages x low y rows leaf sound some met at linked is =
    let next = next_of pages x leaf sound some at met.reached linked in
    let there = leaf_there (page_at pages leaf.right) leaf.high next.1 in
    let here : Span = record { level = 0; low = leaf.low; high = leaf.high; right = leaf.right } in
    let at_span : span_at pages x ≡ Some here = ap span_of at in
    subst (λ z. IsMet pages z leaf.high (rows ++ leaf.rows.items)) (sym is) (record {
      leaf = there.0;
      is_leaf = there.1;
      low_is = there.2;
      reached = reach_next pages (leftmost pages 0) x leaf.right here met.reached at_span next refl;
      rest = λ more r. subst (AreRowsOf pages) (sym (append_assoc rows leaf.rows.items more)) (met.rest (leaf.rows.items ++ more) (Next leaf at linked r));
    })

below_bound : {low below : ℕ} (high : ℕ) → high ≢ 0 → below < end_of high → below ≡ low → low < high
below_bound high some wide is = grind arith

-- the next leaf begins behind this one
pub met_rises : (pages : List (Option Page)) (x low : ℕ) (rows : List (ℕ × ℕ)) (leaf : LeafPage) → AreSound pages → 4 ≤ length pages → IsMet pages x low rows → IsLeaf leaf (page_at pages x)
    → leaf.right ≢ 0 → low < leaf.high
met_rises pages x low rows leaf sound some met at linked =
    let next = next_of pages x leaf sound some at met.reached linked in
    let same = same_leaf (page_at pages x) met.leaf leaf met.is_leaf at in
    let low_here : leaf.low ≡ low = ap (λ (l : LeafPage). l.low) (sym same) ∙ met.low_is in
    below_bound leaf.high next.0 leaf.bounds low_here

pub met_last : (pages : List (Option Page)) (x low : ℕ) (rows : List (ℕ × ℕ)) (leaf : LeafPage) → IsMet pages x low rows → IsLeaf leaf (page_at pages x) → leaf.right ≡ 0 → AreRowsOf pages (rows ++ leaf.rows.items)
met_last pages x low rows leaf met at last = met.rest leaf.rows.items (Last leaf at last)

pub met_leaf : (pages : List (Option Page)) (x low : ℕ) (rows : List (ℕ × ℕ)) → IsMet pages x low rows → ¬ IsNoLeaf (page_at pages x)
met_leaf pages x low rows met none = none met.leaf met.is_leaf
