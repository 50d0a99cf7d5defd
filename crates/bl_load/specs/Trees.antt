-- Trees that are built level by level. Private functions cite this, and no public clause does.
use Rattle.std.specs.List.{AllByRecursion}
use Rattle.std.specs.Prelude.{◌≡◌, ◌≢◌, ◌⊎◌, ℕ, ◌+◌, ◌-◌, ◌<◌, ◌≤◌, ◌==◌, max, if◌then◌else◌, List, [], ◌∷◌, ◌++◌, length, get_or, Option, Some, None, IfSome}
use Rattle.bl_page.specs.declared.page.Page.{Page}
use Rattle.bl_page.specs.declared.page.Page.TheVariants.{Anchor, Leaf, Inner, Dead}
use Rattle.bl_page.specs.Pages.{page_at}
use Rattle.bl_page.specs.Pairs.{RisesFrom, BeginsWith, NameChildren}
use Rattle.bl_check.specs.declared.span.Span.{Span}
use Rattle.bl_check.specs.Spans.{span_of, span_at, StandsAt}
use Rattle.bl_check.specs.Rules.{LinkFits, ChildrenFit, Reaches}
use Rattle.bl_check.specs.Rows.{RowsFrom}
use Rattle.bl_load.specs.Loads.{IsFull}
use Rattle.bl_load.specs.Sizes.{pages_for, pages_above, pages_on_top}

-- so many pairs a page has on a level
abbrev pub fan_for : ℕ → ℕ → ℕ
fan_for fill level = if level == 0 then fill else max fill 2

-- the page lists these pairs
abbrev pub Lists : List (ℕ × ℕ) → Page → Type 0
Lists pairs (Anchor a) = ⊥
Lists pairs (Leaf l) = l.rows.items ≡ pairs
Lists pairs (Inner i) = i.children.items ≡ pairs
Lists pairs (Dead d) = ⊥

-- the page has that place, and these pairs
pub record IsPageAt (span : Span) (pairs : List (ℕ × ℕ)) (page : Page) : Type 0 where
  pub place : span_of (Some page) ≡ Some span
  pub lists : Lists pairs page

-- each key is below that one
abbrev pub AllBelow : ℕ → List (ℕ × ℕ) → Type 0
AllBelow high pairs = AllByRecursion (λ pair. pair.0 < high) pairs

-- a page at that place may list these pairs
pub record MayList (span : Span) (pairs : List (ℕ × ℕ)) : Type 0 where
  pub few : length pairs ≤ 14
  pub bounds : span.high ≢ 0 → span.low < span.high
  pub rising : RisesFrom span.low pairs
  pub below : span.high ≢ 0 → AllBelow span.high pairs
  pub children : 0 < span.level → BeginsWith span.low pairs × NameChildren pairs

-- live pages that are there stay as they are
abbrev pub Grown : List (Option Page) → List (Option Page) → Type 0
Grown before after = (x : ℕ) (s : Span) → span_at before x ≡ Some s → page_at after x ≡ page_at before x

-- Page x is live, its link and its children fit, it is so full, and it stands on the chain of its level: that of the level that is being
-- built begins at first, and those below have leftmost pages.
pub record IsNode (fill : ℕ) (pages : List (Option Page)) (roots : List ℕ) (level first x : ℕ) : Type 0 where
  pub span : Span
  pub live : span_at pages x ≡ Some span
  pub fits : LinkFits pages span
  pub children : ChildrenFit pages (page_at pages x)
  pub full : IsFull fill (page_at pages x)
  pub not_above : span.level ≤ level
  pub here : span.level ≡ level → Reaches pages first x
  pub below : span.level < level → Reaches pages (get_or roots span.level 0) x

-- All pages but page 0 are such, and each level below has a leftmost page.
pub record IsForest (fill : ℕ) (pages : List (Option Page)) (roots : List ℕ) (level first : ℕ) : Type 0 where
  pub some : 0 < length pages
  pub none : page_at pages 0 ≡ None
  pub nodes : (x : ℕ) → 0 < x → x < length pages → IsNode fill pages roots level first x
  pub count : length roots ≡ level
  pub stand : (l : ℕ) → l < level → StandsAt pages (get_or roots l 0) l 0

-- each pair is the least key of a page of that level, and its number
abbrev pub AreEntries : List (Option Page) → ℕ → List (ℕ × ℕ) → Type 0
AreEntries pages level pairs = AllByRecursion (λ pair. StandsAt pages pair.1 level pair.0) pairs

-- what is to be listed on a level above the leaves are entries of the level below
abbrev pub AreListed : List (Option Page) → ℕ → List (ℕ × ℕ) → Type 0
AreListed pages level pairs = 0 < level → AreEntries pages (level - 1) pairs

-- the rows from a page on, or none
abbrev pub RowsOn : List (Option Page) → ℕ → List (ℕ × ℕ) → Type 0
RowsOn pages x rows = ((x ≡ 0) × (rows ≡ [])) ⊎ ((x ≢ 0) × RowsFrom pages x rows)

-- A level that is being built, from right to left: rest is still to be listed. The last page that was built is right, and begins at high;
-- entries are the pages of this level, the rightmost first.
pub record IsBegun (fill level : ℕ) (before : List (Option Page)) (roots : List ℕ) (pairs : List (ℕ × ℕ)) (pages : List (Option Page)) (rest entries : List (ℕ × ℕ)) (high right : ℕ) : Type 0 where
  pub grown : Grown before pages
  pub forest : IsForest fill pages roots level right
  pub link : ((high ≡ 0) × (right ≡ 0)) ⊎ ((high ≢ 0) × StandsAt pages right level high)
  pub listed : AreListed before level rest
  pub built : AreEntries pages level entries
  pub listed_now : List (ℕ × ℕ)
  pub split : pairs ≡ rest ++ listed_now
  pub rows : level ≡ 0 → RowsOn pages right listed_now

-- the page links to none
abbrev pub IsUnlinked : List (Option Page) → ℕ → Type 0
IsUnlinked pages x = IfSome (span_at pages x) (λ s. s.right ≡ 0)

-- All levels were built of rows.
pub record IsTree (fill : ℕ) (rows : List (ℕ × ℕ)) (pages : List (Option Page)) (roots : List ℕ) : Type 0 where
  pub levels : ℕ
  pub some : 0 < levels
  pub forest : IsForest fill pages roots levels 0
  pub rows_are : RowsFrom pages (get_or roots 0 0) rows
  pub top : IsUnlinked pages (get_or roots (levels - 1) 0)

-- so many pages: those that were there, and then such as are not in use
pub record IsPadded (pages : List (Option Page)) (count : ℕ) (all : List (Option Page)) : Type 0 where
  pub enough : length pages ≤ count
  pub long : length all ≡ count
  pub same : (x : ℕ) → x < length pages → page_at all x ≡ page_at pages x
  pub none : (x : ℕ) → length pages ≤ x → page_at all x ≡ None

-- A level was built of pairs: its entries, by rising keys; its leftmost page is known now; of level 0 the pairs are the rows.
pub record IsLevel (fill level : ℕ) (before : List (Option Page)) (roots : List ℕ) (pairs : List (ℕ × ℕ)) (pages : List (Option Page)) (after : List ℕ) (entries : List (ℕ × ℕ)) : Type 0 where
  pub grown : Grown before pages
  pub first : ℕ
  pub leftmost : after ≡ roots ++ first ∷ []
  pub forest : IsForest fill pages after (level + 1) 0
  pub built : AreEntries pages level entries
  pub rows : level ≡ 0 → RowsFrom pages first pairs

-- The pairs are in order for a level, and there are pages for it: of so many, so many are built.
pub record IsReady (fan level built most : ℕ) (pairs : List (ℕ × ℕ)) : Type 0 where
  pub rising : RisesFrom 0 pairs
  pub begins : 0 < level → BeginsWith 0 pairs
  pub room : built + pages_for fan (length pairs) ≤ most

-- The entries of a level that was built are in order for the next one: there is one for each of its pages, and no page more was built.
pub record IsCounted (fan before after : ℕ) (pairs entries : List (ℕ × ℕ)) : Type 0 where
  pub rising : RisesFrom 0 entries
  pub begins : BeginsWith 0 entries
  pub count : length entries ≡ pages_for fan (length pairs)
  pub size : after ≡ before + pages_for fan (length pairs)

-- There are pages for so many levels above one, whose entries these are, and a page of the highest is alone.
pub record HasRoomAbove (fan levels built most count : ℕ) : Type 0 where
  pub room : built + pages_above levels fan count ≤ most
  pub one : pages_on_top levels fan count ≤ 1
