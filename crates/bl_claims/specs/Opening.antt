-- What an index begins with, as the page machine sees it: nothing but an empty leaf, or the pages of an image.
use Rattle.std.specs.Prelude.{◌≡◌, ◌≢◌, ℕ, List, [], ◌∷◌, Option, None, Some}
use Rattle.bl_page.specs.declared.page.Page.{Page}
use Rattle.bl_page.specs.declared.page.Page.TheVariants.{Anchor, Leaf}
use Rattle.bl_page.specs.declared.page.Anchor.{Anchor as AnchorPage}
use Rattle.bl_page.specs.declared.page.Leaf.{Leaf as LeafPage}
use Rattle.bl_page.specs.Pages.{page_at}
use Rattle.bl_page.specs.Machine.{Name, Owner, State}
use Rattle.bl_page.specs.Machine.Owner.{Released}
use Rattle.bl_page.specs.Machine.Phase.{Waiting}
use Rattle.bl_page.specs.Nodes.{Node, Roots, node_of, roots_of}

-- Page 0 names one level, whose only page is page 1, an empty leaf; the two are open, all others released. No process has
-- begun.
pub record Opening (now : State Page) : Type 0 where
  pub anchor : (a : AnchorPage) × (now.contents 0 ≡ Anchor a) × (a.leftmost.items ≡ 1 ∷ [])
  pub leaf : (l : LeafPage) × (now.contents 1 ≡ Leaf l) × (l.low ≡ 0) × (l.high ≡ 0) × (l.right ≡ 0) × (l.rows.items ≡ [])
  pub anchor_open : now.owner 0 ≡ Owner.Open
  pub leaf_open : now.owner 1 ≡ Owner.Open
  pub others : (x : ℕ) → x ≢ 0 → x ≢ 1 → now.owner x ≡ Released
  pub waiting : (p : Name) → now.phase p ≡ Waiting

-- what a page says of the tree; a page that is not in use says nothing
abbrev pub node_in : Option Page → Node
node_in None = record { shape = record { level = 0; low = 0; end = 0; right = 0 }; look = λ k. None }
node_in (Some page) = node_of page

abbrev pub roots_in : Option Page → Roots
roots_in None = record { levels = 0; leftmost = λ l. 0 }
roots_in (Some page) = roots_of page

-- page x as the machine has it: released where it is not in use, else open, with what the image has there
abbrev pub IsStored : State Page → ℕ → Option Page → Type 0
IsStored s x None = s.owner x ≡ Owner.Released
IsStored s x (Some page) = (s.owner x ≡ Owner.Open) × (s.contents x ≡ page)

-- The machine holds the pages of an image, and no process has begun.
pub record IsOpened (pages : List (Option Page)) (s : State Page) : Type 0 where
  pub pages_are : (x : ℕ) → IsStored s x (page_at pages x)
  pub waiting : (p : Name) → s.phase p ≡ Waiting
