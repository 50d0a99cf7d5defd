-- A moment of the tree.
use Rattle.std.specs.Prelude.{ℕ}
use Rattle.bl_page.specs.Nodes.{Node, Roots}

-- The tree at one moment: which pages are in it, what each page says, and page 0. Pages x and y are in the middle if one process
-- holds both, y to the right of x, and is between the first put and the last of one compression of the two; y is evened if that
-- is an evening.
pub record Snapshot : Type 1 where
  pub live : ℕ → Type 0
  pub node : ℕ → Node
  pub roots : Roots
  pub middle : ℕ → ℕ → Type 0
  pub evened : ℕ → Type 0
