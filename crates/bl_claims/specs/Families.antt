-- What a compression holds when it latches, told of its own marks.
use Rattle.std.specs.Prelude.{ℕ, ◌≡◌, ◌⊎◌, Some, List, take, slice_get}
use Rattle.bl_model.specs.declared.operation.Reply.{Reply}
use Rattle.bl_page.specs.declared.page.Page.{Page}
use Rattle.bl_page.specs.Machine.{Act}
use Rattle.bl_page.specs.Machine.Act.{Latch}
use Rattle.bl_claims.specs.Trails.{Mark, Trail}
use Rattle.bl_claims.specs.Latches.{KeepsPage}
use Rattle.bl_rearrange.specs.declared.families.Family.{Family}
use Rattle.bl_claims.specs.Squeezed.{GotParent}

-- It holds no page but the parent of that level, which covers the key, and of two children of it that stand side by side at the
-- key the left one. It has latched the parent, and got it since.
pub record HoldsFamily (level key : ℕ) (marks : Trail) : Type 0 where
  pub family : Family
  pub acts : List (Act Page Reply)
  pub at : GotParent level key marks family.at.parent family.parent (Some family) acts
  pub no_more : (y : ℕ) → KeepsPage marks y → (y ≡ family.at.parent) ⊎ (y ≡ family.at.left)

-- It holds no more than that when it latches a page.
abbrev pub LatchesBeside : ℕ → ℕ → Trail → Type 0
LatchesBeside level key marks =
    (i : ℕ) (m : Mark) (x : ℕ) → slice_get marks i ≡ Some m → m.event.act ≡ Latch x
    → ((y : ℕ) → KeepsPage (take i marks) y → ⊥) ⊎ HoldsFamily level key (take i marks)
