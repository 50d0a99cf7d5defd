-- What a process knows while it compresses two children of a parent.
use Rattle.std.specs.Prelude.{◌≡◌, ◌≢◌, ◌⊎◌, ℕ, suc, ◌-◌, ◌<◌, ◌==◌, if◌then◌else◌, Option, Some, None, [], ◌∷◌}
use Rattle.bl_page.specs.declared.page.Page.{Page}
use Rattle.bl_page.specs.declared.page.Page.TheVariants.{Inner}
use Rattle.bl_page.specs.Nodes.{Covers, unbounded, node_of}
use Rattle.bl_tree.specs.Trees.Status.{Live, Left, Right, Gone}
use Rattle.bl_tree.specs.Moves.{IsRow, IsJoin, IsLeftGain, IsRightLoss, IsRightGain, IsLeftLoss, IsRelisted}
use Rattle.bl_tree_worlds.specs.Worlds.{Hold, Stage, Know}
use Rattle.bl_rearrange.specs.Rearranged.{right_of}
use Rattle.bl_rearrange.specs.declared.sides.Side.{Side}
use Rattle.bl_rearrange.specs.declared.sides.Side.TheVariants as side
use Rattle.bl_proc_steps.specs.declared.acts.Seen.{Seen}
use Rattle.bl_proc_steps.specs.declared.acts.Seen.TheVariants.{Words}
use Rattle.bl_rearrange.specs.declared.families.Siblings.{Siblings}
use Rattle.bl_rearrange.specs.declared.families.Family.{Family}
use Rattle.bl_proc_compress.specs.declared.compression.Puts.{Puts}
use Rattle.bl_answers.specs.declared.answers.Hint.{Hint}
use Rattle.bl_proc_compress.specs.declared.compression.Decision.TheVariants as decision
use Rattle.bl_proc_compress.specs.declared.compression.Compression.{Compression}
use Rattle.bl_proc_compress.specs.declared.compression.Compression.TheVariants.{LatchingLeft, LatchedLeft, LatchingRight, LatchedRight, PuttingFirst, PuttingParent, PuttingLast, Retiring, OpeningRight, OpeningLeft, OpeningParent}
use Rattle.bl_proc_compress.specs.Compressions.{IsBuried}
use Rattle.bl_proc_invariant.specs.Tables.{idle, holds_live, holds_known, goes_to}

-- the parent is of that level, and the key is one of the tree's
abbrev pub IsParent : ℕ → ℕ → Family → Type 0
IsParent level key f = (key < unbounded) × (0 < level) × (f.parent.level ≡ level)

-- A merge of the pages that were got into those that are to be put. The parent listed the right child by that key.
pub record ToMerge (got : ℕ → Page) (p : Puts) (key new : ℕ) : Type 0 where
  pub same : new ≡ key
  pub gains : p.gains ≡ side.Left
  pub hint : Option Hint
  pub decision : p.decision ≡ decision.Merged hint
  pub join : IsJoin (node_of (got p.at.left)) (node_of (got p.at.right)) (node_of p.left)
  pub row : IsRow key None (node_of (got p.at.parent)) (node_of p.parent)
  pub buried : IsBuried p.at.left (got p.at.right) p.right

-- An evening with pairs that move to the left, or to the right. The parent is to list the right child by the new key.
pub record ToEvenLeft (got : ℕ → Page) (p : Puts) (key new : ℕ) : Type 0 where
  pub gains : p.gains ≡ side.Left
  pub decision : p.decision ≡ decision.Evened
  pub gain : IsLeftGain p.at.right (node_of (got p.at.left)) (node_of (got p.at.right)) (node_of p.left)
  pub loss : IsRightLoss (node_of p.left) (node_of (got p.at.right)) (node_of p.right)
  pub relisted : IsRelisted p.at.right key new (node_of (got p.at.parent)) (node_of p.parent)
  pub new_is : new ≡ (node_of p.left).shape.end

pub record ToEvenRight (got : ℕ → Page) (p : Puts) (key new : ℕ) : Type 0 where
  pub gains : p.gains ≡ side.Right
  pub decision : p.decision ≡ decision.Evened
  pub gain : IsRightGain (node_of (got p.at.left)) (node_of (got p.at.right)) (node_of p.right)
  pub loss : IsLeftLoss p.at.right (node_of (got p.at.left)) (node_of p.right) (node_of p.left)
  pub relisted : IsRelisted p.at.right key new (node_of (got p.at.parent)) (node_of p.parent)
  pub new_is : new ≡ (node_of p.right).shape.low

-- What is to be put, of children one level below the parent, which listed the right one by that key and covers its low. The
-- left child links to the right one.
pub record IsToPut (level key : ℕ) (got : ℕ → Page) (p : Puts) (at new : ℕ) : Type 0 where
  pub small : key < unbounded
  pub parent_level : (node_of (got p.at.parent)).shape.level ≡ level
  pub level_is : suc (node_of (got p.at.right)).shape.level ≡ level
  pub left_level : suc (node_of (got p.at.left)).shape.level ≡ level
  pub bound : (node_of (got p.at.left)).shape.end < unbounded
  pub linked : (node_of (got p.at.left)).shape.right ≡ p.at.right
  pub below : (node_of (got p.at.left)).shape.low < (node_of (got p.at.right)).shape.low
  pub meets : (node_of (got p.at.left)).shape.end ≡ (node_of (got p.at.right)).shape.low
  pub covers : Covers (node_of (got p.at.parent)).shape (node_of (got p.at.right)).shape.low
  pub does : ToMerge got p at new ⊎ (ToEvenLeft got p at new ⊎ ToEvenRight got p at new)

-- the three are different pages
pub record AreThree (at : Siblings) : Type 0 where
  pub left : at.parent ≢ at.left
  pub right : at.parent ≢ at.right
  pub both : at.left ≢ at.right

abbrev pub held_as : ℕ → Option ℕ → Page → Hold
held_as x sep c = record { at = x; status = Live; sep = sep; page = Some c }

-- What the two children hold after the first put, and after none.
abbrev pub left_now : (ℕ → Page) → Puts → Side → Page
left_now got p side.Left = p.left
left_now got p side.Right = got p.at.left

abbrev pub right_now : (ℕ → Page) → Puts → Side → Page
right_now got p side.Left = got p.at.right
right_now got p side.Right = p.right

-- The key by which the parent listed the right child when it was got, and the one by which it is to list it: the low of the
-- right child as it was got, and as it is to be put.
abbrev pub key_before : (ℕ → Page) → Compression → ℕ
key_before got (LatchingLeft f) = 0
key_before got (LatchedLeft f) = 0
key_before got (LatchingRight f c) = 0
key_before got (LatchedRight f c) = 0
key_before got (PuttingFirst p) = (node_of (got p.at.right)).shape.low
key_before got (PuttingParent p) = (node_of (got p.at.right)).shape.low
key_before got (PuttingLast p) = (node_of (got p.at.right)).shape.low
key_before got (Retiring t decision) = 0
key_before got (OpeningRight t decision) = 0
key_before got (OpeningLeft t decision) = 0
key_before got (OpeningParent x decision) = 0

abbrev pub key_after : Compression → ℕ
key_after (LatchingLeft f) = 0
key_after (LatchedLeft f) = 0
key_after (LatchingRight f c) = 0
key_after (LatchedRight f c) = 0
key_after (PuttingFirst p) = (node_of p.right).shape.low
key_after (PuttingParent p) = (node_of p.right).shape.low
key_after (PuttingLast p) = (node_of p.right).shape.low
key_after (Retiring t decision) = 0
key_after (OpeningRight t decision) = 0
key_after (OpeningLeft t decision) = 0
key_after (OpeningParent x decision) = 0

-- what the three pages held when the right child, d, was got
abbrev pub got_three : Family → Page → Page → ℕ → Page
got_three f c d x = if x == f.at.parent then Inner f.parent else if x == f.at.left then c else d

-- got is what the process got of each page under its latch; at is the key by which the parent listed the right child, and new
-- the one by which it is to list it.
abbrev pub know_compression_by : ℕ → ℕ → (ℕ → Page) → ℕ → ℕ → Compression → Know
know_compression_by level key got at new (LatchingLeft f) =
    record (idle Stage.Busy) {
      holds = holds_known f.at.parent (Inner f.parent) ∷ [];
      goes = goes_to f.at.left (level - 1) (level - 1) ∷ goes_to f.at.right (level - 1) (level - 1) ∷ [];
      sound = IsParent level key f;
    }
know_compression_by level key got at new (LatchedLeft f) =
    record (idle Stage.Busy) {
      holds = holds_known f.at.parent (Inner f.parent) ∷ holds_live f.at.left ∷ [];
      goes = goes_to f.at.left (level - 1) (level - 1) ∷ goes_to f.at.right (level - 1) (level - 1) ∷ [];
      sound = IsParent level key f × (f.at.parent ≢ f.at.left);
    }
know_compression_by level key got at new (LatchingRight f c) =
    record (idle Stage.Busy) {
      holds = holds_known f.at.parent (Inner f.parent) ∷ holds_known f.at.left c ∷ [];
      goes = goes_to f.at.right (level - 1) (level - 1) ∷ [];
      sound = IsParent level key f × (f.at.parent ≢ f.at.left) × (right_of c ≡ f.at.right) × (suc (node_of c).shape.level ≡ level);
    }
know_compression_by level key got at new (LatchedRight f c) =
    record (idle Stage.Busy) {
      holds = holds_known f.at.parent (Inner f.parent) ∷ holds_known f.at.left c ∷ holds_live f.at.right ∷ [];
      goes = goes_to f.at.right (level - 1) (level - 1) ∷ [];
      sound = IsParent level key f × AreThree f.at × (right_of c ≡ f.at.right) × (suc (node_of c).shape.level ≡ level);
    }
know_compression_by level key got at new (PuttingFirst p) =
    record (idle Stage.Busy) {
      holds = holds_known p.at.parent (got p.at.parent) ∷ holds_known p.at.left (got p.at.left) ∷ held_as p.at.right (Some at) (got p.at.right) ∷ [];
      sound = IsToPut level key got p at new × AreThree p.at;
    }
know_compression_by level key got at new (PuttingParent p) = record (idle Stage.Busy) {
  holds = holds_known p.at.parent (got p.at.parent) ∷ record {
    at = p.at.left;
    status = Left p.at.right;
    sep = None;
    page = Some (left_now got p p.gains);
  } ∷ record {
    at = p.at.right;
    status = Right p.at.left;
    sep = Some at;
    page = Some (right_now got p p.gains);
  } ∷ [];
  middle = Some (record { parent = p.at.parent; left = p.at.left; right = p.at.right });
  sound = IsToPut level key got p at new × AreThree p.at;
}
know_compression_by level key got at new (PuttingLast p) = record (idle Stage.Busy) {
  holds = holds_known p.at.parent p.parent ∷ record {
    at = p.at.left;
    status = Left p.at.right;
    sep = None;
    page = Some (left_now got p p.gains);
  } ∷ record {
    at = p.at.right;
    status = Right p.at.left;
    sep = Some new;
    page = Some (right_now got p p.gains);
  } ∷ [];
  middle = Some (record { parent = p.at.parent; left = p.at.left; right = p.at.right });
  sound = IsToPut level key got p at new × AreThree p.at;
}
know_compression_by level key got at new (Retiring t decision) =
    record (idle Stage.Busy) {
      holds = holds_live t.parent ∷ holds_live t.left ∷ record { at = t.right; status = Gone; sep = None; page = None } ∷ [];
      sound = (key < unbounded) × AreThree t;
    }
know_compression_by level key got at new (OpeningRight t decision) =
    record (idle Stage.Busy) { holds = holds_live t.parent ∷ holds_live t.left ∷ holds_live t.right ∷ []; sound = (key < unbounded) × AreThree t }
know_compression_by level key got at new (OpeningLeft t decision) =
    record (idle Stage.Busy) { holds = holds_live t.parent ∷ holds_live t.left ∷ []; sound = (key < unbounded) × (t.parent ≢ t.left) }
know_compression_by level key got at new (OpeningParent x decision) = record (idle Stage.Busy) { holds = holds_live x ∷ []; sound = key < unbounded }

-- The same, with those keys; and what the process has got of the three after it was told this.
abbrev pub know_compression : ℕ → ℕ → (ℕ → Page) → Compression → Know
know_compression level key got c = know_compression_by level key got (key_before got c) (key_after c) c

abbrev pub compression_got : (ℕ → Page) → Compression → Seen → ℕ → Page
compression_got got (LatchedRight f c) (Words d) = got_three f c d
compression_got got c what = got
