-- Whose hand it is, and what was peeked at.
use Rattle.std.specs.Prelude.{◌+◌, ◌≤◌}
use Rattle.bl_layout.specs.Cells.{cell_count}
use Rattle.bl_store.specs.declared.store.Hand.{Hand}
use Rattle.bl_store.specs.declared.store.Peek.{Peek}
use Rattle.bl_store.specs.declared.store.Store.{Store}
use Rattle.bl_store.specs.Hands.{IsOf}

module _ {D R A : Type 0} where
  -- the hand is one of the store
  abbrev pub IsHandOf : Store D R A → Hand D → Type 0
  IsHandOf store hand = IsOf store.table.shared.table_id store.layout hand.seat

  -- the 32 words there are words of the store
  abbrev pub IsPeekIn : Store D R A → Peek → Type 0
  IsPeekIn store peek = peek.first + 32 ≤ cell_count store.layout
