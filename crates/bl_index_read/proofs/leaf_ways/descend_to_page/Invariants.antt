use Rattle.std.proofs.Common.{ℕ, ◌+◌}
use Rattle.bl_store.specs.Hands.{known, IsRunning, IsSameHand, IsSameStock}
use Rattle.bl_index_rule.specs.declared.known.PassState.{PassState}
use Rattle.bl_index_events.specs.Runs.{IsOn, IsSince}
use Rattle.bl_index_read.specs.Turns.{IsAtTurn}
use Rattle.bl_index_read.specs.LeafWays.{going}
use Rattle.bl_index_read.specs.Keeping.{KeepsStill}
use Rattle.bl_index_read.proofs.leaf_ways.descend_to_page.Given as goal

abbrev pub invariant-loop-got : goal.invariant-loop-got
invariant-loop-got l = record {
  same : IsSameHand l.fn.hand.seat l.hand.seat × IsSameStock l.fn.hand.seat l.hand.seat;
  running : IsRunning l.hand.seat;
  process : IsOn l.tree.store.layout (known l.hand.seat) (going l.sought l.key l.way);
  still : KeepsStill l.fn.hand.seat l.hand.seat;
  since : (old : PassState) (pass : ℕ) → IsSince pass old (known l.fn.hand.seat) → IsSince pass old (known l.hand.seat);
  turn : (old : PassState) (pass got : ℕ) → IsSince pass old (known l.fn.hand.seat) → IsAtTurn l.tree.store.layout.pages pass (old.number + 1) got (known l.fn.hand.seat).trail
      → IsAtTurn l.tree.store.layout.pages pass (old.number + 1) (got + l._got) (known l.hand.seat).trail;
}
