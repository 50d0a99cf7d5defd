use Rattle.std.proofs.Common.{ℕ, ◌≡◌, ◌+◌, ◌≤◌, length, vec_capacity}
use mathlib.Core.Option.{some}
use lib.ListN.{get_elem?}
use Rattle.bl_store.specs.declared.store.Hand.{Hand}
use Rattle.bl_index_rule.specs.declared.known.PassState.{PassState}
use Rattle.bl_index.specs.declared.index.Pass.{Pass}
use Rattle.bl_index.specs.Closed.{IsHandOf, IsAmong}
use Rattle.bl_index.proofs.closing.hands_of.Given as goal

abbrev pub invariant-loop-pass : goal.invariant-loop-pass
invariant-loop-pass l = record {
  room : length l.room.items + length l.passes.items ≤ vec_capacity l.room;
  only : (k : ℕ) (hand : Hand PassState) → get_elem? l.room.items k ≡ some hand → IsHandOf l.fn.passes.items hand;
  there : (k : ℕ) (pass : Pass) → get_elem? l.passes.items k ≡ some pass → get_elem? l.fn.passes.items k ≡ some pass;
  taken : (k : ℕ) (pass : Pass) → length l.passes.items ≤ k → get_elem? l.fn.passes.items k ≡ some pass → IsAmong l.room.items pass.hand;
}

abbrev pub decreases-loop-pass : goal.decreases-loop-pass
decreases-loop-pass l = goal.left-loop-pass l
