use Rattle.std.proofs.Common.{◌≡◌}
use Rattle.bl_claims.specs.Seeing.{IsSeen}
use Rattle.bl_store.specs.Hands.{known, IsSameHand, IsSameStock}
use Rattle.bl_index_rule.specs.declared.known.PassState.{PassState}
use Rattle.bl_index_read.specs.Parts.{StandsBehind}
use Rattle.bl_index_read.specs.declared.leaf_rows.Behind.TheVariants.{Nothing}
use Rattle.bl_index.proofs.PartByPart.{left_behind}
use Rattle.bl_index.proofs.SomeByPart.{IsListed}
use Rattle.bl_index.proofs.limiting.give_some.Given as goal

abbrev pub invariant-loop-behind : goal.invariant-loop-behind
invariant-loop-behind l = record {
  same : IsSameHand l.fn.hand.seat l.hand.seat × IsSameStock l.fn.hand.seat l.hand.seat;
  mid : PassState;
  stands : StandsBehind l.tree l.hand l.fn.hand.number l.wanted.direction l.behind l.way mid;
  first : mid.first ≡ (known l.fn.hand.seat).first;
  seen : l.behind ≡ Nothing → IsSeen mid.first mid.trail;
  so_far : IsListed (known l.fn.hand.seat).first l.tree.store.layout.pages l.fn.hand.number l.wanted.turns l.wanted.direction l.from l.wanted.to l.most l.behind l.next l.fn.rows.items l.rows.items (known l.fn.hand.seat).trail mid.trail;
}

abbrev pub decreases-loop-behind : goal.decreases-loop-behind
decreases-loop-behind l = left_behind l.wanted.direction l.behind
