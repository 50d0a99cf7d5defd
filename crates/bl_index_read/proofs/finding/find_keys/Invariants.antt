use Rattle.std.proofs.Common.{◌≡◌, length, take, slice_index}
use Rattle.bl_store.specs.Hands.{known, IsSameHand, IsSameStock}
use Rattle.bl_index_rule.specs.declared.known.PassState.{PassState}
use Rattle.bl_index_read.specs.declared.sought.Sought.TheVariants as sought
use Rattle.bl_index_read.specs.LeafWays.{HasSetOff}
use Rattle.bl_index_read.specs.Together.{FindsEach}
use Rattle.bl_index_read.proofs.finding.find_keys.Given as goal

abbrev pub invariant-loop-i : goal.invariant-loop-i
invariant-loop-i l = record {
  same : IsSameHand l.fn.hand.seat l.hand.seat × IsSameStock l.fn.hand.seat l.hand.seat;
  long : length l.replies ≡ length l.keys;
  mid : PassState;
  off : HasSetOff l.tree l.hand l.fn.hand.number sought.Value (slice_index l.keys l.i) l.way mid;
  first : mid.first ≡ (known l.fn.hand.seat).first;
  each : FindsEach (known l.fn.hand.seat).first l.tree.store.layout.pages l.fn.hand.number l.turns (take l.i l.keys) (take l.i l.replies) (known l.fn.hand.seat).trail mid.trail;
}
