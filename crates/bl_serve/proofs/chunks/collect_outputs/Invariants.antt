use Rattle.bl_serve.proofs.Shares.{CollectsSo}
use Rattle.bl_serve.proofs.chunks.collect_outputs.Given as goal

abbrev pub invariant-loop-number : goal.invariant-loop-number
invariant-loop-number l = CollectsSo l.fn.slots.items l.slots.items l.outputs.items l.number
