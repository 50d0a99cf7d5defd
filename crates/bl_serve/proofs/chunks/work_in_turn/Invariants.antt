use Rattle.std.proofs.Common.{suc}
use Rattle.bl_serve.proofs.Shares.{TurnsSo}
use Rattle.bl_serve.proofs.chunks.work_in_turn.Given as goal

abbrev pub invariant-loop-number : goal.invariant-loop-number
invariant-loop-number g l = TurnsSo l.chunk.service.now.keeps (suc l.chunk.before) l.chunk.deals.now l.chunk.lines.now l.fn.handles l.handles l.fn.slots l.slots l.number
