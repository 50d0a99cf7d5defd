use Rattle.std.proofs.Common.{sym, ◌∙◌, ◌<◌, length, below_more, arith}
use Rattle.bl_check.proofs.Reaching.{on_its_chain, none_kept, span_here}
use Rattle.bl_check.proofs.chains.off_chain.Goals as goal
use Rattle.bl_check.proofs.chains.off_chain.Goals.{else-is_some-via-then-is_some+else-not-marks-x, else-is_some-via-else-is_some}

pub loop-x-preserved : goal.loop-x-preserved
loop-x-preserved c = let pages = c.args.pages.now in let lt : c.loop-x.x < length pages = omega arith in below_more _ _ c.loop-x.invariant (elim c.else-is_some.branch [
  | else-is_some-via-then-is_some+else-not-marks-x w ↦ on_its_chain pages c.loop-x.x c.requires.leftmost (omega arith) (c.requires.marked.only c.loop-x.x w.if-not-marks-x.false)
  | else-is_some-via-else-is_some w ↦ none_kept pages c.loop-x.x c.span_of.result (span_here pages c.loop-x.x c.index-pages-x.result c.span_of.result lt c.index-pages-x.is c.span_of.ensures.span) (sym c.is_some.ensures ∙ w.if-is_some.false)
])
