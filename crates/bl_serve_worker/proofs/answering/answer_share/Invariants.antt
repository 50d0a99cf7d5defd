use Rattle.std.proofs.Common.{◌≤◌, ◌-◌, suc, length, take}
use Rattle.bl_serve_lines.specs.Dealt.{dealt, numbers}
use Rattle.bl_map.specs.Handles.{IsSameHandle, first_map_of, pages_of_map, number_of_seat, seen_by}
use Rattle.bl_serve_worker.specs.Answering.{AnswersLines}
use Rattle.bl_serve_worker.specs.Noting.{Notes}
use Rattle.bl_serve_worker.proofs.answering.answer_share.Given as goal

abbrev pub invariant-lines : goal.invariant-lines
invariant-lines g l = record {
  low : l.from ≤ length l.chunk.deals.now;
  same : IsSameHandle l.fn.handle l.handle;
  so_far : AnswersLines (first_map_of l.fn.handle) (pages_of_map l.fn.handle) (number_of_seat l.fn.handle) (dealt l.share (take l.from l.chunk.deals.now) (numbers (suc l.chunk.before) (length l.chunk.lines.now)))
      (dealt l.share (take l.from l.chunk.deals.now) l.chunk.lines.now) l.text.items l.lengths.items (seen_by l.fn.handle) (seen_by l.handle);
  noted : Notes l.fn.handle l.fn.aside l.handle l.aside;
}

abbrev pub decreases-lines : goal.decreases-lines
decreases-lines g l = length l.chunk.deals.now - l.from
