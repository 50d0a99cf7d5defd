use Rattle.std.proofs.Common.{suc}
use Rattle.bl_map.specs.Handles.{IsSameHandle, first_map_of, pages_of_map, number_of_seat, seen_by}
use Rattle.bl_serve_worker.specs.Noting.{Notes}
use Rattle.bl_serve_worker.specs.Shares.{Logs}
use Rattle.bl_serve_worker.proofs.working.serve_shares.Given as goal

abbrev pub invariant-loop : goal.invariant-loop
invariant-loop g l = record {
  same : IsSameHandle l.fn.handle l.handle;
  logs : Logs (first_map_of l.fn.handle) (pages_of_map l.fn.handle) (suc l.chunk.before) l.chunk.deals.now l.chunk.lines.now (number_of_seat l.fn.handle) (seen_by l.fn.handle) (seen_by l.handle) l.fn.log.items l.log.items;
  noted : Notes l.fn.handle l.fn.aside l.handle l.aside;
}
