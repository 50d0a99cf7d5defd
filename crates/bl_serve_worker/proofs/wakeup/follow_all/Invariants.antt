use Rattle.bl_map.specs.Handles.{IsSameHandle, HasKeptUp}
use Rattle.bl_serve_worker.proofs.wakeup.follow_all.Given as goal

abbrev pub invariant-loop : goal.invariant-loop
invariant-loop g l = record {
  same : IsSameHandle l.fn.handle l.handle;
  kept : HasKeptUp l.fn.handle l.handle;
}
