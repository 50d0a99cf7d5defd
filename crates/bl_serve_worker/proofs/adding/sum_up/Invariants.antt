use Rattle.bl_map.specs.Handles.{IsSameHandle}
use Rattle.bl_serve_worker.specs.Noting.{Notes}
use Rattle.bl_serve_worker.proofs.OneByOne.{Summed}
use Rattle.bl_serve_worker.proofs.adding.sum_up.Given as goal

abbrev pub invariant-loop : goal.invariant-loop
invariant-loop g l = record {
  same : IsSameHandle l.fn.handle l.handle;
  summed : Summed l.fn.handle l.handle l.key l.added l.value;
  noted : Notes l.fn.handle l.fn.aside l.handle l.aside;
}
