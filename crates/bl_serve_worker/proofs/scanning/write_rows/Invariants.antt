use Rattle.bl_map.specs.Handles.{IsSameHandle}
use Rattle.bl_serve_worker.proofs.OneByOne.{Listed}
use Rattle.bl_serve_worker.proofs.scanning.write_rows.Given as goal

abbrev pub invariant-loop : goal.invariant-loop
invariant-loop g l = record {
  same : IsSameHandle l.fn.handle l.handle;
  listed : Listed l.fn.handle l.handle l.fn.scan l.left l.fn.text.items l.text.items;
}
