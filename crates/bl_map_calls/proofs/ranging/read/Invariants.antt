use Rattle.std.proofs.Common.{◌≡◌, List}
use Rattle.bl_model.specs.declared.operation.Entry.{Entry}
use Rattle.bl_index.specs.Calls.{first_of, pages_of, IsSamePass, number_of, trail}
use Rattle.bl_map_calls.specs.Ranges.{SearchesParts}
use Rattle.bl_map_calls.proofs.ranging.read.Given as goal

abbrev pub invariant-loop : goal.invariant-loop
invariant-loop g l = record {
  same : IsSamePass l.fn.pass l.pass;
  kept : l.rows.items ≡ l.fn.rows.items;
  parts : List Entry;
  so_far : SearchesParts (first_of l.index) (pages_of l.index) (number_of l.fn.pass) l.from l.to parts (trail l.fn.pass) (trail l.pass);
}
