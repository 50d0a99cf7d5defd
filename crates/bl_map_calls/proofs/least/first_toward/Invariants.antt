use Rattle.std.proofs.Common.{Some, None, []}
use Rattle.bl_index.specs.Calls.{first_of, pages_of, IsSamePass, number_of, trail}
use Rattle.bl_index_read.specs.LeafRows.{IsFrom}
use Rattle.bl_map_calls.proofs.Scanning.{HasSearched}
use Rattle.bl_map_calls.proofs.least.first_toward.Given as goal

abbrev pub invariant-loop : goal.invariant-loop
invariant-loop g l = record {
  same : IsSamePass l.fn.pass l.pass;
  on_way : IsFrom l.direction l.from l.at;
  so_far : HasSearched (first_of l.index) (pages_of l.index) (number_of l.fn.pass) l.direction l.from None (Some l.at) [] (trail l.fn.pass) (trail l.pass);
}
