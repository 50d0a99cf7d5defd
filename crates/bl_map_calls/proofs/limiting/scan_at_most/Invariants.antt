use Rattle.bl_index.specs.Calls.{first_of, pages_of, IsSamePass, number_of, trail}
use Rattle.bl_map_calls.proofs.Limited.{HasListed}
use Rattle.bl_map_calls.proofs.limiting.scan_at_most.Given as goal

abbrev pub invariant-loop : goal.invariant-loop
invariant-loop g l = record {
  same : IsSamePass l.fn.pass l.pass;
  so_far : HasListed (first_of l.index) (pages_of l.index) (number_of l.fn.pass) l.from l.to l.most l.at l.fn.rows.items l.rows.items (trail l.fn.pass) (trail l.pass);
}
