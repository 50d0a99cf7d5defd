use Rattle.bl_index.specs.Calls.{first_of, IsSamePass, number_of, trail}
use Rattle.bl_map_calls.specs.Works.{Swept}
use Rattle.bl_map_tries.proofs.trying.release.Given as goal

abbrev pub invariant-loop-sweep : goal.invariant-loop-sweep
invariant-loop-sweep l = record {
  same : IsSamePass l.fn.pass l.pass;
  swept : Swept (first_of l.index) (number_of l.fn.pass) (trail l.fn.pass) (trail l.pass);
}
