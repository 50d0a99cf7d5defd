use Rattle.bl_index.specs.Calls.{first_of, IsSamePass, number_of, trail}
use Rattle.bl_map_calls.specs.Works.{Adds, Swept}
use Rattle.bl_map_calls.proofs.upkeep.wait_for.Given as goal

abbrev pub invariant-loop-wait : goal.invariant-loop-wait
invariant-loop-wait g l = record {
  same : IsSamePass l.fn.pass l.pass;
  adds : Adds (first_of l.index) (number_of l.fn.pass) (trail l.fn.pass) (trail l.pass);
  swept : Swept (first_of l.index) (number_of l.fn.pass) (trail l.fn.pass) (trail l.pass);
}
