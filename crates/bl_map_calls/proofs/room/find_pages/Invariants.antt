use Rattle.bl_index.specs.Calls.{first_of, IsSamePass, number_of, trail}
use Rattle.bl_map_calls.specs.Follows.{KeptUp}
use Rattle.bl_map_calls.proofs.room.find_pages.Given as goal

abbrev pub invariant-loop-walk : goal.invariant-loop-walk
invariant-loop-walk g l = record {
  same : IsSamePass l.fn.pass l.pass;
  readies : KeptUp (first_of l.index) (number_of l.fn.pass) (trail l.fn.pass) (trail l.pass);
}
