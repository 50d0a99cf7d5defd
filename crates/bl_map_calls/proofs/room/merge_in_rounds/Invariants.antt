use Rattle.bl_index.specs.Calls.{first_of, IsSamePass, number_of, trail}
use Rattle.bl_map_calls.specs.Follows.{KeptUp}
use Rattle.bl_map_calls.proofs.room.merge_in_rounds.Given as goal

abbrev pub invariant-loop-round : goal.invariant-loop-round
invariant-loop-round g l = record {
  same : IsSamePass l.fn.pass l.pass;
  readies : KeptUp (first_of l.index) (number_of l.fn.pass) (trail l.fn.pass) (trail l.pass);
}
