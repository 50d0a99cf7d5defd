use Rattle.bl_index.specs.Calls.{trail}
use Rattle.bl_map_calls.proofs.Following.{upkeep_as}
use Rattle.bl_map_calls.proofs.room.tidy.Goals as goal

pub returns-clause-tidies : goal.returns-clause-tidies
returns-clause-tidies g c = record {
  mid = trail c.try_again.new.pass;
  tried = c.try_again.ensures.tries;
  keeps_up = upkeep_as _ _ _ _ _ c.try_again.ensures.same.2 c.merge_all.ensures.readies;
}
