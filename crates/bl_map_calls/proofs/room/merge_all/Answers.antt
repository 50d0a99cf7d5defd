use Rattle.bl_map_calls.proofs.Following.{keeps_swept}
use Rattle.bl_map_calls.proofs.room.merge_all.Goals as goal

pub returns-clause-readies : goal.returns-clause-readies
returns-clause-readies g c = keeps_swept _ _ _ _ _ _ c.merge_in_rounds.ensures.same.2 c.merge_in_rounds.ensures.readies c.wait_for.ensures.swept
