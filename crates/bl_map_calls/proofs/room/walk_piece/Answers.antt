use Rattle.bl_map_calls.specs.Follows.{NothingDone}
use Rattle.bl_map_calls.proofs.room.walk_piece.Goals as goal

pub returns-then-has_none-clause-readies : goal.returns-then-has_none-clause-readies
returns-then-has_none-clause-readies g c = NothingDone
