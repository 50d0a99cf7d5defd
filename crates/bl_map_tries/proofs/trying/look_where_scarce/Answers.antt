use Rattle.bl_map_tries.specs.Tries.{NoneFound}
use Rattle.bl_map_tries.proofs.trying.look_where_scarce.Goals as goal

pub returns-then-has_none-clause-mends : goal.returns-then-has_none-clause-mends
returns-then-has_none-clause-mends c = NoneFound
