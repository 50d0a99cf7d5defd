use Rattle.std.proofs.Common.{arith}
use Rattle.bl_map_tries.proofs.trying.finds_pages.Goals as goal

pub returns-clause-refused : goal.returns-clause-refused
returns-clause-refused c = λ not. let before = c.look_where_scarce.ensures.refused in let now = c.is_out_of_patience.ensures not in (omega (arith, before, now.0), now.1)
