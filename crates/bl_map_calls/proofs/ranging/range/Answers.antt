use Rattle.std.proofs.Common.{rules, sym, ◌∙◌}
use Rattle.bl_map_calls.proofs.Looking.{below_so, not_so}
use Rattle.bl_map_calls.proofs.ranging.range.Goals as goal

pub read-requires-clause-below : goal.read-requires-clause-below
read-requires-clause-below g c = below_so _ _ (search rules)

pub returns-then-not-is_below-clause-ranged : goal.returns-then-not-is_below-clause-ranged
returns-then-not-is_below-clause-ranged g c = λ below. let never = not_so _ _ (search rules) below in absurd never

pub returns-clause-none : goal.returns-clause-none
returns-clause-none g c = λ other. let never = other (below_so _ _ (search rules)) in absurd never
