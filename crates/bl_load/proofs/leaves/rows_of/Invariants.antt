use Rattle.std.proofs.Common.{◌-◌, ◌^◌}
use Rattle.bl_load.proofs.Walked.{IsMet}
use Rattle.bl_load.proofs.leaves.rows_of.Given as goal

abbrev pub invariant-leaves : goal.invariant-leaves
invariant-leaves l = IsMet l.quiet.image.pages.items l.x l.low l.rows.items

abbrev pub decreases-leaves : goal.decreases-leaves
decreases-leaves l = 2 ^ 64 - l.low
