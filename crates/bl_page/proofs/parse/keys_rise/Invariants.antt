use Rattle.std.proofs.Common.{◌↔◌, drop}
use Rattle.bl_page.specs.Pairs.{RisesFrom}
use Rattle.bl_page.proofs.parse.keys_rise.Given as goal
use Rattle.bl_page.proofs.PairsIn.{least_after}

abbrev pub invariant-loop-pair : goal.invariant-loop-pair
invariant-loop-pair l = RisesFrom 0 l.pairs ↔ RisesFrom (least_after l.last) (drop l.pair-index l.pairs)
