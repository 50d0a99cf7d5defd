use Rattle.std.proofs.Common.{◌-◌, ◌<◌}
use Rattle.bl_serve_ground.specs.Growing.{IsDoubled}
use Rattle.bl_serve_ground.proofs.sizing.larger.Given as goal

abbrev pub invariant-doublings : goal.invariant-doublings
invariant-doublings l = IsDoubled l.fn.pages l.most l.larger × (0 < l.larger)

abbrev pub decreases-doublings : goal.decreases-doublings
decreases-doublings l = l.most - l.larger
