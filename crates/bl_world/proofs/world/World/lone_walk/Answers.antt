use Rattle.bl_world.specs.Views.{view_of}
use Rattle.bl_world.proofs.Accounting.{lone}
use Rattle.bl_world.proofs.world.World.lone_walk.Goals as goal

pub walk-requires : goal.walk-requires
walk-requires c = c.self.invariant.0

pub returns : goal.returns
returns c = rw (← c.self.view_is) (lone (view_of c.self.inside.lists) c.args.key c.walk.result.0 c.walk.result.1 c.walk.ensures c.self.invariant.1)
