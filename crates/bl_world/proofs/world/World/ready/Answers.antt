use Rattle.bl_world.specs.Views.{view_of}
use Rattle.bl_world.proofs.Waiting.{all_wait_ends}
use Rattle.bl_world.proofs.world.World.ready.Goals as goal

pub returns-clause-goes : goal.returns-clause-goes
returns-clause-goes c = rw (← c.self.view_is) c.ready.ensures.goes

pub returns-clause-none : goal.returns-clause-none
returns-clause-none c = rw (← c.self.view_is) c.ready.ensures.none

pub returns-clause-ends : goal.returns-clause-ends
returns-clause-ends c = rw (← c.self.view_is) (all_wait_ends (view_of c.self.inside.lists) c.self.invariant.0)
