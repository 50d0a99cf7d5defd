use Rattle.bl_world.specs.Views.{view_of}
use Rattle.bl_world.proofs.Accounting.{has_account}
use Rattle.bl_world.proofs.world.World.steps.Goals as goal

pub returns-clause-account : goal.returns-clause-account
returns-clause-account c = rw (← c.self.view_is) (has_account (view_of c.self.inside.lists) c.self.invariant.0 c.self.invariant.1)
