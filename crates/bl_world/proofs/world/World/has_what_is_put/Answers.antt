use Rattle.bl_world.specs.Views.{view_of}
use Rattle.bl_world.proofs.Putting.{turn_puts_within}
use Rattle.bl_world.proofs.world.World.has_what_is_put.Goals as goal

pub returns : goal.returns
returns c = rw (← c.self.view_is) (λ turn after event x. turn_puts_within (view_of c.self.inside.lists) after turn event x c.self.invariant.0)
