use Rattle.std.proofs.Common.{ℕ, ◌≡◌, ◌<◌, Some, slice_get}
use Rattle.bl_world.specs.declared.owners.Owner.TheVariants as own
use Rattle.bl_world.specs.Views.{view_of}
use Rattle.bl_world.specs.Waits.{WaitsFor}
use Rattle.bl_world.proofs.lists.Lists.ready_holder.Given as goal

abbrev pub invariant-loop-at : goal.invariant-loop-at
invariant-loop-at l = (x number : ℕ) → x < l.at → slice_get l.self.owners.items x ≡ Some (own.Held number) → (other : ℕ) × WaitsFor (view_of l.self) number other
