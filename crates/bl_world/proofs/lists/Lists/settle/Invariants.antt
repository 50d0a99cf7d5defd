use Rattle.std.specs.Prelude.{length}
use Rattle.bl_world.specs.Views.{view_of}
use Rattle.bl_world.specs.Worlds.{IsWorld}
use Rattle.bl_world.specs.Settles.{Settles, turns_to_rest}
use Rattle.bl_world.proofs.Nearing.{Nears}
use Rattle.bl_world.proofs.lists.Lists.settle.Given as goal

abbrev pub invariant-loop-done : goal.invariant-loop-done
invariant-loop-done l =
    Settles (view_of l.fn.self) l.done (view_of l.self) × IsWorld (view_of l.self)
    × Nears (view_of l.self) l.done (turns_to_rest (length l.fn.self.pages.items) (length l.fn.self.processes.items))
