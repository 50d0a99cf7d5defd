use Rattle.std.proofs.Common.{length, arith}
use Rattle.bl_world.specs.Views.{view_of}
use Rattle.bl_world.specs.Settles.{turns_to_rest}
use Rattle.bl_world.specs.Settles.Settles.{Rests}
use Rattle.bl_world.proofs.Nearing.{nears_first, nears_end, settles_on}
use Rattle.bl_world.proofs.lists.Lists.settle.Goals as goal

pub loop-done-init : goal.loop-done-init
loop-done-init c = (Rests, c.requires.world, nears_first (view_of c.args.self.now) c.requires.world c.requires.way)

pub loop-done-preserved : goal.loop-done-preserved
loop-done-preserved c =
    settles_on (view_of c.args.self.now) (view_of c.loop-done.self) (view_of c.go_on.new.self) c.loop-done.done c.in-Some.number (turns_to_rest (length c.args.self.now.pages.items) (length c.args.self.now.processes.items))
    c.loop-done.invariant c.in-Some.ensures.goes.0 c.in_ok-go_on-in-Some.ensures.ok

pub returns-clause-ends : goal.returns-clause-ends
returns-clause-ends c = λ most number g.
    nears_end (view_of c.loop-done.self) c.loop-done.done (turns_to_rest (length c.args.self.now.pages.items) (length c.args.self.now.processes.items)) c.loop-done.invariant.2 (omega (arith, most, c.loop-done-test.false))
