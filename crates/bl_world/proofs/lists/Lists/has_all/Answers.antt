use Rattle.std.proofs.Common.{arith, subst}
use Rattle.std.proofs.lemmas.Option.{slice_get-get_or}
use Rattle.bl_world.specs.Views.{view_of}
use Rattle.bl_world.specs.Turns.{IsStarted}
use Rattle.bl_world.specs.declared.turns.Turn.TheVariants as turn
use Rattle.bl_world.proofs.Runs.{all_further}
use Rattle.bl_world.proofs.lists.Lists.has_all.Goals as goal

pub loop-turn-preserved : goal.loop-turn-preserved
loop-turn-preserved c =
    let i = c.loop-turn.turn-index in
    all_further (view_of c.args.self.now) c.args.turns.now i _ (slice_get-get_or c.args.turns.now i (turn.Step 0) (omega (arith, c.loop-turn-test.true))) c.loop-turn.invariant (subst (IsStarted (view_of c.args.self.now)) c.number_of.ensures (c.is_started.ensures.0 c.if-not-is_started.false))
