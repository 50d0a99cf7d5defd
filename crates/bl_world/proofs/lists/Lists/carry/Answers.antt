use Rattle.std.proofs.Common.{arith, take}
use Rattle.std.proofs.lemmas.Option.{slice_get-get_or}
use Rattle.bl_world.specs.Views.{view_of}
use Rattle.bl_world.specs.declared.turns.Turn.TheVariants as turn
use Rattle.bl_world.proofs.Outcomes.{err_of}
use Rattle.bl_world.proofs.Keeping.{runs_keep}
use Rattle.bl_world.proofs.Runs.{runs_count, runs_further, runs_into}
use Rattle.bl_world.proofs.lists.Lists.carry.Goals as goal

pub turn-requires-clause-world : goal.turn-requires-clause-world
turn-requires-clause-world c = runs_keep (view_of c.args.self.now) (view_of c.loop-turn.self) (take c.loop-turn.turn-index c.args.turns.now) c.requires.world c.loop-turn.invariant

pub turn-requires-clause-started : goal.turn-requires-clause-started
turn-requires-clause-started c =
    let i = c.loop-turn.turn-index in
    let s = c.requires.started i _ (slice_get-get_or c.args.turns.now i (turn.Step 0) (omega (arith, c.loop-turn-test.true))) in
    let e = runs_count (view_of c.args.self.now) (view_of c.loop-turn.self) (take i c.args.turns.now) c.loop-turn.invariant in
    (s.0, omega (arith, s.1, e))

pub returns-in_err-turn-clause-err : goal.returns-in_err-turn-clause-err
returns-in_err-turn-clause-err c =
    let i = c.loop-turn.turn-index in
    let e = c.in_err-turn.ensures.err in
    err_of c.from_residual.result (runs_into (view_of c.args.self.now) (view_of c.turn.new.self) c.args.turns.now i _ (slice_get-get_or c.args.turns.now i (turn.Step 0) (omega (arith, c.loop-turn-test.true))) (rw e c.loop-turn.invariant))

pub loop-turn-preserved : goal.loop-turn-preserved
loop-turn-preserved c =
    let i = c.loop-turn.turn-index in
    runs_further (view_of c.args.self.now) (view_of c.loop-turn.self) (view_of c.turn.new.self) c.args.turns.now i _ (slice_get-get_or c.args.turns.now i (turn.Step 0) (omega (arith, c.loop-turn-test.true))) c.loop-turn.invariant c.in_ok-turn.ensures.ok
