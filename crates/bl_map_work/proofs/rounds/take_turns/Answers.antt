use Rattle.std.proofs.Common.{subst₂}
use Rattle.bl_map_work.specs.Rounds.{HasTurn}
use Rattle.bl_map_work.proofs.Turns.{zip_of_each}
use Rattle.bl_map_work.proofs.rounds.take_turns.Goals as goal

pub returns : goal.returns
returns g c = zip_of_each (HasTurn g.J.Job.Does c.args.may_grow) c.args.workers.now c.for_each_mut.new.s c.for_each_mut.auto.s
    (λ i d low. let turn = (c.for_each_mut.ensures i d low).1 in subst₂ (HasTurn g.J.Job.Does c.args.may_grow) turn.argument_is turn.left turn.call)
