use Rattle.std.proofs.Common.{All, length, ◌∙◌, sym, ap, subst}
use Rattle.bl_map.specs.Maps.{AreSeatsOf}
use Rattle.bl_map_work.specs.Rounds.{HasTurn, IsFresh, seats_of}
use Rattle.bl_map_work.proofs.Turns.{lefts_own, written_back, zip_length}
use Rattle.bl_map_work.proofs.rounds.make_round.Goals as goal

-- the seats that come back are those of fresh workers, who had turns
pub returns-clause-own : goal.returns-clause-own
returns-clause-own g c =
    let turns = c.take_turns.ensures in
    let as_many = zip_length (HasTurn g.J.Job.Does c.args.may_grow) c.as_mut_slice.result.now c.take_turns.new.workers turns in
    let fresh = subst (All (IsFresh c.args.map.now)) (sym c.as_mut_slice.ensures.value) c.in-Ok.ensures.fresh in
    let own = lefts_own g.J.Job.Does c.args.may_grow c.args.map.now c.as_mut_slice.result.now c.take_turns.new.workers fresh turns in
    let whole = written_back c.in-Ok.workers.items c.take_turns.new.workers c.in-Ok.workers.len (as_many ∙ ap length c.as_mut_slice.ensures.value) (sym c.as_mut_slice.ensures.len ∙ sym as_many) in
    subst (AreSeatsOf c.args.map.now) (sym c.give_back.ensures.0) (subst (λ workers. AreSeatsOf c.args.map.now (seats_of workers)) (sym whole) own)
