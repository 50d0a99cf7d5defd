use Rattle.std.proofs.Common.{All, sym, subst}
use Rattle.std.proofs.lemmas.List.Elements.{All-push, All-pop}
use Rattle.bl_map.specs.Maps.{IsSeatOf}
use Rattle.bench_map.specs.Workers.{IsOf}
use Rattle.bench_map.proofs.record.seated.Goals as goal

-- a seat of the map gives a worker of it
pub loop-seat-preserved : goal.loop-seat-preserved
loop-seat-preserved c =
    let inv = c.loop-seat.invariant in
    let popped = All-pop (IsSeatOf c.args.map.now) c.loop-seat.seats.items c.pop.new.self.items c.pop.result c.pop.ensures.items inv.seats in
    record {
      seats = popped.0;
      workers = subst (All (IsOf c.args.map.now)) (sym c.in_ok-push.ensures.items) (All-push (IsOf c.args.map.now) c.loop-seat.workers.items _ inv.workers c.handle.ensures.0);
    }
