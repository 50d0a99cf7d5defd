use Rattle.std.proofs.Common.{All, sym, subst}
use Rattle.std.proofs.lemmas.List.Elements.{All-push, All-pop}
use Rattle.bl_map.specs.Meetings.{IsSeated}
use Rattle.bl_map.specs.Maps.{IsSeatOf}
use Rattle.bench_map.specs.Workers.{IsOf}
use Rattle.bench_map.proofs.record.seats_of.Goals as goal

-- a worker of the map gives a seat of it back
pub loop-worker-preserved : goal.loop-worker-preserved
loop-worker-preserved c =
    let inv = c.loop-worker.invariant in
    let popped = All-pop (IsOf c.args.map.now) c.loop-worker.workers.items c.pop.new.self.items c.pop.result c.pop.ensures.items inv.workers in
    let of_map : IsOf c.args.map.now c.in-Some.worker = rw c.in-Some.is at popped.1 in
    let own : IsSeatOf c.args.map.now c.into_seat.result = subst (λ s. IsSeatOf c.args.map.now s) (sym c.into_seat.ensures) (subst (λ i. IsSeated i c.in-Some.worker.handle) of_map c.in-Some.worker.handle.own) in
    record {
      workers = popped.0;
      seats = subst (All (IsSeatOf c.args.map.now)) (sym c.in_ok-push.ensures.items) (All-push (IsSeatOf c.args.map.now) c.loop-worker.seats.items c.into_seat.result inv.seats own);
    }
