use Rattle.std.proofs.Common.{◌≡◌, ◌∙◌, ◌<◌, All, length, refl, sym, ap, subst, arith}
use Rattle.std.proofs.lemmas.Grind.{common_steps}
use Rattle.std.proofs.lemmas.List.Elements.{All-push}
use Rattle.bl_map.proofs.Handed.{first_taken, left_own}
use Rattle.bl_map_work.specs.declared.rounds.Worker.{Worker}
use Rattle.bl_map_work.specs.Rounds.{IsFresh, seats_of, tasks_of}
use Rattle.bl_map_work.proofs.Turns.{none_left, seats_moved, tasks_moved}
use Rattle.bl_map_work.proofs.rounds.seated.Goals as goal

pub loop-seats-preserved : goal.loop-seats-preserved
loop-seats-preserved g c =
    let inv = c.loop-seats.invariant in
    let l = c.loop-seats.seats.ok in
    let some : 0 < length c.loop-seats.seats.items = omega (arith, l) in
    let seat = first_taken c.loop-seats.seats.items c.remove.new.self.items c.remove.result some c.remove.ensures.value c.remove.ensures.by_index.2 in
    let task = first_taken c.loop-seats.tasks.items c.remove-task.new.self.items c.remove-task.result (omega (arith, inv.pairs, some)) c.remove-task.ensures.value c.remove-task.ensures.by_index.2 in
    let worker : Worker g.row.J.Denot = record { handle = c.handle-handle.result; task = c.remove-task.result } in
    let is = c.push_reserved.ensures.items in
    record {
      own = (left_own c.args.map.now.index c.loop-seats.seats.items c.remove.new.self.items c.remove.result seat inv.own).1;
      pairs = omega (arith, inv.pairs, ap length seat, ap length task);
      fresh = subst (All (IsFresh c.args.map.now)) (sym is) (All-push (IsFresh c.args.map.now) c.loop-seats.workers.items worker inv.fresh (c.handle-handle.ensures.0, refl, c.handle-handle.ensures.2));
      seats_are = seats_moved c.loop-seats.workers.items c.push_reserved.new.self.items c.loop-seats.seats.items c.remove.new.self.items c.args.seats.now.items c.remove.result worker seat is c.handle-handle.ensures.1 inv.seats_are;
      tasks_are = tasks_moved c.loop-seats.workers.items c.push_reserved.new.self.items c.loop-seats.tasks.items c.remove-task.new.self.items c.args.tasks.now.items c.remove-task.result worker task is refl inv.tasks_are;
      rooms = (c.remove.ensures.capacity ∙ inv.rooms.0, c.remove-task.ensures.capacity ∙ inv.rooms.1);
      space = rw c.push_reserved.ensures.capacity (omega (arith, c.push_reserved.ensures.len, c.remove.ensures.len, inv.space));
    }

pub returns-clause-seated : goal.returns-clause-seated
returns-clause-seated g c =
    let inv = c.loop-seats.invariant in
    let none : length c.loop-seats.seats.items ≡ 0 = grind (arith, common_steps) in (
      none_left (seats_of c.loop-seats.workers.items) c.loop-seats.seats.items c.args.seats.now.items none inv.seats_are,
      none_left (tasks_of c.loop-seats.workers.items) c.loop-seats.tasks.items c.args.tasks.now.items (omega (arith, inv.pairs, none)) inv.tasks_are,
    )
