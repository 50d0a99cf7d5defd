use Rattle.std.proofs.Common.{◌∙◌, arith}
use Rattle.bl_map.proofs.Handed.{first_taken, one_seated, left_own}
use Rattle.bl_map.proofs.seating.handles_over.Goals as goal

pub loop-seats-preserved : goal.loop-seats-preserved
loop-seats-preserved c =
    let inv = c.loop-seats.invariant in
    let l = c.loop-seats.seats.ok in
    let next = first_taken c.loop-seats.seats.items c.remove-seat.new.self.items c.remove-seat.result (omega (arith, l)) c.remove-seat.ensures.value c.remove-seat.ensures.by_index.2 in
    record {
      own = (left_own c.args.index.now c.loop-seats.seats.items c.remove-seat.new.self.items c.remove-seat.result next inv.own).1;
      so_far = one_seated c.args.index.now c.args.seats.now.items c.loop-seats.seats.items c.remove-seat.new.self.items c.remove-seat.result c.loop-seats.handles.items c.push.new.self.items c.over.result next c.over.ensures c.in_ok-push.ensures.items inv.so_far;
      room = c.remove-seat.ensures.capacity ∙ inv.room;
    }
