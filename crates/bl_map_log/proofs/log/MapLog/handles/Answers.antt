use Rattle.std.proofs.Common.{◌∙◌, rules, sym, subst, arith}
use Rattle.bl_map.specs.Maps.{IsNewHandle}
use Rattle.bl_map.proofs.Handed.{first_taken, left_own}
use Rattle.bl_map_log.specs.Notes.{IsNewNoting}
use Rattle.bl_map_log.proofs.Opened.{none_left, one_seated, all_seated, all_of, have_log}
use Rattle.bl_map_log.proofs.log.MapLog.handles.Goals as goal

pub loop-alloc-preserved : goal.loop-alloc-preserved
loop-alloc-preserved g c =
    let inv = c.loop-alloc.invariant in
    let l = c.loop-alloc.seats.ok in
    let next = first_taken c.loop-alloc.seats.items c.remove-seat.new.self.items c.remove-seat.result (omega (arith, l)) c.remove-seat.ensures.value c.remove-seat.ensures.by_index.2 in
    let over : IsNewNoting c.args.map.now c.remove-seat.result c.over.result = (subst (IsNewHandle c.args.map.now c.remove-seat.result) (sym c.over.ensures.handle) c.handle.ensures, c.over.ensures.cleared) in
    record {
      own = (left_own c.args.map.now.index c.loop-alloc.seats.items c.remove-seat.new.self.items c.remove-seat.result next inv.own).1;
      so_far = one_seated c.args.map.now c.args.seats.now.items c.loop-alloc.seats.items c.remove-seat.new.self.items c.remove-seat.result c.loop-alloc.handles.items c.push.new.self.items c.over.result next over c.in_ok-push.ensures.items inv.so_far;
      room = c.remove-seat.ensures.capacity ∙ inv.room;
    }

pub returns-clause-of_map : goal.returns-clause-of_map
returns-clause-of_map g c =
    let none = none_left c.loop-alloc.seats.items (search rules) in
    all_of c.args.map.now c.args.seats.now.items c.loop-alloc.handles.items (all_seated c.args.map.now c.args.seats.now.items c.loop-alloc.seats.items c.loop-alloc.handles.items none c.loop-alloc.invariant.so_far)

pub returns-clause-log : goal.returns-clause-log
returns-clause-log g c = λ m keeps new same.
    let none = none_left c.loop-alloc.seats.items (search rules) in
    have_log g.D.Device.seen g.D.Device.moment g.D.Device.leaves m c.args.map.now c.args.seats.now.items c.loop-alloc.handles.items c.args.self.now keeps new same
    (all_seated c.args.map.now c.args.seats.now.items c.loop-alloc.seats.items c.loop-alloc.handles.items none c.loop-alloc.invariant.so_far)
