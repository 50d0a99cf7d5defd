use Rattle.std.proofs.Common.{rules, ◌<◌, length}
use Rattle.bl_ffi_seats.proofs.Made.{first_taken}
use Rattle.bl_ffi.proofs.Placing.{boxed_next}
use Rattle.bl_ffi.proofs.opening.boxed.Goals as goal

pub loop-alloc-preserved : goal.loop-alloc-preserved
loop-alloc-preserved c =
    let rest = c.loop-alloc.seats.items in let left = c.remove.new.self.items in let seat = c.remove.result in
    let l = c.loop-alloc.seats.ok in
    let some_left : 0 < length rest = search rules in
    let next = first_taken rest left seat some_left c.remove.ensures.value c.remove.ensures.by_index.2 in
    record { so_far = boxed_next c.args.seats.items rest left seat c.loop-alloc.boxes.items c.push.new.self.items c.in-Ok.seat next c.in-Ok.ensures.ok c.in_ok-push-in-Ok.ensures.items c.loop-alloc.invariant.so_far }
