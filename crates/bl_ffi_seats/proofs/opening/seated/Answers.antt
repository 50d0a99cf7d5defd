use Rattle.std.proofs.Common.{subst, arith}
use Rattle.std.specs.Arc.{arc_value}
use Rattle.bl_index.specs.declared.index.Index.{Index}
use Rattle.bl_ffi_seats.specs.Opened.{IsNewSeat}
use Rattle.bl_ffi_seats.proofs.Made.{first_taken, one_made, left_own}
use Rattle.bl_ffi_seats.proofs.opening.seated.Goals as goal

pub loop-passes-preserved : goal.loop-passes-preserved
loop-passes-preserved c =
    let inv = c.loop-passes.invariant in
    let l = c.loop-passes.passes.ok in
    let next = first_taken c.loop-passes.passes.items c.remove-pass.new.self.items c.remove-pass.result (omega (arith, l)) c.remove-pass.ensures.value c.remove-pass.ensures.by_index.2 in
    let made = subst (λ (z : Index). IsNewSeat z c.remove-pass.result c.seat_of.result) c.in_ok-index.ensures c.seat_of.ensures in
    record {
      own = (left_own (arc_value c.args.index.now) c.loop-passes.passes.items c.remove-pass.new.self.items c.remove-pass.result next inv.own).1;
      so_far = one_made (arc_value c.args.index.now) c.args.passes.items c.loop-passes.passes.items c.remove-pass.new.self.items c.remove-pass.result c.loop-passes.seats.items c.push.new.self.items c.seat_of.result next made c.in_ok-push.ensures.items inv.so_far;
    }
