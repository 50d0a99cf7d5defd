use Rattle.std.proofs.Common.{rules, ◌≡◌, true}
use Rattle.bl_ffi_seats.specs.Closed.{values}
use Rattle.bl_ffi_seats.proofs.Closings.{all_more}
use Rattle.bl_ffi_seats.proofs.closing.has_all.Goals as goal

pub loop-number-preserved : goal.loop-number-preserved
loop-number-preserved c = let has : c.has_seat.result ≡ true = search rules in all_more (values c.args.seats.now) c.loop-number.number (c.has_seat.ensures.yes has) c.loop-number.invariant
