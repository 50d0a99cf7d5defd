use Rattle.std.proofs.Common.{ℕ, ◌<◌, List, length, get_or, ap, ◌∙◌, arith}
use Rattle.bl_ffi_seats.proofs.Closings.{set_length}
use Rattle.bl_ffi.specs.Told.{row_of}
use Rattle.bl_ffi.proofs.Listing.{list_next, same_there}
use Rattle.bl_ffi.proofs.calls.listed.Goals as goal

pub loop-number-preserved : goal.loop-number-preserved
loop-number-preserved c =
    let pairs = c.in-Rows.pairs.items in let i = c.loop-number.number in let inv = c.loop-number.invariant in let old = c.args.rows.now in
    let pair = get_or pairs i (0, 0) in
    let made = ap (λ (z : List (ℕ × ℕ)). row_of (get_or z i (0, 0))) c.deref.ensures.0 in
    let test = c.loop-number-test.true in let count = c.min-count.ensures in let value = c.len.ensures.value in
    let lt : i < length pairs = omega (arith, test, count, value) in
    let low : i < length old = omega (arith, test, count, value) in
    record {
      long = set_length c.loop-number.rows i _ ∙ inv.long;
      so_far = list_next pairs old c.loop-number.rows i pair _ lt low (same_there pairs i (0, 0) pair lt) made inv.so_far;
    }
