use Rattle.std.proofs.Common.{ℕ, ◌≡◌, ◌<◌, ◌++◌, List, length, get_or, map, take, drop, refl, ap, ◌∙◌, subst, arith}
use Rattle.std.proofs.Math.Seq.{take-length}
use Rattle.bl_ffi_seats.proofs.Closings.{set_length}
use Rattle.bl_ffi.specs.declared.calls.Row.{Row}
use Rattle.bl_ffi.specs.Told.{row_of}
use Rattle.bl_ffi.proofs.Listing.{list_next, same_there}
use Rattle.bl_ffi.proofs.ranging.copied.Goals as goal

pub loop-number-preserved : goal.loop-number-preserved
loop-number-preserved c =
    let pairs = c.args.pairs.now in let i = c.loop-number.number in let inv = c.loop-number.invariant in let old = c.args.rows.now in
    let lt = c.loop-number-test.true in let enough = c.requires in
    let low : i < length old = omega (arith, lt, enough) in
    record {
      long = set_length c.loop-number.rows i _ ∙ inv.long;
      so_far = list_next pairs old c.loop-number.rows i (get_or pairs i (0, 0)) _ lt low (same_there pairs i (0, 0) (get_or pairs i (0, 0)) lt) refl inv.so_far;
    }

pub returns : goal.returns
returns c =
    let pairs = c.args.pairs.now in let old = c.args.rows.now in
    let low = c.loop-number-test.false in let high = c.loop-number.auto.number-end in
    let is : c.loop-number.number ≡ length pairs = omega (arith, low, high) in
    let so_far = subst (λ (z : ℕ). c.loop-number.rows ≡ map row_of (take z pairs) ++ drop z old) is c.loop-number.invariant.so_far in
    so_far ∙ ap (λ (z : List (ℕ × ℕ)). map row_of z ++ drop (length pairs) old) (take-length pairs)
