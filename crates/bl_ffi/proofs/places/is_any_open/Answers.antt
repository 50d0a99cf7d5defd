use Rattle.std.proofs.Common.{◌≡◌, ◌<◌, length, sym, ap, ◌∙◌, arith}
use mathlib.Core.Option.{some}
use lib.ListN.{get_elem?}
use Rattle.bl_index.proofs.Gathered.{item_at}
use Rattle.bl_ffi_seats.proofs.Closings.{set_length}
use Rattle.bl_ffi.proofs.Placing.{seat_in, seats_kept, one_open, closed_next, all_closed}
use Rattle.bl_ffi.proofs.places.is_any_open.Goals as goal

pub loop-number-preserved : goal.loop-number-preserved
loop-number-preserved c =
    let inv = c.loop-number.invariant in let places = c.loop-number.places in let i = c.loop-number.number in let was = c.index-places-number.result in
    let old = c.args.places.now in let long = inv.long in
    let low : i < length old = omega (arith, c.loop-number-test.true) in
    let lt : i < length places = omega (arith, low, long) in
    let at : get_elem? places i ≡ some was = item_at places i was lt c.index-places-number.is in
    record {
      long = set_length places i c.is_open.new.place ∙ long;
      kept = seats_kept places i was c.is_open.new.place at (c.is_open.ensures.left ∙ sym (ap seat_in c.index-places-number.is)) ∙ inv.kept;
      so_far = closed_next old places i was at (ap seat_in c.index-places-number.is ∙ c.if-is_open.ensures.told) inv.kept inv.so_far;
    }

pub returns-then-is_open-clause-left : goal.returns-then-is_open-clause-left
returns-then-is_open-clause-left c =
    let places = c.loop-number.places in let i = c.loop-number.number in let was = c.index-places-number.result in
    let long = c.loop-number.invariant.long in
    let lt : i < length places = omega (arith, c.loop-number-test.true, long) in
    seats_kept places i was c.is_open.new.place (item_at places i was lt c.index-places-number.is) (c.is_open.ensures.left ∙ sym (ap seat_in c.index-places-number.is)) ∙ c.loop-number.invariant.kept

pub returns-then-is_open-clause-told : goal.returns-then-is_open-clause-told
returns-then-is_open-clause-told c =
    let places = c.loop-number.places in let i = c.loop-number.number in let was = c.index-places-number.result in
    let long = c.loop-number.invariant.long in
    let lt : i < length places = omega (arith, c.loop-number-test.true, long) in
    let has = c.if-is_open.ensures.told in
    one_open c.args.places.now places i was (item_at places i was lt c.index-places-number.is) (has.0, ap seat_in c.index-places-number.is ∙ has.1) c.loop-number.invariant.kept

pub returns-clause-told : goal.returns-clause-told
returns-clause-told c = let past = c.loop-number-test.false in let low = c.loop-number.auto.number-end in all_closed c.args.places.now c.loop-number.number (omega (arith, past, low)) c.loop-number.invariant.so_far
