use Rattle.std.proofs.Common.{◌<◌, length, ap, ◌∙◌, arith}
use Rattle.std.proofs.lemmas.List.{length_push}
use Rattle.bl_index.proofs.Gathered.{item_at}
use Rattle.bl_ffi_seats.specs.Closed.{values}
use Rattle.bl_ffi_seats.proofs.Closings.{set_length}
use Rattle.bl_ffi.proofs.Placing.{seat_in, value_push, take_next, taken_all, taken_some}
use Rattle.bl_ffi.proofs.places.take_all.Goals as goal

pub loop-number-preserved : goal.loop-number-preserved
loop-number-preserved c =
    let inv = c.loop-number.invariant in let places = c.loop-number.places in let i = c.loop-number.number in let was = c.index-places-number.result in
    let old = c.args.places.now in let box = c.in-Some.seat in let long = inv.long in
    let low : i < length old = omega (arith, c.loop-number-test.true) in
    let lt : i < length places = omega (arith, low, long) in
    let boxes = c.loop-number.boxes.items in
    record {
      long = set_length places i c.taken.new.seat ∙ long;
      fits = (let fits = inv.fits in let cap = c.push_reserved.ensures.capacity in omega (arith, fits, cap));
      many = (let a = ap length c.push_reserved.ensures.items ∙ length_push boxes box in let many = inv.many in omega (arith, a, many));
      so = take_next old places (values boxes) (values c.push_reserved.new.self.items) i was c.taken.new.seat box.value low (item_at places i was lt c.index-places-number.is) (ap seat_in c.index-places-number.is ∙ c.in-Some.ensures.held)
          c.taken.ensures.left (value_push boxes c.push_reserved.new.self.items box c.push_reserved.ensures.items) inv.so;
    }

pub returns-in_default : goal.returns-in_default
returns-in_default c =
    let inv = c.loop-number.invariant in let places = c.loop-number.places in let i = c.loop-number.number in let was = c.index-places-number.result in
    let old = c.args.places.now in let long = inv.long in
    let low : i < length old = omega (arith, c.loop-number-test.true) in
    let lt : i < length places = omega (arith, low, long) in
    taken_some old places (values c.loop-number.boxes.items) i was c.taken.new.seat low (item_at places i was lt c.index-places-number.is) (ap seat_in c.index-places-number.is ∙ c.in_default.ensures.held) c.taken.ensures.left inv.so

pub returns : goal.returns
returns c = let low = c.loop-number.auto.number-end in taken_all c.args.places.now c.loop-number.places (values c.loop-number.boxes.items) c.loop-number.number (omega (arith, c.loop-number-test.false)) (omega (arith, low)) c.loop-number.invariant.so
