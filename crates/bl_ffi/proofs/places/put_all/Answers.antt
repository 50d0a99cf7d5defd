use Rattle.std.proofs.Common.{rules, refl, ◌≡◌, ◌<◌, length, ap, ◌∙◌, arith}
use Rattle.bl_ffi_seats.specs.Closed.{values}
use Rattle.bl_ffi_seats.proofs.Closings.{set_length}
use Rattle.bl_ffi_seats.proofs.Made.{first_taken}
use Rattle.bl_ffi.specs.Places.{seats_in}
use Rattle.bl_ffi.proofs.Placing.{none_put, put_next, all_put, value_length}
use Rattle.bl_ffi.proofs.places.put_all.Goals as goal

pub loop-number-init : goal.loop-number-init
loop-number-init c = record {
  long = refl;
  fits = (let fits = c.requires in omega (arith, fits));
  put = none_put (seats_in c.args.places.now) (values c.args.boxes.items);
}

pub loop-number-preserved : goal.loop-number-preserved
loop-number-preserved c =
    let inv = c.loop-number.invariant in let rest = c.loop-number.boxes.items in let left = c.remove-seat.new.self.items in let box = c.remove-seat.result in
    let l = c.loop-number.boxes.ok in
    let some_left : 0 < length rest = search rules in
    let next = first_taken rest left box some_left c.remove-seat.ensures.value c.remove-seat.ensures.by_index.2 in
    let long = ap length next in
    record {
      long = set_length c.loop-number.places c.loop-number.number c.put_back.new.place ∙ inv.long;
      fits = (let fits = inv.fits in omega (arith, fits, long));
      put = put_next c.args.places.now c.loop-number.places (values c.args.boxes.items) (values rest) (values left) c.loop-number.number c.put_back.new.place box.value (omega (arith, c.loop-number-test.true)) (ap values next) c.put_back.ensures inv.put;
    }

pub returns-then-is_empty : goal.returns-then-is_empty
returns-then-is_empty c =
    let l = c.loop-number.boxes.ok in let none : length c.loop-number.boxes.items ≡ 0 = search rules in
    all_put (seats_in c.args.places.now) (seats_in c.loop-number.places) c.args.boxes.items (values c.loop-number.boxes.items) c.loop-number.number (value_length c.loop-number.boxes.items ∙ none) c.loop-number.invariant.put

pub returns : goal.returns
returns c =
    let fits = c.loop-number.invariant.fits in let past = c.loop-number-test.false in
    all_put (seats_in c.args.places.now) (seats_in c.loop-number.places) c.args.boxes.items (values c.loop-number.boxes.items) c.loop-number.number (let long = value_length c.loop-number.boxes.items in omega (arith, long, fits, past)) c.loop-number.invariant.put
