use Rattle.std.proofs.Common.{◌≡◌, length, inr, arith}
use Rattle.bl_ffi_seats.specs.Closed.{values}
use Rattle.bl_ffi_seats.proofs.Closings.{map_length}
use Rattle.bl_ffi.specs.Places.{seats_in}
use Rattle.bl_ffi.proofs.Placing.{seat_in, taken_whole, no_more, at_one_map, value_length}
use Rattle.bl_ffi.proofs.ClosedTo.{closes_kept}
use Rattle.bl_ffi.proofs.together.blink_try_close_image.Goals as goal

pub close_boxes-requires-clause-one : goal.close_boxes-requires-clause-one
close_boxes-requires-clause-one c =
    let boxes = c.take_all-boxes.result in let seats = values boxes.items in let old = seats_in c.args.seats.now in let mid = seats_in c.take_all-boxes.new.places in
    let t = c.take_all-boxes.ensures in
    let all : length seats ≡ length old =
    (let few = no_more old mid seats t in let many = c.if-len-seats.false in let l = c.len.ensures in let ok = boxes.ok in let v = value_length boxes.items in
    let same = c.take_all-boxes.auto.places in let m = map_length seat_in c.args.seats.now in omega (arith, few, many, l, ok, v, same, m)) in
    at_one_map old seats (taken_whole old mid seats all t).0 c.requires

pub returns : goal.returns
returns c =
    let boxes = c.take_all-boxes.result in let seats = values boxes.items in let old = seats_in c.args.seats.now in let mid = seats_in c.take_all-boxes.new.places in
    let t = c.take_all-boxes.ensures in
    let all : length seats ≡ length old =
    (let few = no_more old mid seats t in let many = c.if-len-seats.false in let l = c.len.ensures in let ok = boxes.ok in let v = value_length boxes.items in
    let same = c.take_all-boxes.auto.places in let m = map_length seat_in c.args.seats.now in omega (arith, few, many, l, ok, v, same, m)) in
    inr (inr (seats, (taken_whole old mid seats all t).0, closes_kept seats (seats_in c.close_boxes.new.places) c.args.bytes.now c.close_boxes.new.bytes c.close_boxes.new.long c.close_boxes.result c.close_boxes.ensures))
