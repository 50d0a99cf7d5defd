use Rattle.std.proofs.Common.{length, ap, arith}
use Rattle.std.proofs.lemmas.List.{length-map}
use Rattle.bl_map.specs.Handles.{seat_of}
use Rattle.bl_map.proofs.Handed.{their_seats}
use Rattle.test_map.proofs.maps.seats.given_back.Goals as goal

pub give_seats-requires : goal.give_seats-requires
give_seats-requires c =
    let e = c.in-Ok.ensures in
    let same = ap length (their_seats c.args.index.now c.args.passes.now.items c.in-Ok.handles.items e.over) in
    let long = length-map c.in-Ok.handles.items seat_of in
    let none = ap length e.taken in let room = e.room in
    let a = c.args.passes.now.ok in let b = c.in-Ok.handles.ok in let d = c.handles_over.new.seats.ok in
    omega (arith, same, long, none, room, a, b, d)
