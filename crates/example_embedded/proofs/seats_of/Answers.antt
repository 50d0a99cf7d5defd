use Rattle.example_embedded.proofs.Returned.{both_seats}
use Rattle.example_embedded.proofs.seats_of.Goals as goal

pub returns : goal.returns
returns c = both_seats c.args.map.now c.args.one c.args.two _ _ _ _ _ c.requires.0 c.requires.1 c.into_seat.ensures c.into_seat-2.ensures c.new-seats.ensures.items c.in_ok-push.ensures.items c.in_ok-push-2.ensures.items
