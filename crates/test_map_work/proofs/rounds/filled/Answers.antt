use Rattle.std.proofs.lemmas.List.Elements.{All-pop}
use Rattle.bl_map.specs.Maps.{IsSeatOf}
use Rattle.test_map_work.proofs.rounds.filled.Goals as goal

pub handle-requires : goal.handle-requires
handle-requires g c =
    let popped = All-pop (IsSeatOf c.in-Ok.map) c.in-Ok.seats.items c.pop.new.self.items c.pop.result c.pop.ensures.items c.in-Ok.ensures.seats in
    rw c.in_ok-pop.was at popped.1
