use Rattle.std.proofs.Common.{Some}
use Rattle.std.proofs.lemmas.List.Elements.{All-pop}
use Rattle.bl_index.specs.Calls.{IsPassOf}
use Rattle.bl_index.proofs.Taken.{all_passes}
use Rattle.test_index.proofs.stops.begun.opened.Goals as goal

pub returns-in_ok-first-in-Ok : goal.returns-in_ok-first-in-Ok
returns-in_ok-first-in-Ok c =
    let all = all_passes _ c.in-Ok.index _ c.in-Ok.ensures.ok in
    let one = All-pop (IsPassOf c.in-Ok.index) _ _ (Some c.in_ok-third-in-Ok.third) c.in_ok-third-in-Ok.ensures.items all in
    let two = All-pop (IsPassOf c.in-Ok.index) _ _ (Some c.in_ok-second-in-Ok.second) c.in_ok-second-in-Ok.ensures.items one.0 in
    let three = All-pop (IsPassOf c.in-Ok.index) _ _ (Some c.in_ok-first-in-Ok.first) c.in_ok-first-in-Ok.ensures.items two.0 in
    (three.1, two.1, one.1)
