use Rattle.std.proofs.Common.{rules, All, Some}
use Rattle.std.proofs.lemmas.List.Elements.{All-pop}
use Rattle.bl_index.specs.Calls.{IsPassOf}
use Rattle.test_map.proofs.maps.stamps.opened.Goals as goal

pub returns : goal.returns
returns c =
    let index = c.in_ok-map.map.index in
    let all : All (IsPassOf index) c.in_ok-map.seats.items = search (c.open.ensures.seats, c.ok.ensures.value, c.in_ok-map.ensures.value, c.in_ok-map.is, rules) in
    let rest = All-pop (IsPassOf index) _ _ (Some c.in_ok-three.three) c.in_ok-three.ensures.items all in
    let next = All-pop (IsPassOf index) _ _ (Some c.in_ok-two.two) c.in_ok-two.ensures.items rest.0 in
    let last = All-pop (IsPassOf index) _ _ (Some c.in_ok-one.one) c.in_ok-one.ensures.items next.0 in
    (last.1, next.1, rest.1)
