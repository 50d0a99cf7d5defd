-- The seats of two handles of a map are seats of it.
use Rattle.std.proofs.Common.{◌≡◌, List, [], ◌∷◌, ◌++◌, All, sym, subst}
use Rattle.std.proofs.lemmas.List.Elements.{All-nil, All-push}
use Rattle.bl_index.specs.Calls.{IsPassOf}
use Rattle.bl_index.specs.declared.index.Index.{Index}
use Rattle.bl_index.specs.declared.index.Pass.{Pass}
use Rattle.bl_map.specs.declared.handle.Handle.{Handle}
use Rattle.bl_map.specs.declared.map.Map.{Map}
use Rattle.bl_map.specs.Maps.{IsHandleOf, IsSeatOf, AreSeatsOf}

seat_is : (map : Map) (handle : Handle) (seat : Pass) → IsHandleOf map handle → seat ≡ handle.pass → IsSeatOf map seat
seat_is map handle seat of is = subst (IsSeatOf map) (sym is) (subst (λ (i : Index). IsPassOf i handle.pass) of handle.own)

pub both_seats : (map : Map) (one two : Handle) (a b : Pass) (none first all : List Pass) → IsHandleOf map one → IsHandleOf map two → a ≡ one.pass → b ≡ two.pass → none ≡ [] → first ≡ none ++ a ∷ [] → all ≡ first ++ b ∷ [] → AreSeatsOf map all
both_seats map one two a b none first all of_one of_two is_a is_b is_none is_first is_all =
    let start : All (IsSeatOf map) none = subst (All (IsSeatOf map)) (sym is_none) (All-nil (IsSeatOf map)) in
    let begun : All (IsSeatOf map) first = subst (All (IsSeatOf map)) (sym is_first) (All-push (IsSeatOf map) none a start (seat_is map one a of_one is_a)) in
    subst (All (IsSeatOf map)) (sym is_all) (All-push (IsSeatOf map) first b begun (seat_is map two b of_two is_b))
