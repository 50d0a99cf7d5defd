use Rattle.std.proofs.Common.{rules}
use Rattle.bl_index_read.proofs.Orders.{from_itself}
use Rattle.bl_map_calls.proofs.Scanning.{searched_none, searched_lost}
use Rattle.bl_map_calls.proofs.Looking.{row_there, none_there, none_yet}
use Rattle.bl_map_calls.proofs.least.first_toward.Goals as goal

pub loop-init : goal.loop-init
loop-init g c = record { same = search rules; on_way = from_itself c.args.direction c.args.from; so_far = searched_none _ _ _ _ _ _ _ }

pub loop-preserved : goal.loop-preserved
loop-preserved g c =
    let inv = c.loop.invariant in
    record { same = search rules; on_way = inv.on_way; so_far = searched_lost _ _ _ _ _ _ _ _ _ _ _ _ _ inv.same.2 c.patience-turns.ensures inv.so_far c.in_default.ensures.runs_out }

pub loop-preserved-in-GoesOn : goal.loop-preserved-in-GoesOn
loop-preserved-in-GoesOn g c =
    let inv = c.loop.invariant in
    let yet = none_yet _ _ _ _ _ _ _ _ _ _ _ _ inv.same.2 c.patience-turns.ensures inv.so_far inv.on_way c.in-Ok.ensures.found c.in-GoesOn.key c.in-GoesOn.ensures in
    record { same = search rules; on_way = yet.0; so_far = yet.1 }

pub returns-in-Row-clause-found : goal.returns-in-Row-clause-found
returns-in-Row-clause-found g c =
    let inv = c.loop.invariant in
    row_there _ _ _ _ _ _ _ _ _ _ _ _ inv.same.2 c.patience-turns.ensures inv.so_far inv.on_way c.in-Ok.ensures.found c.in-Row.row c.in-Row.ensures

pub returns-in-Nothing-clause-found : goal.returns-in-Nothing-clause-found
returns-in-Nothing-clause-found g c =
    let inv = c.loop.invariant in
    none_there _ _ _ _ _ _ _ _ _ _ _ _ inv.same.2 c.patience-turns.ensures inv.so_far inv.on_way c.in-Ok.ensures.found c.in-Nothing.ensures
