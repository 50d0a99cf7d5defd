use Rattle.std.proofs.Common.{rules, [], arith}
use Rattle.bl_map_calls.proofs.Scanning.{searched_none, searched_lost}
use Rattle.bl_map_calls.proofs.Looking.{counted_on, counted_all, counted_up_to}
use Rattle.bl_map_calls.proofs.counting.count.Goals as goal

pub loop-init : goal.loop-init
loop-init g c = record { same = search rules; low = omega arith; so_far = ([], searched_none _ _ _ _ _ _ _, search rules) }

pub loop-preserved : goal.loop-preserved
loop-preserved g c =
    let inv = c.loop.invariant in
    record { same = search rules; low = inv.low; so_far = (inv.so_far.0, searched_lost _ _ _ _ _ _ _ _ _ _ _ _ _ inv.same.2 c.patience-turns.ensures inv.so_far.1 c.in_default.ensures.runs_out, inv.so_far.2) }

pub loop-preserved-in-Ok : goal.loop-preserved-in-Ok
loop-preserved-in-Ok g c =
    let inv = c.loop.invariant in
    let on = counted_on _ _ _ _ _ _ _ _ _ _ _ _ _ _ inv.same.2 c.patience-turns.ensures inv.so_far inv.low (search rules) c.in-Ok.ensures.found (search rules) c.in-Some-end_of.key (search rules) in
    record { same = search rules; low = on.0; so_far = on.1 }

pub returns-then-not-is_below-clause-counted : goal.returns-then-not-is_below-clause-counted
returns-then-not-is_below-clause-counted g c = counted_up_to _ _ _ _ _ _ _ _ _ c.loop.invariant.so_far (search rules)

pub returns-in_default-end_of-clause-counted : goal.returns-in_default-end_of-clause-counted
returns-in_default-end_of-clause-counted g c =
    let inv = c.loop.invariant in
    counted_all _ _ _ _ _ _ _ _ _ _ _ _ _ _ inv.same.2 c.patience-turns.ensures inv.so_far inv.low (search rules) c.in-Ok.ensures.found (search rules) (search rules)
