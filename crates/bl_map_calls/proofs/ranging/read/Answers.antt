use Rattle.std.proofs.Common.{rules, [], refl, ◌∙◌}
use Rattle.bl_map_calls.proofs.OneMoment.{no_parts, was_read, ran_out, lacked_memory, was_unsteady}
use Rattle.bl_map_calls.proofs.ranging.read.Goals as goal

pub loop-init : goal.loop-init
loop-init g c = record { same = search rules; kept = refl; parts = []; so_far = no_parts _ _ _ _ _ _ }

pub loop-preserved : goal.loop-preserved
loop-preserved g c =
    let inv = c.loop.invariant in
    let on = ran_out _ _ _ _ _ _ _ _ _ _ _ inv.same.2 c.patience-turns.ensures inv.so_far _ _ c.in-Err-OutOfTurns.ensures.stops c.in-Err-OutOfTurns.field-0-is in
    record { same = search rules; kept = c.in-Err-OutOfTurns.ensures.kept ∙ inv.kept; parts = on.0; so_far = on.1 }

pub returns-in-Ok-clause-ranged : goal.returns-in-Ok-clause-ranged
returns-in-Ok-clause-ranged g c =
    let inv = c.loop.invariant in
    let r = c.in-Ok.ensures.reads in
    was_read _ _ _ _ _ _ _ _ _ _ _ inv.same.2 c.patience-turns.ensures inv.so_far _ _ _ _ _ _ inv.kept c.in-Ok.ensures.few r.1 r.2

pub returns-in-Err-Memory-clause-ranged : goal.returns-in-Err-Memory-clause-ranged
returns-in-Err-Memory-clause-ranged g c =
    let inv = c.loop.invariant in
    lacked_memory _ _ _ _ _ _ _ _ _ _ _ inv.same.2 c.patience-turns.ensures inv.so_far _ _ c.in-Err-Memory.ensures.stops _ _ (c.in-Err-Memory.ensures.kept ∙ inv.kept) c.in-Err-Memory.field-0-is

pub returns-in-Err-Unsteady-clause-ranged : goal.returns-in-Err-Unsteady-clause-ranged
returns-in-Err-Unsteady-clause-ranged g c =
    let inv = c.loop.invariant in
    was_unsteady _ _ _ _ _ _ _ _ _ _ _ inv.same.2 c.patience-turns.ensures inv.so_far _ _ c.in-Err-Unsteady.ensures.stops _ _ (c.in-Err-Unsteady.ensures.kept ∙ inv.kept) c.in-Err-Unsteady.field-0-is
