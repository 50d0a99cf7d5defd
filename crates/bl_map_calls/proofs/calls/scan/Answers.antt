use Rattle.std.proofs.Common.{rules, ◌++◌, [], sym, append-nil}
use Rattle.bl_index_read.specs.Sinks.{Appends}
use Rattle.bl_index_read.proofs.Orders.{from_itself}
use Rattle.bl_map_calls.proofs.Scanning.{searched_none, all_rows, has_ended, ran_out, had_no_room}
use Rattle.bl_map_calls.proofs.calls.scan.Goals as goal

pub loop-init : goal.loop-init
loop-init g c = record { same = search rules; on_way = from_itself c.args.direction c.args.from; listed = []; grown = sym (append-nil _); so_far = searched_none _ _ _ _ _ _ _ }

pub returns-in-Ok-clause-scanned : goal.returns-in-Ok-clause-scanned
returns-in-Ok-clause-scanned g c =
    let inv = c.loop.invariant in
    let m = c.in-Ok.ensures.scans in
    has_ended _ _ _ _ _ _ _ _ _ _ m.rows _ _ _ inv.same.2 c.patience-turns.ensures inv.so_far inv.on_way Appends _ _ _ (all_rows inv.listed m.rows _ _ _ inv.grown m.taken) m.ended

pub loop-preserved : goal.loop-preserved
loop-preserved g c =
    let inv = c.loop.invariant in
    let m = c.in-Err-OutOfTurns.ensures.scans in
    let on = ran_out _ _ _ _ _ _ _ _ _ _ m.rows _ _ _ inv.same.2 c.patience-turns.ensures inv.so_far inv.on_way _ _ _ c.in-Err-OutOfTurns.field-0-is m.stopped in
    record {
      same = search rules;
      on_way = on.0;
      listed = inv.listed ++ m.rows;
      grown = all_rows inv.listed m.rows _ _ _ inv.grown m.taken;
      so_far = on.1;
    }

pub returns-in-Err-Memory-clause-scanned : goal.returns-in-Err-Memory-clause-scanned
returns-in-Err-Memory-clause-scanned g c =
    let inv = c.loop.invariant in
    let m = c.in-Err-Memory.ensures.scans in
    had_no_room _ _ _ _ _ _ _ _ _ _ m.rows _ _ _ inv.same.2 c.patience-turns.ensures inv.so_far inv.on_way Appends _ _ _ (all_rows inv.listed m.rows _ _ _ inv.grown m.taken) _ _ _ c.in-Err-Memory.field-0-is m.stopped
