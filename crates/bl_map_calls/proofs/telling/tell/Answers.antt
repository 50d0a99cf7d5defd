use Rattle.std.proofs.Common.{rules, ◌++◌, [], refl}
use Rattle.std.specs.List.{FoldsTo}
use Rattle.bl_index_read.specs.Sinks.{folds_append}
use Rattle.bl_index_read.proofs.Orders.{from_itself}
use Rattle.bl_map_calls.proofs.Scanning.{searched_none, has_ended, ran_out}
use Rattle.bl_map_calls.proofs.telling.tell.Goals as goal

pub loop-init : goal.loop-init
loop-init g c = record { same = search rules; callable = c.requires.callable; on_way = from_itself c.args.direction c.args.from; listed = []; told = refl; so_far = searched_none _ _ _ _ _ _ _ }

pub loop-preserved : goal.loop-preserved
loop-preserved g c =
    let inv = c.loop.invariant in
    let m = c.in-Err.ensures.tells in
    let on = ran_out _ _ _ _ _ _ _ _ _ _ m.rows _ _ _ inv.same.2 c.patience-turns.ensures inv.so_far inv.on_way _ _ c.in-Err.out.key refl m.stopped in
    record {
      same = search rules;
      callable = c.in-Err.ensures.callable;
      on_way = on.0;
      listed = inv.listed ++ m.rows;
      told = folds_append (λ p x q. goal.F-step g p x tt q) _ inv.listed _ m.rows _ inv.told m.taken;
      so_far = on.1;
    }

pub returns-in-Ok-clause-tells : goal.returns-in-Ok-clause-tells
returns-in-Ok-clause-tells g c =
    let inv = c.loop.invariant in
    let m = c.in-Ok.ensures.tells in
    has_ended _ _ _ _ _ _ _ _ _ _ m.rows _ _ _ inv.same.2 c.patience-turns.ensures inv.so_far inv.on_way (FoldsTo (λ p x q. goal.F-step g p x tt q)) _ _ _
    (folds_append (λ p x q. goal.F-step g p x tt q) _ inv.listed _ m.rows _ inv.told m.taken) m.ended
