use Rattle.std.proofs.Common.{arith, refl}
use Rattle.std.specs.Prelude.{slice_index_or}
use Rattle.bl_map_log.specs.Notes.{IsClearedOf}
use Rattle.bl_map_log.proofs.Each.{changed_one}
use Rattle.bl_map_log.proofs.collecting.clear_each.Goals as goal

pub loop-number-preserved : goal.loop-number-preserved
loop-number-preserved c = changed_one IsClearedOf c.args.handles.now c.loop-number.handles c.loop-number.number c.index-handles-number.result (slice_index_or c.loop-number.handles c.loop-number.number c.index-handles-number.result) c.clear.new.handle (omega arith) c.loop-number.invariant (omega arith) refl c.clear.ensures
