use Rattle.bl_map_log.specs.Notes.{IsClearedOf}
use Rattle.bl_map_log.proofs.Each.{ChangedUpTo}
use Rattle.bl_map_log.proofs.collecting.clear_each.Given as goal

abbrev pub invariant-loop-number : goal.invariant-loop-number
invariant-loop-number l = ChangedUpTo IsClearedOf l.fn.handles l.handles l.number
