use Rattle.std.proofs.Common.{rules}
use Rattle.bl_index_events.proofs.Standing.{same_all}
use Rattle.bl_index_descend.proofs.coming.seek.Goals as goal

pub loop-turn-preserved : goal.loop-turn-preserved
loop-turn-preserved g c = record {
  same = search rules;
  process = c.read_next-approach.ensures.runs.on;
  free = c.read_next-approach.ensures.free;
  since = same_all _ _ _ c.loop-turn.invariant.since c.read_next-approach.ensures.since;
}
