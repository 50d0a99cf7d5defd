use Rattle.std.proofs.Common.{rules}
use Rattle.bl_index_events.proofs.Standing.{same_all}
use Rattle.bl_index_descend.proofs.coming.come_trying.Goals as goal

pub returns-in-Ok-clause-since : goal.returns-in-Ok-clause-since
returns-in-Ok-clause-since g c = same_all _ _ _ c.loop-round.invariant.since c.come_within.ensures.since

pub returns-in-Err-Start-clause-since : goal.returns-in-Err-Start-clause-since
returns-in-Err-Start-clause-since g c = same_all _ _ _ c.loop-round.invariant.since c.come_within.ensures.since

pub loop-round-preserved : goal.loop-round-preserved
loop-round-preserved g c = record {
  same = search rules;
  process = c.in-Err.ensures.came.1;
  free = c.in-Err.ensures.came.0;
  since = same_all _ _ _ c.loop-round.invariant.since c.come_within.ensures.since;
}
