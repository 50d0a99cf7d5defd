use Rattle.std.proofs.Common.{rules, sym, ◌∙◌}
use Rattle.bl_index_events.proofs.Calls.{since_begin}
use Rattle.bl_index_events.proofs.Held.{begins_held}
use Rattle.bl_index_descend.proofs.coming.begin_descent.Goals as goal

pub begin_as-requires-clause-next : goal.begin_as-requires-clause-next
begin_as-requires-clause-next g c = g.J.Unborn.begins c.args.unborn.now

pub begin_as-requires-clause-course : goal.begin_as-requires-clause-course
begin_as-requires-clause-course g c = g.J.Unborn.starts c.args.unborn.now

pub returns-clause-runs : goal.returns-clause-runs
returns-clause-runs g c = record {
  own = search rules;
  running = search rules;
  on = (let observed = c.begin_as.ensures.observed in
      record { runs = observed.runs; state = observed.state ∙ sym (observed.course.only _ (g.J.Unborn.started c.args.unborn.now)); pages = observed.pages; passes = observed.passes; near = observed.near; held = begins_held _ _ _ _ _ _ observed (g.J.Unborn.begins c.args.unborn.now) });
}

pub returns-clause-begun : goal.returns-clause-begun
returns-clause-begun g c = since_begin _ _ _ _ _ _ c.begin_as.ensures.observed
