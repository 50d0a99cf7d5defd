use Rattle.std.proofs.Common.{rules, sym, ◌∙◌}
use Rattle.bl_proc_steps.specs.declared.acts.Seen.TheVariants as seen
use Rattle.bl_index_events.proofs.Calls.{since_begin}
use Rattle.bl_index_events.proofs.Held.{begins_held}
use Rattle.bl_index_events.proofs.tree.Tree.begin.Goals as goal

pub begin_as-requires-clause-next : goal.begin_as-requires-clause-next
begin_as-requires-clause-next g c = g.met.P.Kind.acts c.args.process.now ∙ c.requires.new.1

pub begin_as-requires-clause-course : goal.begin_as-requires-clause-course
begin_as-requires-clause-course g c = g.met.P.Kind.courses c.args.process.now seen.Done c.requires.new.0 (rw c.requires.new.1 tt)

pub returns-clause-runs : goal.returns-clause-runs
returns-clause-runs g c = record {
  own = search rules;
  running = search rules;
  on = (let observed = c.begin_as.ensures.observed in
      let goes = g.met.P.Kind.goes c.args.process.now c.took.new.self seen.Done c.took.ensures in
      record { runs = observed.runs; state = observed.state ∙ sym (observed.course.only _ goes); pages = observed.pages; passes = observed.passes; near = observed.near; held = begins_held _ _ _ _ _ _ observed (g.met.P.Kind.acts c.args.process.now ∙ c.requires.new.1) });
}

pub returns-clause-begun : goal.returns-clause-begun
returns-clause-begun g c = since_begin _ _ _ _ _ _ c.begin_as.ensures.observed

pub returns-clause-observed : goal.returns-clause-observed
returns-clause-observed g c = c.begin_as.ensures.observed
