use Rattle.std.proofs.Common.{rules}
use Rattle.bl_proc_steps.specs.declared.acts.Seen.TheVariants as seen
use Rattle.bl_index_read.specs.LeafWays.{probing, going}
use Rattle.bl_index_read.proofs.Ways.{probes, probing_course, probing_takes, probing_steps}
use Rattle.bl_index_events.proofs.Standing.{on_itself, on_goes}
use Rattle.bl_index_read.proofs.Keeping.{notes_on, still_same}
use Rattle.bl_index_read.proofs.leaf_ways.probe.Goals as goal

pub is_open-free-requires-clause-runs : goal.is_open-free-requires-clause-runs
is_open-free-requires-clause-runs c = record {
  own = search rules;
  running = search rules;
  on = (on_itself _ _ _ c.requires.runs.on);
}

pub is_open-free-requires-clause-next : goal.is_open-free-requires-clause-next
is_open-free-requires-clause-next c = probes c.args.sought c.args.key c.args.page _ c.requires.runs.on.state

pub is_open-free-requires-clause-course : goal.is_open-free-requires-clause-course
is_open-free-requires-clause-course c = λ free. probing_course c.args.sought c.args.key c.args.page free _ c.requires.runs.on.state

pub returns-clause-runs : goal.returns-clause-runs
returns-clause-runs c = record {
  own = search rules;
  running = search rules;
  on = on_goes _ (seen.Probed c.is_open-free.result) _ _ (probing c.args.sought c.args.key c.args.page) (going c.args.sought c.args.key c.first_way.result) c.requires.runs.on c.is_open-free.ensures.goes
      (probing_takes c.args.sought c.args.key c.args.page c.is_open-free.result c.first_way.result c.first_way.ensures);
}

pub returns-clause-looked : goal.returns-clause-looked
returns-clause-looked c = probing_steps c.args.sought c.args.key c.args.page c.is_open-free.result _ _ c.requires.runs.on.state c.is_open-free.ensures.goes

pub returns-clause-still : goal.returns-clause-still
returns-clause-still c = still_same c.args.hand.now.seat c.is_open-free.new.hand.seat c.is_open-free.ensures.same.0.1 (notes_on _ _ _ _ _ c.is_open-free.ensures.goes.steps.notes) c.is_open-free.ensures.kept
