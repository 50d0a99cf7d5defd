use Rattle.std.proofs.Common.{rules, refl, ap, ◌∙◌}
use Rattle.bl_proc_steps.specs.declared.acts.Seen.TheVariants as seen
use Rattle.bl_proc_compress.specs.declared.compression.Compression.TheVariants.{OpeningRight, OpeningLeft}
use Rattle.bl_proc.specs.Processes.{next_of}
use Rattle.bl_index_events.proofs.Rooms.{refused_on}
use Rattle.bl_index_events.proofs.Standing.{on_itself, same_goes}
use Rattle.bl_index_compress.proofs.CompressionCourses.{compression_course, compression_runs}
use Rattle.bl_index_compress.proofs.children.open_right.Goals as goal

pub reopen-requires-clause-runs : goal.reopen-requires-clause-runs
reopen-requires-clause-runs c = (let runs = c.requires.runs in record { own = runs.own; running = runs.running; on = on_itself _ _ _ runs.on })

pub reopen-requires-clause-next : goal.reopen-requires-clause-next
reopen-requires-clause-next c = ap next_of c.requires.runs.on.state

pub reopen-requires-clause-course : goal.reopen-requires-clause-course
reopen-requires-clause-course c = compression_course c.args.target (OpeningRight c.args.kin.at c.args.decision) seen.Done _ c.requires.runs.on.state tt

pub returns : goal.returns
returns c = record {
  same = c.reopen.ensures.same.0;
  empty = c.reopen.ensures.same.2.0 ∙ c.requires.empty;
  runs = record { own = search rules; running = search rules; on = compression_runs c.args.tree.now.store.layout c.args.target (OpeningRight c.args.kin.at c.args.decision) (OpeningLeft c.args.kin.at c.args.decision) seen.Done _ _ c.requires.runs.on c.reopen.ensures.goes refl };
  since = same_goes _ _ _ c.reopen.ensures.goes;
  no_room = λ none. refused_on c.args.hand.now.seat c.reopen.new.hand.seat 0 3 c.reopen.ensures.refusal (c.requires.no_room none);
}
