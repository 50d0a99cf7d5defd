use Rattle.std.proofs.Common.{rules, refl, ap, ◌∙◌}
use Rattle.bl_proc_steps.specs.declared.acts.Seen.TheVariants as seen
use Rattle.bl_proc_compress.specs.declared.compression.Compression.TheVariants.{OpeningLeft, OpeningParent}
use Rattle.bl_proc.specs.Processes.{next_of}
use Rattle.bl_index_events.proofs.Rooms.{refused_on}
use Rattle.bl_index_events.proofs.Standing.{on_goes, on_itself, same_all, same_goes}
use Rattle.bl_index_compress.proofs.CompressionCourses.{opens_parent, compression_course, compression_runs, refused_answer, same_hands}
use Rattle.bl_index_compress.proofs.children.open_family.Goals as goal

pub reopen-requires-clause-runs : goal.reopen-requires-clause-runs
reopen-requires-clause-runs c = (let runs = c.requires.runs in record { own = runs.own; running = runs.running; on = on_itself _ _ _ runs.on })

pub reopen-requires-clause-next : goal.reopen-requires-clause-next
reopen-requires-clause-next c = ap next_of c.requires.runs.on.state

pub reopen-requires-clause-course : goal.reopen-requires-clause-course
reopen-requires-clause-course c = compression_course c.args.target (OpeningLeft c.args.kin.at c.args.decision) seen.Done _ c.requires.runs.on.state tt

pub reopen-requires-2-clause-runs : goal.reopen-requires-2-clause-runs
reopen-requires-2-clause-runs c = record {
  own = search rules;
  running = search rules;
  on = (on_itself _ _ _ (compression_runs c.args.tree.now.store.layout c.args.target (OpeningLeft c.args.kin.at c.args.decision) (OpeningParent c.args.kin.at.parent c.args.decision) seen.Done _ _ c.requires.runs.on c.reopen.ensures.goes refl));
}

pub reopen-requires-2-clause-next : goal.reopen-requires-2-clause-next
reopen-requires-2-clause-next c =
    let on = compression_runs c.args.tree.now.store.layout c.args.target (OpeningLeft c.args.kin.at c.args.decision) (OpeningParent c.args.kin.at.parent c.args.decision) seen.Done _ _ c.requires.runs.on c.reopen.ensures.goes refl in
    ap next_of on.state

pub reopen-requires-2-clause-course : goal.reopen-requires-2-clause-course
reopen-requires-2-clause-course c =
    let on = compression_runs c.args.tree.now.store.layout c.args.target (OpeningLeft c.args.kin.at c.args.decision) (OpeningParent c.args.kin.at.parent c.args.decision) seen.Done _ _ c.requires.runs.on c.reopen.ensures.goes refl in
    compression_course c.args.target (OpeningParent c.args.kin.at.parent c.args.decision) seen.Done _ on.state tt

pub returns : goal.returns
returns c =
    let x = c.args.decision in
    let on = compression_runs c.args.tree.now.store.layout c.args.target (OpeningLeft c.args.kin.at x) (OpeningParent c.args.kin.at.parent x) seen.Done _ _ c.requires.runs.on c.reopen.ensures.goes refl in
    let left = opens_parent c.args.target c.args.kin.at.parent x c.answer_of.result c.answer_of.ensures in
    record {
      same = same_hands c.args.hand.now.seat c.reopen.new.hand.seat c.reopen-2.new.hand.seat c.reopen.ensures.same.0 c.reopen-2.ensures.same.0;
      empty = c.reopen-2.ensures.same.2.0 ∙ (c.reopen.ensures.same.2.0 ∙ c.requires.empty);
      state = left.0;
      runs = record { own = search rules; running = search rules; on = on_goes c.args.tree.now.store.layout seen.Done _ _ _ _ on c.reopen-2.ensures.goes left.1 };
      left = left.2;
      since = same_all _ _ _ (same_goes _ _ _ c.reopen.ensures.goes) (same_goes _ _ _ c.reopen-2.ensures.goes);
      no_room = λ hint e. refused_on c.reopen.new.hand.seat c.reopen-2.new.hand.seat 0 3 c.reopen-2.ensures.refusal (refused_on c.args.hand.now.seat c.reopen.new.hand.seat 0 3 c.reopen.ensures.refusal (c.requires.no_room (refused_answer x c.answer_of.result hint c.answer_of.ensures e)));
    }
