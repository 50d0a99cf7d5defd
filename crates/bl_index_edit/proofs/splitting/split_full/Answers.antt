use Rattle.bl_store.specs.Hands.{known}
use Rattle.bl_index_events.proofs.Held.{goes_keeps, keeps_held, take_latches_not}
use Rattle.bl_index_events.specs.Held.{IsFull, own_marks}
use Rattle.std.proofs.Common.{rules, refl, sym, ap, ◌∙◌, get_or}
use Rattle.bl_proc_steps.specs.declared.acts.Seen.TheVariants as seen
use Rattle.bl_proc_steps.specs.declared.edit.Edit.TheVariants as edit
use Rattle.bl_proc_steps.specs.declared.edit.Outcome.TheVariants as outcome
use Rattle.bl_proc.specs.Processes.{next_of}
use Rattle.bl_index_events.proofs.Standing.{on_itself, on_held, on_goes, same_goes, same_all, course_at}
use Rattle.bl_index_edit.proofs.Splits.{split_by, full_tree, full_head}
use Rattle.bl_proc_steps.specs.declared.edit.Splitting.{Splitting}
use Rattle.bl_index_edit.proofs.splitting.split_full.Goals as goal

pub take_page-requires-clause-runs : goal.take_page-requires-clause-runs
take_page-requires-clause-runs g c = record {
  own = search rules;
  running = search rules;
  on = (on_itself _ _ _ c.requires.full.5);
}

pub take_page-requires-clause-next : goal.take_page-requires-clause-next
take_page-requires-clause-next g c = ap next_of c.requires.full.5.state ∙ g.J.Editor.acts c.args.editor.now (edit.Taking c.requires.full.0)

pub take_page-requires-clause-course : goal.take_page-requires-clause-course
take_page-requires-clause-course g c =
    let taking = edit.Taking c.requires.full.0 in let is = c.requires.full.5.state in
    (λ y child. course_at (seen.Took y) _ _ is (g.J.Editor.courses c.args.editor.now taking (seen.Took y) child), course_at seen.Refused _ _ is (g.J.Editor.courses c.args.editor.now taking seen.Refused refl))

pub entries_with-requires : goal.entries_with-requires
entries_with-requires g c = let f = c.requires.full in record { page = (f.0.page, full_tree f.0, f.4, f.0.full) }

pub put_halves-requires-clause-process : goal.put_halves-requires-clause-process
put_halves-requires-clause-process g c =
    let f = c.requires.full in let took = c.in-Some.ensures.took in
    let parts = split_by f.0 c.args.at c.args.key c.args.word c.in-Some.new c.args.words.now c.entries_with.new.entries f.1 f.2 f.3 took.0 f.4 (c.entries_with.ensures f.0.page f.4) in
    let p : Splitting = record { at = c.args.at; new = c.in-Some.new; left = parts.0; right = parts.1; separator = get_or c.entries_with.new.entries 16 0 } in
    (parts.0, parts.1, parts.2, on_goes _ _ _ _ _ _ f.5 took.3 (g.J.Editor.goes c.args.editor.now (edit.Taking f.0) (edit.PuttingNew p) (seen.Took c.in-Some.new) parts.3))

pub put_halves-requires-clause-head : goal.put_halves-requires-clause-head
put_halves-requires-clause-head g c = let f = c.requires.full in full_head f.0.page c.args.words.now (full_tree f.0) f.4 f.0.full

pub returns-in-None-clause-runs : goal.returns-in-None-clause-runs
returns-in-None-clause-runs g c = record {
  own = search rules;
  running = search rules;
  on = (let f = c.requires.full in
      on_goes _ _ _ _ _ _ f.5 c.in-None.ensures.took.1 (g.J.Editor.goes c.args.editor.now (edit.Taking f.0) (edit.Opening c.args.at outcome.Refused) seen.Refused (λ i. edit.Opening (sym f.1 i) outcome.Refused)));
}

pub returns-in-None-clause-since : goal.returns-in-None-clause-since
returns-in-None-clause-since g c = same_goes _ _ _ c.in-None.ensures.took.1

pub returns-in-Some-clause-since : goal.returns-in-Some-clause-since
returns-in-Some-clause-since g c = same_all _ _ _ (same_goes _ _ _ c.in-Some.ensures.took.3) c.put_halves.ensures.since

pub returns-in-None-clause-asked : goal.returns-in-None-clause-asked
returns-in-None-clause-asked g c = λ none.
    let f = c.requires.full in let j = c.args.editor.now in
    let d = known c.args.hand.now.seat in let e = known c.take_page.new.hand.seat in
    let latch = goes_keeps seen.Refused d e c.in-None.ensures.took.1 (take_latches_not d _ f.5.state (g.J.Editor.acts j (edit.Taking f.0))) in
    (c.in-None.ensures.asked, keeps_held (g.J.Editor.level_at j) (g.J.Editor.key_at j) IsFull d e latch (g.J.Editor.holds j (edit.Taking f.0) (own_marks d) (on_held _ d _ f.5)))
