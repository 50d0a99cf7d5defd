use Rattle.std.proofs.Common.{rules, ◌<◌, ◌≤◌, length, inl, inr, refl, sym, ap, subst, ◌∙◌, arith}
use Rattle.bl_rearrange.specs.Rearranged.{pairs_of}
use Rattle.bl_proc_steps.specs.declared.acts.Seen.TheVariants as seen
use Rattle.bl_proc_steps.specs.declared.edit.Edit.{Edit}
use Rattle.bl_proc_steps.specs.declared.edit.Edit.TheVariants as edit
use Rattle.bl_proc_steps.specs.declared.edit.Outcome.TheVariants as outcome
use Rattle.bl_proc_routes.proofs.Spellings.{pairs_counted}
use Rattle.bl_proc.specs.Processes.{next_of}
use Rattle.bl_store.specs.Hands.{known}
use Rattle.bl_index_events.specs.Runs.{IsOn}
use Rattle.bl_index_events.specs.Held.{HasRoom, own_marks}
use Rattle.bl_index_events.proofs.Held.{goes_keeps, keeps_held, put_latches_not}
use Rattle.bl_index_events.proofs.Standing.{on_held, on_goes, same_goes, course_at}
use Rattle.bl_index_edit.proofs.Walked.{enters_putting, enters_taking}
use Rattle.bl_index_edit.proofs.splitting.enter_page.Goals as goal

pub split_full-requires-clause-full : goal.split_full-requires-clause-full
split_full-requires-clause-full g c =
    let enter = c.requires.page.1 in
    let full : 14 ≤ length (pairs_of enter.page) = omega (arith, pairs_counted enter.page c.args.words.now enter.tree enter.is, c.if-words-ge-FULL.true) in
    let taking = enters_taking c.args.at c.args.key c.args.word c.args.words.now c.requires.page.0 enter full in
    (taking.0, taking.1, taking.2, taking.3, taking.4, subst (λ (z : Edit). IsOn c.args.tree.now.store.layout (known c.args.hand.now.seat) (g.J.Editor.editing c.args.editor.now z)) taking.5 c.requires.page.2)

pub words_with-requires-clause-page : goal.words_with-requires-clause-page
words_with-requires-clause-page g c =
    let enter = c.requires.page.1 in
    let room : length (pairs_of enter.page) < 14 = omega (arith, pairs_counted enter.page c.args.words.now enter.tree enter.is, c.if-words-ge-FULL.false) in
    (enter.page, enter.tree, enter.is, room)

pub replace-requires-clause-next : goal.replace-requires-clause-next
replace-requires-clause-next g c =
    let enter = c.requires.page.1 in
    let room : length (pairs_of enter.page) < 14 = omega (arith, pairs_counted enter.page c.args.words.now enter.tree enter.is, c.if-words-ge-FULL.false) in
    let putting = enters_putting c.args.at c.args.key c.args.word c.args.words.now c.requires.page.0 enter room in
    (putting.0, ap next_of (c.requires.page.2.state ∙ ap (g.J.Editor.editing c.args.editor.now) putting.2) ∙ g.J.Editor.acts c.args.editor.now (edit.Putting c.args.at putting.0), c.words_with.ensures.words enter.page enter.is ∙ sym putting.1)

pub returns-then-replace-clause-runs : goal.returns-then-replace-clause-runs
returns-then-replace-clause-runs g c = record {
  own = search rules;
  running = search rules;
  on = (let enter = c.requires.page.1 in let j = c.args.editor.now in let layout = c.args.tree.now.store.layout in
      let room : length (pairs_of enter.page) < 14 = omega (arith, pairs_counted enter.page c.args.words.now enter.tree enter.is, c.if-words-ge-FULL.false) in
      let putting = enters_putting c.args.at c.args.key c.args.word c.args.words.now c.requires.page.0 enter room in
      let on = subst (λ (z : Edit). IsOn layout (known c.args.hand.now.seat) (g.J.Editor.editing j z)) putting.2 c.requires.page.2 in
      on_goes layout seen.Done _ _ _ _ on (c.replace.ensures.done c.if-replace.true) (g.J.Editor.goes j (edit.Putting c.args.at putting.0) (edit.Opening c.args.at outcome.Edited) seen.Done refl));
}

pub returns-then-replace-clause-since : goal.returns-then-replace-clause-since
returns-then-replace-clause-since g c = same_goes _ _ _ (c.replace.ensures.done c.if-replace.true)

pub returns-else-replace-clause-runs : goal.returns-else-replace-clause-runs
returns-else-replace-clause-runs g c = record {
  own = search rules;
  running = search rules;
  on = (let enter = c.requires.page.1 in let j = c.args.editor.now in let layout = c.args.tree.now.store.layout in
      let room : length (pairs_of enter.page) < 14 = omega (arith, pairs_counted enter.page c.args.words.now enter.tree enter.is, c.if-words-ge-FULL.false) in
      let putting = enters_putting c.args.at c.args.key c.args.word c.args.words.now c.requires.page.0 enter room in
      let on = subst (λ (z : Edit). IsOn layout (known c.args.hand.now.seat) (g.J.Editor.editing j z)) putting.2 c.requires.page.2 in
      on_goes layout seen.Refused _ _ _ _ on (c.replace.ensures.refused c.if-replace.false) (g.J.Editor.goes j (edit.Putting c.args.at putting.0) (edit.Opening c.args.at outcome.Refused) seen.Refused refl));
}

pub returns-else-replace-clause-since : goal.returns-else-replace-clause-since
returns-else-replace-clause-since g c = same_goes _ _ _ (c.replace.ensures.refused c.if-replace.false)

pub returns-then-words-ge-FULL-clause-asked : goal.returns-then-words-ge-FULL-clause-asked
returns-then-words-ge-FULL-clause-asked g c = λ none. inr (c.split_full.ensures.asked none)

pub returns-else-replace-clause-asked : goal.returns-else-replace-clause-asked
returns-else-replace-clause-asked g c = λ none.
    let enter = c.requires.page.1 in let j = c.args.editor.now in let layout = c.args.tree.now.store.layout in
    let room : length (pairs_of enter.page) < 14 = omega (arith, pairs_counted enter.page c.args.words.now enter.tree enter.is, c.if-words-ge-FULL.false) in
    let putting = enters_putting c.args.at c.args.key c.args.word c.args.words.now c.requires.page.0 enter room in
    let on = subst (λ (z : Edit). IsOn layout (known c.args.hand.now.seat) (g.J.Editor.editing j z)) putting.2 c.requires.page.2 in
    let d = known c.args.hand.now.seat in let e = known c.replace.new.hand.seat in
    let latch = goes_keeps seen.Refused d e (c.replace.ensures.refused c.if-replace.false) (put_latches_not d _ c.args.at putting.0 on.state (g.J.Editor.acts j (edit.Putting c.args.at putting.0))) in
    inl (c.replace.ensures.asked c.if-replace.false, keeps_held (g.J.Editor.level_at j) (g.J.Editor.key_at j) HasRoom d e latch (g.J.Editor.holds j (edit.Putting c.args.at putting.0) (own_marks d) (on_held layout d _ on)))

pub split_full-requires-clause-own : goal.split_full-requires-clause-own
split_full-requires-clause-own g c = c.requires.own

pub split_full-requires-clause-running : goal.split_full-requires-clause-running
split_full-requires-clause-running g c = c.requires.running

pub replace-requires-clause-runs : goal.replace-requires-clause-runs
replace-requires-clause-runs g c = record {
  own = c.requires.own;
  running = c.requires.running.0;
  on = search rules;
}

pub replace-requires-clause-empty : goal.replace-requires-clause-empty
replace-requires-clause-empty g c = c.requires.running.1

pub returns-then-words-ge-FULL-clause-same : goal.returns-then-words-ge-FULL-clause-same
returns-then-words-ge-FULL-clause-same g c = c.split_full.ensures.same

pub returns-then-words-ge-FULL-clause-empty : goal.returns-then-words-ge-FULL-clause-empty
returns-then-words-ge-FULL-clause-empty g c = c.split_full.ensures.empty

pub returns-then-words-ge-FULL-clause-runs : goal.returns-then-words-ge-FULL-clause-runs
returns-then-words-ge-FULL-clause-runs g c = c.split_full.ensures.runs

pub returns-then-words-ge-FULL-clause-since : goal.returns-then-words-ge-FULL-clause-since
returns-then-words-ge-FULL-clause-since g c = c.split_full.ensures.since

pub returns-then-replace-clause-same : goal.returns-then-replace-clause-same
returns-then-replace-clause-same g c = c.replace.ensures.same

pub returns-then-replace-clause-empty : goal.returns-then-replace-clause-empty
returns-then-replace-clause-empty g c = c.replace.ensures.empty

pub returns-else-replace-clause-same : goal.returns-else-replace-clause-same
returns-else-replace-clause-same g c = c.replace.ensures.same

pub returns-else-replace-clause-empty : goal.returns-else-replace-clause-empty
returns-else-replace-clause-empty g c = c.replace.ensures.empty

pub replace-requires-clause-course : goal.replace-requires-clause-course
replace-requires-clause-course g c =
    let enter = c.requires.page.1 in let j = c.args.editor.now in
    let room : length (pairs_of enter.page) < 14 = omega (arith, pairs_counted enter.page c.args.words.now enter.tree enter.is, c.if-words-ge-FULL.false) in
    let putting = enters_putting c.args.at c.args.key c.args.word c.args.words.now c.requires.page.0 enter room in
    let on = subst (λ (z : Edit). IsOn c.args.tree.now.store.layout (known c.args.hand.now.seat) (g.J.Editor.editing j z)) putting.2 c.requires.page.2 in
    (course_at seen.Done _ _ on.state (g.J.Editor.courses j (edit.Putting c.args.at putting.0) seen.Done tt), course_at seen.Refused _ _ on.state (g.J.Editor.courses j (edit.Putting c.args.at putting.0) seen.Refused refl))
