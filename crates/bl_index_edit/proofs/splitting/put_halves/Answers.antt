use Rattle.std.proofs.Common.{rules, ◌≡◌, ℕ, ◌-◌, List, refl, sym, ap, ◌∙◌, get_or, arith}
use Rattle.bl_page.specs.Words.{layout}
use Rattle.bl_index_edit.proofs.Splits.{upper_part}
use Rattle.bl_proc_steps.specs.declared.acts.Seen.TheVariants as seen
use Rattle.bl_proc_steps.specs.declared.edit.Splitting.{Splitting}
use Rattle.bl_proc_steps.specs.declared.edit.Edit.TheVariants as edit
use Rattle.bl_proc_steps.specs.declared.edit.Outcome.TheVariants as outcome
use Rattle.bl_proc.specs.Processes.{next_of}
use Rattle.bl_store.specs.Hands.{drafts}
use Rattle.bl_index_events.proofs.Standing.{on_itself, on_goes, same_goes, same_all, course_at}
use Rattle.bl_index_edit.proofs.splitting.put_halves.Goals as goal

pub put_reserved-requires-clause-runs : goal.put_reserved-requires-clause-runs
put_reserved-requires-clause-runs g c = record {
  own = search rules;
  running = search rules;
  on = (on_itself _ _ _ c.requires.process.3);
}

pub put_reserved-requires-clause-next : goal.put_reserved-requires-clause-next
put_reserved-requires-clause-next g c =
    let laws = g.J.Editor in let j = c.args.editor.now in
    let p : Splitting = record { at = c.args.pages.at; new = c.args.pages.new; left = c.requires.process.0; right = c.requires.process.1; separator = get_or c.args.entries.now 16 0 } in
    let on = c.requires.process.3 in
    (p.right, ap next_of on.state ∙ laws.acts j (edit.PuttingNew p), c.laid_out-upper.ensures ∙ (ap (λ (es : List ℕ). layout (get_or c.args.words.now 0 0 - 7) (get_or c.args.entries.now 16 0) (get_or c.args.words.now 2 0) (get_or c.args.words.now 3 0) es) (upper_part c.args.entries.now c.told-entries) ∙ sym c.requires.process.2.upper))

pub put_reserved-requires-clause-course : goal.put_reserved-requires-clause-course
put_reserved-requires-clause-course g c =
    let laws = g.J.Editor in let j = c.args.editor.now in
    let p : Splitting = record { at = c.args.pages.at; new = c.args.pages.new; left = c.requires.process.0; right = c.requires.process.1; separator = get_or c.args.entries.now 16 0 } in
    let on = c.requires.process.3 in
    course_at seen.Done _ _ on.state (laws.courses j (edit.PuttingNew p) seen.Done tt)

pub put_reserved-requires-2-clause-runs : goal.put_reserved-requires-2-clause-runs
put_reserved-requires-2-clause-runs g c = record {
  own = search rules;
  running = search rules;
  on = (let laws = g.J.Editor in let j = c.args.editor.now in
      let p : Splitting = record { at = c.args.pages.at; new = c.args.pages.new; left = c.requires.process.0; right = c.requires.process.1; separator = get_or c.args.entries.now 16 0 } in
      let on = c.requires.process.3 in
      let one = on_goes _ seen.Done _ _ _ _ on c.put_reserved.ensures.goes (laws.goes j (edit.PuttingNew p) (edit.PuttingOld p) seen.Done refl) in
      on_itself _ _ _ one);
}

pub put_reserved-requires-2-clause-next : goal.put_reserved-requires-2-clause-next
put_reserved-requires-2-clause-next g c =
    let laws = g.J.Editor in let j = c.args.editor.now in
    let p : Splitting = record { at = c.args.pages.at; new = c.args.pages.new; left = c.requires.process.0; right = c.requires.process.1; separator = get_or c.args.entries.now 16 0 } in
    let on = c.requires.process.3 in
    let one = on_goes _ seen.Done _ _ _ _ on c.put_reserved.ensures.goes (laws.goes j (edit.PuttingNew p) (edit.PuttingOld p) seen.Done refl) in
    (p.left, ap next_of one.state ∙ laws.acts j (edit.PuttingOld p), c.laid_out-lower.ensures ∙ sym c.requires.process.2.lower)

pub put_reserved-requires-2-clause-course : goal.put_reserved-requires-2-clause-course
put_reserved-requires-2-clause-course g c =
    let laws = g.J.Editor in let j = c.args.editor.now in
    let p : Splitting = record { at = c.args.pages.at; new = c.args.pages.new; left = c.requires.process.0; right = c.requires.process.1; separator = get_or c.args.entries.now 16 0 } in
    let on = c.requires.process.3 in
    let one = on_goes _ seen.Done _ _ _ _ on c.put_reserved.ensures.goes (laws.goes j (edit.PuttingNew p) (edit.PuttingOld p) seen.Done refl) in
    course_at seen.Done _ _ one.state (laws.courses j (edit.PuttingOld p) seen.Done tt)

pub reopen-requires-clause-runs : goal.reopen-requires-clause-runs
reopen-requires-clause-runs g c = record {
  own = search rules;
  running = search rules;
  on = (let laws = g.J.Editor in let j = c.args.editor.now in
      let p : Splitting = record { at = c.args.pages.at; new = c.args.pages.new; left = c.requires.process.0; right = c.requires.process.1; separator = get_or c.args.entries.now 16 0 } in
      let on = c.requires.process.3 in
      let one = on_goes _ seen.Done _ _ _ _ on c.put_reserved.ensures.goes (laws.goes j (edit.PuttingNew p) (edit.PuttingOld p) seen.Done refl) in
      let two = on_goes _ seen.Done _ _ _ _ one c.put_reserved-2.ensures.goes (laws.goes j (edit.PuttingOld p) (edit.OpeningNew p.at p.new p.separator) seen.Done refl) in
      on_itself _ _ _ two);
}

pub reopen-requires-clause-next : goal.reopen-requires-clause-next
reopen-requires-clause-next g c =
    let laws = g.J.Editor in let j = c.args.editor.now in
    let p : Splitting = record { at = c.args.pages.at; new = c.args.pages.new; left = c.requires.process.0; right = c.requires.process.1; separator = get_or c.args.entries.now 16 0 } in
    let on = c.requires.process.3 in
    let one = on_goes _ seen.Done _ _ _ _ on c.put_reserved.ensures.goes (laws.goes j (edit.PuttingNew p) (edit.PuttingOld p) seen.Done refl) in
    let two = on_goes _ seen.Done _ _ _ _ one c.put_reserved-2.ensures.goes (laws.goes j (edit.PuttingOld p) (edit.OpeningNew p.at p.new p.separator) seen.Done refl) in
    ap next_of two.state ∙ laws.acts j (edit.OpeningNew p.at p.new p.separator)

pub reopen-requires-clause-course : goal.reopen-requires-clause-course
reopen-requires-clause-course g c =
    let laws = g.J.Editor in let j = c.args.editor.now in
    let p : Splitting = record { at = c.args.pages.at; new = c.args.pages.new; left = c.requires.process.0; right = c.requires.process.1; separator = get_or c.args.entries.now 16 0 } in
    let on = c.requires.process.3 in
    let one = on_goes _ seen.Done _ _ _ _ on c.put_reserved.ensures.goes (laws.goes j (edit.PuttingNew p) (edit.PuttingOld p) seen.Done refl) in
    let two = on_goes _ seen.Done _ _ _ _ one c.put_reserved-2.ensures.goes (laws.goes j (edit.PuttingOld p) (edit.OpeningNew p.at p.new p.separator) seen.Done refl) in
    course_at seen.Done _ _ two.state (laws.courses j (edit.OpeningNew p.at p.new p.separator) seen.Done tt)

pub returns-clause-runs : goal.returns-clause-runs
returns-clause-runs g c = record {
  own = search rules;
  running = search rules;
  on = (let laws = g.J.Editor in let j = c.args.editor.now in
      let p : Splitting = record { at = c.args.pages.at; new = c.args.pages.new; left = c.requires.process.0; right = c.requires.process.1; separator = get_or c.args.entries.now 16 0 } in
      let on = c.requires.process.3 in
      let one = on_goes _ seen.Done _ _ _ _ on c.put_reserved.ensures.goes (laws.goes j (edit.PuttingNew p) (edit.PuttingOld p) seen.Done refl) in
      let two = on_goes _ seen.Done _ _ _ _ one c.put_reserved-2.ensures.goes (laws.goes j (edit.PuttingOld p) (edit.OpeningNew p.at p.new p.separator) seen.Done refl) in
      on_goes _ seen.Done _ _ _ _ two c.reopen.ensures.goes (laws.goes j (edit.OpeningNew p.at p.new p.separator) (edit.Opening p.at (outcome.SplitAt p.separator)) seen.Done refl));
}

pub returns-clause-since : goal.returns-clause-since
returns-clause-since g c = same_all _ _ _ (same_all _ _ _ (same_goes _ _ _ c.put_reserved.ensures.goes) (same_goes _ _ _ c.put_reserved-2.ensures.goes)) (same_goes _ _ _ c.reopen.ensures.goes)

pub returns-clause-empty : goal.returns-clause-empty
returns-clause-empty g c =
    let left = c.put_reserved-2.ensures.stock in let before = c.put_reserved.ensures.stock in let all = c.requires.stock.1 in
    let none : c.put_reserved-2.new.stock.count ≡ 0 = omega (arith, left.1, before.1, all) in
    c.reopen.ensures.same.2.0 ∙ (left.0.frames ∙ ap (λ (n : ℕ). drafts c.put_reserved-2.new.stock.frames n) none)
