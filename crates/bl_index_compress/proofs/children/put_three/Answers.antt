use Rattle.std.proofs.Common.{rules, ◌≡◌, Some, None, refl, ap, ◌∙◌, arith}
use Rattle.bl_proc_steps.specs.declared.acts.Seen.TheVariants as seen
use Rattle.bl_proc_compress.specs.declared.compression.Compression.TheVariants.{PuttingFirst, PuttingParent, PuttingLast, OpeningRight}
use Rattle.bl_proc_compress.specs.declared.compression.Decision.TheVariants.{Refused}
use Rattle.bl_proc_compress.specs.Compressions.{after_puts}
use Rattle.bl_proc.specs.Processes.{next_of}
use Rattle.bl_store.specs.Hands.{drafts}
use Rattle.bl_proc_steps.specs.declared.acts.Action.TheVariants as act
use Rattle.bl_rearrange.specs.declared.families.Siblings.{Siblings}
use Rattle.bl_proc_compress.specs.Compressions.{other}
use Rattle.bl_index_events.proofs.Standing.{on_as, on_itself, same_all, same_goes}
use Rattle.bl_index_compress.proofs.CompressionCourses.{compression_course, compression_runs}
use Rattle.bl_index_compress.proofs.Puts.{put_gaining, put_losing, gives_put, refuses_put}
use Rattle.bl_index_compress.proofs.children.put_three.Goals as goal

pub put_first-requires-clause-next : goal.put_first-requires-clause-next
put_first-requires-clause-next c =
    let t = c.requires.process in
    let first = put_gaining t.1 c.args.at c.args.gains c.args.left.now c.args.parent.now c.args.right.now t.2 _ _ c.gaining-first.ensures c.gaining_words.ensures in
    (first.0, ap next_of t.3 ∙ first.1, first.2)

pub put_first-requires-clause-course : goal.put_first-requires-clause-course
put_first-requires-clause-course c =
    let t = c.requires.process in
    (compression_course t.0 (PuttingFirst t.1) seen.Done _ t.3 (gives_put t.1 t.1.gains (Some (0, 3))), compression_course t.0 (PuttingFirst t.1) seen.Refused _ t.3 (refuses_put t.1 t.1.gains))

pub put_next-requires-clause-runs : goal.put_next-requires-clause-runs
put_next-requires-clause-runs c = record {
  own = search rules;
  running = search rules;
  on = (let t = c.requires.process in let l = c.args.tree.now.store.layout in
      on_itself _ _ _ (compression_runs l t.0 (PuttingFirst t.1) (PuttingParent t.1) seen.Done _ _ (on_as _ _ _ c.requires.runs.on t.3) c.in-Some.ensures.done.3 refl));
}

pub put_next-requires-clause-next : goal.put_next-requires-clause-next
put_next-requires-clause-next c =
    let t = c.requires.process in let l = c.args.tree.now.store.layout in
    let one = compression_runs l t.0 (PuttingFirst t.1) (PuttingParent t.1) seen.Done _ _ (on_as _ _ _ c.requires.runs.on t.3) c.in-Some.ensures.done.3 refl in
    (t.1.parent, ap next_of one.state ∙ ap (λ (z : Siblings). act.Put z.parent t.1.parent) t.2.at_is, t.2.parent_is)

pub put_next-requires-clause-course : goal.put_next-requires-clause-course
put_next-requires-clause-course c =
    let t = c.requires.process in let l = c.args.tree.now.store.layout in
    let one = compression_runs l t.0 (PuttingFirst t.1) (PuttingParent t.1) seen.Done _ _ (on_as _ _ _ c.requires.runs.on t.3) c.in-Some.ensures.done.3 refl in
    compression_course t.0 (PuttingParent t.1) seen.Done _ one.state tt

pub put_next-requires-clause-stock : goal.put_next-requires-clause-stock
put_next-requires-clause-stock c = let has = c.in-Some.ensures.done in (has.0, (let two = has.1 in omega (arith, two)), has.2)

pub put_next-requires-in-Some-clause-runs : goal.put_next-requires-in-Some-clause-runs
put_next-requires-in-Some-clause-runs c = record {
  own = search rules;
  running = search rules;
  on = (let t = c.requires.process in let l = c.args.tree.now.store.layout in
      let one = compression_runs l t.0 (PuttingFirst t.1) (PuttingParent t.1) seen.Done _ _ (on_as _ _ _ c.requires.runs.on t.3) c.in-Some.ensures.done.3 refl in
      on_itself _ _ _ (compression_runs l t.0 (PuttingParent t.1) (PuttingLast t.1) seen.Done _ _ one c.put_next.ensures.goes refl));
}

pub put_next-requires-in-Some-clause-next : goal.put_next-requires-in-Some-clause-next
put_next-requires-in-Some-clause-next c =
    let t = c.requires.process in let l = c.args.tree.now.store.layout in
    let one = compression_runs l t.0 (PuttingFirst t.1) (PuttingParent t.1) seen.Done _ _ (on_as _ _ _ c.requires.runs.on t.3) c.in-Some.ensures.done.3 refl in
    let two = compression_runs l t.0 (PuttingParent t.1) (PuttingLast t.1) seen.Done _ _ one c.put_next.ensures.goes refl in
    let last = put_losing t.1 c.args.at c.args.gains c.args.left.now c.args.parent.now c.args.right.now t.2 _ _ c.gaining-last.ensures c.gaining_words-in-Some.ensures in
    (last.0, ap next_of two.state ∙ last.1, last.2)

pub put_next-requires-in-Some-clause-course : goal.put_next-requires-in-Some-clause-course
put_next-requires-in-Some-clause-course c =
    let t = c.requires.process in let l = c.args.tree.now.store.layout in
    let one = compression_runs l t.0 (PuttingFirst t.1) (PuttingParent t.1) seen.Done _ _ (on_as _ _ _ c.requires.runs.on t.3) c.in-Some.ensures.done.3 refl in
    let two = compression_runs l t.0 (PuttingParent t.1) (PuttingLast t.1) seen.Done _ _ one c.put_next.ensures.goes refl in
    compression_course t.0 (PuttingLast t.1) seen.Done _ two.state (gives_put t.1 (other t.1.gains) None)

pub put_next-requires-in-Some-clause-stock : goal.put_next-requires-in-Some-clause-stock
put_next-requires-in-Some-clause-stock c = let has = c.put_next.ensures.stock in (has.0, (let one = has.1 in let two = c.in-Some.ensures.done.1 in omega (arith, one, two)), has.2)

pub returns-in-Some-clause-done : goal.returns-in-Some-clause-done
returns-in-Some-clause-done c = λ e j p is.
    let l = c.args.tree.now.store.layout in
    let one = compression_runs l j (PuttingFirst p) (PuttingParent p) seen.Done _ _ (on_as _ _ _ c.requires.runs.on is) c.in-Some.ensures.done.3 refl in
    let two = compression_runs l j (PuttingParent p) (PuttingLast p) seen.Done _ _ one c.put_next.ensures.goes refl in
    compression_runs l j (PuttingLast p) (after_puts p.at p.decision) seen.Done _ _ two c.put_next-in-Some.ensures.goes refl

pub returns-in-Some-clause-empty : goal.returns-in-Some-clause-empty
returns-in-Some-clause-empty c =
    let last = c.put_next-in-Some.ensures.stock in let before = c.put_next.ensures.stock in let all = c.in-Some.ensures.done.1 in
    let none : c.put_next-in-Some.new.stock.count ≡ 0 = (let x = last.1 in let y = before.1 in omega (arith, x, y, all)) in
    last.0.frames ∙ ap (λ n. drafts c.put_next-in-Some.new.stock.frames n) none

pub returns-in-Some-clause-since : goal.returns-in-Some-clause-since
returns-in-Some-clause-since c = same_all _ _ _ (same_all _ _ _ (same_goes _ _ _ c.in-Some.ensures.done.3) (same_goes _ _ _ c.put_next.ensures.goes)) (same_goes _ _ _ c.put_next-in-Some.ensures.goes)

pub returns-in-None-clause-refused : goal.returns-in-None-clause-refused
returns-in-None-clause-refused c = λ e j p is. compression_runs c.args.tree.now.store.layout j (PuttingFirst p) (OpeningRight p.at Refused) seen.Refused _ _ (on_as _ _ _ c.requires.runs.on is) c.in-None.ensures.done.1 refl

pub returns-in-None-clause-since : goal.returns-in-None-clause-since
returns-in-None-clause-since c = same_goes _ _ _ c.in-None.ensures.done.1
