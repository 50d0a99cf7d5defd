use Rattle.std.proofs.Common.{rules, ◌<◌, refl, sym, ap, ◌∙◌, inl, inr, arith}
use Rattle.std.specs.Prelude.{◌⊎◌}
use Rattle.std.proofs.lemmas.Bool.{false≢true}
use Rattle.bl_rearrange.specs.Neighbours.{AreNeighbours, together}
use Rattle.bl_proc_steps.specs.declared.acts.Action.TheVariants as act
use Rattle.bl_proc_steps.specs.declared.acts.Seen.TheVariants as seen
use Rattle.bl_proc_routes.proofs.Spellings.{pairs_counted}
use Rattle.bl_proc_compress.specs.declared.compression.Compression.TheVariants.{LatchedRight, OpeningRight}
use Rattle.bl_proc_compress.specs.declared.compression.Decision.TheVariants.{Enough, Lost}
use Rattle.bl_rearrange.specs.declared.families.Siblings.{Siblings}
use Rattle.bl_proc_compress.specs.Compressions.{IsFew}
use Rattle.bl_proc.specs.Processes.{next_of}
use Rattle.bl_index_events.proofs.Standing.{on_after, same_goes}
use Rattle.bl_index_compress.proofs.CompressionCourses.{decided_since, has_both, on_opening, compression_course}
use Rattle.bl_index_compress.proofs.Spelled.{neighbours_tree}
use Rattle.bl_index_compress.proofs.children.decide.Goals as goal

pub words_at-right-requires-clause-next : goal.words_at-right-requires-clause-next
words_at-right-requires-clause-next c = let t = c.requires.process in ap next_of t.4 ∙ ap (λ (z : Siblings). act.Get z.right) t.2.at

pub words_at-right-requires-clause-course : goal.words_at-right-requires-clause-course
words_at-right-requires-clause-course c = λ page. let t = c.requires.process in compression_course c.args.target (LatchedRight t.0 t.1) (seen.Words page) _ t.4 tt

pub open_right-requires-clause-runs : goal.open_right-requires-clause-runs
open_right-requires-clause-runs c = record {
  own = search rules;
  running = search rules;
  on = (let t = c.requires.process in let got = c.words_at-right.ensures.goes in
      let b = has_both _ _ c.args.parent.now c.args.left.now c.words_at-right.result t.0 t.1 got.0 _ _ t.2 t.3 got.1 t.4 got.2 in
      let apart : ¬ AreNeighbours b.lower b.upper = λ n. false≢true (sym c.if-not-neighbours_in.true ∙ (c.neighbours_in.ensures b.lower b.upper b.left_is b.right_is).1 n) in
      on_opening _ c.args.target c.args.kin c.args.parent.now b.family _ Lost b.are (on_after _ _ _ _ _ c.requires.runs.on got.2) (b.decides (OpeningRight b.family.at Lost) (refl, inl apart)));
}

pub returns-then-not-neighbours_in : goal.returns-then-not-neighbours_in
returns-then-not-neighbours_in c = decided_since _ _ c.words_at-right.new.hand.seat _ _ _ _ c.words_at-right.ensures.same.0 (same_goes _ _ _ c.words_at-right.ensures.goes.2) c.open_right.ensures

pub merge-requires-clause-both : goal.merge-requires-clause-both
merge-requires-clause-both c =
    let t = c.requires.process in let got = c.words_at-right.ensures.goes in
    let b = has_both _ _ c.args.parent.now c.args.left.now c.words_at-right.result t.0 t.1 got.0 _ _ t.2 t.3 got.1 t.4 got.2 in
    let n = (c.neighbours_in.ensures b.lower b.upper b.left_is b.right_is).0 c.if-not-neighbours_in.false in
    let tree = neighbours_tree b.lower b.upper n in
    let left = pairs_counted b.lower c.args.left.now tree.0 b.left_is in let right = pairs_counted b.upper c.words_at-right.result tree.1 b.right_is in
    (b, n, (let fit = c.if-left_count-right_count-le-MOST_PAIRS.true in omega (arith, left, right, fit)))

pub even-requires-clause-both : goal.even-requires-clause-both
even-requires-clause-both c =
    let t = c.requires.process in let got = c.words_at-right.ensures.goes in
    let b = has_both _ _ c.args.parent.now c.args.left.now c.words_at-right.result t.0 t.1 got.0 _ _ t.2 t.3 got.1 t.4 got.2 in
    let n = (c.neighbours_in.ensures b.lower b.upper b.left_is b.right_is).0 c.if-not-neighbours_in.false in
    let tree = neighbours_tree b.lower b.upper n in
    let left = pairs_counted b.lower c.args.left.now tree.0 b.left_is in let right = pairs_counted b.upper c.words_at-right.result tree.1 b.right_is in
    let few : IsFew b.lower ⊎ IsFew b.upper = elim (c.is_either_few.ensures.0 c.if-is_either_few.true) [ inl one ↦ inl (omega (arith, left, one)) | inr other ↦ inr (omega (arith, right, other)) ] in
    (b, record { neighbours = n; past = (let many = c.if-left_count-right_count-le-MOST_PAIRS.false in omega (arith, left, right, many)); few = few })

pub open_right-requires-else-is_either_few-clause-runs : goal.open_right-requires-else-is_either_few-clause-runs
open_right-requires-else-is_either_few-clause-runs c = record {
  own = search rules;
  running = search rules;
  on = (let t = c.requires.process in let got = c.words_at-right.ensures.goes in
      let b = has_both _ _ c.args.parent.now c.args.left.now c.words_at-right.result t.0 t.1 got.0 _ _ t.2 t.3 got.1 t.4 got.2 in
      let n = (c.neighbours_in.ensures b.lower b.upper b.left_is b.right_is).0 c.if-not-neighbours_in.false in
      let tree = neighbours_tree b.lower b.upper n in
      let left = pairs_counted b.lower c.args.left.now tree.0 b.left_is in let right = pairs_counted b.upper c.words_at-right.result tree.1 b.right_is in
      let past : 14 < together b.lower b.upper = (let many = c.if-left_count-right_count-le-MOST_PAIRS.false in omega (arith, left, right, many)) in
      let lower : ¬ IsFew b.lower = λ few. false≢true (sym c.if-is_either_few.false ∙ c.is_either_few.ensures.1 (inl (omega (arith, left, few)))) in
      let upper : ¬ IsFew b.upper = λ few. false≢true (sym c.if-is_either_few.false ∙ c.is_either_few.ensures.1 (inr (omega (arith, right, few)))) in
      on_opening _ c.args.target c.args.kin c.args.parent.now b.family _ Enough b.are (on_after _ _ _ _ _ c.requires.runs.on got.2) (b.decides (OpeningRight b.family.at Enough) (refl, n, past, lower, upper)));
}

pub returns-then-left_count-right_count-le-MOST_PAIRS : goal.returns-then-left_count-right_count-le-MOST_PAIRS
returns-then-left_count-right_count-le-MOST_PAIRS c = decided_since _ _ c.words_at-right.new.hand.seat _ _ _ _ c.words_at-right.ensures.same.0 (same_goes _ _ _ c.words_at-right.ensures.goes.2) c.merge.ensures

pub returns-then-is_either_few : goal.returns-then-is_either_few
returns-then-is_either_few c = decided_since _ _ c.words_at-right.new.hand.seat _ _ _ _ c.words_at-right.ensures.same.0 (same_goes _ _ _ c.words_at-right.ensures.goes.2) c.even.ensures

pub returns-else-is_either_few : goal.returns-else-is_either_few
returns-else-is_either_few c = decided_since _ _ c.words_at-right.new.hand.seat _ _ _ _ c.words_at-right.ensures.same.0 (same_goes _ _ _ c.words_at-right.ensures.goes.2) c.open_right-else-is_either_few.ensures
