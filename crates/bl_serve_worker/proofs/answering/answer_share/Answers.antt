use Rattle.std.proofs.Common.{rules, refl, arith, ◌≡◌, ◌+◌, ◌-◌, ◌++◌, ◌∷◌, [], ◌∙◌, ap, ℕ, List, length, get_or}
use Rattle.std.specs.Prelude.{Some, None}
use Rattle.bl_map.specs.declared.handle.Handle.{Handle}
use Rattle.bl_map.specs.Handles.{first_map_of, pages_of_map, number_of_seat, seen_by}
use Rattle.bl_map.proofs.AllMet.{same_again}
use Rattle.bl_serve_worker.specs.Shares.{IsNextPlace}
use Rattle.bl_serve_worker.proofs.Lines.{then_idle, text_grows}
use Rattle.bl_serve_worker.proofs.Dealt.{no_share, next_of_share, all_of_share}
use Rattle.bl_serve_worker.proofs.Noting.{no_notes, then_notes, kept_notes}
use Rattle.bl_serve_worker.proofs.answering.answer_share.Goals as goal

pub lines-init : goal.lines-init
lines-init g c = record {
  low = omega arith;
  same = search rules;
  so_far = no_share c.args.handle.now c.args.share c.args.chunk.now.before c.args.chunk.now.deals.now c.args.chunk.now.lines.now c.new-text.result.items c.new-lengths.result.items (seen_by c.args.handle.now) c.new-text.ensures.items c.new-lengths.ensures.items;
  noted = no_notes c.args.handle.now c.args.aside.now;
}

pub overflow_sub-len : goal.overflow_sub-len
overflow_sub-len g c =
    let grows = text_grows (first_map_of c.lines.handle) (pages_of_map c.lines.handle) (number_of_seat c.lines.handle) (c.args.chunk.now.before + (c.in-Some.place + 1)) (get_or c.args.chunk.now.lines.now c.in-Some.place None) c.lines.text.items c.answer.new.text.items
    (seen_by c.lines.handle) (seen_by c.answer.new.handle) c.in_ok-answer.ensures.answers in
    let a = c.len.ensures in let b = c.len-bytes.ensures in let d = c.answer.new.text.ok in let e = c.lines.text.ok in omega (arith, grows, a, b, d, e)

pub lines-preserved : goal.lines-preserved
lines-preserved g c =
    let chunk = c.args.chunk.now in let place : ℕ = c.in-Some.place in let number : ℕ = chunk.before + (place + 1) in
    let before : Handle = c.lines.handle in let answered : Handle = c.answer.new.handle in let swept : Handle = c.sweep_if_may.new.handle in
    let text : List ℕ = c.lines.text.items in let more : List ℕ = c.answer.new.text.items in
    let next : IsNextPlace c.args.share chunk.deals.now c.lines.from (Some place) = c.in-Some.ensures in let low = next.1 in
    let one = then_idle before answered swept number (get_or chunk.lines.now place None) text more c.answer.ensures.same c.in_ok-answer.ensures.answers c.sweep_if_may.ensures.kept in
    let bytes : c.len.result - c.len-bytes.result ≡ length more - length text = (let a = c.len.ensures in let b = c.len-bytes.ensures in let d = c.answer.new.text.ok in let e = c.lines.text.ok in omega (arith, a, b, d, e)) in
    let grown : c.push.new.self.items ≡ c.lines.lengths.items ++ (length more - length text) ∷ [] = c.in_ok-push.ensures.items ∙ ap (λ (k : ℕ). c.lines.lengths.items ++ k ∷ []) bytes in record {
      low = omega (arith, low);
      same = same_again c.args.handle.now answered swept (same_again c.args.handle.now before answered c.lines.invariant.same c.answer.ensures.same) c.sweep_if_may.ensures.same;
      so_far = next_of_share c.args.handle.now c.args.share chunk.before chunk.deals.now chunk.lines.now before c.lines.from place number text more c.lines.lengths.items c.push.new.self.items
          (seen_by c.args.handle.now) (seen_by before) (seen_by swept) c.lines.invariant.same chunk.dealt next refl grown c.lines.invariant.so_far one;
      noted = then_notes c.args.handle.now before swept c.args.aside.now c.lines.aside c.answer.new.aside c.lines.invariant.noted
          (then_notes before answered swept c.lines.aside c.answer.new.aside c.answer.new.aside c.in_ok-answer.ensures.noted (kept_notes answered swept c.answer.new.aside c.sweep_if_may.ensures.same c.sweep_if_may.ensures.kept));
    }

pub returns-clause-answers : goal.returns-clause-answers
returns-clause-answers g c = let chunk = c.args.chunk.now in
    all_of_share c.args.handle.now c.args.share chunk.before chunk.deals.now chunk.lines.now c.lines.from c.lines.text.items c.lines.lengths.items (seen_by c.args.handle.now) (seen_by c.lines.handle) chunk.dealt c.lines.invariant.low c.in_default.ensures c.lines.invariant.so_far
