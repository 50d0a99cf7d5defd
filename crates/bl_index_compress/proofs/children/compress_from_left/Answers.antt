use Rattle.std.proofs.Common.{rules, ◌≡◌, Bool, get_or, refl, sym, ap, ◌∙◌}
use Rattle.bl_proc_steps.specs.declared.acts.Action.TheVariants as act
use Rattle.bl_proc_steps.specs.declared.acts.Seen.TheVariants as seen
use Rattle.bl_answers.specs.declared.answers.Hint.TheVariants as hint
use Rattle.bl_proc_compress.specs.declared.compression.Decision.TheVariants.{Unposted, Refused, Lost}
use Rattle.bl_proc_compress.specs.declared.compression.Compression.TheVariants.{LatchedLeft, LatchingRight, LatchedRight, OpeningLeft}
use Rattle.bl_proc_compress.specs.Compressions.{missed_right}
use Rattle.bl_rearrange.specs.declared.families.Siblings.{Siblings}
use Rattle.bl_proc.specs.Processes.{next_of}
use Rattle.bl_store.specs.Hands.{known}
use Rattle.bl_index_events.proofs.Standing.{on_as, on_itself, same_all, same_goes}
use Rattle.bl_index_compress.specs.CompressStands.{compression_of}
use Rattle.bl_index_compress.proofs.CompressionCourses.{compression_course, compression_runs, decided_since, linked, links_right, same_hands, unlinked}
use Rattle.bl_index_compress.proofs.children.compress_from_left.Goals as goal

pub words_at-left-requires-clause-next : goal.words_at-left-requires-clause-next
words_at-left-requires-clause-next c = let t = c.requires.process in ap next_of t.2 ∙ ap (λ (z : Siblings). act.Get z.left) t.1.at

pub words_at-left-requires-clause-course : goal.words_at-left-requires-clause-course
words_at-left-requires-clause-course c = λ page. let t = c.requires.process in compression_course c.args.target (LatchedLeft t.0) (seen.Words page) _ t.2 tt

pub returns-in-Some : goal.returns-in-Some
returns-in-Some c =
    let t = c.requires.process in let got = c.words_at-left.ensures.goes in
    let l = c.args.tree.now.store.layout in
    let on = on_as l (known c.args.hand.now.seat) _ c.requires.runs.on t.2 in
    record {
      same = c.words_at-left.ensures.same.0;
      empty = c.words_at-left.ensures.same.2.0 ∙ c.requires.empty;
      runs = record { own = search rules; running = search rules; on = unlinked l c.args.target c.args.kin c.args.parent.now c.words_at-left.result t.0 got.0 _ _ t.1 got.1 on got.2 c.in-Some.ensures.some.0 c.in-Some.decision c.in-Some.ensures.some.1 };
      since = same_goes _ _ _ got.2;
      no_room = λ e. absurd (let z : Unposted (hint.Post c.args.target.level (get_or c.words_at-left.result 2 0)) ≡ Refused = sym c.in-Some.ensures.some.1 ∙ e in cc);
    }

pub try_latch-requires-clause-runs : goal.try_latch-requires-clause-runs
try_latch-requires-clause-runs c =
    let t = c.requires.process in let got = c.words_at-left.ensures.goes in
    let l = c.args.tree.now.store.layout in
    let on = on_as l (known c.args.hand.now.seat) _ c.requires.runs.on t.2 in
    record { own = search rules; running = search rules; on = on_itself _ _ _ (links_right l c.args.target c.args.kin c.args.parent.now c.words_at-left.result t.0 got.0 _ _ t.1 got.1 on got.2 (linked c.args.kin c.words_at-left.result c.unposted_at.result c.unposted_at.ensures.none c.in_default.not-Some)) }

pub try_latch-requires-clause-next : goal.try_latch-requires-clause-next
try_latch-requires-clause-next c =
    let t = c.requires.process in let got = c.words_at-left.ensures.goes in
    let l = c.args.tree.now.store.layout in
    let on = on_as l (known c.args.hand.now.seat) _ c.requires.runs.on t.2 in
    let two = links_right l c.args.target c.args.kin c.args.parent.now c.words_at-left.result t.0 got.0 _ _ t.1 got.1 on got.2 (linked c.args.kin c.words_at-left.result c.unposted_at.result c.unposted_at.ensures.none c.in_default.not-Some) in
    ap next_of two.state ∙ ap (λ (z : Siblings). act.Latch z.right) t.1.at

pub try_latch-requires-clause-course : goal.try_latch-requires-clause-course
try_latch-requires-clause-course c =
    let t = c.requires.process in let got = c.words_at-left.ensures.goes in
    let l = c.args.tree.now.store.layout in
    let on = on_as l (known c.args.hand.now.seat) _ c.requires.runs.on t.2 in
    let two = links_right l c.args.target c.args.kin c.args.parent.now c.words_at-left.result t.0 got.0 _ _ t.1 got.1 on got.2 (linked c.args.kin c.words_at-left.result c.unposted_at.result c.unposted_at.ensures.none c.in_default.not-Some) in
    (compression_course c.args.target (LatchingRight t.0 got.0) seen.Done _ two.state tt, compression_course c.args.target (LatchingRight t.0 got.0) seen.Missed _ two.state tt)

pub decide-requires-clause-runs : goal.decide-requires-clause-runs
decide-requires-clause-runs c =
    let t = c.requires.process in let got = c.words_at-left.ensures.goes in
    let l = c.args.tree.now.store.layout in
    let on = on_as l (known c.args.hand.now.seat) _ c.requires.runs.on t.2 in
    let two = links_right l c.args.target c.args.kin c.args.parent.now c.words_at-left.result t.0 got.0 _ _ t.1 got.1 on got.2 (linked c.args.kin c.words_at-left.result c.unposted_at.result c.unposted_at.ensures.none c.in_default.not-Some) in
    record { own = search rules; running = search rules; on = on_itself _ _ _ (compression_runs l c.args.target (LatchingRight t.0 got.0) (LatchedRight t.0 got.0) seen.Done _ _ two (c.try_latch.ensures.done c.if-try_latch.true) refl) }

pub decide-requires-clause-process : goal.decide-requires-clause-process
decide-requires-clause-process c =
    let t = c.requires.process in let got = c.words_at-left.ensures.goes in
    let l = c.args.tree.now.store.layout in
    let on = on_as l (known c.args.hand.now.seat) _ c.requires.runs.on t.2 in
    let two = links_right l c.args.target c.args.kin c.args.parent.now c.words_at-left.result t.0 got.0 _ _ t.1 got.1 on got.2 (linked c.args.kin c.words_at-left.result c.unposted_at.result c.unposted_at.ensures.none c.in_default.not-Some) in
    (t.0, got.0, t.1, got.1, (compression_runs l c.args.target (LatchingRight t.0 got.0) (LatchedRight t.0 got.0) seen.Done _ _ two (c.try_latch.ensures.done c.if-try_latch.true) refl).state)

pub returns-then-try_latch : goal.returns-then-try_latch
returns-then-try_latch c =
    decided_since c.args.tree.now c.args.hand.now.seat c.try_latch.new.hand.seat c.decide.new.hand _ _ _
    (same_hands c.args.hand.now.seat c.words_at-left.new.hand.seat c.try_latch.new.hand.seat c.words_at-left.ensures.same.0 c.try_latch.ensures.same.0)
    (same_all _ _ _ (same_goes _ _ _ c.words_at-left.ensures.goes.2) (same_goes _ _ _ (c.try_latch.ensures.done c.if-try_latch.true))) c.decide.ensures

pub returns : goal.returns
returns c =
    let t = c.requires.process in let got = c.words_at-left.ensures.goes in
    let l = c.args.tree.now.store.layout in
    let on = on_as l (known c.args.hand.now.seat) _ c.requires.runs.on t.2 in
    let two = links_right l c.args.target c.args.kin c.args.parent.now c.words_at-left.result t.0 got.0 _ _ t.1 got.1 on got.2 (linked c.args.kin c.words_at-left.result c.unposted_at.result c.unposted_at.ensures.none c.in_default.not-Some) in
    let missed = c.try_latch.ensures.missed c.if-try_latch.false in
    let away = compression_runs l c.args.target (LatchingRight t.0 got.0) (OpeningLeft t.0.at Lost) seen.Missed _ _ two missed (ap (λ (w : Bool). missed_right w t.0 got.0) (sym c.requires.yields)) in
    record {
      same = same_hands c.args.hand.now.seat c.words_at-left.new.hand.seat c.try_latch.new.hand.seat c.words_at-left.ensures.same.0 c.try_latch.ensures.same.0;
      empty = c.try_latch.ensures.same.2.0 ∙ (c.words_at-left.ensures.same.2.0 ∙ c.requires.empty);
      runs = record { own = search rules; running = search rules; on = on_as l (known c.try_latch.new.hand.seat) _ (on_itself _ _ _ away) (away.state ∙ ap (λ (z : Siblings). compression_of c.args.target (OpeningLeft z Lost)) t.1.at) };
      since = same_all _ _ _ (same_goes _ _ _ got.2) (same_goes _ _ _ missed);
      no_room = λ e. absurd (let z : Lost ≡ Refused = e in cc);
    }
