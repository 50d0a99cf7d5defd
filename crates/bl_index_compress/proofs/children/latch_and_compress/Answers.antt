use Rattle.std.proofs.Common.{rules, ◌≡◌, get_or, refl, sym, ap, ◌∙◌}
use Rattle.bl_proc_steps.specs.declared.acts.Action.TheVariants as act
use Rattle.bl_proc_steps.specs.declared.acts.Seen.TheVariants as seen
use Rattle.bl_answers.specs.declared.answers.Hint.TheVariants as hint
use Rattle.bl_proc_compress.specs.declared.compression.Decision.TheVariants.{Unposted, Refused}
use Rattle.bl_proc_compress.specs.declared.compression.Compression.TheVariants.{LatchingLeft, LatchedLeft, LatchingRight, LatchedRight}
use Rattle.bl_rearrange.specs.declared.families.Siblings.{Siblings}
use Rattle.bl_proc.specs.Processes.{next_of}
use Rattle.bl_index_events.proofs.Standing.{on_itself, same_all, same_goes}
use Rattle.bl_index_compress.proofs.CompressionCourses.{decided_since, latches, linked, links_right, misses_left, misses_right, unlinked, compression_course, same_hands}
use Rattle.bl_index_compress.proofs.children.latch_and_compress.Goals as goal

pub latch-requires-clause-next : goal.latch-requires-clause-next
latch-requires-clause-next g c = let t = c.requires.process in ap next_of t.2 ∙ ap (λ (z : Siblings). act.Latch z.left) t.1.at

pub latch-requires-clause-course : goal.latch-requires-clause-course
latch-requires-clause-course g c = let t = c.requires.process in (compression_course c.args.target (LatchingLeft t.0) seen.Done _ t.2 tt, compression_course c.args.target (LatchingLeft t.0) seen.Missed _ t.2 tt)

pub latch-requires-clause-stays : goal.latch-requires-clause-stays
latch-requires-clause-stays g c = let t = c.requires.process in misses_left c.args.target t.0 _ c.requires.waits t.2

pub words_at-left-requires-clause-runs : goal.words_at-left-requires-clause-runs
words_at-left-requires-clause-runs g c = record {
  own = search rules;
  running = search rules;
  on = (let t = c.requires.process in on_itself _ _ _ (c.latch.ensures.latched _ (latches c.args.target (LatchingLeft t.0) (LatchedLeft t.0) _ t.2 refl)));
}

pub words_at-left-requires-clause-next : goal.words_at-left-requires-clause-next
words_at-left-requires-clause-next g c =
    let t = c.requires.process in let on = c.latch.ensures.latched _ (latches c.args.target (LatchingLeft t.0) (LatchedLeft t.0) _ t.2 refl) in
    ap next_of on.state ∙ ap (λ (z : Siblings). act.Get z.left) t.1.at

pub words_at-left-requires-clause-course : goal.words_at-left-requires-clause-course
words_at-left-requires-clause-course g c = λ page.
    let t = c.requires.process in let on = c.latch.ensures.latched _ (latches c.args.target (LatchingLeft t.0) (LatchedLeft t.0) _ t.2 refl) in
    compression_course c.args.target (LatchedLeft t.0) (seen.Words page) _ on.state tt

pub returns-in-Some : goal.returns-in-Some
returns-in-Some g c =
    let t = c.requires.process in let got = c.words_at-left.ensures.goes in
    let on = c.latch.ensures.latched _ (latches c.args.target (LatchingLeft t.0) (LatchedLeft t.0) _ t.2 refl) in
    record {
      same = same_hands c.args.hand.now.seat c.latch.new.hand.seat c.words_at-left.new.hand.seat c.latch.ensures.same.0 c.words_at-left.ensures.same.0;
      empty = c.words_at-left.ensures.same.2.0 ∙ (c.latch.ensures.same.2.0 ∙ c.requires.empty);
      runs = record { own = search rules; running = search rules; on = unlinked c.args.tree.now.store.layout c.args.target c.args.kin c.args.parent.now c.words_at-left.result t.0 got.0 _ _ t.1 got.1 on got.2 c.in-Some.ensures.some.0 c.in-Some.decision c.in-Some.ensures.some.1 };
      since = same_all _ _ _ c.latch.ensures.since (same_goes _ _ _ got.2);
      no_room = λ e. absurd (let z : Unposted (hint.Post c.args.target.level (get_or c.words_at-left.result 2 0)) ≡ Refused = sym c.in-Some.ensures.some.1 ∙ e in cc);
    }

pub latch-requires-2-clause-runs : goal.latch-requires-2-clause-runs
latch-requires-2-clause-runs g c = record {
  own = search rules;
  running = search rules;
  on = (let t = c.requires.process in let got = c.words_at-left.ensures.goes in
      let on = c.latch.ensures.latched _ (latches c.args.target (LatchingLeft t.0) (LatchedLeft t.0) _ t.2 refl) in
      on_itself _ _ _ (links_right c.args.tree.now.store.layout c.args.target c.args.kin c.args.parent.now c.words_at-left.result t.0 got.0 _ _ t.1 got.1 on got.2 (linked c.args.kin c.words_at-left.result c.unposted_at.result c.unposted_at.ensures.none c.in_default.not-Some)));
}

pub latch-requires-2-clause-next : goal.latch-requires-2-clause-next
latch-requires-2-clause-next g c =
    let t = c.requires.process in let got = c.words_at-left.ensures.goes in
    let on = c.latch.ensures.latched _ (latches c.args.target (LatchingLeft t.0) (LatchedLeft t.0) _ t.2 refl) in
    let two = links_right c.args.tree.now.store.layout c.args.target c.args.kin c.args.parent.now c.words_at-left.result t.0 got.0 _ _ t.1 got.1 on got.2 (linked c.args.kin c.words_at-left.result c.unposted_at.result c.unposted_at.ensures.none c.in_default.not-Some) in
    ap next_of two.state ∙ ap (λ (z : Siblings). act.Latch z.right) t.1.at

pub latch-requires-2-clause-course : goal.latch-requires-2-clause-course
latch-requires-2-clause-course g c =
    let t = c.requires.process in let got = c.words_at-left.ensures.goes in
    let on = c.latch.ensures.latched _ (latches c.args.target (LatchingLeft t.0) (LatchedLeft t.0) _ t.2 refl) in
    let two = links_right c.args.tree.now.store.layout c.args.target c.args.kin c.args.parent.now c.words_at-left.result t.0 got.0 _ _ t.1 got.1 on got.2 (linked c.args.kin c.words_at-left.result c.unposted_at.result c.unposted_at.ensures.none c.in_default.not-Some) in
    (compression_course c.args.target (LatchingRight t.0 got.0) seen.Done _ two.state tt, compression_course c.args.target (LatchingRight t.0 got.0) seen.Missed _ two.state tt)

pub latch-requires-2-clause-stays : goal.latch-requires-2-clause-stays
latch-requires-2-clause-stays g c =
    let t = c.requires.process in let got = c.words_at-left.ensures.goes in
    let on = c.latch.ensures.latched _ (latches c.args.target (LatchingLeft t.0) (LatchedLeft t.0) _ t.2 refl) in
    let two = links_right c.args.tree.now.store.layout c.args.target c.args.kin c.args.parent.now c.words_at-left.result t.0 got.0 _ _ t.1 got.1 on got.2 (linked c.args.kin c.words_at-left.result c.unposted_at.result c.unposted_at.ensures.none c.in_default.not-Some) in
    misses_right c.args.target t.0 got.0 _ c.requires.waits two.state

pub decide-requires-clause-runs : goal.decide-requires-clause-runs
decide-requires-clause-runs g c = record {
  own = search rules;
  running = search rules;
  on = (let t = c.requires.process in let got = c.words_at-left.ensures.goes in
      let on = c.latch.ensures.latched _ (latches c.args.target (LatchingLeft t.0) (LatchedLeft t.0) _ t.2 refl) in
      let two = links_right c.args.tree.now.store.layout c.args.target c.args.kin c.args.parent.now c.words_at-left.result t.0 got.0 _ _ t.1 got.1 on got.2 (linked c.args.kin c.words_at-left.result c.unposted_at.result c.unposted_at.ensures.none c.in_default.not-Some) in
      on_itself _ _ _ (c.latch-2.ensures.latched _ (latches c.args.target (LatchingRight t.0 got.0) (LatchedRight t.0 got.0) _ two.state refl)));
}

pub decide-requires-clause-process : goal.decide-requires-clause-process
decide-requires-clause-process g c =
    let t = c.requires.process in let got = c.words_at-left.ensures.goes in
    let on = c.latch.ensures.latched _ (latches c.args.target (LatchingLeft t.0) (LatchedLeft t.0) _ t.2 refl) in
    let two = links_right c.args.tree.now.store.layout c.args.target c.args.kin c.args.parent.now c.words_at-left.result t.0 got.0 _ _ t.1 got.1 on got.2 (linked c.args.kin c.words_at-left.result c.unposted_at.result c.unposted_at.ensures.none c.in_default.not-Some) in
    (t.0, got.0, t.1, got.1, (c.latch-2.ensures.latched _ (latches c.args.target (LatchingRight t.0 got.0) (LatchedRight t.0 got.0) _ two.state refl)).state)

pub returns : goal.returns
returns g c =
    decided_since c.args.tree.now c.args.hand.now.seat c.latch-2.new.hand.seat c.decide.new.hand _ _ _
    (same_hands c.args.hand.now.seat c.latch.new.hand.seat c.latch-2.new.hand.seat c.latch.ensures.same.0 (same_hands c.latch.new.hand.seat c.words_at-left.new.hand.seat c.latch-2.new.hand.seat c.words_at-left.ensures.same.0 c.latch-2.ensures.same.0))
    (same_all _ _ _ c.latch.ensures.since (same_all _ _ _ (same_goes _ _ _ c.words_at-left.ensures.goes.2) c.latch-2.ensures.since)) c.decide.ensures
