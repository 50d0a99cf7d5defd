use Rattle.std.proofs.Common.{rules, Bool, None, refl, sym, ap, ◌∙◌}
use Rattle.bl_proc_steps.specs.declared.acts.Action.TheVariants as act
use Rattle.bl_proc_steps.specs.declared.acts.Seen.TheVariants as seen
use Rattle.bl_proc_compress.specs.declared.compression.Decision.TheVariants.{Lost}
use Rattle.bl_proc_compress.specs.declared.compression.Compression.TheVariants.{LatchingLeft, LatchedLeft, OpeningParent}
use Rattle.bl_proc_compress.specs.Compressions.{missed_left}
use Rattle.bl_rearrange.specs.declared.families.Siblings.{Siblings}
use Rattle.bl_proc.specs.Processes.{next_of}
use Rattle.bl_store.specs.Hands.{known}
use Rattle.bl_index_events.proofs.Standing.{on_as, on_goes, on_itself, same_all, same_goes}
use Rattle.bl_index_compress.proofs.CompressionCourses.{compression_course, compression_runs, leaves_since, lost_has_room, opens_parent, same_hands}
use Rattle.bl_index_compress.proofs.children.compress_two_within.Goals as goal

pub try_latch-requires-clause-next : goal.try_latch-requires-clause-next
try_latch-requires-clause-next c = let t = c.requires.process in ap next_of t.2 ∙ ap (λ (z : Siblings). act.Latch z.left) t.1.at

pub try_latch-requires-clause-course : goal.try_latch-requires-clause-course
try_latch-requires-clause-course c = let t = c.requires.process in (compression_course c.args.target (LatchingLeft t.0) seen.Done _ t.2 tt, compression_course c.args.target (LatchingLeft t.0) seen.Missed _ t.2 tt)

pub compress_from_left-decision-requires-clause-runs : goal.compress_from_left-decision-requires-clause-runs
compress_from_left-decision-requires-clause-runs c =
    let t = c.requires.process in let l = c.args.tree.now.store.layout in
    let on = on_as l (known c.args.hand.now.seat) _ c.requires.runs.on t.2 in
    record { own = search rules; running = search rules; on = on_itself _ _ _ (compression_runs l c.args.target (LatchingLeft t.0) (LatchedLeft t.0) seen.Done _ _ on (c.try_latch.ensures.done c.if-try_latch.true) refl) }

pub compress_from_left-decision-requires-clause-process : goal.compress_from_left-decision-requires-clause-process
compress_from_left-decision-requires-clause-process c =
    let t = c.requires.process in let l = c.args.tree.now.store.layout in
    let on = on_as l (known c.args.hand.now.seat) _ c.requires.runs.on t.2 in
    (t.0, t.1, (compression_runs l c.args.target (LatchingLeft t.0) (LatchedLeft t.0) seen.Done _ _ on (c.try_latch.ensures.done c.if-try_latch.true) refl).state)

pub open_family-requires-clause-runs : goal.open_family-requires-clause-runs
open_family-requires-clause-runs c = c.compress_from_left-decision.ensures.runs

pub open_family-requires-clause-empty : goal.open_family-requires-clause-empty
open_family-requires-clause-empty c = c.compress_from_left-decision.ensures.empty

pub open_family-requires-clause-no_room : goal.open_family-requires-clause-no_room
open_family-requires-clause-no_room c = c.compress_from_left-decision.ensures.no_room

pub returns-then-try_latch : goal.returns-then-try_latch
returns-then-try_latch c =
    let d = c.compress_from_left-decision.ensures in let had = c.try_latch.ensures.done c.if-try_latch.true in
    leaves_since c.args.tree.now c.args.hand.now.seat c.compress_from_left-decision.new.hand.seat c.open_family.new.hand c.args.target c.open_family.result
    (same_hands c.args.hand.now.seat c.try_latch.new.hand.seat c.compress_from_left-decision.new.hand.seat c.try_latch.ensures.same.0 d.same)
    (same_all _ _ _ (same_goes _ _ _ had) d.since) c.open_family.ensures

pub reopen-requires-clause-runs : goal.reopen-requires-clause-runs
reopen-requires-clause-runs c =
    let t = c.requires.process in let l = c.args.tree.now.store.layout in
    let on = on_as l (known c.args.hand.now.seat) _ c.requires.runs.on t.2 in
    let away = compression_runs l c.args.target (LatchingLeft t.0) (OpeningParent t.0.at.parent Lost) seen.Missed _ _ on (c.try_latch.ensures.missed c.if-try_latch.false) (ap (λ (w : Bool). missed_left w t.0) (sym c.requires.yields)) in
    record { own = search rules; running = search rules; on = on_itself _ _ _ away }

pub reopen-requires-clause-next : goal.reopen-requires-clause-next
reopen-requires-clause-next c =
    let t = c.requires.process in let l = c.args.tree.now.store.layout in
    let on = on_as l (known c.args.hand.now.seat) _ c.requires.runs.on t.2 in
    let away = compression_runs l c.args.target (LatchingLeft t.0) (OpeningParent t.0.at.parent Lost) seen.Missed _ _ on (c.try_latch.ensures.missed c.if-try_latch.false) (ap (λ (w : Bool). missed_left w t.0) (sym c.requires.yields)) in
    ap next_of away.state ∙ ap (λ (z : Siblings). act.Open z.parent) t.1.at

pub reopen-requires-clause-course : goal.reopen-requires-clause-course
reopen-requires-clause-course c =
    let t = c.requires.process in let l = c.args.tree.now.store.layout in
    let on = on_as l (known c.args.hand.now.seat) _ c.requires.runs.on t.2 in
    let away = compression_runs l c.args.target (LatchingLeft t.0) (OpeningParent t.0.at.parent Lost) seen.Missed _ _ on (c.try_latch.ensures.missed c.if-try_latch.false) (ap (λ (w : Bool). missed_left w t.0) (sym c.requires.yields)) in
    compression_course c.args.target (OpeningParent t.0.at.parent Lost) seen.Done _ away.state tt

pub returns : goal.returns
returns c =
    let t = c.requires.process in let l = c.args.tree.now.store.layout in
    let on = on_as l (known c.args.hand.now.seat) _ c.requires.runs.on t.2 in
    let missed = c.try_latch.ensures.missed c.if-try_latch.false in
    let away = compression_runs l c.args.target (LatchingLeft t.0) (OpeningParent t.0.at.parent Lost) seen.Missed _ _ on missed (ap (λ (w : Bool). missed_left w t.0) (sym c.requires.yields)) in
    let left = opens_parent c.args.target t.0.at.parent Lost None refl in
    record {
      same = same_hands c.args.hand.now.seat c.try_latch.new.hand.seat c.reopen.new.hand.seat c.try_latch.ensures.same.0 c.reopen.ensures.same.0;
      empty = c.reopen.ensures.same.2.0 ∙ (c.try_latch.ensures.same.2.0 ∙ c.requires.empty);
      state = left.0;
      runs = record { own = search rules; running = search rules; on = on_goes l seen.Done _ _ _ _ away c.reopen.ensures.goes left.1 };
      left = left.2;
      since = same_all _ _ _ (same_goes _ _ _ missed) (same_goes _ _ _ c.reopen.ensures.goes);
      no_room = λ hint e. lost_has_room hint e;
    }
