use Rattle.std.proofs.Common.{ℕ, rules, arith, sym, ap, ◌∙◌, subst}
use Rattle.bl_claims.specs.Trails.{marks_of}
use Rattle.bl_proc_bounds.specs.Latches.{IsTidy}
use Rattle.bl_proc_invariant.specs.Logs.{proc_log}
use Rattle.bl_proc.specs.Processes.{next_of}
use Rattle.bl_proc_deterministic.specs.Frames.{op_of, work_of}
use Rattle.bl_store.specs.Hands.{known}
use Rattle.bl_index_rule.specs.declared.known.PassState.{PassState}
use Rattle.bl_claims.specs.Seeing.{name}
use Rattle.bl_index_events.specs.Runs.{IsSince}
use Rattle.bl_index_events.proofs.Calls.{since_step}
use Rattle.bl_index_events.proofs.Held.{ends_keeps}
use Rattle.bl_index_events.proofs.Standing.{on_held}
use Rattle.bl_proc_deterministic.proofs.RefusedAnswers.{answers_refused}
use Rattle.bl_index_events.proofs.Rooms.{keeps_room, stays_room, ends_room}
use Rattle.bl_index_write.proofs.Turning.{none_reserved}
use Rattle.bl_index_write.proofs.carrying.carry_briefly.Goals as goal

pub loop-event-preserved : goal.loop-event-preserved
loop-event-preserved g c =
    let laws = g.met.P.Kind in
    let inv = c.loop-event.invariant in
    let after = c.in-On.ensures.after in
    let follows = after.3.1 in
    record {
      same = search rules;
      running = search rules;
      process = after.0;
      since = λ pass old begun. since_step _ _ _ _ _ (inv.since pass old begun) after.1.1.steps;
      going = (sym (laws.answers c.step.new.process) ∙ follows.running after.4, λ e. follows.begun (laws.acts c.step.new.process ∙ e));
      op = follows.op ∙ inv.op;
      work = follows.work ∙ inv.work;
      reserved = after.2;
      room = keeps_room c.loop-event.hand.seat c.step.new.hand.seat (g.P.Kind.proc_of c.loop-event.process) after.3.0 (g.P.Kind.proc_of c.step.new.process) inv.process.state (on_held _ (known c.loop-event.hand.seat) _ inv.process) after.1 after.3.2 after.3.3 after.4 inv.room;
      near = c.turns_back.ensures.on c.if-turns_back.false c.step.new.process after.3.0 after.3.2;
      few = (let lt = c.turns_back.ensures.ends c.if-turns_back.false in omega (arith, lt));
    }

pub turns_back-requires : goal.turns_back-requires
turns_back-requires g c = record { near = c.loop-event.invariant.near }

pub step-requires-clause-runs : goal.step-requires-clause-runs
step-requires-clause-runs g c = record { own = search rules; running = c.loop-event.invariant.running; on = c.loop-event.invariant.process }

pub step-requires-clause-going : goal.step-requires-clause-going
step-requires-clause-going g c = c.loop-event.invariant.going

pub step-requires-clause-stock : goal.step-requires-clause-stock
step-requires-clause-stock g c = c.loop-event.invariant.reserved

pub returns-in-AtEnd-clause-rests : goal.returns-in-AtEnd-clause-rests
returns-in-AtEnd-clause-rests g c = λ _. record { idle = search rules; within = c.finish.ensures.within; over = search rules }

pub returns-in-AtEnd-clause-done : goal.returns-in-AtEnd-clause-done
returns-in-AtEnd-clause-done g c = λ _ pass old begun.
    let inv = c.loop-event.invariant in
    let after = c.in-AtEnd.ensures.after in
    let since = subst (λ (z : PassState). IsSince pass old z) (sym after.2) (inv.since pass old begun) in
    record {
      d = known c.step.new.hand.seat;
      before = g.P.Kind.proc_of c.step.new.process;
      since = since;
      state = ap (λ (z : PassState). z.state) after.2 ∙ (inv.process.state ∙ sym after.1);
      at_end = ap next_of after.1 ∙ after.0;
      observed = c.finish.ensures.observed;
      takes = g.met.P.Kind.goes _ _ _ c.finish.ensures.takes;
      op = ap op_of after.1 ∙ inv.op;
      work = ap work_of after.1 ∙ inv.work;
      log = subst (λ (z : ℕ × ℕ). proc_log (g.P.Kind.proc_of c.finish.new.process) (marks_of (name z.0 z.1) (known c.finish.new.hand.seat).trail)) (λ i. (since.named i, since.number i)) c.finish.ensures.log;
      tidy = subst (λ (z : ℕ × ℕ). IsTidy (g.P.Kind.proc_of c.finish.new.process) (marks_of (name z.0 z.1) (known c.finish.new.hand.seat).trail)) (λ i. (since.named i, since.number i)) c.finish.ensures.tidy;
    }

pub returns-in-AtEnd-clause-no_room : goal.returns-in-AtEnd-clause-no_room
returns-in-AtEnd-clause-no_room g c = λ _ a is none.
    let laws = g.met.P.Kind in
    let inv = c.loop-event.invariant in
    let after = c.in-AtEnd.ensures.after in
    let p = g.P.Kind.proc_of c.loop-event.process in let q = g.P.Kind.proc_of c.step.new.process in
    let keeps = stays_room c.loop-event.hand.seat c.step.new.hand.seat p q after.1 after.4 after.2 inv.room in
    ends_room c.step.new.hand.seat c.finish.new.hand.seat q (g.P.Kind.proc_of c.finish.new.process) (laws.goes _ _ _ c.finish.ensures.takes) c.finish.ensures.refusal (ends_keeps _ (known c.step.new.hand.seat) (known c.finish.new.hand.seat) c.finish.ensures.observed) keeps (answers_refused _ a (laws.answers c.finish.new.process ∙ is) none)

pub returns-then-turns_back-clause-empty : goal.returns-then-turns_back-clause-empty
returns-then-turns_back-clause-empty g c = none_reserved c.loop-event.hand.seat c.loop-event.held (g.P.Kind.proc_of c.loop-event.process) (c.turns_back.ensures.free c.if-turns_back.true) c.loop-event.invariant.reserved

pub returns-then-turns_back-clause-runs : goal.returns-then-turns_back-clause-runs
returns-then-turns_back-clause-runs g c = let inv = c.loop-event.invariant in λ _. record { own = search rules; running = inv.running; on = inv.process }

pub returns-then-turns_back-clause-back : goal.returns-then-turns_back-clause-back
returns-then-turns_back-clause-back g c = λ _. c.turns_back.ensures.back c.if-turns_back.true

pub returns-then-turns_back-clause-since : goal.returns-then-turns_back-clause-since
returns-then-turns_back-clause-since g c = λ _. c.loop-event.invariant.since

pub returns-then-turns_back-clause-work : goal.returns-then-turns_back-clause-work
returns-then-turns_back-clause-work g c = λ _. c.loop-event.invariant.work
