use Rattle.std.proofs.Common.{rules, ◌≡◌, Some, refl, ap, sym, ◌∙◌, subst}
use Rattle.bl_proc_steps.specs.declared.acts.Seen.TheVariants as seen
use Rattle.bl_proc.specs.declared.kinds.Proc.{Proc}
use Rattle.bl_proc.specs.Processes.{next_of}
use Rattle.bl_proc_deterministic.specs.Courses.{GoesOn}
use Rattle.bl_store.specs.Hands.{known}
use Rattle.bl_index_rule.proofs.Pages.{takes_page, refuses_take}
use Rattle.bl_index_events.proofs.Rooms.{tells_took, tells_refused, take_opens_not}
use Rattle.bl_index_rule.specs.Observed.{Goes}
use Rattle.bl_index_events.proofs.Standing.{on_goes}
use Rattle.bl_index_events.proofs.tree.Tree.take.Goals as goal

pub reserve-requires-clause-takes : goal.reserve-requires-clause-takes
reserve-requires-clause-takes g c = λ asked x. let laws = g.met.P.Kind in takes_page _ _ (known c.args.hand.now.seat) c.requires.runs.on.runs x (ap next_of c.requires.runs.on.state ∙ (laws.acts c.args.process.now ∙ c.requires.next.1)) (λ y child. (subst (λ (z : Proc). GoesOn z (seen.Took y)) (sym c.requires.runs.on.state) (laws.courses c.args.process.now (seen.Took y) c.requires.next.0 (rw c.requires.next.1 child))))

pub reserve-requires-clause-refuses : goal.reserve-requires-clause-refuses
reserve-requires-clause-refuses g c = let laws = g.met.P.Kind in refuses_take _ _ (known c.args.hand.now.seat) c.requires.runs.on.runs (ap next_of c.requires.runs.on.state ∙ (laws.acts c.args.process.now ∙ c.requires.next.1)) (subst (λ (z : Proc). GoesOn z seen.Refused) (sym c.requires.runs.on.state) (laws.courses c.args.process.now seen.Refused c.requires.next.0 (rw (c.requires.next.1, c.requires.needs) refl)))

pub returns-in-Some-clause-takes : goal.returns-in-Some-clause-takes
returns-in-Some-clause-takes g c = (seen.Took c.in-Some.page, c.took.ensures, tells_took c.args.hand.now.seat c.reserve.new.hand.seat (g.P.Kind.proc_of c.args.process.now) _ (g.met.P.Kind.acts c.args.process.now ∙ c.requires.next.1))

pub returns-in-Err-clause-takes : goal.returns-in-Err-clause-takes
returns-in-Err-clause-takes g c = (seen.Refused, c.took-in-Err.ensures, tells_refused c.args.hand.now.seat c.reserve.new.hand.seat (g.P.Kind.proc_of c.args.process.now) (1, 2) (take_opens_not (g.P.Kind.proc_of c.args.process.now) (g.met.P.Kind.acts c.args.process.now ∙ c.requires.next.1)) (g.met.P.Kind.asks c.args.process.now ∙ c.requires.needs) c.in-Err.ensures.asked)

pub reserve-requires-clause-own : goal.reserve-requires-clause-own
reserve-requires-clause-own g c = c.requires.runs.own

pub reserve-requires-clause-empty : goal.reserve-requires-clause-empty
reserve-requires-clause-empty g c = c.requires.empty

pub took-requires-clause-running : goal.took-requires-clause-running
took-requires-clause-running g c = c.requires.next.0

pub took-requires-in-Err-clause-running : goal.took-requires-in-Err-clause-running
took-requires-in-Err-clause-running g c = c.requires.next.0

pub took-requires-in-Err-clause-given : goal.took-requires-in-Err-clause-given
took-requires-in-Err-clause-given g c = rw (c.requires.next.1, c.requires.needs) refl

pub returns-in-Some-clause-same : goal.returns-in-Some-clause-same
returns-in-Some-clause-same g c = c.reserve.ensures.same

pub returns-in-Err-clause-same : goal.returns-in-Err-clause-same
returns-in-Err-clause-same g c = c.reserve.ensures.same

pub returns-in-Some-clause-runs : goal.returns-in-Some-clause-runs
returns-in-Some-clause-runs g c = record {
  own = search rules;
  running = search rules;
  on = (on_goes c.args.self.now.store.layout (seen.Took c.in-Some.page) (known c.args.hand.now.seat) (known c.reserve.new.hand.seat) (g.P.Kind.proc_of c.args.process.now) (g.P.Kind.proc_of c.took.new.self) c.requires.runs.on (let got = c.in-Ok.ensures.page refl in subst (λ x. Goes (seen.Took x) (known c.args.hand.now.seat) (known c.reserve.new.hand.seat)) (let e : Some got.0 ≡ Some c.in-Some.page = sym got.1 ∙ sym c.in-Some.ensures in cc) got.4.1) (g.met.P.Kind.goes c.args.process.now c.took.new.self (seen.Took c.in-Some.page) c.took.ensures));
}

pub returns-in-Some-clause-moves : goal.returns-in-Some-clause-moves
returns-in-Some-clause-moves g c = (seen.Took c.in-Some.page, (let got = c.in-Ok.ensures.page refl in subst (λ x. Goes (seen.Took x) (known c.args.hand.now.seat) (known c.reserve.new.hand.seat)) (let e : Some got.0 ≡ Some c.in-Some.page = sym got.1 ∙ sym c.in-Some.ensures in cc) got.4.1))

pub returns-in-Err-clause-runs : goal.returns-in-Err-clause-runs
returns-in-Err-clause-runs g c = record {
  own = search rules;
  running = search rules;
  on = (on_goes c.args.self.now.store.layout seen.Refused (known c.args.hand.now.seat) (known c.reserve.new.hand.seat) (g.P.Kind.proc_of c.args.process.now) (g.P.Kind.proc_of c.took-in-Err.new.self) c.requires.runs.on c.in-Err.ensures.refused.1.1 (g.met.P.Kind.goes c.args.process.now c.took-in-Err.new.self seen.Refused c.took-in-Err.ensures));
}

pub returns-in-Err-clause-moves : goal.returns-in-Err-clause-moves
returns-in-Err-clause-moves g c = (seen.Refused, c.in-Err.ensures.refused.1.1)
