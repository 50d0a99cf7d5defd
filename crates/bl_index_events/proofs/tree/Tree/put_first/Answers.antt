use Rattle.std.proofs.Common.{rules, ℕ, ◌<◌, refl, ap, sym, ◌∙◌, subst}
use Rattle.bl_proc_steps.specs.declared.acts.Seen.TheVariants as seen
use Rattle.bl_proc.specs.declared.kinds.Proc.{Proc}
use Rattle.bl_proc.specs.Processes.{next_of}
use Rattle.bl_proc_deterministic.specs.Courses.{GoesOn}
use Rattle.bl_store.specs.Hands.{known}
use Rattle.bl_index_rule.proofs.Pages.{refuses_put}
use Rattle.bl_index_events.proofs.Rooms.{tells_done, tells_refused, put_opens_not}
use Rattle.bl_index_events.specs.Runs.{IsOn, Moves}
use Rattle.bl_index_events.proofs.Standing.{on_goes}
use Rattle.bl_index_events.proofs.tree.Tree.put_first.Goals as goal

pub reserve-requires-clause-refuses : goal.reserve-requires-clause-refuses
reserve-requires-clause-refuses g c = let laws = g.met.P.Kind in refuses_put _ _ (known c.args.hand.now.seat) c.requires.runs.on.runs _ c.args.contents.now (ap next_of c.requires.runs.on.state ∙ (laws.acts c.args.process.now ∙ c.requires.next.1)) (subst (λ (z : Proc). GoesOn z seen.Refused) (sym c.requires.runs.on.state) (laws.courses c.args.process.now seen.Refused c.requires.next.0 (rw (c.requires.next.1, c.requires.needs.0) refl)))

pub returns-in-Ok-clause-takes : goal.returns-in-Ok-clause-takes
returns-in-Ok-clause-takes g c = (seen.Done, c.put_with.ensures.takes, tells_done c.args.hand.now.seat c.put_with.new.hand.seat (g.P.Kind.proc_of c.args.process.now) (λ x opens. absurd (put_opens_not (g.P.Kind.proc_of c.args.process.now) _ _ (g.met.P.Kind.acts c.args.process.now ∙ c.requires.next.1) x opens)))

pub returns-in-Err-clause-takes : goal.returns-in-Err-clause-takes
returns-in-Err-clause-takes g c = (seen.Refused, c.took.ensures, tells_refused c.args.hand.now.seat c.reserve.new.hand.seat (g.P.Kind.proc_of c.args.process.now) (0, c.args.frames) (put_opens_not (g.P.Kind.proc_of c.args.process.now) _ _ (g.met.P.Kind.acts c.args.process.now ∙ c.requires.next.1)) (g.met.P.Kind.asks c.args.process.now ∙ c.requires.needs.0) c.in-Err.ensures.asked)

pub reserve-requires-clause-own : goal.reserve-requires-clause-own
reserve-requires-clause-own g c = c.requires.runs.own

pub reserve-requires-clause-empty : goal.reserve-requires-clause-empty
reserve-requires-clause-empty g c = c.requires.empty

pub put_with-requires-clause-next : goal.put_with-requires-clause-next
put_with-requires-clause-next g c = c.requires.next

pub took-requires-clause-running : goal.took-requires-clause-running
took-requires-clause-running g c = c.requires.next.0

pub took-requires-clause-given : goal.took-requires-clause-given
took-requires-clause-given g c = rw (c.requires.next.1, c.requires.needs.0) refl

pub returns-in-Err-clause-same : goal.returns-in-Err-clause-same
returns-in-Err-clause-same g c = c.reserve.ensures.same

pub put_with-requires-clause-runs : goal.put_with-requires-clause-runs
put_with-requires-clause-runs g c = record {
  own = search rules;
  running = search rules;
  on = (subst (λ d. IsOn c.args.self.now.store.layout d (g.P.Kind.proc_of c.args.process.now)) (sym (c.in-Ok.ensures.no_page refl).1) c.requires.runs.on);
}

pub put_with-requires-clause-stock : goal.put_with-requires-clause-stock
put_with-requires-clause-stock g c = let has = c.in-Ok.ensures.stock in (has.0, subst (λ (n : ℕ). 0 < n) (sym has.1) c.requires.needs.1, has.2)

pub returns-in-Ok-clause-same : goal.returns-in-Ok-clause-same
returns-in-Ok-clause-same g c = let b = c.put_with.ensures.same in let a = c.in-Ok.ensures.same in ((b.0.0 ∙ a.0.0, b.0.1 ∙ a.0.1, b.0.2 ∙ a.0.2), b.1 ∙ a.1)

pub returns-in-Ok-clause-runs : goal.returns-in-Ok-clause-runs
returns-in-Ok-clause-runs g c = c.put_with.ensures.runs

pub returns-in-Ok-clause-moves : goal.returns-in-Ok-clause-moves
returns-in-Ok-clause-moves g c = subst (λ d. Moves d (known c.put_with.new.hand.seat)) (c.in-Ok.ensures.no_page refl).1 c.put_with.ensures.moves

pub returns-in-Err-clause-runs : goal.returns-in-Err-clause-runs
returns-in-Err-clause-runs g c = record {
  own = search rules;
  running = search rules;
  on = (on_goes c.args.self.now.store.layout seen.Refused (known c.args.hand.now.seat) (known c.reserve.new.hand.seat) (g.P.Kind.proc_of c.args.process.now) (g.P.Kind.proc_of c.took.new.self) c.requires.runs.on c.in-Err.ensures.refused.1.1 (g.met.P.Kind.goes c.args.process.now c.took.new.self seen.Refused c.took.ensures));
}

pub returns-in-Err-clause-moves : goal.returns-in-Err-clause-moves
returns-in-Err-clause-moves g c = (seen.Refused, c.in-Err.ensures.refused.1.1)
