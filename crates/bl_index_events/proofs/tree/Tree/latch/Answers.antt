use Rattle.std.proofs.Common.{rules, ap, sym, ◌∙◌, subst}
use Rattle.bl_proc_steps.specs.declared.acts.Seen.TheVariants as seen
use Rattle.bl_proc.specs.declared.kinds.Proc.{Proc}
use Rattle.bl_proc.specs.Processes.{next_of}
use Rattle.bl_proc_deterministic.specs.Courses.{GoesOn}
use Rattle.bl_store.specs.Hands.{known}
use Rattle.bl_index_rule.proofs.Pages.{latches_page, misses_page}
use Rattle.std.proofs.lemmas.Bool.{false≢true}
use Rattle.bl_index_events.proofs.Standing.{on_goes}
use Rattle.bl_index_events.proofs.Rooms.{tells_missed, tells_done, latch_opens_not}
use Rattle.bl_index_events.proofs.tree.Tree.latch.Goals as goal

pub try_latch-requires-clause-latches : goal.try_latch-requires-clause-latches
try_latch-requires-clause-latches g c = let laws = g.met.P.Kind in latches_page _ _ (known c.args.hand.now.seat) c.requires.runs.on.runs _ (ap next_of c.requires.runs.on.state ∙ (laws.acts c.args.process.now ∙ c.requires.next.1)) (subst (λ (z : Proc). GoesOn z seen.Done) (sym c.requires.runs.on.state) (laws.courses c.args.process.now seen.Done c.requires.next.0 (rw c.requires.next.1 tt)))

pub try_latch-requires-clause-misses : goal.try_latch-requires-clause-misses
try_latch-requires-clause-misses g c = let laws = g.met.P.Kind in misses_page _ _ (known c.args.hand.now.seat) c.requires.runs.on.runs _ (ap next_of c.requires.runs.on.state ∙ (laws.acts c.args.process.now ∙ c.requires.next.1)) (subst (λ (z : Proc). GoesOn z seen.Missed) (sym c.requires.runs.on.state) (laws.courses c.args.process.now seen.Missed c.requires.next.0 (rw c.requires.next.1 tt)))

pub returns-then-try_latch-clause-takes : goal.returns-then-try_latch-clause-takes
returns-then-try_latch-clause-takes g c = (seen.Done, c.took.ensures, tells_done c.args.hand.now.seat c.try_latch.new.hand.seat (g.P.Kind.proc_of c.args.process.now) (λ x opens. absurd (latch_opens_not (g.P.Kind.proc_of c.args.process.now) _ (g.met.P.Kind.acts c.args.process.now ∙ c.requires.next.1) x opens)))

pub returns-else-try_latch-clause-takes : goal.returns-else-try_latch-clause-takes
returns-else-try_latch-clause-takes g c = (seen.Missed, c.took-else-try_latch.ensures, tells_missed c.args.hand.now.seat c.try_latch.new.hand.seat (g.P.Kind.proc_of c.args.process.now) _ (g.met.P.Kind.acts c.args.process.now ∙ c.requires.next.1))

pub returns-then-try_latch-clause-runs : goal.returns-then-try_latch-clause-runs
returns-then-try_latch-clause-runs g c = record {
  own = search rules;
  running = search rules;
  on = (let observed = c.try_latch.ensures.observed in
      on_goes _ seen.Done _ _ _ _ c.requires.runs.on (observed.3.0 (observed.2.0 c.if-try_latch.true)) (g.met.P.Kind.goes _ _ seen.Done c.took.ensures));
}

pub returns-else-try_latch-clause-runs : goal.returns-else-try_latch-clause-runs
returns-else-try_latch-clause-runs g c = record {
  own = search rules;
  running = search rules;
  on = (let observed = c.try_latch.ensures.observed in
      on_goes _ seen.Missed _ _ _ _ c.requires.runs.on (observed.3.1 (λ is. false≢true (sym c.if-try_latch.false ∙ observed.2.1 is))) (g.met.P.Kind.goes _ _ seen.Missed c.took-else-try_latch.ensures));
}

pub try_latch-requires-clause-own : goal.try_latch-requires-clause-own
try_latch-requires-clause-own g c = c.requires.runs.own
