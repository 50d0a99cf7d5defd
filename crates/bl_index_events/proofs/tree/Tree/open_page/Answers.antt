use Rattle.std.proofs.Common.{rules, ap, sym, ◌∙◌, subst}
use Rattle.bl_proc_steps.specs.declared.acts.Seen.TheVariants as seen
use Rattle.bl_proc.specs.declared.kinds.Proc.{Proc}
use Rattle.bl_proc.specs.Processes.{next_of}
use Rattle.bl_proc_deterministic.specs.Courses.{GoesOn}
use Rattle.bl_store.specs.Hands.{known}
use Rattle.bl_index_rule.proofs.Pages.{opens_page}
use Rattle.bl_index_events.proofs.Rooms.{tells_done}
use Rattle.bl_index_events.proofs.Standing.{on_goes}
use Rattle.bl_index_events.proofs.tree.Tree.open_page.Goals as goal

pub open-requires-clause-rule : goal.open-requires-clause-rule
open-requires-clause-rule g c = let laws = g.met.P.Kind in opens_page _ _ (known c.args.hand.now.seat) c.requires.runs.on.runs _ (ap next_of c.requires.runs.on.state ∙ (laws.acts c.args.process.now ∙ c.requires.next.1)) (subst (λ (z : Proc). GoesOn z seen.Done) (sym c.requires.runs.on.state) (laws.courses c.args.process.now seen.Done c.requires.next.0 (rw c.requires.next.1 tt)))

pub returns-clause-takes : goal.returns-clause-takes
returns-clause-takes g c = (seen.Done, c.took.ensures, tells_done c.args.hand.now.seat c.open.new.hand.seat (g.P.Kind.proc_of c.args.process.now) (λ x opens. c.open.ensures.refusal))

pub took-requires-clause-running : goal.took-requires-clause-running
took-requires-clause-running g c = c.requires.next.0

pub took-requires-clause-given : goal.took-requires-clause-given
took-requires-clause-given g c = rw c.requires.next.1 tt

pub returns-clause-same : goal.returns-clause-same
returns-clause-same g c = (c.open.ensures.same.0, c.open.ensures.same.1)

pub returns-clause-stock : goal.returns-clause-stock
returns-clause-stock g c = c.open.ensures.same.2

pub returns-clause-runs : goal.returns-clause-runs
returns-clause-runs g c = record {
  own = search rules;
  running = search rules;
  on = (on_goes c.args.self.now.store.layout seen.Done (known c.args.hand.now.seat) (known c.open.new.hand.seat) (g.P.Kind.proc_of c.args.process.now) (g.P.Kind.proc_of c.took.new.self) c.requires.runs.on c.open.ensures.observed.1 (g.met.P.Kind.goes c.args.process.now c.took.new.self seen.Done c.took.ensures));
}

pub returns-clause-moves : goal.returns-clause-moves
returns-clause-moves g c = (seen.Done, c.open.ensures.observed.1)
