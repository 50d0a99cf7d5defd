use Rattle.std.proofs.Common.{rules, ap, sym, ◌∙◌, subst}
use Rattle.bl_proc_steps.specs.declared.acts.Seen.TheVariants as seen
use Rattle.bl_proc.specs.declared.kinds.Proc.{Proc}
use Rattle.bl_proc.specs.Processes.{next_of}
use Rattle.bl_proc_deterministic.specs.Courses.{GoesOn}
use Rattle.bl_store.specs.Hands.{known}
use Rattle.bl_index_rule.proofs.Pages.{puts_page}
use Rattle.bl_index_events.proofs.Standing.{on_goes}
use Rattle.bl_index_events.proofs.tree.Tree.put_with.Goals as goal

pub put-requires-clause-rule : goal.put-requires-clause-rule
put-requires-clause-rule g c = let laws = g.met.P.Kind in puts_page _ _ (known c.args.hand.now.seat) c.requires.runs.on.runs _ _ c.args.contents.now (ap next_of c.requires.runs.on.state ∙ (laws.acts c.args.process.now ∙ c.requires.next.1)) c.to_words.ensures (subst (λ (z : Proc). GoesOn z seen.Done) (sym c.requires.runs.on.state) (laws.courses c.args.process.now seen.Done c.requires.next.0 (rw c.requires.next.1 tt)))

pub put-requires-clause-stock : goal.put-requires-clause-stock
put-requires-clause-stock g c = (c.requires.stock.0, c.requires.stock.1)

pub took-requires-clause-running : goal.took-requires-clause-running
took-requires-clause-running g c = c.requires.next.0

pub took-requires-clause-given : goal.took-requires-clause-given
took-requires-clause-given g c = rw c.requires.next.1 tt

pub returns-clause-same : goal.returns-clause-same
returns-clause-same g c = (c.put.ensures.same.0, c.put.ensures.same.1)

pub returns-clause-takes : goal.returns-clause-takes
returns-clause-takes g c = c.took.ensures

pub returns-clause-stock : goal.returns-clause-stock
returns-clause-stock g c = (c.put.ensures.stock.0, c.put.ensures.stock.1, c.put.ensures.same.2 ∙ c.requires.stock.2)

pub returns-clause-runs : goal.returns-clause-runs
returns-clause-runs g c = record {
  own = search rules;
  running = search rules;
  on = (on_goes c.args.self.now.store.layout seen.Done (known c.args.hand.now.seat) (known c.put.new.hand.seat) (g.P.Kind.proc_of c.args.process.now) (g.P.Kind.proc_of c.took.new.self) c.requires.runs.on (c.put.ensures.observed.1) (g.met.P.Kind.goes c.args.process.now c.took.new.self seen.Done c.took.ensures));
}

pub returns-clause-moves : goal.returns-clause-moves
returns-clause-moves g c = (seen.Done, c.put.ensures.observed.1)
