use Rattle.bl_proc_steps.specs.declared.acts.Seen.TheVariants as seen
use Rattle.bl_index_events.proofs.Rooms.{tells_done, put_opens_not}
use Rattle.std.proofs.Common.{◌∙◌}
use Rattle.bl_index_events.proofs.tree.Tree.put.Goals as goal

pub put_first-requires-clause-runs : goal.put_first-requires-clause-runs
put_first-requires-clause-runs g c = c.requires.runs

pub put_first-requires-clause-next : goal.put_first-requires-clause-next
put_first-requires-clause-next g c = c.requires.next

pub returns-in-Some-clause-same : goal.returns-in-Some-clause-same
returns-in-Some-clause-same g c = c.put_first.ensures.same

pub returns-in-Some-clause-runs : goal.returns-in-Some-clause-runs
returns-in-Some-clause-runs g c = c.put_first.ensures.runs

pub returns-in-Some-clause-moves : goal.returns-in-Some-clause-moves
returns-in-Some-clause-moves g c = c.put_first.ensures.moves

pub returns-in-Some-clause-takes : goal.returns-in-Some-clause-takes
returns-in-Some-clause-takes g c = c.put_first.ensures.takes

pub returns-in-Some-clause-stock : goal.returns-in-Some-clause-stock
returns-in-Some-clause-stock g c = c.put_first.ensures.stock

pub put_with-requires-clause-runs : goal.put_with-requires-clause-runs
put_with-requires-clause-runs g c = c.requires.runs

pub put_with-requires-clause-next : goal.put_with-requires-clause-next
put_with-requires-clause-next g c = c.requires.next

pub returns-clause-same : goal.returns-clause-same
returns-clause-same g c = c.put_with.ensures.same

pub returns-clause-runs : goal.returns-clause-runs
returns-clause-runs g c = c.put_with.ensures.runs

pub returns-clause-moves : goal.returns-clause-moves
returns-clause-moves g c = c.put_with.ensures.moves

pub returns-clause-takes : goal.returns-clause-takes
returns-clause-takes g c = (seen.Done, c.put_with.ensures.takes, tells_done c.args.hand.now.seat c.put_with.new.hand.seat (g.P.Kind.proc_of c.args.process.now) (λ x opens. absurd (put_opens_not (g.P.Kind.proc_of c.args.process.now) _ _ (g.met.P.Kind.acts c.args.process.now ∙ c.requires.next.1) x opens)))
