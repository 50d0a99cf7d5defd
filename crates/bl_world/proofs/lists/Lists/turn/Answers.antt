use Rattle.bl_world.specs.Views.{view_of}
use Rattle.bl_world.proofs.Outcomes.{ok_map}
use Rattle.bl_world.proofs.Turned.{turns_step, turns_take, turns_refuse}
use Rattle.bl_world.proofs.lists.Lists.turn.Goals as goal

pub returns-in-Step-clause-ok : goal.returns-in-Step-clause-ok
returns-in-Step-clause-ok c = rw c.in-Step.is (ok_map c.step.result (λ f. turns_step (view_of c.args.self.now) _ c.in-Step.number (rw c.in-Step.is at c.requires.started.0) (rw c.in-Step.is at c.requires.started.1) f) c.step.ensures.ok)

pub returns-in-Take-clause-ok : goal.returns-in-Take-clause-ok
returns-in-Take-clause-ok c = rw c.in-Take.is (ok_map c.take.result (λ f. turns_take (view_of c.args.self.now) _ c.in-Take.number (rw c.in-Take.is at c.requires.started.0) (rw c.in-Take.is at c.requires.started.1) c.in-Take.at f) c.take.ensures.ok)

pub returns-in-Refuse-clause-ok : goal.returns-in-Refuse-clause-ok
returns-in-Refuse-clause-ok c = rw c.in-Refuse.is (ok_map c.refuse.result (λ f. turns_refuse (view_of c.args.self.now) _ c.in-Refuse.number (rw c.in-Refuse.is at c.requires.started.0) (rw c.in-Refuse.is at c.requires.started.1) f) c.refuse.ensures.ok)
