use Rattle.bl_model.specs.declared.operation.Op.TheVariants as op
use Rattle.bl_index.proofs.Taken.{same_pass, observed_from, key_found, key_lost, of_inside}
use Rattle.bl_index.proofs.Alone.{keys_alone}
use Rattle.bl_index.specs.contracts.index.Pass as view
use Rattle.bl_index.proofs.index.Index.find_near.Goals as goal

pub returns-clause-same : goal.returns-clause-same
returns-clause-same c = rw (← c.pass.view_is) (same_pass c.pass.inside.hand c.find_key.new.hand c.find_key.ensures.same.0 c.find_key.ensures.first)

pub returns-clause-found : goal.returns-clause-found
returns-clause-found c = let own = of_inside c.self.view_is c.pass.view_is c.requires in rw (← c.self.view_is, ← c.pass.view_is) (key_found _ _ _ _ _ _ _ _ (observed_from _ _ _ _ _ _ _ _ _ own.2 c.find_key.ensures.answers))

pub returns-clause-runs_out : goal.returns-clause-runs_out
returns-clause-runs_out c = let own = of_inside c.self.view_is c.pass.view_is c.requires in rw (← c.self.view_is, ← c.pass.view_is) (key_lost _ _ _ _ _ _ _ _ (observed_from _ _ _ _ _ _ _ _ _ own.2 c.find_key.ensures.answers))

pub returns-clause-alone : goal.returns-clause-alone
returns-clause-alone c = let own = of_inside c.self.view_is c.pass.view_is c.requires in rw (← c.self.view_is, ← c.pass.view_is) (let e = c.find_key.ensures in keys_alone c.self.inside.tree (view.the_view c.pass.inside) c.find_key.new.hand.seat (op.Find c.args.key) own e.same.0 e.rests.within _ _ c.find_key.result (observed_from _ _ _ _ _ _ _ _ _ own.2 e.answers))
