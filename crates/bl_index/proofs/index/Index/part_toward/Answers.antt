use Rattle.bl_proc.specs.Parts.{op_toward}
use Rattle.bl_index.proofs.Taken.{same_pass, observed_from, of_inside}
use Rattle.bl_index.proofs.Alone.{finds_alone}
use Rattle.bl_index.specs.contracts.index.Pass as view
use Rattle.bl_index.proofs.index.Index.part_toward.Goals as goal

pub returns-clause-same : goal.returns-clause-same
returns-clause-same c = rw (← c.pass.view_is) (same_pass c.pass.inside.hand c.list_part.new.hand c.list_part.ensures.same.0 c.list_part.ensures.first)

pub returns-clause-found : goal.returns-clause-found
returns-clause-found c = let own = of_inside c.self.view_is c.pass.view_is c.requires in rw (← c.self.view_is, ← c.pass.view_is) ((observed_from _ _ _ _ _ _ _ _ _ own.2 c.list_part.ensures.answers).answered)

pub returns-clause-runs_out : goal.returns-clause-runs_out
returns-clause-runs_out c = let own = of_inside c.self.view_is c.pass.view_is c.requires in rw (← c.self.view_is, ← c.pass.view_is) ((observed_from _ _ _ _ _ _ _ _ _ own.2 c.list_part.ensures.answers).refused)

pub returns-clause-alone : goal.returns-clause-alone
returns-clause-alone c = let own = of_inside c.self.view_is c.pass.view_is c.requires in rw (← c.self.view_is, ← c.pass.view_is) (let e = c.list_part.ensures in finds_alone c.self.inside.tree (view.the_view c.pass.inside) c.list_part.new.hand.seat (op_toward c.args.direction c.args.from) own e.same.0 e.rests.within _ _ c.list_part.result (observed_from _ _ _ _ _ _ _ _ _ own.2 e.answers))
