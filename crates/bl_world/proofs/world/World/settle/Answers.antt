use Rattle.bl_world.specs.Views.{view_of}
use Rattle.bl_world.proofs.Going.{has_settled}
use Rattle.bl_world.proofs.Nearing.{always_few}
use Rattle.bl_world.proofs.world.World.settle.Goals as goal

pub invariant_of-self : goal.invariant_of-self
invariant_of-self c =
    let g = has_settled c.settle.result (view_of c.self.inside.lists) (view_of c.settle.new.self) c.args.most c.self.invariant.0 c.self.invariant.1 c.settle.ensures.ok c.settle.ensures.err in
    (g.world, g.way)

pub returns-clause-account : goal.returns-clause-account
returns-clause-account c = rw (← c.self.view_is) (has_settled c.settle.result (view_of c.self.inside.lists) (view_of c.settle.new.self) c.args.most c.self.invariant.0 c.self.invariant.1 c.settle.ensures.ok c.settle.ensures.err).account

pub returns-clause-always : goal.returns-clause-always
returns-clause-always c = rw (← c.self.view_is) (λ count after s. always_few (view_of c.self.inside.lists) after count c.self.invariant.0 c.self.invariant.1 s)
