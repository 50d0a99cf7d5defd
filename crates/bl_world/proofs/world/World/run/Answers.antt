use Rattle.std.proofs.Common.{refl}
use Rattle.bl_world.specs.Views.{view_of}
use Rattle.bl_world.proofs.Going.{stays, ran}
use Rattle.bl_world.proofs.world.World.run.Goals as goal

pub returns-then-not-has_all-clause-account : goal.returns-then-not-has_all-clause-account
returns-then-not-has_all-clause-account c = rw (← c.self.view_is) (stays (view_of c.self.inside.lists) (view_of c.self.inside.lists) c.self.invariant.0 c.self.invariant.1 refl).account

pub invariant_of-self : goal.invariant_of-self
invariant_of-self c =
    let g = ran c.carry.result (view_of c.self.inside.lists) (view_of c.carry.new.self) c.args.turns.now c.self.invariant.0 c.self.invariant.1 c.carry.ensures.ok c.carry.ensures.err in
    (g.world, g.way)

pub returns-then-is_err-clause-account : goal.returns-then-is_err-clause-account
returns-then-is_err-clause-account c = rw (← c.self.view_is) (ran c.carry.result (view_of c.self.inside.lists) (view_of c.carry.new.self) c.args.turns.now c.self.invariant.0 c.self.invariant.1 c.carry.ensures.ok c.carry.ensures.err).account

pub invariant_of-self-2 : goal.invariant_of-self-2
invariant_of-self-2 c =
    let g = ran c.carry.result (view_of c.self.inside.lists) (view_of c.carry.new.self) c.args.turns.now c.self.invariant.0 c.self.invariant.1 c.carry.ensures.ok c.carry.ensures.err in
    (g.world, g.way)

pub returns-clause-account : goal.returns-clause-account
returns-clause-account c = rw (← c.self.view_is) (ran c.carry.result (view_of c.self.inside.lists) (view_of c.carry.new.self) c.args.turns.now c.self.invariant.0 c.self.invariant.1 c.carry.ensures.ok c.carry.ensures.err).account
