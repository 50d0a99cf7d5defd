use Rattle.std.proofs.Common.{arith, subst, sym}
use Rattle.bl_world.specs.WorldSteps.{MayStart}
use Rattle.bl_world.specs.Views.{View, view_of}
use Rattle.bl_world.proofs.Going.{started}
use Rattle.bl_world.proofs.world.World.start.Goals as goal

pub invariant_of-self : goal.invariant_of-self
invariant_of-self c =
    let may = subst (λ (z : View). MayStart z c.args.process) (sym c.self.view_is) c.requires in
    let g = started c.enter.result (view_of c.self.inside.lists) (view_of c.enter.new.self) c.args.process (omega (arith, c.key_of-key.ensures, c.key_of-key.type_inv)) may c.self.invariant.0 c.self.invariant.1 c.enter.ensures.ok c.enter.ensures.err in
    (g.world, g.way)

pub returns-then-is_err-clause-account : goal.returns-then-is_err-clause-account
returns-then-is_err-clause-account c =
    let may = subst (λ (z : View). MayStart z c.args.process) (sym c.self.view_is) c.requires in
    rw (← c.self.view_is) (started c.enter.result (view_of c.self.inside.lists) (view_of c.enter.new.self) c.args.process (omega (arith, c.key_of-key.ensures, c.key_of-key.type_inv)) may c.self.invariant.0 c.self.invariant.1 c.enter.ensures.ok c.enter.ensures.err).account

pub invariant_of-self-2 : goal.invariant_of-self-2
invariant_of-self-2 c =
    let may = subst (λ (z : View). MayStart z c.args.process) (sym c.self.view_is) c.requires in
    let g = started c.enter.result (view_of c.self.inside.lists) (view_of c.enter.new.self) c.args.process (omega (arith, c.key_of-key.ensures, c.key_of-key.type_inv)) may c.self.invariant.0 c.self.invariant.1 c.enter.ensures.ok c.enter.ensures.err in
    (g.world, g.way)

pub returns-clause-account : goal.returns-clause-account
returns-clause-account c =
    let may = subst (λ (z : View). MayStart z c.args.process) (sym c.self.view_is) c.requires in
    rw (← c.self.view_is) (started c.enter.result (view_of c.self.inside.lists) (view_of c.enter.new.self) c.args.process (omega (arith, c.key_of-key.ensures, c.key_of-key.type_inv)) may c.self.invariant.0 c.self.invariant.1 c.enter.ensures.ok c.enter.ensures.err).account
