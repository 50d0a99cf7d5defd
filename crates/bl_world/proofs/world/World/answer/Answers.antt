use Rattle.std.proofs.Common.{◌≡◌, ◌-◌, arith, ap, sym, ◌∙◌, slice_get, subst, Some}
use Rattle.bl_proc.specs.Processes.{answer_of}
use Rattle.bl_world.specs.Views.{View, view_of}
use Rattle.bl_world.proofs.Arms.{stood_is}
use Rattle.bl_world.proofs.Accounting.{has_account}
use Rattle.bl_world.proofs.world.World.answer.Goals as goal

pub returns-then-number-eq0-clause-account : goal.returns-then-number-eq0-clause-account
returns-then-number-eq0-clause-account c = rw (← c.self.view_is) (has_account (view_of c.self.inside.lists) c.self.invariant.0 c.self.invariant.1)

pub returns-clause-account : goal.returns-clause-account
returns-clause-account c = rw (← c.self.view_is) (has_account (view_of c.self.inside.lists) c.self.invariant.0 c.self.invariant.1)

pub returns-clause-started : goal.returns-clause-started
returns-clause-started c = λ n p e stood.
    let place : c.args.number - 1 ≡ n = omega (arith, e) in
    let there = subst (λ (z : View). slice_get z.processes n ≡ Some p) (sym c.self.view_is) stood in
    let here : slice_get c.self.inside.lists.processes.items (c.args.number - 1) ≡ Some p = subst (λ z. slice_get c.self.inside.lists.processes.items z ≡ Some p) (sym place) there in
    c.answer.ensures ∙ ap answer_of (sym (stood_is c.self.inside.lists.processes.items (c.args.number - 1) p c.index.result.now here c.index.ensures))
