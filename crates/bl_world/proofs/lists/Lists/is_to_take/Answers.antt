use Rattle.std.proofs.Common.{◌∙◌, ◌-◌, arith, refl, sym, inl, inr}
use Rattle.bl_proc_steps.specs.declared.acts.Action.TheVariants as act
use Rattle.bl_world.specs.Views.{view_of}
use Rattle.bl_world.proofs.Turned.{goes_on, has_answered, is_taking, next_observed, none_takes, none_there}
use Rattle.bl_world.proofs.lists.Lists.is_to_take.Goals as goal
use Rattle.bl_world.proofs.lists.Lists.is_to_take.Goals.{then-number-eq0-via-then-number-eq0, then-number-eq0-via-else-number-eq0+then-number-len}

pub returns-then-number-eq0 : goal.returns-then-number-eq0
returns-then-number-eq0 c = elim c.then-number-eq0.branch [
  | then-number-eq0-via-then-number-eq0 w ↦ ((λ e. cc), λ h. absurd (none_there (view_of c.args.self.now) c.args.number (inl w.if-number-eq0.true) h))
  | then-number-eq0-via-else-number-eq0+then-number-len w ↦ ((λ e. cc), λ h. absurd (none_there (view_of c.args.self.now) c.args.number (inr (omega (arith, w.if-number-len.true, w.len.ensures))) h))
]

pub returns-in-Some : goal.returns-in-Some
returns-in-Some c = (
  (λ e. cc),
  λ h. absurd (none_takes (view_of c.args.self.now) c.args.number c.if-number-eq0.false (omega (arith, c.if-number-len.false, c.len.ensures)) (λ p stood may.
      has_answered c.args.self.now.processes.items (c.args.number - 1) p c.index.result.now stood c.index.ensures c.answer.result c.in-Some.field-0 c.answer.ensures c.in-Some.is may.0) h),
)

pub returns-in-Take : goal.returns-in-Take
returns-in-Take c = (
  (λ e. is_taking (view_of c.args.self.now) c.args.number c.if-number-eq0.false (omega (arith, c.if-number-len.false, c.len.ensures)) (λ p stood.
      goes_on c.args.self.now.processes.items (c.args.number - 1) p c.index.result.now c.index-2.result.now c.answer.result act.Take stood c.index.ensures c.answer.ensures c.in_default.not-Some c.index-2.ensures c.in-Take.ensures)),
  λ h. refl,
)

pub returns-in_default-matches : goal.returns-in_default-matches
returns-in_default-matches c = (
  (λ e. cc),
  λ h. absurd (none_takes (view_of c.args.self.now) c.args.number c.if-number-eq0.false (omega (arith, c.if-number-len.false, c.len.ensures)) (λ p stood may.
      c.in_default-matches.not-Take (sym (next_observed c.args.self.now.processes.items (c.args.number - 1) p c.index-2.result.now stood c.index-2.ensures c.next.result c.next.ensures) ∙ may.1)) h),
)
