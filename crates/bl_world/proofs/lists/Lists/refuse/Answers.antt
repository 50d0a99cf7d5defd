use Rattle.std.proofs.Common.{◌∙◌, ap, is_some, sym, inl, inr}
use Rattle.bl_world.proofs.Outcomes.{ok_map}
use Rattle.bl_world.proofs.Turned.{has_answered, may_be_refused, needs_observed, none_answered}
use Rattle.bl_world.proofs.lists.Lists.refuse.Goals as goal

pub returns-in-Some-clause-ok : goal.returns-in-Some-clause-ok
returns-in-Some-clause-ok c = ok_map c.idle.result (λ e p stood.
    inr ((λ m. has_answered c.args.self.now.processes.items c.args.index p c.index.result.now stood c.index.ensures c.answer.result c.in-Some.field-0 c.answer.ensures c.in-Some.is m.0), e)) c.idle.ensures.ok

pub returns-then-is_none-clause-ok : goal.returns-then-is_none-clause-ok
returns-then-is_none-clause-ok c = ok_map c.idle-then-is_none.result (λ e p stood.
    inr ((λ m. (let no = sym m.1 ∙ (ap is_some (needs_observed c.args.self.now.processes.items c.args.index p c.index-2.result.now stood c.index-2.ensures c.needs.result c.needs.ensures) ∙ c.if-is_none.ensures) in cc)), e)) c.idle-then-is_none.ensures.ok

pub observed-requires-clause-given : goal.observed-requires-clause-given
observed-requires-clause-given c = λ p stood. (
  none_answered c.args.self.now.processes.items c.args.index p c.index.result.now stood c.index.ensures c.answer.result c.answer.ensures c.in_default.not-Some,
  may_be_refused p (ap is_some (needs_observed c.args.self.now.processes.items c.args.index p c.index-2.result.now stood c.index-2.ensures c.needs.result c.needs.ensures) ∙ c.if-is_none.ensures),
)

pub returns-clause-ok : goal.returns-clause-ok
returns-clause-ok c = ok_map c.observed.result (λ f p stood.
    inl (
      (
        none_answered c.args.self.now.processes.items c.args.index p c.index.result.now stood c.index.ensures c.answer.result c.answer.ensures c.in_default.not-Some,
        ap is_some (needs_observed c.args.self.now.processes.items c.args.index p c.index-2.result.now stood c.index-2.ensures c.needs.result c.needs.ensures) ∙ c.if-is_none.ensures,
      ),
      (f p stood).0,
      (f p stood).1,
    )) c.observed.ensures.ok
