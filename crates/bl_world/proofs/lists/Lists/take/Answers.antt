use Rattle.std.proofs.Common.{◌∙◌, arith, refl, sym, inl, inr}
use Rattle.std.proofs.lemmas.Option.{slice_get_within}
use Rattle.bl_proc_steps.specs.declared.acts.Action.TheVariants as act
use Rattle.bl_world.proofs.Outcomes.{ok_map}
use Rattle.bl_world.proofs.Turned.{goes_on, has_answered, may_give_page, next_observed}
use Rattle.bl_world.proofs.lists.Lists.take.Goals as goal

pub returns-then-not-is_free-clause-ok : goal.returns-then-not-is_free-clause-ok
returns-then-not-is_free-clause-ok c = ok_map c.idle.result (λ e p stood. inr ((λ m. (let no = c.if-not-is_free.ensures.1 m.1 in cc)), e)) c.idle.ensures.ok

pub returns-in-Some-clause-ok : goal.returns-in-Some-clause-ok
returns-in-Some-clause-ok c = ok_map c.idle-in-Some.result (λ e p stood.
    inr ((λ m. has_answered c.args.self.now.processes.items c.args.index p c.index.result.now stood c.index.ensures c.answer.result c.in-Some.field-0 c.answer.ensures c.in-Some.is m.0.0), e)) c.idle-in-Some.ensures.ok

pub own-requires-clause-given : goal.own-requires-clause-given
own-requires-clause-given c = λ p stood. (let goes = goes_on c.args.self.now.processes.items c.args.index p c.index.result.now c.index-2.result.now c.answer.result act.Take stood c.index.ensures c.answer.ensures c.in_default.not-Some c.index-2.ensures c.in-Take.ensures in (goes.0, may_give_page p c.args.at goes.1 (let free = c.if-not-is_free.ensures.0 refl in let low = slice_get_within c.args.self.now.owners.items c.args.at _ free.1 in (free.0, omega (arith, low, c.args.self.now.paired, c.args.self.now.most)))))

pub returns-in-Take-clause-ok : goal.returns-in-Take-clause-ok
returns-in-Take-clause-ok c = ok_map c.own.result (λ f p stood.
    inl (goes_on c.args.self.now.processes.items c.args.index p c.index.result.now c.index-2.result.now c.answer.result act.Take stood c.index.ensures c.answer.ensures c.in_default.not-Some c.index-2.ensures c.in-Take.ensures, c.if-not-is_free.ensures.0 refl, (f p stood).0, (f p stood).1)) c.own.ensures.ok

pub returns-in_default-next-clause-ok : goal.returns-in_default-next-clause-ok
returns-in_default-next-clause-ok c = ok_map c.idle-in_default-next.result (λ e p stood.
    inr ((λ m. c.in_default-next.not-Take (sym (next_observed c.args.self.now.processes.items c.args.index p c.index-2.result.now stood c.index-2.ensures c.next.result c.next.ensures) ∙ m.0.1)), e)) c.idle-in_default-next.ensures.ok
