use Rattle.std.proofs.Common.{◌∙◌, sym, subst}
use Rattle.bl_answers.specs.declared.answers.Answer.TheVariants as answer
use Rattle.bl_answers.specs.declared.answers.Lowered.{Lowered}
use Rattle.bl_proc_deterministic.specs.Refusals.{IsNoRoom, LowerRefused}
use Rattle.bl_index.proofs.Taken.{same_pass, of_inside}
use Rattle.bl_index_events.proofs.Ends.{done_first}
use Rattle.bl_index.proofs.Lowerings.{lower_has_answer, lower_answered}
use Rattle.bl_index_events.proofs.Rooms.{lacks_two}
use Rattle.bl_index.proofs.index.Index.lower.Goals as goal

pub lowered-requires : goal.lowered-requires
lowered-requires g c = lower_has_answer _ _ _ _ _ c.carry_out-process.ensures.done _ c.answer.ensures

pub returns-clause-lowers : goal.returns-clause-lowers
returns-clause-lowers g c = let own = of_inside c.self.view_is c.pass.view_is c.requires.own in rw (← c.self.view_is, ← c.pass.view_is) (lower_answered _ _ _ _ _ _ _ c.carry_out-process.ensures.done own.2 (sym c.answer.ensures ∙ c.lowered.ensures))

pub carry_out-process-requires-clause-free : goal.carry_out-process-requires-clause-free
carry_out-process-requires-clause-free g c = let new = sym c.new-lower.ensures in (λ r. subst LowerRefused (sym new) r, λ r. r)

pub returns-clause-no_room : goal.returns-clause-no_room
returns-clause-no_room g c = λ none. lacks_two c.carry_out-process.new.hand.seat c.carry_out-process.result (c.carry_out-process.ensures.no_room _ (sym c.answer.ensures ∙ c.lowered.ensures) (subst (λ (z : Lowered). IsNoRoom (answer.Lower z)) (sym none) tt))

pub returns-clause-same : goal.returns-clause-same
returns-clause-same g c = rw (← c.pass.view_is) (let e = c.carry_out-process.ensures in same_pass c.pass.inside.hand c.carry_out-process.new.hand e.same (done_first _ _ _ _ _ e.done))

pub invariant_of-pass-inside : goal.invariant_of-pass-inside
invariant_of-pass-inside g c = let e = c.carry_out-process.ensures in (e.rests.idle, (e.empty, (e.rests.within, (e.rests.over, (∣ e.done.observed.notes.seen ∣₁, tt)))))
