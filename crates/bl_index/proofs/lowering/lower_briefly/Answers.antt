use Rattle.std.proofs.Common.{rules, sym, subst, ◌∙◌, arith}
use Rattle.bl_answers.specs.declared.answers.Answer.TheVariants as answer
use Rattle.bl_answers.specs.declared.answers.Lowered.{Lowered}
use Rattle.bl_proc_deterministic.specs.Refusals.{IsNoRoom}
use Rattle.bl_proc.specs.declared.kinds.Proc.TheVariants as proc
use Rattle.bl_proc.specs.declared.lowering.LowerStage.TheVariants.{Sinking}
use Rattle.bl_proc_steps.specs.declared.lowering.Lowering.TheVariants.{Looking}
use Rattle.bl_store.specs.Hands.{known}
use Rattle.bl_index_events.proofs.Calls.{since_step}
use Rattle.bl_index_events.proofs.Ends.{done_first}
use Rattle.bl_index_events.proofs.Rooms.{lacks_two}
use Rattle.bl_index_events.proofs.Standing.{on_itself}
use Rattle.bl_index.proofs.GivingUp.{at_top, begun_free, lower_may_give_up, lower_undone, turned_back}
use Rattle.bl_index.proofs.Lowerings.{lower_has_answer}
use Rattle.bl_index.proofs.lowering.lower_briefly.Goals as goal

pub carry_briefly-requires-clause-free : goal.carry_briefly-requires-clause-free
carry_briefly-requires-clause-free c = begun_free c.new-process.result c.begin.new.process c.new-process.ensures c.begin.ensures.takes

pub carry_briefly-requires-clause-near : goal.carry_briefly-requires-clause-near
carry_briefly-requires-clause-near c = λ le. absurd (omega (arith, le))

pub lowered-requires : goal.lowered-requires
lowered-requires c = lower_has_answer _ _ _ _ _ (c.carry_briefly.ensures.done c.if-carry_briefly.true _ _ c.begin.ensures.begun) _ c.answer.ensures

pub returns-then-carry_briefly-clause-sunk : goal.returns-then-carry_briefly-clause-sunk
returns-then-carry_briefly-clause-sunk c = record {
  first = proc.Lower c.begin.new.process;
  last = c.carry_briefly.new.process;
  done = c.carry_briefly.ensures.done c.if-carry_briefly.true _ _ c.begin.ensures.begun;
  answer = sym c.answer.ensures ∙ c.lowered.ensures;
}

pub returns-then-carry_briefly-clause-no_room : goal.returns-then-carry_briefly-clause-no_room
returns-then-carry_briefly-clause-no_room c = λ none.
    lacks_two c.carry_briefly.new.hand.seat c.carry_briefly.new.process
    (c.carry_briefly.ensures.no_room c.if-carry_briefly.true _ (sym c.answer.ensures ∙ c.lowered.ensures) (subst (λ (z : Lowered). IsNoRoom (answer.Lower z)) (sym none) tt))

pub returns-then-carry_briefly-clause-first : goal.returns-then-carry_briefly-clause-first
returns-then-carry_briefly-clause-first c = done_first _ _ _ _ _ (c.carry_briefly.ensures.done c.if-carry_briefly.true _ _ c.begin.ensures.begun)

pub returns-then-carry_briefly-clause-seen : goal.returns-then-carry_briefly-clause-seen
returns-then-carry_briefly-clause-seen c = (c.carry_briefly.ensures.done c.if-carry_briefly.true _ _ c.begin.ensures.begun).observed.notes.seen

pub leave_top-requires-clause-runs : goal.leave_top-requires-clause-runs
leave_top-requires-clause-runs c = let runs = c.carry_briefly.ensures.runs c.if-carry_briefly.false in record { own = runs.own; running = runs.running; on = on_itself _ _ _ runs.on }

pub leave_top-requires-clause-top : goal.leave_top-requires-clause-top
leave_top-requires-clause-top c =
    at_top c.carry_briefly.new.process _ (c.carry_briefly.ensures.runs c.if-carry_briefly.false).on.state (sym c.is_at_top.ensures ∙ c.if-is_at_top.true)

pub give_up-requires-clause-may : goal.give_up-requires-clause-may
give_up-requires-clause-may c = lower_may_give_up (record { stage = Sinking Looking }) _ tt c.leave_top.ensures.left.is

pub give_up-requires-clause-passes : goal.give_up-requires-clause-passes
give_up-requires-clause-passes c = c.leave_top.ensures.left.steps.passes ∙ (c.carry_briefly.ensures.runs c.if-carry_briefly.false).on.passes

pub returns-then-is_at_top-clause-undone : goal.returns-then-is_at_top-clause-undone
returns-then-is_at_top-clause-undone c =
    let left = c.leave_top.ensures.left in
    let since = c.carry_briefly.ensures.since c.if-carry_briefly.false _ _ c.begin.ensures.begun in
    lower_undone (record { stage = Sinking Looking }) c.args.hand.now.number (known c.args.hand.now.seat) (known c.leave_top.new.hand.seat) (known c.give_up.new.hand.seat) tt
    (since_step _ _ _ _ _ since left.steps) left.is c.give_up.ensures.observed c.give_up.ensures.leaves

pub returns-then-is_at_top-clause-first : goal.returns-then-is_at_top-clause-first
returns-then-is_at_top-clause-first c =
    let since = c.carry_briefly.ensures.since c.if-carry_briefly.false _ _ c.begin.ensures.begun in
    c.give_up.ensures.observed.notes.first ∙ (c.leave_top.ensures.left.steps.notes.first ∙ since.beginning)

pub returns-then-is_at_top-clause-seen : goal.returns-then-is_at_top-clause-seen
returns-then-is_at_top-clause-seen c = c.give_up.ensures.observed.notes.seen

pub returns-then-is_at_top-clause-rests : goal.returns-then-is_at_top-clause-rests
returns-then-is_at_top-clause-rests c = record { idle = c.give_up.ensures.idle; within = c.give_up.ensures.within; over = c.give_up.ensures.observed.runs }

pub returns-clause-undone : goal.returns-clause-undone
returns-clause-undone c =
    let e = c.carry_briefly.ensures in let not = c.if-carry_briefly.false in
    lower_undone c.carry_briefly.new.process c.args.hand.now.number (known c.args.hand.now.seat) (known c.carry_briefly.new.hand.seat) (known c.give_up-2.new.hand.seat)
    (turned_back c.carry_briefly.new.process.stage (e.back not) (sym c.is_at_top.ensures ∙ c.if-is_at_top.false)) (e.since not _ _ c.begin.ensures.begun) (e.runs not).on.state c.give_up-2.ensures.observed c.give_up-2.ensures.leaves

pub returns-clause-first : goal.returns-clause-first
returns-clause-first c = c.give_up-2.ensures.observed.notes.first ∙ (c.carry_briefly.ensures.since c.if-carry_briefly.false _ _ c.begin.ensures.begun).beginning

pub returns-clause-seen : goal.returns-clause-seen
returns-clause-seen c = c.give_up-2.ensures.observed.notes.seen

pub returns-clause-rests : goal.returns-clause-rests
returns-clause-rests c = record { idle = c.give_up-2.ensures.idle; within = c.give_up-2.ensures.within; over = c.give_up-2.ensures.observed.runs }
