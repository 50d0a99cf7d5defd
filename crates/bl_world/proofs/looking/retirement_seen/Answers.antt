use Rattle.std.proofs.Common.{◌≡◌, ◌<◌, Some, length, arith, sym, ◌∙◌, ap, subst, inl, inr}
use Rattle.std.proofs.lemmas.Bool.{false≢true}
use Rattle.std.proofs.lemmas.Option.{slice_get-get_or}
use Rattle.bl_world.specs.declared.turns.Act.TheVariants as shown
use Rattle.bl_world.specs.declared.turns.Event.{Event}
use Rattle.bl_world.specs.Retirements.{Stands, HasSeen}
use Rattle.bl_world.proofs.Retired.{next_is, seen_of_event, knows_on}
use Rattle.bl_world.proofs.looking.retirement_seen.Goals.{then-is_event, else-is_event}
use Rattle.bl_world.proofs.looking.retirement_seen.Goals as goal

pub loop-i-preserved : goal.loop-i-preserved
loop-i-preserved c =
    let es = c.args.events.now in
    let i = c.loop-i.i in
    let n = c.args.number in
    let x = c.args.page in
    let lt : i < length es = omega (arith, c.loop-i-test.true) in
    let first : Event = record { process = 0; act = shown.Begin } in
    let here = slice_get-get_or es i first lt in
    let r = c.retired_after-retired.ensures in
    elim c.if-is_event.branch [
      | then-is_event w ↦
          let hit : Stands es i n (shown.See x) = here ∙ ap Some (c.is_event.ensures.0 w.if-is_event.true) in
          rw (next_is i) (knows_on es n x i _ here c.loop-i.retired c.loop-i.seen c.retired_after-retired.result c.if-is_event.seen r.retires r.releases r.others (λ s. w.seen-is) (λ not. absurd (not hit)) (inl hit) c.loop-i.invariant)
      | else-is_event w ↦
          let missed : ¬ Stands es i n (shown.See x) = λ s. false≢true (sym w.if-is_event.false ∙ c.is_event.ensures.1 (seen_of_event es i n x _ here s)) in
          rw (next_is i) (knows_on es n x i _ here c.loop-i.retired c.loop-i.seen c.retired_after-retired.result c.if-is_event.seen r.retires r.releases r.others (λ s. absurd (missed s)) (λ not. w.seen-is) (inr missed) c.loop-i.invariant)
    ]

pub returns-clause-some : goal.returns-clause-some
returns-clause-some c = λ k e.
    let all : c.loop-i.i ≡ length c.args.events.now = omega (arith, c.loop-i-test.false, c.loop-i.auto.i-end) in
    subst (λ z. HasSeen c.args.events.now c.args.number c.args.page k z) all ((c.loop-i.invariant.seen_is k).0 e)

pub returns-clause-only : goal.returns-clause-only
returns-clause-only c = λ k h.
    let all : c.loop-i.i ≡ length c.args.events.now = omega (arith, c.loop-i-test.false, c.loop-i.auto.i-end) in
    (c.loop-i.invariant.seen_is k).1 (subst (λ z. HasSeen c.args.events.now c.args.number c.args.page k z) (sym all) h)
