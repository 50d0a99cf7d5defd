use Rattle.std.proofs.Common.{◌≡◌, ◌<◌, ◌+◌, Some, length, arith, sym, ◌∙◌, ap, subst}
use Rattle.std.proofs.lemmas.Bool.{false≢true}
use Rattle.std.proofs.lemmas.Option.{slice_get-get_or}
use Rattle.bl_world.specs.declared.turns.Act.TheVariants as shown
use Rattle.bl_world.specs.declared.turns.Event.{Event}
use Rattle.bl_world.specs.Retirements.{Stands}
use Rattle.bl_world.proofs.Retired.{next_is, Began, began_none, begins_now, begins_not, blocks_is}
use Rattle.bl_world.proofs.looking.is_blocking.Goals.{then-stands_before, else-stands_before}
use Rattle.bl_world.proofs.looking.is_blocking.Goals as goal

pub loop-i-init : goal.loop-i-init
loop-i-init c = began_none c.args.events.now c.args.number c.args.place

pub returns-then-is_event : goal.returns-then-is_event
returns-then-is_event c =
    let es = c.args.events.now in
    let i = c.loop-i.i in
    let lt : i < length es = omega (arith, c.loop-i-test.true) in
    let first : Event = record { process = 0; act = shown.Begin } in
    let here = slice_get-get_or es i first lt in
    let hit : Stands es i c.args.number shown.End = here ∙ ap Some (c.is_event.ensures.0 c.if-is_event.true) in
    (λ e. absurd (false≢true e), λ b. absurd (b.runs i lt hit))

pub loop-i-preserved : goal.loop-i-preserved
loop-i-preserved c =
    let es = c.args.events.now in
    let i = c.loop-i.i in
    let lt : i < length es = omega (arith, c.loop-i-test.true) in
    let first : Event = record { process = 0; act = shown.Begin } in
    let here = slice_get-get_or es i first lt in
    elim c.if-stands_before.branch [
      | then-stands_before w ↦
          let t = c.stands_before.ensures.0 w.if-stands_before.true in
          subst (Began es c.args.number c.args.place (i + 1)) (sym w.began-is) (rw (next_is i) (begins_now es c.args.number c.args.place i _ here (λ e. false≢true (sym c.if-is_event.false ∙ c.is_event.ensures.1 e)) t.0 t.1 c.loop-i.began c.loop-i.invariant))
      | else-stands_before w ↦
          subst (Began es c.args.number c.args.place (i + 1)) (sym w.began-is) (rw (next_is i) (begins_not es c.args.number c.args.place i _ here (λ e. false≢true (sym c.if-is_event.false ∙ c.is_event.ensures.1 e)) (λ t. false≢true (sym w.if-stands_before.false ∙ c.stands_before.ensures.1 t)) c.loop-i.began c.loop-i.invariant))
    ]

pub returns : goal.returns
returns c =
    let all : c.loop-i.i ≡ length c.args.events.now = omega (arith, c.loop-i-test.false, c.loop-i.auto.i-end) in
    blocks_is c.args.events.now c.args.number c.args.place c.loop-i.began (subst (λ z. Began c.args.events.now c.args.number c.args.place z c.loop-i.began) all c.loop-i.invariant)
