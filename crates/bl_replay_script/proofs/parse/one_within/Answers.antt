use Rattle.std.proofs.Common.{rules, arith, sym, ◌∙◌}
use Rattle.std.proofs.lemmas.List.{append_cancel_left}
use Rattle.bl_replay_script.specs.Commands.{one}
use Rattle.bl_replay_script.proofs.Numbers.{other_one}
use Rattle.bl_replay_script.proofs.parse.one_within.Goals as goal
use Rattle.bl_replay_script.proofs.parse.one_within.Goals.{else-least-a-via-then-least-a+else-a-most, else-least-a-via-else-least-a}

pub returns-in_default-number : goal.returns-in_default-number
returns-in_default-number c = λ a low high e. c.in_default-number.ensures.none a (let fits = c.ranges.most.fits in omega arith)
    (append_cancel_left c.args.word.now c.in-Some.rest.now (one a) (sym c.in-Some.ensures ∙ e))

pub returns-else-least-a : goal.returns-else-least-a
returns-else-least-a c = λ a low high e.
    let same = other_one c.args.line.now c.args.word.now c.in-Some.rest.now c.in-Some-number.a a c.in-Some.ensures c.in-Some-number.ensures.found (search rules) (omega (arith, c.ranges.most.fits)) e in
    elim c.else-least-a.branch [
      | else-least-a-via-then-least-a+else-a-most w ↦ absurd (omega (arith, same, w.if-a-most.false))
      | else-least-a-via-else-least-a w ↦ absurd (omega (arith, same, w.if-least-a.false))
    ]
