use Rattle.std.proofs.Common.{rules, arith, sym, ◌∙◌}
use Rattle.std.proofs.lemmas.List.{append_cancel_left}
use Rattle.bl_replay_script.specs.Commands.{two}
use Rattle.bl_replay_script.proofs.Numbers.{other_two}
use Rattle.bl_replay_script.proofs.parse.two_within.Goals as goal
use Rattle.bl_replay_script.proofs.parse.two_within.Goals.{else-least-a-via-then-least-a+then-a-most+else-b-last, else-least-a-via-then-least-a+else-a-most, else-least-a-via-else-least-a}

pub returns-in_default-two_numbers : goal.returns-in_default-two_numbers
returns-in_default-two_numbers c = λ a b low high last e. c.in_default-two_numbers.ensures.none a b (omega (arith, c.ranges.most.fits)) (omega (arith, c.ranges.last.fits))
    (append_cancel_left c.args.word.now c.in-Some.rest.now (two a b) (sym c.in-Some.ensures ∙ e))

pub returns-else-least-a : goal.returns-else-least-a
returns-else-least-a c = λ a b low high last e.
    let same = other_two c.args.line.now c.args.word.now c.in-Some.rest.now c.in-Some-two_numbers.a c.in-Some-two_numbers.b a b c.in-Some.ensures c.in-Some-two_numbers.ensures.found
    (search rules) (search rules) (omega (arith, c.ranges.most.fits)) (omega (arith, c.ranges.last.fits)) e in
    elim c.else-least-a.branch [
      | else-least-a-via-then-least-a+then-a-most+else-b-last w ↦ absurd (omega (arith, same.1, w.if-b-last.false))
      | else-least-a-via-then-least-a+else-a-most w ↦ absurd (omega (arith, same.0, w.if-a-most.false))
      | else-least-a-via-else-least-a w ↦ absurd (omega (arith, same.0, w.if-least-a.false))
    ]
