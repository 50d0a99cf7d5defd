use Rattle.std.proofs.Common.{◌∙◌, ◌+◌}
use Rattle.bl_serve_lines.proofs.Numbers.{not_two_limited, tail_is}
use Rattle.bl_serve_lines.proofs.number.two_numbers_and_limit.Goals as goal

pub returns-in_default-clause-none : goal.returns-in_default-clause-none
returns-in_default-clause-none c = not_two_limited c.args.text.now c.first_space-space.result c.first_space-space.ensures.before c.first_space-space.ensures.found c.first_space-space.ensures.within
    (λ m n most small_m small_n fits first others lt. let e = c.number_and_limit.ensures.none in (rw c.in_default.is-1 at e) n most small_n fits (tail_is c.args.text.now (c.first_space-space.result + 1) ∙ others))

pub returns-in_default-2-clause-none : goal.returns-in_default-2-clause-none
returns-in_default-2-clause-none c = not_two_limited c.args.text.now c.first_space-space.result c.first_space-space.ensures.before c.first_space-space.ensures.found c.first_space-space.ensures.within
    (λ m n most small_m small_n fits first others lt. let e = c.number.ensures.none in (rw c.in_default.is-0 at e) m small_m first)
