use Rattle.std.proofs.Common.{◌∙◌, ◌+◌}
use Rattle.bl_serve_lines.proofs.Numbers.{not_three, tail_is}
use Rattle.bl_serve_lines.proofs.number.three_numbers.Goals as goal

pub returns-in_default-clause-none : goal.returns-in_default-clause-none
returns-in_default-clause-none c = not_three c.args.text.now c.first_space-space.result c.first_space-space.ensures.before c.first_space-space.ensures.found c.first_space-space.ensures.within
    (λ l m n small_l small_m small_n first others lt. let e = c.two_numbers.ensures.none in (rw c.in_default.is-1 at e) m n small_m small_n (tail_is c.args.text.now (c.first_space-space.result + 1) ∙ others))

pub returns-in_default-2-clause-none : goal.returns-in_default-2-clause-none
returns-in_default-2-clause-none c = not_three c.args.text.now c.first_space-space.result c.first_space-space.ensures.before c.first_space-space.ensures.found c.first_space-space.ensures.within
    (λ l m n small_l small_m small_n first others lt. let e = c.number.ensures.none in (rw c.in_default.is-0 at e) l small_l first)
