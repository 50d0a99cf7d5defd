use Rattle.std.proofs.Common.{◌∙◌}
use Rattle.bl_serve_lines.proofs.Numbers.{not_limited, tail_is}
use Rattle.bl_serve_lines.proofs.number.number_and_limit.Goals as goal

pub returns-in_default-clause-none : goal.returns-in_default-clause-none
returns-in_default-clause-none c = not_limited c.args.text.now c.first_space-space.result c.first_space-space.ensures.before c.first_space-space.ensures.found c.first_space-space.ensures.within
    (λ m most small fits first limit. c.in_default.ensures'.none most fits (tail_is c.args.text.now c.first_space-space.result ∙ limit))

pub returns-in_default-2-clause-none : goal.returns-in_default-2-clause-none
returns-in_default-2-clause-none c = not_limited c.args.text.now c.first_space-space.result c.first_space-space.ensures.before c.first_space-space.ensures.found c.first_space-space.ensures.within
    (λ m most small fits first limit. let e = c.number.ensures.none in (rw c.in_default.is-0 at e) m small first)
