use Rattle.std.proofs.Common.{◌∙◌, sym, arith}
use Rattle.bl_serve_lines.proofs.Numbers.{no_limit, tail_is}
use Rattle.bl_serve_lines.proofs.number.limit.Goals as goal

pub returns-then-most-from-clause-none : goal.returns-then-most-from-clause-none
returns-then-most-from-clause-none c = no_limit c.args.text.now c.in_ok-most-in-32.most c.in-32.len_at_least (sym (tail_is c.args.text.now 7) ∙ c.in_ok-most-in-32.ensures.found)
    (let large = c.if-most-from.true in let is = c.from.ensures in omega (arith, large, is)) (let small = c.in_ok-most-in-32.ensures in omega arith)
