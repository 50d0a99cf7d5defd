use Rattle.std.proofs.Common.{◌≤◌, arith}
use Rattle.bl_page.proofs.Halving.{below_tells, not_below_tells}
use Rattle.bl_page.proofs.seeking.reached_behind.Goals as goal

pub returns-then-one_less-key-clause-none : goal.returns-then-one_less-key-clause-none
returns-then-one_less-key-clause-none g c = λ second not.
    let words = g.W.Words.shown c.args.source.now c.args.hand.now in
    let there = below_tells c.args.key c.args.which c.word-one_less.result words (g.W.Words.long _ _ c.requires.sees) c.requires.pairs second c.requires.which.1 c.ranges.key.fits c.word-one_less.type_inv
    c.word-one_less.ensures.word c.if-one_less-key.true in
    absurd (omega (arith, there, not))

pub returns-else-one_less-key-clause-one : goal.returns-else-one_less-key-clause-one
returns-else-one_less-key-clause-one g c = λ there.
    let words = g.W.Words.shown c.args.source.now c.args.hand.now in
    let second : 2 ≤ c.args.which = omega (arith, c.if-which-eq1.false, c.requires.which.0) in
    let not = not_below_tells c.args.key c.args.which c.word-one_less.result words (g.W.Words.long _ _ c.requires.sees) c.requires.pairs second c.word-one_less.type_inv c.word-one_less.ensures.word
    c.if-one_less-key.false in
    absurd (omega (arith, there, not))
