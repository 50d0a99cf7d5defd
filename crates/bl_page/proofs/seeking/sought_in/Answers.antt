use Rattle.std.proofs.Common.{arith}
use Rattle.bl_page.proofs.Halving.{first_alone}
use Rattle.bl_page.proofs.seeking.sought_in.Goals as goal

pub returns-then-word-gt0-clause-place : goal.returns-then-word-gt0-clause-place
returns-then-word-gt0-clause-place g c = λ some.
    let most = first_alone c.args.key (g.W.Words.shown c.args.source.now c.args.hand.now) (g.W.Words.long _ _ c.requires.sees) c.requires.pairs c.if-key-gt0.false in
    omega (arith, some, most)
