use Rattle.std.proofs.Common.{◌≤◌, arith}
use Rattle.bl_page.specs.Faults.{count_in}
use Rattle.bl_page.proofs.Halving.{at-or-below, above, behind}
use Rattle.bl_page.proofs.seeking.reached_within.Goals as goal
use Rattle.bl_page.proofs.seeking.reached_within.Goals.{else-which-count-via-then-which-count+else-there-key, else-which-count-via-else-which-count}

pub returns-then-there-key-clause-none : goal.returns-then-there-key-clause-none
returns-then-there-key-clause-none g c = λ not.
    let words = g.W.Words.shown c.args.source.now c.args.hand.now in
    let within : c.args.which ≤ count_in words = omega (arith, c.if-which-count.true, c.requires.count) in
    let there = at-or-below c.args.key c.args.which words (g.W.Words.long _ _ c.requires.sees) c.requires.pairs c.requires.which.0 within (omega (arith, c.if-there-key.true, c.word-there.ensures.word)) in
    absurd (omega (arith, there, not))

pub returns-else-which-count-clause-one : goal.returns-else-which-count-clause-one
returns-else-which-count-clause-one g c = λ there.
    let words = g.W.Words.shown c.args.source.now c.args.hand.now in
    let long = g.W.Words.long _ _ c.requires.sees in
    elim c.else-which-count.branch [
      | else-which-count-via-then-which-count+else-there-key w ↦
          let within : c.args.which ≤ count_in words = omega (arith, w.if-which-count.true, c.requires.count) in
          let not = above c.args.key c.args.which words long c.requires.pairs c.requires.which.0 within (omega (arith, w.if-there-key.false, c.word-there.ensures.word)) in
          absurd (omega (arith, there, not))
      | else-which-count-via-else-which-count w ↦
          let not = behind c.args.key c.args.which words long c.requires.pairs (omega (arith, w.if-which-count.false, c.requires.count)) in
          absurd (omega (arith, there, not))
    ]
