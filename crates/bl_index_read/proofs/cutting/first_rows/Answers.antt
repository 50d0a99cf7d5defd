use Rattle.std.proofs.Common.{◌+◌, ◌-◌, refl, arith}
use Rattle.bl_page.specs.Faults.{pairs_of}
use Rattle.bl_index_read.proofs.Picked.{count_is}
use Rattle.bl_index_read.proofs.Cuts.{all_rows, none_left, first_up, left_up, first_down, left_down}
use Rattle.bl_index_read.proofs.cutting.first_rows.Goals as goal

pub row_at-row-requires-clause-place : goal.row_at-row-requires-clause-place
row_at-row-requires-clause-place g c =
    let n = count_is (g.W.Words.shown c.args.source.now c.args.hand.now) (g.W.Words.long _ _ c.requires.sees) c.requires.pairs in
    omega (arith, n, c.requires.within, c.requires.order, c.if-last-first.false)

pub row_at-row-requires-in-Down-clause-place : goal.row_at-row-requires-in-Down-clause-place
row_at-row-requires-in-Down-clause-place g c =
    let n = count_is (g.W.Words.shown c.args.source.now c.args.hand.now) (g.W.Words.long _ _ c.requires.sees) c.requires.pairs in
    omega (arith, n, c.requires.within, c.requires.order, c.if-last-first.false)

pub returns-then-last-first-clause-rows : goal.returns-then-last-first-clause-rows
returns-then-last-first-clause-rows g c = all_rows c.args.direction (pairs_of (g.W.Words.shown c.args.source.now c.args.hand.now)) c.args.first c.args.last c.args.most c.requires.order c.requires.within (omega (arith, c.if-last-first.true))

pub returns-then-last-first-clause-left : goal.returns-then-last-first-clause-left
returns-then-last-first-clause-left g c = none_left c.args.direction (pairs_of (g.W.Words.shown c.args.source.now c.args.hand.now)) c.args.first c.args.last c.args.most c.requires.order c.requires.within (omega (arith, c.if-last-first.true))

pub returns-in-Up-clause-rows : goal.returns-in-Up-clause-rows
returns-in-Up-clause-rows g c = rw c.in-Up.is (first_up (pairs_of (g.W.Words.shown c.args.source.now c.args.hand.now)) c.args.first c.args.last c.args.most c.requires.order c.requires.within (omega (arith, c.if-last-first.false)) (c.args.first + c.args.most) refl)

pub returns-in-Up-clause-left : goal.returns-in-Up-clause-left
returns-in-Up-clause-left g c = rw c.in-Up.is (left_up (pairs_of (g.W.Words.shown c.args.source.now c.args.hand.now)) c.args.first c.args.last c.args.most c.requires.order c.requires.within (omega (arith, c.if-last-first.false)) (c.args.first + c.args.most) c.row_at-row.result refl c.row_at-row.ensures.row)

pub returns-in-Down-clause-rows : goal.returns-in-Down-clause-rows
returns-in-Down-clause-rows g c = rw c.in-Down.is (first_down (pairs_of (g.W.Words.shown c.args.source.now c.args.hand.now)) c.args.first c.args.last c.args.most c.requires.order c.requires.within (omega (arith, c.if-last-first.false)) (c.args.last - c.args.most) refl)

pub returns-in-Down-clause-left : goal.returns-in-Down-clause-left
returns-in-Down-clause-left g c = rw c.in-Down.is (left_down (pairs_of (g.W.Words.shown c.args.source.now c.args.hand.now)) c.args.first c.args.last c.args.most c.requires.order c.requires.within (omega (arith, c.if-last-first.false)) (c.args.last - c.args.most) c.row_at-row-in-Down.result refl c.row_at-row-in-Down.ensures.row)
