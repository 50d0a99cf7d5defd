use Rattle.std.proofs.Common.{ap, arith}
use Rattle.bl_index.specs.declared.index.Pass.{Pass}
use Rattle.bl_index.proofs.Gathered.{item_at, none_more, not_there}
use Rattle.bl_index.proofs.closing.has_pass.Goals as goal

pub returns-then-number-clause-yes : goal.returns-then-number-clause-yes
returns-then-number-clause-yes c it = let pass = c.pass-item.result in let own = pass.hand.own.0 in let is = c.number.ensures in let shown = ap (λ (p : Pass). p.hand.seat.me.0.number) c.pass.view_is in let same = c.if-number.true in record {
  place = c.loop-pass.pass-index;
  pass = pass;
  at = item_at c.args.passes.now c.loop-pass.pass-index pass (omega (arith, c.loop-pass-test.true)) c.pass-item.is;
  numbered = omega (arith, own, is, shown, same);
}

pub loop-pass-preserved : goal.loop-pass-preserved
loop-pass-preserved c = let pass = c.pass-item.result in let own = pass.hand.own.0 in let is = c.number.ensures in let shown = ap (λ (p : Pass). p.hand.seat.me.0.number) c.pass.view_is in let other = c.if-number.false in
    none_more c.args.passes.now c.loop-pass.pass-index c.args.number pass (item_at c.args.passes.now c.loop-pass.pass-index pass (omega (arith, c.loop-pass-test.true)) c.pass-item.is) (λ e. absurd (omega (arith, own, is, shown, other, e))) c.loop-pass.invariant

pub returns-clause-no : goal.returns-clause-no
returns-clause-no c it = not_there c.args.passes.now c.loop-pass.pass-index c.args.number (omega (arith, c.loop-pass-test.false)) c.loop-pass.invariant
