use Rattle.std.proofs.Common.{arith}
use Rattle.bl_page.proofs.PairsIn.{pairs_in-more}
use Rattle.bl_page.proofs.parse.pairs_at.Goals as goal

pub loop-i-preserved : goal.loop-i-preserved
loop-i-preserved c = record {
  count = omega (arith, c.push.ensures.len, c.loop-i.invariant.count);
  pairs = pairs_in-more c.args.words.now c.loop-i.pairs.items c.push.new.self.items _ c.args.count c.loop-i.i c.loop-i-test.true (omega (arith, c.told-words)) c.push.ensures.items c.loop-i.invariant.pairs;
}
