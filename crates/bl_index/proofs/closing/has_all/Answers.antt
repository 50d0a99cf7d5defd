use Rattle.std.proofs.Common.{rules, ◌≡◌, true}
use Rattle.bl_index.proofs.Gathered.{all_more}
use Rattle.bl_index.proofs.closing.has_all.Goals as goal

pub loop-number-preserved : goal.loop-number-preserved
loop-number-preserved c = let has : c.has_pass.result ≡ true = search rules in all_more c.args.passes.now c.loop-number.number (c.has_pass.ensures.yes has) c.loop-number.invariant
