use Rattle.std.proofs.Common.{refl, arith}
use Rattle.bl_proc_deterministic.proofs.Spelling.{blank, laid}
use Rattle.bl_index_edit.proofs.halves.laid_out.Goals as goal

pub loop-i-init : goal.loop-i-init
loop-i-init c = record {
  long = refl;
  first = refl;
  low = refl;
  high = refl;
  right = refl;
  read = λ k low. absurd (omega arith);
  rest = λ k _ _. blank c.args.first c.args.low c.args.high c.args.right k;
}

pub returns : goal.returns
returns c =
    let i = c.loop-i.invariant in
    laid c.args.first c.args.low c.args.high c.args.right c.loop-i.words c.args.entries.now i.long c.requires i.first i.low i.high i.right (λ k low. i.read k (omega (arith, c.loop-i-test.false))) (λ k past low. i.rest k (omega (arith, c.loop-i.auto.i-end)) low)
