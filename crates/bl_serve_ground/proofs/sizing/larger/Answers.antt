use Rattle.std.proofs.Common.{◌<◌, arith}
use Rattle.bl_serve_ground.proofs.Doubling.{doubled_then}
use Rattle.bl_serve_ground.proofs.sizing.larger.Goals as goal

pub doublings-preserved : goal.doublings-preserved
doublings-preserved c = (
  doubled_then c.args.pages c.args.most c.doublings.larger c.once_larger-larger.result c.doublings.invariant.0 c.once_larger-larger.ensures.doubled,
  (let a = c.doublings.invariant.1 in let b = c.once_larger-larger.ensures.more a in omega (arith, a, b)),
)
