use Rattle.std.proofs.Common.{inr, arith}
use Rattle.test_world_walks.proofs.sized.SizedWorld.reclaim.Goals as goal

pub start-requires : goal.start-requires
start-requires c = inr (c.args.page, omega (arith, c.args.self.now.size), c.reclaim.ensures.made)
