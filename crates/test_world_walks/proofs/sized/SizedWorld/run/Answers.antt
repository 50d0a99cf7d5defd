use Rattle.std.proofs.Common.{◌∙◌}
use Rattle.test_world_walks.proofs.Sizes.{ran_size}
use Rattle.test_world_walks.proofs.sized.SizedWorld.run.Goals as goal

pub invariant_of-self : goal.invariant_of-self
invariant_of-self c = record { size = ran_size c.run.result c.args.self.now.world c.run.new.self c.args.turns.now c.run.ensures.ok c.run.ensures.memory c.run.ensures.none c.run.ensures.never ∙ c.args.self.now.size }
