use Rattle.std.proofs.Common.{ℕ, ◌<◌}
use Rattle.bl_check.specs.Rules.{Rule, KeepsRule}
use Rattle.bl_check.proofs.chains.off_chain.Given as goal

abbrev pub invariant-loop-x : goal.invariant-loop-x
invariant-loop-x l = (y : ℕ) → y < l.x → KeepsRule Rule.Chains l.pages y
