use Rattle.std.proofs.Common.{ℕ, ◌<◌}
use Rattle.bl_check.specs.Rules.{Rule, KeepsRule}
use Rattle.bl_check.proofs.children.wrong_parent.Given as goal

abbrev pub invariant-loop-x : goal.invariant-loop-x
invariant-loop-x l = (y : ℕ) → y < l.x → KeepsRule Rule.Children l.pages y
