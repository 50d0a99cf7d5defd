use Rattle.std.proofs.Common.{ℕ, ◌<◌}
use Rattle.bl_check.specs.Spans.{StandsAt, leftmost}
use Rattle.bl_check.proofs.anchor.wrong_leftmost.Given as goal

abbrev pub invariant-loop-level : goal.invariant-loop-level
invariant-loop-level l = (k : ℕ) → k < l.level → StandsAt l.pages (leftmost l.pages k) k 0
