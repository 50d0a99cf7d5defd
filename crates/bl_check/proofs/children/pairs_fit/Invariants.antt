use Rattle.std.proofs.Common.{◌↔◌, drop}
use Rattle.std.specs.List.{AllByRecursion}
use Rattle.bl_check.specs.Spans.{StandsAt}
use Rattle.bl_check.proofs.children.pairs_fit.Given as goal

abbrev pub invariant-loop-key : goal.invariant-loop-key
invariant-loop-key l = AllByRecursion (λ pair. StandsAt l.pages pair.1 l.level pair.0) l.pairs ↔ AllByRecursion (λ pair. StandsAt l.pages pair.1 l.level pair.0) (drop l.key-index l.pairs)
