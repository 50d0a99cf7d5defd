use Rattle.std.proofs.Common.{◌≡◌, drop}
use Rattle.bl_model.specs.Rows.{map_of}
use Rattle.bl_page.proofs.pairs.listed_with.Given as goal

abbrev pub invariant-loop-pair : goal.invariant-loop-pair
invariant-loop-pair l = map_of l.pairs l.key ≡ map_of (drop l.pair-index l.pairs) l.key
