use Rattle.std.proofs.Common.{◌≡◌, ◌++◌, take, drop}
use Rattle.bl_rearrange.specs.Entered.{dropped}
use Rattle.bl_rearrange.proofs.pairs.index_of.Given as goal

abbrev pub invariant-loop-i : goal.invariant-loop-i
invariant-loop-i l = dropped l.key l.pairs ≡ take l.i l.pairs ++ dropped l.key (drop l.i l.pairs)
