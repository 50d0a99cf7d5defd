use Rattle.std.proofs.Common.{◌↔◌, drop}
use Rattle.bl_page.specs.Pairs.{AllWithin}
use Rattle.bl_page.proofs.parse.keys_are_within.Given as goal

abbrev pub invariant-loop-pair : goal.invariant-loop-pair
invariant-loop-pair l = AllWithin l.low l.high l.pairs ↔ AllWithin l.low l.high (drop l.pair-index l.pairs)
