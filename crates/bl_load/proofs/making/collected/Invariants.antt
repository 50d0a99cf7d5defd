use Rattle.std.proofs.Common.{◌≡◌, ◌^◌, take}
use Rattle.bl_load.specs.Trees.{AllBelow}
use Rattle.bl_load.proofs.making.collected.Given as goal

abbrev pub invariant-loop-key : goal.invariant-loop-key
invariant-loop-key l = record {
  items : l.pairs.items ≡ take l.key-index l.slice;
  fit : AllBelow (2 ^ 64) l.pairs.items;
}
