use Rattle.std.proofs.Common.{◌↔◌, drop}
use Rattle.bl_page.specs.Pairs.{NameNumbers}
use Rattle.bl_page.proofs.parse.pairs_name_pages.Given as goal

abbrev pub invariant-loop-pair : goal.invariant-loop-pair
invariant-loop-pair l = NameNumbers l.most l.pairs ↔ NameNumbers l.most (drop l.pair-index l.pairs)
