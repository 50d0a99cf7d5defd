use Rattle.std.proofs.Common.{◌≡◌, ◌+◌, drop}
use Rattle.bl_page.specs.Pairs.{place}
use Rattle.bl_page.proofs.pairs.place_of.Given as goal

abbrev pub invariant-loop-i : goal.invariant-loop-i
invariant-loop-i l = l.i + place l.key (drop l.i l.pairs) ≡ place l.key l.pairs
