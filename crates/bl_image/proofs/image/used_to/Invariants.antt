use Rattle.std.proofs.Common.{◌≡◌, ◌-◌, length, drop}
use Rattle.bl_image.proofs.Stored.{blanks}
use Rattle.bl_image.proofs.image.used_to.Given as goal

abbrev pub invariant-loop-behind : goal.invariant-loop-behind
invariant-loop-behind l = drop (length l.pages - l.behind) l.pages ≡ blanks l.behind
