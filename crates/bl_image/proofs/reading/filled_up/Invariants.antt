use Rattle.std.proofs.Common.{◌≡◌, ◌++◌}
use Rattle.bl_image.proofs.Stored.{blanks}
use Rattle.bl_image.proofs.reading.filled_up.Given as goal

abbrev pub invariant-loop : goal.invariant-loop
invariant-loop l = l.all.items ≡ l.fn.pages.items ++ blanks l.counter
