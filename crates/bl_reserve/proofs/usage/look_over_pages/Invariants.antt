use Rattle.std.proofs.Common.{◌+◌, ◌≤◌}
use Rattle.bl_reserve.proofs.usage.look_over_pages.Given as goal

abbrev pub invariant-loop-page : goal.invariant-loop-page
invariant-loop-page g l = l.used + l.free ≤ l.page
