use Rattle.std.proofs.Common.{◌≡◌, ◌≤◌, ◌-◌, ◌^◌, ℕ, List, Some, length}
use Rattle.std.specs.Prelude.{min}
use Rattle.bl_index.specs.Calls.{first_of, pages_of, IsSamePass, number_of, trail}
use Rattle.bl_proc.specs.declared.parts.Direction.TheVariants.{Up}
use Rattle.bl_map_calls.proofs.Scanning.{HasSearched}
use Rattle.bl_map_calls.proofs.counting.count.Given as goal

abbrev pub invariant-loop : goal.invariant-loop
invariant-loop g l = record {
  same : IsSamePass l.fn.pass l.pass;
  low : l.from ≤ l.at;
  so_far : (rows : List (ℕ × ℕ)) × HasSearched (first_of l.index) (pages_of l.index) (number_of l.fn.pass) Up l.from l.to (Some l.at) rows (trail l.fn.pass) (trail l.pass)
      × (l.counted ≡ min (length rows) (2 ^ 64 - 1));
}
