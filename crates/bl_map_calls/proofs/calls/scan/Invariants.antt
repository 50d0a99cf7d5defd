use Rattle.std.proofs.Common.{◌≡◌, ℕ, ◌++◌, List, Some}
use Rattle.bl_index.specs.Calls.{first_of, pages_of, IsSamePass, number_of, trail}
use Rattle.bl_index_read.specs.LeafRows.{IsFrom}
use Rattle.bl_map_calls.proofs.Scanning.{HasSearched}
use Rattle.bl_map_calls.proofs.calls.scan.Given as goal

abbrev pub invariant-loop : goal.invariant-loop
invariant-loop g l = record {
  same : IsSamePass l.fn.pass l.pass;
  on_way : IsFrom l.direction l.from l.at;
  listed : List (ℕ × ℕ);
  grown : l.rows.items ≡ l.fn.rows.items ++ listed;
  so_far : HasSearched (first_of l.index) (pages_of l.index) (number_of l.fn.pass) l.direction l.from l.to (Some l.at) listed (trail l.fn.pass) (trail l.pass);
}
