use Rattle.std.proofs.Common.{◌+◌, ℕ}
use Rattle.bl_index.specs.Calls.{first_of, IsSamePass, number_of, trail}
use Rattle.bl_claims.specs.Trails.{Trail}
use Rattle.bl_map_calls.specs.Follows.{Lowers}
use Rattle.bl_map_tries.proofs.trying.try_lowering.Given as goal

abbrev pub invariant-loop-level : goal.invariant-loop-level
invariant-loop-level l = record {
  same : IsSamePass l.fn.pass l.pass;
  on : (more : ℕ) (end : Trail) → Lowers (first_of l.index) (number_of l.fn.pass) more (trail l.pass) end
      → Lowers (first_of l.index) (number_of l.fn.pass) (more + l._level) (trail l.fn.pass) end;
}
