use Rattle.std.proofs.Common.{◌≡◌, ◌+◌, ℕ, Option}
use Rattle.bl_answers.specs.declared.answers.Hint.{Hint}
use Rattle.bl_index.specs.Calls.{first_of, IsSamePass, number_of, trail}
use Rattle.bl_claims.specs.Trails.{Trail}
use Rattle.bl_map_calls.specs.Follows.{FollowsHints}
use Rattle.bl_map_calls.proofs.upkeep.follow.Given as goal

abbrev pub invariant-loop-level : goal.invariant-loop-level
invariant-loop-level g l = record {
  same : IsSamePass l.fn.pass l.pass;
  on : (more : ℕ) (left : Option Hint) (end : Trail) → more + l._level ≡ 12 → FollowsHints (first_of l.index) (number_of l.fn.pass) more l.hint left (trail l.pass) end
      → FollowsHints (first_of l.index) (number_of l.fn.pass) 12 l.fn.hint left (trail l.fn.pass) end;
}
