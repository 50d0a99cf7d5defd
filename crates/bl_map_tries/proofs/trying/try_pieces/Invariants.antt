use Rattle.std.proofs.Common.{◌≡◌, ◌+◌, ℕ}
use Rattle.bl_index.specs.Calls.{first_of, IsSamePass, number_of, trail}
use Rattle.bl_claims.specs.Trails.{Trail}
use Rattle.bl_waiting.specs.declared.waiting.Waiting.{Waiting}
use Rattle.bl_map_tries.specs.Tries.{TriesPieces}
use Rattle.bl_map_tries.proofs.trying.try_pieces.Given as goal

abbrev pub invariant-loop-piece : goal.invariant-loop-piece
invariant-loop-piece l = record {
  same : IsSamePass l.fn.pass l.pass;
  on : (more : ℕ) (after : Waiting) (end : Trail) → more + l._piece ≡ l.most → TriesPieces (first_of l.index) (number_of l.fn.pass) more l.waiting after (trail l.pass) end
      → TriesPieces (first_of l.index) (number_of l.fn.pass) l.most l.fn.waiting after (trail l.fn.pass) end;
}
