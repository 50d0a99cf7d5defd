use Rattle.std.proofs.Common.{◌≡◌, ◌+◌, ◌<◌, ◌≤◌, ℕ}
use Rattle.bl_index.specs.Calls.{first_of, IsSamePass, number_of, trail}
use Rattle.bl_claims.specs.Trails.{Trail}
use Rattle.bl_waiting.specs.declared.waiting.Waiting.{Waiting}
use Rattle.bl_map_calls.specs.declared.room.Extent.TheVariants.{Whole}
use Rattle.bl_map_tries.specs.Tries.{Mends}
use Rattle.bl_map_tries.proofs.trying.mend_some.Given as goal

abbrev pub invariant-loop-piece : goal.invariant-loop-piece
invariant-loop-piece l = record {
  same : IsSamePass l.fn.pass l.pass;
  kept : (l.walk.refused ≡ l.fn.walk.refused) × (l.walk.dropped ≡ l.fn.walk.dropped);
  far : l.fn.walk.next ≤ l.walk.next;
  most : l.fn.walk.next ≤ l.to → l.walk.next ≤ l.to;
  whole : 0 < l._piece → l.extent ≡ Whole → l.fn.walk.next < l.to → l.fn.walk.next < l.walk.next;
  on : (more : ℕ) (after : Waiting) (end : Trail) → more + l._piece ≡ 16 → Mends (first_of l.index) (number_of l.fn.pass) more l.waiting after (trail l.pass) end
      → Mends (first_of l.index) (number_of l.fn.pass) 16 l.fn.waiting after (trail l.fn.pass) end;
}
