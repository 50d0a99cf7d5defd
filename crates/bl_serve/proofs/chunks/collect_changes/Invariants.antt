use Rattle.std.proofs.Common.{◌≡◌, ◌++◌, length}
use Rattle.std.specs.Prelude.{flat_map}
use Rattle.bl_serve.proofs.chunks.collect_changes.Given as goal

abbrev pub invariant-loop-rest : goal.invariant-loop-rest
invariant-loop-rest l = record {
  came : l.changes.came.items ++ flat_map (λ s. s.changes.came.items) l.rest ≡ l.initial.changes.came.items ++ flat_map (λ s. s.changes.came.items) l.slots;
  went : l.changes.went.items ++ flat_map (λ s. s.changes.went.items) l.rest ≡ l.initial.changes.went.items ++ flat_map (λ s. s.changes.went.items) l.slots;
}

abbrev pub decreases-loop-rest : goal.decreases-loop-rest
decreases-loop-rest l = length l.rest
