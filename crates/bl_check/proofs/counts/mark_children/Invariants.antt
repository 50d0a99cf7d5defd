use Rattle.std.proofs.Common.{◌≡◌, ℕ, ◌<◌, ◌||◌, length, take, false}
use Rattle.std.specs.Prelude.{slice_index_or, ◌==◌}
use Rattle.std.specs.List.{list_any}
use Rattle.bl_check.proofs.counts.mark_children.Given as goal

abbrev pub invariant-loop-child : goal.invariant-loop-child
invariant-loop-child l = (x : ℕ) → x < length l.marks → slice_index_or l.marks x false ≡ (slice_index_or l.fn.marks x false || list_any (λ pair. pair.1 == x) (take l.child-index l.pairs))
