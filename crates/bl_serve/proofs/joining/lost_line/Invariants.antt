use Rattle.std.proofs.Common.{◌≡◌, ◌<◌, ℕ}
use Rattle.std.specs.Prelude.{slice_index}
use Rattle.bl_serve.specs.Joining.{times}
use Rattle.bl_serve.proofs.joining.lost_line.Given as goal

abbrev pub invariant-loop-place : goal.invariant-loop-place
invariant-loop-place l = (i : ℕ) → i < l.place → times (slice_index l.deals i) l.outputs ≡ 1
