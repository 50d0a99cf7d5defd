use Rattle.std.proofs.Common.{◌≡◌, ℕ, List, replicate}
use Rattle.bl_store.proofs.opening.Store+D+R+Global.of_layout.Given as goal

abbrev pub invariant-loop : goal.invariant-loop
invariant-loop g l = ◌≡◌ {A = List ℕ} l.words.items (replicate l.counter 0)
