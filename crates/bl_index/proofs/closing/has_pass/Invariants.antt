use Rattle.std.proofs.Common.{ℕ, ◌≡◌, ◌≢◌, ◌<◌}
use mathlib.Core.Option.{some}
use lib.ListN.{get_elem?}
use Rattle.bl_index.specs.declared.index.Pass.{Pass}
use Rattle.bl_index.specs.Calls.{number_of}
use Rattle.bl_index.proofs.closing.has_pass.Given as goal

abbrev pub invariant-loop-pass : goal.invariant-loop-pass
invariant-loop-pass l = (k : ℕ) (pass : Pass) → k < l.pass-index → get_elem? l.passes k ≡ some pass → number_of pass ≢ l.number
