-- What a look at a page gave.
use Rattle.std.proofs.Common.{ℕ, ◌≡◌, Bool, true, false, List, refl}
use Rattle.std.specs.Prelude.{◌↔◌, IsTrue}
use Rattle.std.proofs.lemmas.Bool.{false≢true}
use Rattle.bl_proc_steps.specs.declared.acts.Seen.TheVariants as seen
use Rattle.bl_store_rule.specs.Pages.{Owner, Open}
use Rattle.bl_index_rule.specs.declared.known.PassState.{PassState}
use Rattle.bl_index_rule.specs.Observed.{Goes, probes}

-- by what it was told
pub probed_as : (free : Bool) (d e : PassState) (x : ℕ) (owner : Owner) (words : List ℕ) → (IsTrue free ↔ (owner ≡ Open)) → probes d x owner words e → Goes (seen.Probed free) d e
probed_as true d e x owner words is observed = observed.0 (is.0 refl)
probed_as false d e x owner words is observed = observed.1 (λ same. false≢true (is.1 same))
