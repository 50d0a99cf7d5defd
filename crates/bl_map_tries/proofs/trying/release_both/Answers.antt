use Rattle.bl_map_calls.proofs.Adding.{swept_on}
use Rattle.bl_map_tries.proofs.trying.release_both.Goals as goal

pub returns-then-splits-clause-swept : goal.returns-then-splits-clause-swept
returns-then-splits-clause-swept c = swept_on _ _ _ _ _ _ c.release.ensures.same.2 c.release.ensures.swept c.release-then-splits.ensures.swept
