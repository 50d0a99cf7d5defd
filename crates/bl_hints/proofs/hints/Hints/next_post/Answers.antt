use Rattle.bl_hints.proofs.Kept.{pops}
use Rattle.bl_hints.proofs.hints.Hints.next_post.Goals as goal

pub pop_as-requires-clause-rule : goal.pop_as-requires-clause-rule
pop_as-requires-clause-rule g c = (pops _ _ _, λ items views all at. tt)
