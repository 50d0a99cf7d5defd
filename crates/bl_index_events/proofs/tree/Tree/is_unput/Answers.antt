use Rattle.bl_index_rule.proofs.Pages.{unput}
use Rattle.bl_index_events.proofs.tree.Tree.is_unput.Goals as goal

pub is_kept-requires-clause-rule : goal.is_kept-requires-clause-rule
is_kept-requires-clause-rule c = λ version. unput _ _ _ _ version
