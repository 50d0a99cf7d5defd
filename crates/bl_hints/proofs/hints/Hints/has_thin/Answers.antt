use Rattle.bl_hints.proofs.hints.Hints.has_thin.Goals as goal

pub is_empty_as-requires-clause-rule : goal.is_empty_as-requires-clause-rule
is_empty_as-requires-clause-rule c = λ items views all at. tt
