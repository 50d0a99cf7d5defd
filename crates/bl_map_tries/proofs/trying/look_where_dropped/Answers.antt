use Rattle.std.proofs.Common.{refl, inl, inr, sym, ◌∙◌}
use Rattle.std.proofs.lemmas.Bool.{false≢true}
use Rattle.bl_map_tries.proofs.trying.look_where_dropped.Goals as goal

pub returns-clause-looks : goal.returns-clause-looks
returns-clause-looks c = inl ((c.is_empty.ensures.0 c.if-not-is_empty.false, λ done. absurd (false≢true (sym (c.is_due.ensures.1 (done.1, done.2)) ∙ c.if-not-is_due.false))), c.look_on.ensures.walks refl, c.look_on.ensures.mends)
