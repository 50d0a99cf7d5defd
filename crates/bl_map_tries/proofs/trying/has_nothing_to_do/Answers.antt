use Rattle.std.proofs.Common.{sym, ◌∙◌}
use Rattle.std.proofs.lemmas.Bool.{false≢true}
use Rattle.bl_map_tries.proofs.trying.has_nothing_to_do.Goals as goal

pub returns-then-is_due : goal.returns-then-is_due
returns-then-is_due c = (λ z. absurd (false≢true z), λ h. absurd (false≢true (sym (c.is_due.ensures.1 (h.1, h.2)) ∙ c.if-is_due.true)))

pub returns : goal.returns
returns c = (λ e. let d = c.is_due.ensures.0 c.if-is_due.false in (c.is_empty.ensures.0 e, d.0, d.1), λ h. c.is_empty.ensures.1 h.0)
