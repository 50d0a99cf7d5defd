use Rattle.std.proofs.Common.{ℕ, ap, ◌∙◌}
use Rattle.bl_serve.specs.Dealing.{spread}
use Rattle.bl_serve.proofs.dealing.share_at.Goals as goal

pub returns-in-Some-clause-same : goal.returns-in-Some-clause-same
returns-in-Some-clause-same c = λ key on. c.share_of.ensures ∙ ap (λ (k : ℕ). spread k c.args.shares) (c.in-Some.ensures key on)

pub returns-in-None-clause-same : goal.returns-in-None-clause-same
returns-in-None-clause-same c = λ key on. absurd (c.in-None.ensures key on)
