use Rattle.std.proofs.Common.{sym, subst, ◌∙◌}
use Rattle.bl_proc_steps.specs.declared.acts.Seen.TheVariants as seen
use Rattle.bl_store.specs.Hands.{known}
use Rattle.bl_store.specs.declared.store.Hand.{Hand}
use Rattle.bl_index_rule.specs.declared.known.PassState.{PassState}
use Rattle.bl_index_rule.specs.Observed.{Goes}
use Rattle.bl_index_compress.proofs.events.words_at.Goals as goal

pub returns-clause-goes : goal.returns-clause-goes
returns-clause-goes c =
    let went = c.look-glance.ensures.goes in
    (went.0, c.words_from.ensures.words ∙ went.1, subst (λ (h : Hand PassState). Goes (seen.Words went.0) (known c.args.hand.now.seat) (known h.seat)) (sym c.words_from.ensures.same) went.2)
