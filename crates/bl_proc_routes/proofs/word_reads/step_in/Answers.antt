use Rattle.std.proofs.Common.{◌/◌, ◌^◌, ap, ◌∙◌}
use Rattle.bl_proc_routes.proofs.Spellings.{tree_by_kind}
use Rattle.bl_proc_routes.proofs.word_reads.step_in.Goals as goal

pub step_within-requires-clause-page : goal.step_within-requires-clause-page
step_within-requires-clause-page g c =
    let head = c.word-head.ensures.word in (
      c.requires.page.0,
      tree_by_kind c.requires.page.0 (g.W.Words.shown c.args.source.now c.args.hand.now) c.requires.page.1 (λ is. c.if-kind-eq1.false (ap (λ w. w / 2 ^ 32) head ∙ is)) (λ is. c.if-kind-eq4.false (ap (λ w. w / 2 ^ 32) head ∙ is)),
      ap (λ hand. g.W.Words.shown c.args.source.now hand) c.word-head.ensures.same ∙ c.requires.page.1,
    )
