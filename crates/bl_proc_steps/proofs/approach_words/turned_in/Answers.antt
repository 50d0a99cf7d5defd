use Rattle.std.proofs.Common.{ap, ◌∙◌}
use Rattle.bl_proc_steps.proofs.approach_words.turned_in.Goals as goal

pub step_in-requires-clause-page : goal.step_in-requires-clause-page
step_in-requires-clause-page g c = (c.requires.page.0, ap (λ hand. g.W.Words.shown c.args.source.now hand) c.level_in-own.ensures.same ∙ c.requires.page.1)

pub approach_by-requires : goal.approach_by-requires
approach_by-requires g c =
    let page = c.requires.page in
    let is = ap (λ hand. g.W.Words.shown c.args.source.now hand) c.level_in-own.ensures.same ∙ page.1 in
    (page.0, c.args.key, c.step_in.ensures.leads page.0 is, c.level_in-own.ensures.level page.0 page.1)
