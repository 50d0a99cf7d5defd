use Rattle.std.proofs.Common.{ap, ◌∙◌}
use Rattle.bl_proc_steps.proofs.approach_words.entered_in.Goals as goal

pub top_in-top-requires-clause-page : goal.top_in-top-requires-clause-page
top_in-top-requires-clause-page g c = (c.requires.page.0, ap (λ hand. g.W.Words.shown c.args.source.now hand) c.levels_in-levels.ensures.same ∙ c.requires.page.1)
