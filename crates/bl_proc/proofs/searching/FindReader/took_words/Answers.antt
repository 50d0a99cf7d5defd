use Rattle.std.proofs.Common.{ap, ◌∙◌}
use Rattle.bl_proc_steps.proofs.Descents.{here_leads}
use Rattle.bl_proc.proofs.searching.FindReader.took_words.Goals as goal

pub row_in-requires-clause-page : goal.row_in-requires-clause-page
row_in-requires-clause-page g c = (c.requires.page.0, (here_leads _ _ _ (c.in-Here.ensures.goes c.requires.page.0 c.requires.page.1)).0, ap (λ hand. g.W.Words.shown c.args.source.now hand) c.in-Here.ensures.same ∙ c.requires.page.1)
