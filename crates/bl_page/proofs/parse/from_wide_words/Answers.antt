use Rattle.bl_page.proofs.FaultLemmas.{is_below}
use Rattle.bl_page.proofs.parse.from_wide_words.Goals as goal

pub returns-clause-only : goal.returns-clause-only
returns-clause-only c = λ page is. c.from_words_below.ensures.only page (is_below page) is
