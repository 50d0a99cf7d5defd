use Rattle.bl_page.proofs.Once.{only_page}
use Rattle.bl_page.proofs.parse.from_words_below.Goals as goal

pub returns-clause-only : goal.returns-clause-only
returns-clause-only c = only_page c.args.most c.args.words.now c.page_in.result c.page_in.ensures.ok c.page_in.ensures.fault
