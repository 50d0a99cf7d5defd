use Rattle.bl_index.proofs.Hands.{firsts_push}
use Rattle.bl_index.proofs.opening.first_pages.Goals as goal

pub loop-page-preserved : goal.loop-page-preserved
loop-page-preserved c = firsts_push _ _ _ _ c.loop-page.invariant c.first_words.ensures c.in_ok-push.ensures.items
