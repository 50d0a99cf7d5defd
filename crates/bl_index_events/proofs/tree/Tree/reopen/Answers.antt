use Rattle.bl_store.specs.Hands.{known}
use Rattle.bl_index_rule.proofs.Pages.{opens_page}
use Rattle.bl_index_events.proofs.tree.Tree.reopen.Goals as goal

pub open-requires-clause-rule : goal.open-requires-clause-rule
open-requires-clause-rule c = opens_page _ _ (known c.args.hand.now.seat) c.requires.runs.on.runs _ c.requires.next c.requires.course
