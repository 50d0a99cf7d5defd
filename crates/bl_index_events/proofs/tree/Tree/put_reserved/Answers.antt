use Rattle.bl_store.specs.Hands.{known}
use Rattle.bl_index_rule.proofs.Pages.{puts_page}
use Rattle.bl_index_events.proofs.tree.Tree.put_reserved.Goals as goal

pub put-requires-clause-rule : goal.put-requires-clause-rule
put-requires-clause-rule c = puts_page _ _ (known c.args.hand.now.seat) c.requires.runs.on.runs _ _ c.requires.next.0 c.requires.next.1 c.requires.next.2 c.requires.course
