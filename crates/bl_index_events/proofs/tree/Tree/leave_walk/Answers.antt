use Rattle.bl_store.specs.Hands.{known}
use Rattle.bl_index_rule.proofs.OffWalk.{leaves_walk_page}
use Rattle.bl_index_events.proofs.tree.Tree.leave_walk.Goals as goal

pub open-requires-clause-own : goal.open-requires-clause-own
open-requires-clause-own c = c.requires.runs.own

pub open-requires-clause-page : goal.open-requires-clause-page
open-requires-clause-page c = c.requires.page

pub open-requires-clause-rule : goal.open-requires-clause-rule
open-requires-clause-rule c = leaves_walk_page _ _ (known c.args.hand.now.seat) c.requires.runs.on.runs _ c.requires.walks

pub returns-clause-off : goal.returns-clause-off
returns-clause-off c = c.open.ensures.observed.1
