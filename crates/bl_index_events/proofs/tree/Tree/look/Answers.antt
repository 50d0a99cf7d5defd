use Rattle.std.proofs.Common.{sym, ◌∙◌}
use Rattle.bl_store.specs.Hands.{known}
use Rattle.bl_index_rule.proofs.Pages.{gets_page}
use Rattle.bl_index_events.proofs.tree.Tree.look.Goals as goal

pub glance-requires-clause-rule : goal.glance-requires-clause-rule
glance-requires-clause-rule c = gets_page _ _ (known c.args.hand.now.seat) c.requires.runs.on.runs _ c.requires.next c.requires.course

pub returns-clause-goes : goal.returns-clause-goes
returns-clause-goes c = let observed = c.in-Some.ensures.observed in let page = observed.3 in (page.0, sym observed.2.1 ∙ page.1, page.2)
