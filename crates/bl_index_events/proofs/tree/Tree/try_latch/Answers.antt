use Rattle.std.proofs.Common.{sym, ◌∙◌}
use Rattle.std.proofs.lemmas.Bool.{false≢true}
use Rattle.bl_store.specs.Hands.{known}
use Rattle.bl_index_rule.proofs.Pages.{latches_page, misses_page}
use Rattle.bl_index_events.proofs.tree.Tree.try_latch.Goals as goal

pub try_latch-requires-clause-latches : goal.try_latch-requires-clause-latches
try_latch-requires-clause-latches c = latches_page _ _ (known c.args.hand.now.seat) c.requires.runs.on.runs _ c.requires.next c.requires.course.0

pub try_latch-requires-clause-misses : goal.try_latch-requires-clause-misses
try_latch-requires-clause-misses c = misses_page _ _ (known c.args.hand.now.seat) c.requires.runs.on.runs _ c.requires.next c.requires.course.1

pub returns-clause-done : goal.returns-clause-done
returns-clause-done c = λ e. let observed = c.try_latch.ensures.observed in observed.3.0 (observed.2.0 e)

pub returns-clause-missed : goal.returns-clause-missed
returns-clause-missed c = λ e. let observed = c.try_latch.ensures.observed in observed.3.1 (λ is. false≢true (sym e ∙ observed.2.1 is))
