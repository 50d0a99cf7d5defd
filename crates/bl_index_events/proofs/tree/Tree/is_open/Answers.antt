use Rattle.bl_store.specs.Hands.{known}
use Rattle.bl_index_rule.proofs.Pages.{probes_page}
use Rattle.bl_index_events.proofs.Looks.{probed_as}
use Rattle.bl_index_events.proofs.tree.Tree.is_open.Goals as goal

pub probe-requires-clause-rule : goal.probe-requires-clause-rule
probe-requires-clause-rule c = probes_page _ _ (known c.args.hand.now.seat) c.requires.runs.on.runs _ c.requires.next c.requires.course

pub returns-clause-goes : goal.returns-clause-goes
returns-clause-goes c = let observed = c.probe.ensures.observed in probed_as c.probe.result _ _ c.args.page observed.0 observed.1 observed.2 observed.3
