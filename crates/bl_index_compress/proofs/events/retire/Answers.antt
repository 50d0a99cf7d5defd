use Rattle.bl_store.specs.Hands.{known}
use Rattle.bl_index_rule.proofs.Pages.{retires_page}
use Rattle.bl_index_compress.proofs.events.retire.Goals as goal

pub retire-requires-clause-rule : goal.retire-requires-clause-rule
retire-requires-clause-rule c = retires_page _ _ (known c.args.hand.now.seat) c.requires.runs.on.runs _ c.requires.next c.requires.course
