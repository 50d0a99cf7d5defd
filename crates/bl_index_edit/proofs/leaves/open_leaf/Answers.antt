use Rattle.std.proofs.Common.{rules}
use Rattle.bl_proc_steps.specs.declared.acts.Seen.TheVariants as seen
use Rattle.bl_store.specs.Hands.{known}
use Rattle.bl_index_events.proofs.Held.{goes_keeps, open_latches_not}
use Rattle.bl_index_events.proofs.Standing.{on_goes, same_goes}
use Rattle.bl_index_edit.proofs.leaves.open_leaf.Goals as goal

pub returns-clause-runs : goal.returns-clause-runs
returns-clause-runs g c = record {
  own = search rules;
  running = search rules;
  on = on_goes c.args.tree.now.store.layout seen.Done (known c.args.hand.now.seat) (known c.reopen.new.hand.seat) _ _ c.requires.runs.on c.reopen.ensures.goes c.requires.opens.opened;
}

pub returns-clause-since : goal.returns-clause-since
returns-clause-since g c = same_goes seen.Done (known c.args.hand.now.seat) (known c.reopen.new.hand.seat) c.reopen.ensures.goes

pub returns-clause-keeps : goal.returns-clause-keeps
returns-clause-keeps g c =
    let d = known c.args.hand.now.seat in
    goes_keeps seen.Done d (known c.reopen.new.hand.seat) c.reopen.ensures.goes (open_latches_not d c.args.at c.requires.opens.act)
