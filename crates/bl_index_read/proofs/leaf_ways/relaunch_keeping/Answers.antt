use Rattle.std.proofs.Common.{ℕ, subst}
use Rattle.bl_store.specs.Hands.{known}
use Rattle.bl_store_rule.specs.Pages.{Relays}
use Rattle.bl_index_rule.specs.Simulation.{Simulates}
use Rattle.bl_index_rule.specs.Observed.{relays}
use Rattle.bl_index_rule.proofs.Bounds.{relays_process}
use Rattle.bl_index_read.proofs.Ways.{is_to_end, ending_course}
use Rattle.bl_index_read.proofs.Keeping.{on_further, notes_on, still_same}
use Rattle.bl_index_read.proofs.leaf_ways.relaunch_keeping.Goals as goal

pub relay-requires-clause-rule : goal.relay-requires-clause-rule
relay-requires-clause-rule g c =
    let at = c.requires.leaf in
    subst (λ (z : ℕ × ℕ × ℕ). Relays Simulates c.args.tree.now.store.layout c.args.hand.now.number (known c.args.hand.now.seat) (relays z.0 z.1 z.2 g.J.Launch.process)) (λ i. (c.requires.names.0 i, c.requires.names.1 i, c.requires.names.2 i))
    (relays_process c.args.tree.now.store.layout c.args.hand.now.number (known c.args.hand.now.seat) g.J.Launch.process (is_to_end at.0 at.1 at.3.page _ at.3.ends) (ending_course at.0 at.1 at.3.page _ at.3.ends) c.requires.next c.requires.unborn c.requires.course)

pub returns-clause-still : goal.returns-clause-still
returns-clause-still g c =
    let observed = c.relay.ensures.observed.1 in
    still_same c.args.hand.now.seat c.relay.new.hand.seat c.relay.ensures.same.0.1
    (on_further _ observed.0.trail _ (notes_on _ _ _ _ _ observed.1.0.notes) (notes_on _ _ _ _ _ observed.2.notes)) c.relay.ensures.kept

pub returns-clause-observed : goal.returns-clause-observed
returns-clause-observed g c = c.relay.ensures.observed.1
