use Rattle.std.proofs.Common.{rules, ℕ, ◌∙◌, List, sym, subst}
use Rattle.bl_model.specs.declared.operation.Op.TheVariants as op
use Rattle.bl_model.specs.declared.operation.Reply.{Reply}
use Rattle.bl_proc_invariant.specs.Knowing.{found_reply}
use Rattle.bl_store.specs.Hands.{known}
use Rattle.bl_store.specs.declared.store.Hand.{Hand}
use Rattle.bl_index_rule.specs.declared.known.PassState.{PassState}
use Rattle.bl_index_rule.specs.Observed.{ends}
use Rattle.bl_index_read.specs.declared.sought.Sought.{Sought}
use Rattle.bl_index_read.specs.declared.sought.Sought.TheVariants as sought
use Rattle.bl_index_read.specs.LeafWays.{IsAtLeaf, HasSetOff}
use Rattle.bl_index_read.specs.Searching.{Finds}
use Rattle.bl_index_read.proofs.Answered.{find_finds}
use Rattle.bl_index_read.proofs.Setting.{same_number}
use Rattle.bl_index_read.proofs.finding.find_before.Goals as goal

pub row_in-row-requires-clause-page : goal.row_in-row-requires-clause-page
row_in-row-requires-clause-page c = (let leaf = (c.in-Some.ensures.came _ _ c.requires.off.2).leaf in (leaf.page, leaf.leads.0, leaf.is))

pub set_off_behind-on-requires-clause-leaf : goal.set_off_behind-on-requires-clause-leaf
set_off_behind-on-requires-clause-leaf c =
    let leaf = (c.in-Some.ensures.came _ _ c.requires.off.2).leaf in
    subst (λ (h : Hand PassState). (kind : Sought) × (key : ℕ) × (words : List ℕ) × IsAtLeaf kind key words (known h.seat)) (sym c.row_in-row.ensures.same) (sought.Value, c.args.key, _, leaf)

pub returns-in-Some-clause-goes : goal.returns-in-Some-clause-goes
returns-in-Some-clause-goes c = λ old off.
    let has = c.in-Some.ensures.came old c.args.hand.now.number off in
    let on = c.set_off_behind-on.ensures.set_off in
    let ended = subst (λ (h : Hand PassState). ends (known h.seat) 0 on.0) c.row_in-row.ensures.same on.1 in
    let row = c.row_in-row.ensures.row has.leaf.page has.leaf.is in
    record {
      between = on.0;
      off = subst (λ (z : ℕ). HasSetOff c.args.tree.now c.set_off_behind-on.new.hand z sought.Value c.args.next c.set_off_behind-on.result on.0) (same_number c.args.hand.now c.row_in-row.new.hand (search rules)) on.2;
      first = ended.0.notes.first ∙ has.since.beginning;
      finds = subst (λ (z : Reply). Finds old.first c.args.tree.now.store.layout.pages c.args.hand.now.number c.args.turns (op.Find c.args.key) z old.trail on.0.trail) ((λ i. found_reply (sym row i)) ∙ sym c.found.ensures)
          (find_finds _ _ c.args.key c.args.turns _ c.descend_to_leaf.new.hand.seat on.0 _ has ended);
    }

pub returns-in-None-clause-goes : goal.returns-in-None-clause-goes
returns-in-None-clause-goes c = λ old off.
    let gone = c.in-None.ensures.came old c.args.hand.now.number off in
    record { rests = record { idle = gone.idle; within = gone.within; over = gone.rests }; first = gone.first; seen = gone.seen; out = gone.out }

pub returns-in-None-clause-same : goal.returns-in-None-clause-same
returns-in-None-clause-same c = c.in-None.ensures.same
