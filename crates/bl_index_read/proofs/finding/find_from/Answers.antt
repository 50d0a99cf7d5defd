use Rattle.std.proofs.Common.{rules, ℕ, ◌∙◌, List, sym, subst}
use Rattle.bl_model.specs.declared.operation.Op.TheVariants as op
use Rattle.bl_model.specs.declared.operation.Reply.{Reply}
use Rattle.bl_proc_invariant.specs.Knowing.{found_reply}
use Rattle.bl_store.specs.Hands.{known}
use Rattle.bl_store.specs.declared.store.Hand.{Hand}
use Rattle.bl_index_rule.specs.declared.known.PassState.{PassState}
use Rattle.bl_index_rule.specs.Observed.{ends}
use Rattle.bl_index_read.specs.declared.sought.Sought.{Sought}
use Rattle.bl_index_read.specs.declared.sought.Sought.TheVariants as sought
use Rattle.bl_index_read.specs.LeafWays.{IsAtLeaf}
use Rattle.bl_index_read.specs.Searching.{Finds}
use Rattle.bl_index_read.proofs.Answered.{find_finds}
use Rattle.bl_index_read.proofs.finding.find_from.Goals as goal

pub row_in-value-requires-clause-page : goal.row_in-value-requires-clause-page
row_in-value-requires-clause-page c = (let leaf = (c.in-Some.ensures.came _ _ c.requires.off.2).leaf in (leaf.page, leaf.leads.0, leaf.is))

pub end_at_leaf-requires-clause-leaf : goal.end_at_leaf-requires-clause-leaf
end_at_leaf-requires-clause-leaf c =
    let leaf = (c.in-Some.ensures.came _ _ c.requires.off.2).leaf in
    subst (λ (h : Hand PassState). (kind : Sought) × (key : ℕ) × (words : List ℕ) × IsAtLeaf kind key words (known h.seat)) (sym c.row_in-value.ensures.same) (sought.Value, c.args.key, _, leaf)

pub returns-clause-rests : goal.returns-clause-rests
returns-clause-rests c = record { idle = c.end_at_leaf.ensures.idle; within = c.end_at_leaf.ensures.within; over = search rules }

pub returns-clause-answers : goal.returns-clause-answers
returns-clause-answers c = λ old pass off.
    let has = c.in-Some.ensures.came old pass off in
    let ended = subst (λ (h : Hand PassState). ends (known h.seat) 0 (known c.end_at_leaf.new.hand.seat)) c.row_in-value.ensures.same c.end_at_leaf.ensures.ended in
    let row = c.row_in-value.ensures.row has.leaf.page has.leaf.is in (
      ended.0.notes.first ∙ has.since.beginning,
      record {
        answered = subst (λ (z : Reply). Finds old.first c.args.tree.now.store.layout.pages pass c.args.turns (op.Find c.args.key) z old.trail (known c.end_at_leaf.new.hand.seat).trail) ((λ i. found_reply (sym row i)) ∙ sym c.found.ensures)
            (find_finds _ _ c.args.key c.args.turns _ c.descend_to_leaf.new.hand.seat (known c.end_at_leaf.new.hand.seat) _ has ended);
        refused = tt;
      },
    )

pub returns-in_default-clause-same : goal.returns-in_default-clause-same
returns-in_default-clause-same c = search rules

pub returns-in_default-clause-rests : goal.returns-in_default-clause-rests
returns-in_default-clause-rests c = (let gone = c.in_default.ensures.came _ _ c.requires.off.2 in record { idle = gone.idle; within = gone.within; over = gone.rests })

pub returns-in_default-clause-seen : goal.returns-in_default-clause-seen
returns-in_default-clause-seen c = (c.in_default.ensures.came _ _ c.requires.off.2).seen

pub returns-in_default-clause-answers : goal.returns-in_default-clause-answers
returns-in_default-clause-answers c = λ old pass off. (let gone = c.in_default.ensures.came old pass off in (gone.first, record { answered = tt; refused = gone.out }))
