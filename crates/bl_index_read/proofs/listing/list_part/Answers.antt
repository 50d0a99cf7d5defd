use Rattle.std.proofs.Common.{rules, ℕ, List, sym, subst, ◌∙◌}
use Rattle.bl_store.specs.Hands.{known}
use Rattle.bl_store.specs.declared.store.Hand.{Hand}
use Rattle.bl_index_rule.specs.declared.known.PassState.{PassState}
use Rattle.bl_index_rule.specs.Observed.{ends}
use Rattle.bl_index_read.specs.declared.sought.Sought.{Sought}
use Rattle.bl_index_read.specs.declared.sought.Sought.TheVariants as sought
use Rattle.bl_index_read.specs.LeafWays.{IsAtLeaf}
use Rattle.bl_index_read.proofs.Leaves.{leaf_pairs, part_answers}
use Rattle.bl_index_read.proofs.listing.list_part.Goals as goal

pub part_in-part-requires-clause-pairs : goal.part_in-part-requires-clause-pairs
part_in-part-requires-clause-pairs c = leaf_pairs _ _ _ (c.in-Some.ensures.came _ _ c.set_off-way.ensures.set_off).leaf

pub end_at_leaf-requires-clause-leaf : goal.end_at_leaf-requires-clause-leaf
end_at_leaf-requires-clause-leaf c =
    let leaf = (c.in-Some.ensures.came _ _ c.set_off-way.ensures.set_off).leaf in
    subst (λ (h : Hand PassState). (kind : Sought) × (from : ℕ) × (words : List ℕ) × IsAtLeaf kind from words (known h.seat)) (sym (c.near_in.ensures.same ∙ c.part_in-part.ensures.same)) (sought.Rows c.args.direction, c.args.from, _, leaf)

pub returns-clause-answers : goal.returns-clause-answers
returns-clause-answers c =
    let has = (c.in-Some.ensures.came _ _ c.set_off-way.ensures.set_off) in
    let ended = subst (λ (h : Hand PassState). ends (known h.seat) 0 (known c.end_at_leaf.new.hand.seat)) (c.near_in.ensures.same ∙ c.part_in-part.ensures.same) c.end_at_leaf.ensures.ended in
    record {
      answered = part_answers _ _ c.args.direction c.args.from c.args.turns _ c.descend_to_leaf.new.hand.seat c.end_at_leaf.new.hand.seat _ has ended c.part_in-part.result (c.part_in-part.ensures.part has.leaf.page has.leaf.leads.0 has.leaf.is);
      refused = tt;
    }

pub descend_to_leaf-requires : goal.descend_to_leaf-requires
descend_to_leaf-requires c = record { off = (_, _, c.set_off-way.ensures.set_off) }

pub returns-clause-rests : goal.returns-clause-rests
returns-clause-rests c = record {
  idle = c.end_at_leaf.ensures.idle;
  within = c.end_at_leaf.ensures.within;
  over = search rules;
}

pub returns-in_default-clause-same : goal.returns-in_default-clause-same
returns-in_default-clause-same c = search rules

pub returns-in_default-clause-rests : goal.returns-in_default-clause-rests
returns-in_default-clause-rests c = let gone = c.in_default.ensures.came _ _ c.set_off-way.ensures.set_off in record { idle = gone.idle; within = gone.within; over = gone.rests }

pub returns-in_default-clause-first : goal.returns-in_default-clause-first
returns-in_default-clause-first c = (c.in_default.ensures.came _ _ c.set_off-way.ensures.set_off).first

pub returns-in_default-clause-seen : goal.returns-in_default-clause-seen
returns-in_default-clause-seen c = (c.in_default.ensures.came _ _ c.set_off-way.ensures.set_off).seen

pub returns-in_default-clause-answers : goal.returns-in_default-clause-answers
returns-in_default-clause-answers c = record { answered = tt; refused = (c.in_default.ensures.came _ _ c.set_off-way.ensures.set_off).out }

pub returns-clause-first : goal.returns-clause-first
returns-clause-first c =
    let has = c.in-Some.ensures.came _ _ c.set_off-way.ensures.set_off in
    let ended = subst (λ (h : Hand PassState). ends (known h.seat) 0 (known c.end_at_leaf.new.hand.seat)) (c.near_in.ensures.same ∙ c.part_in-part.ensures.same) c.end_at_leaf.ensures.ended in
    ended.0.notes.first ∙ has.since.beginning
