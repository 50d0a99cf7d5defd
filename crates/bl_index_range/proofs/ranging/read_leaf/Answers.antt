use Rattle.std.proofs.Common.{rules, ℕ, ◌≡◌, List, ◌-◌, ◌++◌, take, drop, refl, sym, subst, ◌∙◌}
use Rattle.bl_page.specs.Faults.{HasPairs, pairs_of}
use Rattle.bl_store.specs.Hands.{known, read_words}
use Rattle.bl_store.specs.declared.store.Hand.{Hand}
use Rattle.bl_index_rule.specs.declared.known.PassState.{PassState}
use Rattle.bl_index_rule.specs.Observed.{ends}
use Rattle.bl_index_read.specs.declared.sought.Sought.{Sought}
use Rattle.bl_proc.specs.declared.parts.Direction.TheVariants.{Up}
use Rattle.bl_index_read.specs.declared.sought.Sought.TheVariants as sought
use Rattle.bl_index_read.specs.LeafWays.{IsAtLeaf}
use Rattle.bl_index_read.proofs.Leaves.{leaf_pairs}
use Rattle.bl_index_read.proofs.Picked.{between_rows}
use Rattle.bl_index_read.proofs.Ranges.{below_less}
use Rattle.bl_index_range.specs.Gathering.{ReadsLeaf}
use Rattle.bl_index_range.specs.declared.ranging.AtLeaf.{AtLeaf}
use Rattle.bl_index_range.proofs.LeafParts.{reads_leaf, leaves_leaf}
use Rattle.bl_index_range.proofs.ranging.read_leaf.Goals as goal

pub descend_to_page-requires : goal.descend_to_page-requires
descend_to_page-requires c = record { off = c.requires.off }

pub portion_in-portion-requires-clause-leaf : goal.portion_in-portion-requires-clause-leaf
portion_in-portion-requires-clause-leaf c = let leaf = (c.in-Some.ensures.came c.requires.off.0 c.requires.off.1 c.requires.off.2).0.leaf in (leaf.page, leaf.leads.0, leaf.is)

pub portion_in-portion-requires-clause-below : goal.portion_in-portion-requires-clause-below
portion_in-portion-requires-clause-below c = below_less c.args.to c.args.at c.requires.below

pub give_rows-requires-clause-pairs : goal.give_rows-requires-clause-pairs
give_rows-requires-clause-pairs c = subst (λ (h : Hand PassState). HasPairs (read_words h.seat)) (sym c.portion_in-portion.ensures.same) (leaf_pairs _ _ _ (c.in-Some.ensures.came c.requires.off.0 c.requires.off.1 c.requires.off.2).0.leaf)

pub end_at_leaf-requires-clause-leaf : goal.end_at_leaf-requires-clause-leaf
end_at_leaf-requires-clause-leaf c = subst (λ (h : Hand PassState). (kind : Sought) × (at : ℕ) × (words : List ℕ) × IsAtLeaf kind at words (known h.seat)) (sym (c.give_rows.ensures.same ∙ c.portion_in-portion.ensures.same))
    (sought.Rows Up, c.args.at, _, (c.in-Some.ensures.came c.requires.off.0 c.requires.off.1 c.requires.off.2).0.leaf)

pub returns-in_default-clause-reads : goal.returns-in_default-clause-reads
returns-in_default-clause-reads c = λ old off.
    let gone = c.in_default.ensures.came old c.args.hand.now.number off in
    (record { rests = record { idle = gone.idle; within = gone.within; over = gone.rests }; first = gone.first; seen = gone.seen; does = gone.out }, refl)

pub returns-in-Err-clause-reads : goal.returns-in-Err-clause-reads
returns-in-Err-clause-reads c = λ old off.
    let came = c.in-Some.ensures.came old c.args.hand.now.number off in
    let there = c.descend_to_page.new.hand in
    let ended = subst (λ (h : Hand PassState). ends (known h.seat) 0 (known c.end_at_leaf.new.hand.seat)) (c.give_rows.ensures.same ∙ c.portion_in-portion.ensures.same) c.end_at_leaf.ensures.ended in
    (leaves_leaf c.args.tree.now there c.end_at_leaf.new.hand c.args.hand.now.number c.args.at c.args.turns c.in-Some.glance old came.0 ended c.end_at_leaf.ensures.idle c.end_at_leaf.ensures.within, c.in-Err.ensures.kept)

pub returns-in-Ok-clause-reads : goal.returns-in-Ok-clause-reads
returns-in-Ok-clause-reads c = λ old off.
    let came = c.in-Some.ensures.came old c.args.hand.now.number off in
    let there = c.descend_to_page.new.hand in
    let portion = c.portion_in-portion in
    let before = c.args.rows.now.items in
    let after = c.give_rows.new.state.items in
    let leaf : AtLeaf = record { look = record { page = c.in-Some.page; glance = c.in-Some.glance; from = c.args.at; rows = c.len.result }; behind = portion.result.behind } in
    let all = subst (λ (h : Hand PassState). after ≡ before ++ take (portion.result.last - portion.result.first) (drop portion.result.first (pairs_of (read_words h.seat)))) portion.ensures.same c.in-Ok.ensures.takes in
    let taken = subst (λ (z : List (ℕ × ℕ)). after ≡ before ++ z) (between_rows _ c.args.at c.args.to _ _ portion.ensures.first portion.ensures.last) all in
    subst (λ (h : Hand PassState). ReadsLeaf c.args.tree.now c.args.hand.now h c.args.hand.now.number c.args.at c.args.to c.args.turns leaf before after old) (sym (c.give_rows.ensures.same ∙ portion.ensures.same))
    (reads_leaf c.args.tree.now c.args.hand.now there c.args.hand.now.number c.args.at c.args.to c.args.turns leaf before after old c.in-Some.ensures.reads.1 came.0 came.1 c.in-Some.ensures.still refl (search rules) taken portion.ensures.behind)
