use Rattle.std.proofs.Common.{rules, ℕ, List, refl, sym, subst, ◌∙◌}
use Rattle.bl_page.specs.Faults.{HasPairs, pairs_of}
use Rattle.bl_store.specs.Hands.{known, read_words}
use Rattle.bl_store.specs.declared.store.Hand.{Hand}
use Rattle.bl_index_rule.specs.declared.known.PassState.{PassState}
use Rattle.bl_index_rule.specs.Observed.{ends}
use Rattle.bl_index_read.specs.declared.sought.Sought.{Sought}
use Rattle.bl_index_read.specs.declared.sought.Sought.TheVariants as sought
use Rattle.bl_index_read.specs.LeafRows.{portion_of}
use Rattle.bl_index_read.specs.LeafWays.{IsAtLeaf}
use Rattle.bl_index_read.specs.Parts.{StandsBehind}
use Rattle.bl_index_read.proofs.Leaves.{leaf_pairs}
use Rattle.bl_index_read.proofs.Setting.{same_number}
use Rattle.bl_index.proofs.GivenParts.{part_gives, part_leaves, portion_long, Gives}
use Rattle.bl_index.proofs.scanning.give_part.Goals as goal

pub descend_to_leaf-requires : goal.descend_to_leaf-requires
descend_to_leaf-requires g c = record { off = c.requires.off }

pub portion_toward-portion-requires-clause-leaf : goal.portion_toward-portion-requires-clause-leaf
portion_toward-portion-requires-clause-leaf g c = let leaf = (c.in-Some.ensures.came c.requires.off.0 c.requires.off.1 c.requires.off.2).leaf in (leaf.page, leaf.leads.0, leaf.is)

pub give_rows-requires-clause-pairs : goal.give_rows-requires-clause-pairs
give_rows-requires-clause-pairs g c = subst (λ (h : Hand PassState). HasPairs (read_words h.seat)) (sym c.portion_toward-portion.ensures.same) (leaf_pairs _ _ _ (c.in-Some.ensures.came c.requires.off.0 c.requires.off.1 c.requires.off.2).leaf)

pub returns-in-Ok-clause-gives : goal.returns-in-Ok-clause-gives
returns-in-Ok-clause-gives g c = λ old off.
    let has = c.in-Some.ensures.came old c.args.hand.now.number off in
    let portion = c.portion_toward-portion in
    let wanted = c.args.wanted in
    let behind = c.go_behind-on.ensures.stands in
    let held = g.K.Sink.held c.args.state.now in
    let after = g.K.Sink.held c.give_rows.new.state in
    let ended = subst (λ (h : Hand PassState). ends (known h.seat) 0 behind.0) (c.give_rows.ensures.same ∙ portion.ensures.same) behind.1 in
    let all = subst (λ (h : Hand PassState). Gives g.K.Sink.Takes held wanted.direction portion.result.first portion.result.last (read_words h.seat) after) portion.ensures.same c.in-Ok.ensures.takes in
    let taken = subst (λ (z : List (ℕ × ℕ)). g.K.Sink.Takes held z after) portion.ensures.rows all in
    record {
      new = behind.0;
      stands = subst (λ (z : ℕ). StandsBehind c.args.tree.now c.go_behind-on.new.hand z wanted.direction portion.result.behind c.go_behind-on.result behind.0) (same_number c.args.hand.now c.give_rows.new.hand (search rules)) behind.2;
      first = ended.0.notes.first ∙ has.since.beginning;
      seen = ended.0.notes.seen;
      does = part_gives _ _ wanted.direction c.args.from wanted.turns old c.descend_to_leaf.new.hand.seat behind.0 _ has ended wanted.to g.K.Sink.Takes held after portion.result.behind portion.ensures.behind taken;
    }

pub returns-in-Err-clause-gives : goal.returns-in-Err-clause-gives
returns-in-Err-clause-gives g c = λ old off.
    let has = c.in-Some.ensures.came old c.args.hand.now.number off in
    let portion = c.portion_toward-portion in
    let wanted = c.args.wanted in
    let ended = subst (λ (h : Hand PassState). ends (known h.seat) 0 (known c.end_at_leaf.new.hand.seat)) (c.give_rows.ensures.same ∙ portion.ensures.same) c.end_at_leaf.ensures.ended in
    let many = portion_long wanted.direction (pairs_of (read_words c.descend_to_leaf.new.hand.seat)) (portion_of wanted.direction c.args.from wanted.to (pairs_of (read_words c.descend_to_leaf.new.hand.seat))) portion.result.first portion.result.last portion.ensures.order portion.ensures.within portion.ensures.rows in
    record {
      rests = record { idle = c.end_at_leaf.ensures.idle; within = c.end_at_leaf.ensures.within; over = ended.0.runs };
      first = ended.0.notes.first ∙ has.since.beginning;
      seen = ended.0.notes.seen;
      does = part_leaves _ _ wanted.direction c.args.from wanted.turns old c.descend_to_leaf.new.hand.seat (known c.end_at_leaf.new.hand.seat) _ has ended wanted.to (g.K.Sink.Lacks c.give_rows.new.state) _ _ c.in-Err.ensures.kept (subst (g.K.Sink.Lacks c.give_rows.new.state) (sym many) c.in-Err.ensures.lacks);
    }

pub returns-in_default-clause-gives : goal.returns-in_default-clause-gives
returns-in_default-clause-gives g c = λ old off.
    let gone = c.in_default.ensures.came old c.args.hand.now.number off in
    record {
      rests = record { idle = gone.idle; within = gone.within; over = gone.rests };
      first = gone.first;
      seen = gone.seen;
      does = record { key = refl; kept = refl; stops = gone.out };
    }

pub returns-in_default-clause-same : goal.returns-in_default-clause-same
returns-in_default-clause-same g c = c.descend_to_leaf.ensures.same

pub go_behind-on-requires-clause-leaf : goal.go_behind-on-requires-clause-leaf
go_behind-on-requires-clause-leaf g c = subst (λ (h : Hand PassState). (kind : Sought) × (at : ℕ) × (words : List ℕ) × IsAtLeaf kind at words (known h.seat)) (sym (c.give_rows.ensures.same ∙ c.portion_toward-portion.ensures.same))
    (sought.Rows c.args.wanted.direction, c.args.from, _, (c.in-Some.ensures.came c.requires.off.0 c.requires.off.1 c.requires.off.2).leaf)

pub end_at_leaf-requires-clause-leaf : goal.end_at_leaf-requires-clause-leaf
end_at_leaf-requires-clause-leaf g c = subst (λ (h : Hand PassState). (kind : Sought) × (at : ℕ) × (words : List ℕ) × IsAtLeaf kind at words (known h.seat)) (sym (c.give_rows.ensures.same ∙ c.portion_toward-portion.ensures.same))
    (sought.Rows c.args.wanted.direction, c.args.from, _, (c.in-Some.ensures.came c.requires.off.0 c.requires.off.1 c.requires.off.2).leaf)
