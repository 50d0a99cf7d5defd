use Rattle.std.proofs.Common.{◌≡◌, rules, ℕ, ◌-◌, ◌<◌, ◌≤◌, ◌++◌, Option, List, length, take, drop, ap, refl, sym, subst, ◌∙◌}
use Rattle.std.specs.Prelude.{min, vec_len}
use Rattle.std.specs.Vec.{vec_capacity}
use Rattle.std.proofs.lemmas.List.{length-take}
use Rattle.bl_page.specs.Faults.{HasPairs, pairs_of}
use Rattle.bl_store.specs.Hands.{known, read_words}
use Rattle.bl_store.specs.declared.store.Hand.{Hand}
use Rattle.bl_index_rule.specs.declared.known.PassState.{PassState}
use Rattle.bl_index_rule.specs.Observed.{ends}
use Rattle.bl_index_read.specs.declared.sought.Sought.{Sought}
use Rattle.bl_index_read.specs.declared.sought.Sought.TheVariants as sought
use Rattle.bl_index_read.specs.LeafRows.{portion_of, toward, first_key}
use Rattle.bl_index_read.specs.LeafWays.{IsAtLeaf}
use Rattle.bl_index_read.specs.Parts.{StandsBehind}
use Rattle.bl_index_read.proofs.Leaves.{leaf_pairs}
use Rattle.bl_index_read.proofs.Setting.{same_number}
use Rattle.bl_index_read.specs.declared.leaf_rows.Behind.{Behind}
use Rattle.bl_index.specs.Within.{GivesSome}
use Rattle.bl_index.proofs.GivenParts.{part_gives, part_leaves, portion_long}
use Rattle.bl_index.proofs.SomeByPart.{Takes, gives_some}
use Rattle.bl_index.proofs.limiting.give_some_of.Goals as goal

pub descend_to_leaf-requires : goal.descend_to_leaf-requires
descend_to_leaf-requires c = record { off = c.requires.off }

pub portion_toward-portion-requires-clause-leaf : goal.portion_toward-portion-requires-clause-leaf
portion_toward-portion-requires-clause-leaf c = let leaf = (c.in-Some.ensures.came c.requires.off.0 c.requires.off.1 c.requires.off.2).leaf in (leaf.page, leaf.leads.0, leaf.is)

pub first_rows-cut-requires-clause-pairs : goal.first_rows-cut-requires-clause-pairs
first_rows-cut-requires-clause-pairs c = subst (λ (h : Hand PassState). HasPairs (read_words h.seat)) (sym c.portion_toward-portion.ensures.same) (leaf_pairs _ _ _ (c.in-Some.ensures.came c.requires.off.0 c.requires.off.1 c.requires.off.2).leaf)

pub give_rows-requires-clause-pairs : goal.give_rows-requires-clause-pairs
give_rows-requires-clause-pairs c = subst (λ (h : Hand PassState). HasPairs (read_words h.seat)) (sym (c.first_rows-cut.ensures.same ∙ c.portion_toward-portion.ensures.same)) (leaf_pairs _ _ _ (c.in-Some.ensures.came c.requires.off.0 c.requires.off.1 c.requires.off.2).leaf)

pub go_behind-on-requires-clause-leaf : goal.go_behind-on-requires-clause-leaf
go_behind-on-requires-clause-leaf c = subst (λ (h : Hand PassState). (kind : Sought) × (at : ℕ) × (words : List ℕ) × IsAtLeaf kind at words (known h.seat)) (sym (c.give_rows.ensures.same ∙ (c.first_rows-cut.ensures.same ∙ c.portion_toward-portion.ensures.same)))
    (sought.Rows c.args.wanted.direction, c.args.from, _, (c.in-Some.ensures.came c.requires.off.0 c.requires.off.1 c.requires.off.2).leaf)

pub end_at_leaf-requires-clause-leaf : goal.end_at_leaf-requires-clause-leaf
end_at_leaf-requires-clause-leaf c = subst (λ (h : Hand PassState). (kind : Sought) × (at : ℕ) × (words : List ℕ) × IsAtLeaf kind at words (known h.seat)) (sym (c.give_rows.ensures.same ∙ (c.first_rows-cut.ensures.same ∙ c.portion_toward-portion.ensures.same)))
    (sought.Rows c.args.wanted.direction, c.args.from, _, (c.in-Some.ensures.came c.requires.off.0 c.requires.off.1 c.requires.off.2).leaf)

pub returns-in-Ok-clause-gives : goal.returns-in-Ok-clause-gives
returns-in-Ok-clause-gives c = λ old off.
    let has = c.in-Some.ensures.came old c.args.hand.now.number off in
    let portion = c.portion_toward-portion in
    let cut = c.first_rows-cut in
    let stand = c.stand_behind-behind in
    let wanted = c.args.wanted in
    let words = read_words c.descend_to_leaf.new.hand.seat in
    let given = portion_of wanted.direction c.args.from wanted.to (pairs_of words) in
    let same : c.give_rows.new.hand ≡ c.descend_to_leaf.new.hand = c.give_rows.ensures.same ∙ (cut.ensures.same ∙ portion.ensures.same) in
    let behind = c.go_behind-on.ensures.stands in
    let ended = subst (λ (h : Hand PassState). ends (known h.seat) 0 behind.0) same behind.1 in
    let rows : toward wanted.direction (take (portion.result.last - portion.result.first) (drop portion.result.first (pairs_of words))) ≡ given = portion.ensures.rows in
    let cut_rows = subst (λ (h : Hand PassState). toward wanted.direction (take (cut.result.last - cut.result.first) (drop cut.result.first (pairs_of (read_words h.seat)))) ≡ take c.args.most (toward wanted.direction (take (portion.result.last - portion.result.first) (drop portion.result.first (pairs_of (read_words h.seat)))))) portion.ensures.same cut.ensures.rows in
    let cut_left = subst (λ (h : Hand PassState). cut.result.left ≡ first_key (drop c.args.most (toward wanted.direction (take (portion.result.last - portion.result.first) (drop portion.result.first (pairs_of (read_words h.seat))))))) portion.ensures.same cut.ensures.left in
    let all = subst (λ (h : Hand PassState). c.give_rows.new.state.items ≡ c.args.rows.now.items ++ toward wanted.direction (take (cut.result.last - cut.result.first) (drop cut.result.first (pairs_of (read_words h.seat))))) (cut.ensures.same ∙ portion.ensures.same) c.in-Ok.ensures.takes in
    let appended : c.give_rows.new.state.items ≡ c.args.rows.now.items ++ take c.args.most given = all ∙ ap (λ (z : List (ℕ × ℕ)). c.args.rows.now.items ++ z) (cut_rows ∙ ap (take c.args.most) rows) in
    let many = portion_long wanted.direction (pairs_of words) given portion.result.first portion.result.last portion.ensures.order portion.ensures.within rows in
    let taken : Takes c.args.most (portion.result.last - portion.result.first) cut.result.left c.args.rows.now.items given c.give_rows.new.state.items = (appended, sym many, cut_left ∙ ap (λ (z : List (ℕ × ℕ)). first_key (drop c.args.most z)) rows) in
    let gives = gives_some _ _ _ _ _ _ _ _ _ _ portion.result.behind _ _ _ _ _ refl (part_gives _ _ wanted.direction c.args.from wanted.turns old c.descend_to_leaf.new.hand.seat behind.0 _ has ended wanted.to (Takes c.args.most (portion.result.last - portion.result.first) cut.result.left) c.args.rows.now.items c.give_rows.new.state.items portion.result.behind portion.ensures.behind taken) in
    record {
      new = behind.0;
      stands = subst (λ (z : ℕ). StandsBehind c.args.tree.now c.go_behind-on.new.hand z wanted.direction stand.result.0 c.go_behind-on.result behind.0) (same_number c.args.hand.now c.give_rows.new.hand (search rules)) behind.2;
      first = ended.0.notes.first ∙ has.since.beginning;
      seen = ended.0.notes.seen;
      does = subst (λ (z : Behind × Option ℕ). GivesSome old.first c.args.tree.now.store.layout.pages c.args.hand.now.number wanted.turns wanted.direction c.args.from wanted.to c.args.most z.0 z.1 c.args.rows.now.items c.give_rows.new.state.items old.trail behind.0.trail) (sym stand.ensures) gives;
    }

pub returns-in-Err-clause-gives : goal.returns-in-Err-clause-gives
returns-in-Err-clause-gives c = λ old off.
    let has = c.in-Some.ensures.came old c.args.hand.now.number off in
    let portion = c.portion_toward-portion in
    let cut = c.first_rows-cut in
    let wanted = c.args.wanted in
    let words = read_words c.descend_to_leaf.new.hand.seat in
    let given = portion_of wanted.direction c.args.from wanted.to (pairs_of words) in
    let room : ℕ = vec_capacity c.give_rows.new.state - vec_len c.give_rows.new.state in
    let same : c.give_rows.new.hand ≡ c.descend_to_leaf.new.hand = c.give_rows.ensures.same ∙ (cut.ensures.same ∙ portion.ensures.same) in
    let ended = subst (λ (h : Hand PassState). ends (known h.seat) 0 (known c.end_at_leaf.new.hand.seat)) same c.end_at_leaf.ensures.ended in
    let rows : toward wanted.direction (take (portion.result.last - portion.result.first) (drop portion.result.first (pairs_of words))) ≡ given = portion.ensures.rows in
    let cut_rows = subst (λ (h : Hand PassState). toward wanted.direction (take (cut.result.last - cut.result.first) (drop cut.result.first (pairs_of (read_words h.seat)))) ≡ take c.args.most (toward wanted.direction (take (portion.result.last - portion.result.first) (drop portion.result.first (pairs_of (read_words h.seat)))))) portion.ensures.same cut.ensures.rows in
    let within = subst (λ (h : Hand PassState). cut.result.last ≤ length (pairs_of (read_words h.seat))) portion.ensures.same cut.ensures.within in
    let many : length (take c.args.most given) ≡ cut.result.last - cut.result.first = portion_long wanted.direction (pairs_of words) (take c.args.most given) cut.result.first cut.result.last cut.ensures.order within (cut_rows ∙ ap (take c.args.most) rows) in
    let lacks : room < min c.args.most (length given) = subst (λ (n : ℕ). room < n) (sym many ∙ length-take c.args.most given) c.in-Err.ensures.lacks in
    record {
      rests = record { idle = c.end_at_leaf.ensures.idle; within = c.end_at_leaf.ensures.within; over = ended.0.runs };
      first = ended.0.notes.first ∙ has.since.beginning;
      seen = ended.0.notes.seen;
      does = part_leaves _ _ wanted.direction c.args.from wanted.turns old c.descend_to_leaf.new.hand.seat (known c.end_at_leaf.new.hand.seat) _ has ended wanted.to (λ many. room < min c.args.most many) _ _ c.in-Err.ensures.kept lacks;
    }

pub returns-in_default-clause-gives : goal.returns-in_default-clause-gives
returns-in_default-clause-gives c = λ old off.
    let gone = c.in_default.ensures.came old c.args.hand.now.number off in
    record {
      rests = record { idle = gone.idle; within = gone.within; over = gone.rests };
      first = gone.first;
      seen = gone.seen;
      does = record { key = refl; kept = refl; stops = gone.out };
    }

pub returns-in_default-clause-same : goal.returns-in_default-clause-same
returns-in_default-clause-same c = c.descend_to_leaf.ensures.same
