use Rattle.std.proofs.Common.{◌∙◌, arith}
use Rattle.bl_map_tries.specs.Tries.{NoneFound}
use Rattle.bl_map_tries.proofs.Pieces.{looks_add, looks_for}
use Rattle.bl_map_tries.proofs.trying.try_room.Goals as goal

pub returns-then-not-release_both-clause-looks : goal.returns-then-not-release_both-clause-looks
returns-then-not-release_both-clause-looks c =
    let same = c.sweep_if_due.ensures.same.2 in let same' = c.try_pieces.ensures.same.2 ∙ same in
    looks_for _ _ _ _ _ _ _ _ _ _ _ _ _ same same' (c.release_both.ensures.same.2 ∙ same') c.sweep_if_due.ensures.swept c.try_pieces.ensures.tries c.release_both.ensures.swept NoneFound

pub returns-then-not-release_both-clause-adds : goal.returns-then-not-release_both-clause-adds
returns-then-not-release_both-clause-adds c =
    let same = c.sweep_if_due.ensures.same.2 in let same' = c.try_pieces.ensures.same.2 ∙ same in
    looks_add _ _ _ _ _ _ (looks_for _ _ _ _ _ _ _ _ _ _ _ _ _ same same' (c.release_both.ensures.same.2 ∙ same') c.sweep_if_due.ensures.swept c.try_pieces.ensures.tries c.release_both.ensures.swept NoneFound)

pub returns-then-not-release_both-clause-refused : goal.returns-then-not-release_both-clause-refused
returns-then-not-release_both-clause-refused c = λ not. let now = c.is_out_of_patience.ensures not in (omega (arith, now.0), now.1)

pub returns-then-splits-clause-looks : goal.returns-then-splits-clause-looks
returns-then-splits-clause-looks c =
    let same = c.sweep_if_due.ensures.same.2 in let same' = c.try_pieces.ensures.same.2 ∙ same in
    looks_for _ _ _ _ _ _ _ _ _ _ _ _ _ same same' (c.release_both.ensures.same.2 ∙ same') c.sweep_if_due.ensures.swept c.try_pieces.ensures.tries c.release_both.ensures.swept c.finds_pages.ensures.mends

pub returns-then-splits-clause-adds : goal.returns-then-splits-clause-adds
returns-then-splits-clause-adds c =
    let same = c.sweep_if_due.ensures.same.2 in let same' = c.try_pieces.ensures.same.2 ∙ same in
    looks_add _ _ _ _ _ _ (looks_for _ _ _ _ _ _ _ _ _ _ _ _ _ same same' (c.release_both.ensures.same.2 ∙ same') c.sweep_if_due.ensures.swept c.try_pieces.ensures.tries c.release_both.ensures.swept c.finds_pages.ensures.mends)

pub returns-clause-looks : goal.returns-clause-looks
returns-clause-looks c =
    let same = c.sweep_if_due.ensures.same.2 in let same' = c.try_pieces.ensures.same.2 ∙ same in
    looks_for _ _ _ _ _ _ _ _ _ _ _ _ _ same same' (c.release_both.ensures.same.2 ∙ same') c.sweep_if_due.ensures.swept c.try_pieces.ensures.tries c.release_both.ensures.swept NoneFound

pub returns-clause-adds : goal.returns-clause-adds
returns-clause-adds c =
    let same = c.sweep_if_due.ensures.same.2 in let same' = c.try_pieces.ensures.same.2 ∙ same in
    looks_add _ _ _ _ _ _ (looks_for _ _ _ _ _ _ _ _ _ _ _ _ _ same same' (c.release_both.ensures.same.2 ∙ same') c.sweep_if_due.ensures.swept c.try_pieces.ensures.tries c.release_both.ensures.swept NoneFound)
