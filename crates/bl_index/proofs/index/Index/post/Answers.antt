use Rattle.std.proofs.Common.{ℕ, Some, subst, ◌∙◌}
use Rattle.bl_answers.specs.Hints.{level_of, key_of}
use Rattle.bl_store.specs.Hands.{known, WasRefused}
use Rattle.bl_index_events.specs.Refused.{LacksForPost}
use Rattle.bl_index_events.specs.Held.{own_marks}
use Rattle.bl_index.proofs.Taken.{same_pass, of_inside}
use Rattle.bl_index_events.proofs.Ends.{done_first}
use Rattle.bl_index.proofs.Posts.{post_answered, post_in_call}
use Rattle.bl_index.proofs.index.Index.post.Goals as goal

pub returns-clause-posts : goal.returns-clause-posts
returns-clause-posts g c =
    let own = of_inside c.self.view_is c.pass.view_is c.requires.own in rw (← c.self.view_is, ← c.pass.view_is) (
    let posted = c.post_key.ensures.posted in
    post_answered _ _ _ _ _ _ _ _ _ _ posted.2.done own.2 (posted.1 ∙ (λ i. Some (c.level.ensures.named i, c.key.ensures i))) posted.2.answer)

pub returns-clause-same : goal.returns-clause-same
returns-clause-same g c = rw (← c.pass.view_is) (let e = c.post_key.ensures in same_pass c.pass.inside.hand c.post_key.new.hand e.same (done_first _ _ _ _ _ e.posted.2.done))

pub invariant_of-pass-inside : goal.invariant_of-pass-inside
invariant_of-pass-inside g c = let e = c.post_key.ensures in (e.rests.idle, (e.empty, (e.rests.within, (e.rests.over, (∣ e.posted.2.done.observed.notes.seen ∣₁, tt)))))

pub returns-clause-no_room : goal.returns-clause-no_room
returns-clause-no_room g c =
    let own = of_inside c.self.view_is c.pass.view_is c.requires.own in rw (← c.pass.view_is) (
    λ none.
    let posted = c.post_key.ensures.posted in let h = c.post_key.new.hand.seat in
    let lacks = subst (λ (z : ℕ × ℕ). LacksForPost z.0 z.1 (own_marks (known h)) (WasRefused h)) (λ i. (c.level.ensures.named i, c.key.ensures i)) (c.post_key.ensures.no_room none) in
    post_in_call _ _ _ (known h) _ _ _ _ (λ marks. LacksForPost (level_of c.args.hint) (key_of c.args.hint) marks (WasRefused h)) posted.2.done own.2 (posted.1 ∙ (λ i. Some (c.level.ensures.named i, c.key.ensures i))) lacks)
