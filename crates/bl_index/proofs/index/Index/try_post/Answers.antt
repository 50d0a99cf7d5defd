use Rattle.std.proofs.Common.{◌∙◌}
use Rattle.bl_claims.specs.Meanings.{HasRaised}
use Rattle.bl_store.specs.Hands.{known}
use Rattle.bl_index.proofs.Taken.{same_pass, of_inside}
use Rattle.bl_index.proofs.Attempts.{left_as, post_refused, post_told, undone_told}
use Rattle.bl_index.proofs.index.Index.try_post.Goals as goal

pub returns-clause-posts : goal.returns-clause-posts
returns-clause-posts c =
    let own = of_inside c.self.view_is c.pass.view_is c.requires.own in rw (← c.self.view_is, ← c.pass.view_is) (post_told _ _ _ _ _ _ _ _ own.2 c.level.ensures.named c.key.ensures c.try_post.result c.try_post.ensures.posted)

pub returns-clause-no_room : goal.returns-clause-no_room
returns-clause-no_room c =
    let own = of_inside c.self.view_is c.pass.view_is c.requires.own in rw (← c.pass.view_is) (
    post_refused _ _ (known c.pass.inside.hand.seat) c.try_post.new.hand.seat _ _ _ _ own.2 c.level.ensures.named c.key.ensures c.try_post.result c.try_post.ensures.posted c.try_post.ensures.no_room)

pub returns-clause-undone : goal.returns-clause-undone
returns-clause-undone c =
    let own = of_inside c.self.view_is c.pass.view_is c.requires.own in rw (← c.self.view_is, ← c.pass.view_is) (
    left_as HasRaised _ _ _ _ _ _ c.try_post.result c.level.ensures.named (undone_told (HasRaised c.level.result) _ _ _ _ own.2 c.try_post.result c.try_post.ensures.undone))

pub returns-clause-same : goal.returns-clause-same
returns-clause-same c = rw (← c.pass.view_is) (same_pass c.pass.inside.hand c.try_post.new.hand c.try_post.ensures.same c.try_post.ensures.first)

pub invariant_of-pass-inside : goal.invariant_of-pass-inside
invariant_of-pass-inside c = let e = c.try_post.ensures in (e.rests.idle, (e.empty, (e.rests.within, (e.rests.over, (∣ e.seen ∣₁, tt)))))
