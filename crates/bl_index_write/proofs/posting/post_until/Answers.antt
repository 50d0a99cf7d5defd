use Rattle.std.proofs.Common.{rules, Some, ◌∙◌}
use Rattle.bl_store.specs.Hands.{known}
use Rattle.bl_index_events.proofs.Standing.{none_of, same_all}
use Rattle.bl_index_edit.proofs.Walked.{leaves_again, leaves_opened}
use Rattle.bl_index_write.proofs.PostEnds.{over_since}
use Rattle.bl_index_write.proofs.posting.post_until.Goals as goal

pub reach-requires-clause-led : goal.reach-requires-clause-led
reach-requires-clause-led g c = λ page below. below

pub end_post-requires-clause-process : goal.end_post-requires-clause-process
end_post-requires-clause-process g c = leaves_opened _ _ _ _ _ _ _ _ _ c.post_there.ensures c.in-Some-post_there.is

pub end_post-requires-clause-no_room : goal.end_post-requires-clause-no_room
end_post-requires-clause-no_room g c = λ none. c.post_there.ensures.no_room (c.in-Some-post_there.is ∙ (λ i. Some (none i)))

pub returns-in-Some-post_there-clause-over : goal.returns-in-Some-post_there-clause-over
returns-in-Some-post_there-clause-over g c =
    over_since c.args.target (known c.args.hand.now.seat) (known c.post_there.new.hand.seat) c.end_post.new.hand.seat _ _
    (same_all _ _ _ c.loop.invariant.since (same_all _ _ _ c.reach.ensures.since c.post_there.ensures.since)) c.end_post.ensures.over

pub loop-preserved-in_default : goal.loop-preserved-in_default
loop-preserved-in_default g c =
    let left = c.post_there.ensures in
    let one = c.loop.invariant.same in let two = c.reach.ensures.same.0 in let three = left.same in
    record {
      same = (three.0 ∙ (two.0 ∙ one.0), three.1 ∙ (two.1 ∙ one.1), three.2 ∙ (two.2 ∙ one.2));
      empty = left.empty;
      runs = leaves_again _ _ _ _ _ _ _ _ left (none_of c.post_there.result c.in_default.not-Some);
      since = same_all _ _ _ c.loop.invariant.since (same_all _ _ _ c.reach.ensures.since left.since);
    }

pub loop-preserved : goal.loop-preserved
loop-preserved g c =
    let one = c.loop.invariant.same in let two = c.reach.ensures.same.0 in
    record {
      same = (two.0 ∙ one.0, two.1 ∙ one.1, two.2 ∙ one.2);
      empty = c.reach.ensures.same.2.0 ∙ c.loop.invariant.empty;
      runs = record { own = search rules; running = search rules; on = c.in-Again.ensures.reached };
      since = same_all _ _ _ c.loop.invariant.since c.reach.ensures.since;
    }

pub post_above-requires-clause-since : goal.post_above-requires-clause-since
post_above-requires-clause-since g c = (let begun = c.requires.since in (begun.0, begun.1, c.reach.ensures.since begun.0 begun.1 (c.loop.invariant.since begun.0 begun.1 begun.2)))

pub returns-in-NoLevel-clause-over : goal.returns-in-NoLevel-clause-over
returns-in-NoLevel-clause-over g c =
    over_since c.args.target (known c.args.hand.now.seat) (known c.reach.new.hand.seat) c.post_above.new.hand.seat _ _
    (same_all _ _ _ c.loop.invariant.since c.reach.ensures.since) c.post_above.ensures.over
