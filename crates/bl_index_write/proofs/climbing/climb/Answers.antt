use Rattle.std.proofs.Common.{rules, ◌+◌, ◌<◌, Some, refl, sym, ap, subst, ◌∙◌, arith}
use Rattle.bl_proc.specs.declared.kinds.Proc.{Proc}
use Rattle.bl_proc_writes.specs.declared.post.PostStage.TheVariants as post
use Rattle.bl_proc_steps.specs.declared.approach.Approach.{Approach}
use Rattle.bl_store.specs.Hands.{known}
use Rattle.bl_index_events.specs.Runs.{Runs}
use Rattle.bl_index_events.proofs.Standing.{none_of, same_all}
use Rattle.bl_index_descend.specs.Events.{HoldsNone}
use Rattle.bl_index_write.proofs.Climbs.{climb_since, from_free, goes_above, goes_with, posting_alike}
use Rattle.bl_index_edit.proofs.Walked.{leaves_again, leaves_opened}
use Rattle.bl_index_write.proofs.climbing.climb.Goals as goal

pub loop-init : goal.loop-init
loop-init g c =
    let k = c.args.insertion in let runs = c.requires.runs in
    record {
      same = (refl, refl, refl);
      empty = c.requires.empty;
      least = omega arith;
      most = omega arith;
      stands = (omega arith, omega arith, subst (λ (z : Proc). Runs c.args.tree.now c.args.hand.now z) (goes_with k.key k.placing c.args.path runs.0 c.args.separator _ tt refl refl (ap (λ (a : Approach). post.Coming a) c.way-from.ensures)) runs.1);
      free = subst (λ (a : Approach). HoldsNone a) (sym c.way-from.ensures) (from_free _);
      since = λ pass old since. since;
    }

pub reach-requires-clause-runs : goal.reach-requires-clause-runs
reach-requires-clause-runs g c =
    let s = c.loop.invariant.stands in
    subst (λ (z : Proc). Runs c.args.tree.now c.loop.hand z) (posting_alike c.args.insertion.key c.args.insertion.placing c.loop.level c.loop.separator c.loop.path s.0 _ s.1 _ c.loop.from) s.2

pub loop-preserved-in_default : goal.loop-preserved-in_default
loop-preserved-in_default g c =
    let left = c.post_there.ensures in
    let one = c.loop.invariant.same in let two = c.reach.ensures.same.0 in let three = left.same in
    record {
      same = (three.0 ∙ (two.0 ∙ one.0), three.1 ∙ (two.1 ∙ one.1), three.2 ∙ (two.2 ∙ one.2));
      empty = left.empty;
      least = c.loop.invariant.least;
      most = c.loop.invariant.most;
      stands = (_, _, leaves_again _ _ _ _ _ _ _ _ left (none_of c.post_there.result c.in_default.not-Some));
      free = tt;
      since = same_all _ _ _ c.loop.invariant.since (same_all _ _ _ c.reach.ensures.since left.since);
    }

pub returns-in_default-split_by-clause-over : goal.returns-in_default-split_by-clause-over
returns-in_default-split_by-clause-over g c =
    climb_since c.args.insertion.key c.args.insertion.placing (known c.args.hand.now.seat) (known c.post_there.new.hand.seat) c.end_climb.new.hand.seat _ _ _
    (same_all _ _ _ c.loop.invariant.since (same_all _ _ _ c.reach.ensures.since c.post_there.ensures.since)) c.end_climb.ensures.over

pub loop-preserved-in-Parent : goal.loop-preserved-in-Parent
loop-preserved-in-Parent g c =
    let left = c.post_there.ensures in let k = c.args.insertion in let level = c.loop.level in
    let one = c.loop.invariant.same in let two = c.reach.ensures.same.0 in let three = left.same in
    let went = leaves_opened _ _ _ _ _ _ _ _ _ left (c.in-Some-post_there.is ∙ ap Some c.in-Some-split_by.ensures) in
    let below : level < 12 = went.0 in
    record {
      same = (three.0 ∙ (two.0 ∙ one.0), three.1 ∙ (two.1 ∙ one.1), three.2 ∙ (two.2 ∙ one.2));
      empty = left.empty;
      least = omega arith;
      most = omega (arith, below);
      stands = (
        omega arith,
        omega (arith, below),
        subst (λ (z : Proc). Runs c.args.tree.now c.post_there.new.hand z)
            (goes_above k.key k.placing level c.loop.separator c.reach.new.path c.in-Some-split_by.next below (level + 1) c.way-from-in-Parent.result (omega arith) (omega (arith, below)) refl c.way-from-in-Parent.ensures) went.1,
      );
      free = subst (λ (a : Approach). HoldsNone a) (sym c.way-from-in-Parent.ensures) (from_free _);
      since = same_all _ _ _ c.loop.invariant.since (same_all _ _ _ c.reach.ensures.since left.since);
    }

pub loop-preserved : goal.loop-preserved
loop-preserved g c =
    let one = c.loop.invariant.same in let two = c.reach.ensures.same.0 in
    record {
      same = (two.0 ∙ one.0, two.1 ∙ one.1, two.2 ∙ one.2);
      empty = c.reach.ensures.same.2.0 ∙ c.loop.invariant.empty;
      least = c.loop.invariant.least;
      most = c.loop.invariant.most;
      stands = (_, _, record { own = search rules; running = search rules; on = c.in-Again.ensures.reached });
      free = tt;
      since = same_all _ _ _ c.loop.invariant.since c.reach.ensures.since;
    }

pub climb_above-requires-clause-since : goal.climb_above-requires-clause-since
climb_above-requires-clause-since g c = (let begun = c.requires.since in (begun.0, begun.1, c.reach.ensures.since begun.0 begun.1 (c.loop.invariant.since begun.0 begun.1 begun.2)))

pub returns-in-NoLevel-clause-over : goal.returns-in-NoLevel-clause-over
returns-in-NoLevel-clause-over g c =
    climb_since c.args.insertion.key c.args.insertion.placing (known c.args.hand.now.seat) (known c.reach.new.hand.seat) c.climb_above.new.hand.seat _ _ _
    (same_all _ _ _ c.loop.invariant.since c.reach.ensures.since) c.climb_above.ensures.over
