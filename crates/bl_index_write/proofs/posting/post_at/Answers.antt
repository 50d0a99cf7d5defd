use Rattle.std.proofs.Common.{rules, ℕ, ◌<◌, Some, ◌∙◌, subst}
use Rattle.bl_proc_steps.specs.declared.approach.Approach.TheVariants as approach
use Rattle.bl_store.specs.Hands.{known}
use Rattle.bl_index_edit.proofs.Walked.{leaves_again, leaves_opened}
use Rattle.bl_index_write.proofs.PostEnds.{over_since}
use Rattle.bl_index_events.proofs.Standing.{on_itself, same_all}
use Rattle.bl_index_write.proofs.OffWalk.{off_on, off_same, walks_from}
use Rattle.bl_index_write.proofs.Underway.{underway_on_way}
use Rattle.bl_index_write.proofs.posting.post_at.Goals as goal

pub end_post-requires-clause-process : goal.end_post-requires-clause-process
end_post-requires-clause-process c = leaves_opened _ _ _ _ _ _ _ _ _ c.in-Ok-Some.ensures.left c.in-Ok-Some.field-0-is

pub end_post-requires-clause-no_room : goal.end_post-requires-clause-no_room
end_post-requires-clause-no_room c = λ none. c.in-Ok-Some.ensures.left.no_room (c.in-Ok-Some.field-0-is ∙ (λ i. Some (none i)))

pub returns-in-Ok-Some-clause-over : goal.returns-in-Ok-Some-clause-over
returns-in-Ok-Some-clause-over c =
    over_since c.args.target (known c.args.hand.now.seat) (known c.post_there_within.new.hand.seat) c.end_post.new.hand.seat _ _ c.in-Ok-Some.ensures.left.since
    c.end_post.ensures.over

pub returns-in-Ok-None-clause-underway : goal.returns-in-Ok-None-clause-underway
returns-in-Ok-None-clause-underway c =
    let left = c.in-Ok-None.ensures.left in
    (underway_on_way c.args.tree.now c.post_there_within.new.hand c.args.target c.on_way.result left.empty approach.Start tt c.on_way.ensures (leaves_again _ _ _ _ _ _ _ _ left c.in-Ok-None.field-0-is), left.since)

pub leave_walk-requires-clause-runs : goal.leave_walk-requires-clause-runs
leave_walk-requires-clause-runs c = let runs = c.in-Err.ensures.walks.runs in record { own = runs.own; running = runs.running; on = on_itself _ _ _ runs.on }

pub leave_walk-requires-clause-page : goal.leave_walk-requires-clause-page
leave_walk-requires-clause-page c = subst (λ (pages : ℕ). c.args.at < pages) c.requires.runs.on.pages c.requires.there.near

pub leave_walk-requires-clause-walks : goal.leave_walk-requires-clause-walks
leave_walk-requires-clause-walks c = let walks = c.in-Err.ensures.walks in walks_from c.args.target c.args.at walks.walk walks.below _ walks.at walks.runs.on.state

pub returns-in-Err-clause-underway : goal.returns-in-Err-clause-underway
returns-in-Err-clause-underway c =
    let walks = c.in-Err.ensures.walks in let off = c.leave_walk.ensures.off in
    let near = subst (λ (pages : ℕ). c.args.at < pages) c.requires.runs.on.pages c.requires.there.near in (
      underway_on_way c.args.tree.now c.leave_walk.new.hand c.args.target c.on_way-in-Err.result (c.leave_walk.ensures.same.2.0 ∙ walks.empty) approach.Start tt c.on_way-in-Err.ensures (record {
        own = search rules;
        running = search rules;
        on = off_on c.args.target c.args.at walks.walk walks.below (known c.post_there_within.new.hand.seat) (known c.leave_walk.new.hand.seat) c.args.tree.now.store.layout walks.runs.on near off;
      }),
      same_all _ _ _ walks.since (off_same c.args.target c.args.at walks.walk walks.below (known c.post_there_within.new.hand.seat) (known c.leave_walk.new.hand.seat) walks.runs.on.state off),
    )
