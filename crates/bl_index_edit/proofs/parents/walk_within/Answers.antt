use Rattle.std.proofs.Common.{refl, ◌∙◌, rules}
use Rattle.bl_proc_steps.specs.declared.acts.Seen.TheVariants as seen
use Rattle.bl_proc_steps.specs.declared.approach.Approach.TheVariants as approach
use Rattle.bl_proc_writes.specs.declared.post.PostStage.TheVariants as post
use Rattle.bl_index_events.proofs.Standing.{same_all, same_goes, on_goes, on_itself}
use Rattle.bl_index_edit.proofs.Walked.{leaves_since, opens_lost}
use Rattle.bl_index_edit.proofs.parents.walk_within.Goals as goal

pub list-requires-clause-page : goal.list-requires-clause-page
list-requires-clause-page g c = c.in-Found.ensures.walked

pub stay-requires-clause-process : goal.stay-requires-clause-process
stay-requires-clause-process g c = (tt, c.in-Stale.ensures.walked.state)

pub returns-in-Found-clause-left : goal.returns-in-Found-clause-left
returns-in-Found-clause-left g c =
    let p = c.args.poster.now in let one = c.loop-turn.invariant.same.0 in let two = c.walk_on.ensures.same.0 in
    leaves_since c.args.tree.now c.args.hand.now.seat c.walk_on.new.hand.seat c.list.new.hand _ _ _ _ _ (two.0 ∙ one.0, two.1 ∙ one.1, two.2 ∙ one.2) (same_all _ _ _ c.loop-turn.invariant.since c.walk_on.ensures.since) c.list.ensures

pub returns-in-Stale-clause-left : goal.returns-in-Stale-clause-left
returns-in-Stale-clause-left g c =
    let p = c.args.poster.now in let one = c.loop-turn.invariant.same.0 in let two = c.walk_on.ensures.same.0 in
    leaves_since c.args.tree.now c.args.hand.now.seat c.walk_on.new.hand.seat c.stay.new.hand _ _ _ _ _ (two.0 ∙ one.0, two.1 ∙ one.1, two.2 ∙ one.2) (same_all _ _ _ c.loop-turn.invariant.since c.walk_on.ensures.since) c.stay.ensures

pub reopen-requires-clause-next : goal.reopen-requires-clause-next
reopen-requires-clause-next g c =
    let p = c.args.poster.now in
    (opens_lost (g.P.Poster.level_of p) (g.P.Poster.key_of p) (g.P.Poster.staged p) (g.P.Poster.opened p) (g.P.Poster.posts p) c.args.at _ c.in-Lost.ensures.walked.state).act

pub reopen-requires-clause-course : goal.reopen-requires-clause-course
reopen-requires-clause-course g c =
    let p = c.args.poster.now in
    (opens_lost (g.P.Poster.level_of p) (g.P.Poster.key_of p) (g.P.Poster.staged p) (g.P.Poster.opened p) (g.P.Poster.posts p) c.args.at _ c.in-Lost.ensures.walked.state).course

pub returns-in-Lost-clause-left : goal.returns-in-Lost-clause-left
returns-in-Lost-clause-left g c =
    let p = c.args.poster.now in
    let opens = opens_lost (g.P.Poster.level_of p) (g.P.Poster.key_of p) (g.P.Poster.staged p) (g.P.Poster.opened p) (g.P.Poster.posts p) c.args.at _ c.in-Lost.ensures.walked.state in
    let one = c.loop-turn.invariant.same.0 in let two = c.walk_on.ensures.same.0 in let three = c.reopen.ensures.same.0 in
    record {
      same = (three.0 ∙ (two.0 ∙ one.0), three.1 ∙ (two.1 ∙ one.1), three.2 ∙ (two.2 ∙ one.2));
      empty = c.reopen.ensures.same.2.0 ∙ (c.walk_on.ensures.same.2.0 ∙ (c.loop-turn.invariant.same.2.0 ∙ c.requires.empty));
      state = g.P.Poster.staged p (post.Coming approach.Start) tt tt;
      runs = record { own = search rules; running = search rules; on = on_goes c.args.tree.now.store.layout seen.Done _ _ _ _ (on_itself _ _ _ c.in-Lost.ensures.walked) c.reopen.ensures.goes opens.opened };
      is = refl;
      since = same_all _ _ _ (same_all _ _ _ c.loop-turn.invariant.since c.walk_on.ensures.since) (same_goes _ _ _ c.reopen.ensures.goes);
      no_room = λ e. absurd (let f = e in cc);
    }

pub loop-turn-preserved : goal.loop-turn-preserved
loop-turn-preserved g c = record {
  same = search rules;
  process = c.in-On.ensures.walked.0;
  walking = c.in-On.ensures.walked.1;
  since = same_all _ _ _ c.loop-turn.invariant.since c.walk_on.ensures.since;
}

pub returns-clause-walks : goal.returns-clause-walks
returns-clause-walks g c =
    let loop = c.loop-turn.invariant in
    record {
      same = loop.same.0;
      empty = loop.same.2.0 ∙ c.requires.empty;
      runs = record { own = search rules; running = search rules; on = loop.process };
      walking = loop.walking;
      since = loop.since;
    }
