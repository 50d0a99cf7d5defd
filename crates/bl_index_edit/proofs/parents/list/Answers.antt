use Rattle.std.proofs.Common.{rules, ℕ, inl, refl, sym, subst, ◌≡◌, ◌∙◌}
use Rattle.bl_proc_writes.specs.declared.post.PostReply.{PostReply}
use Rattle.bl_proc_writes.specs.declared.post.PostStage.TheVariants as post
use Rattle.bl_proc.specs.declared.kinds.Proc.{Proc}
use Rattle.bl_proc_writes.specs.Levels.{MayReply}
use Rattle.bl_proc_writes.specs.Posts.{post_reply}
use Rattle.bl_proc_steps.specs.declared.acts.Seen.TheVariants as seen
use Rattle.bl_proc_steps.specs.declared.edit.Edit.TheVariants as edit
use Rattle.bl_store.specs.Hands.{known}
use Rattle.bl_index_events.proofs.Held.{goes_keeps, open_latches_not}
use Rattle.bl_index_events.proofs.Rooms.{lacks_on, reply_refused}
use Rattle.bl_index_events.proofs.Standing.{on_goes, on_itself, same_all, same_goes}
use Rattle.bl_index_events.specs.Runs.{IsOn}
use Rattle.bl_index_edit.specs.Events.{IsToEnter}
use Rattle.bl_index_edit.proofs.Walked.{may_reply, opens_listed, some_same, staged_same}
use Rattle.bl_index_edit.proofs.parents.list.Goals as goal

pub enter_page-outcome-requires-clause-page : goal.enter_page-outcome-requires-clause-page
enter_page-outcome-requires-clause-page g c =
    let p = c.args.poster.now in let page = c.requires.page in
    let same = staged_same (g.P.Poster.level_of p) (g.P.Poster.key_of p) (g.P.Poster.staged p) (g.P.Poster.opened p) (g.P.Poster.posts p) (post.Editing page.1) page.0 _ tt in
    (page.1, subst (λ (z : ℕ). IsToEnter c.args.at z c.args.child c.args.parent.now page.1) (sym c.key-key.ensures) page.2, subst (λ (z : Proc). IsOn c.args.tree.now.store.layout (known c.args.hand.now.seat) z) same page.3)

pub reopen-requires-clause-runs : goal.reopen-requires-clause-runs
reopen-requires-clause-runs g c = (let runs = c.enter_page-outcome.ensures.runs in record { own = runs.own; running = runs.running; on = on_itself _ _ _ runs.on })

pub reopen-requires-clause-next : goal.reopen-requires-clause-next
reopen-requires-clause-next g c =
    let p = c.args.poster.now in let below = c.requires.page.0 in let o = c.enter_page-outcome.result in
    let is = c.enter_page-outcome.ensures.runs.on.state ∙ staged_same (g.P.Poster.level_of p) (g.P.Poster.key_of p) (g.P.Poster.staged p) (g.P.Poster.opened p) (g.P.Poster.posts p) (post.Editing (edit.Opening c.args.at o)) _ below tt in
    (opens_listed (g.P.Poster.level_of p) (g.P.Poster.key_of p) (g.P.Poster.staged p) (g.P.Poster.opened p) (g.P.Poster.posts p) c.args.at o below _ is).act

pub reopen-requires-clause-course : goal.reopen-requires-clause-course
reopen-requires-clause-course g c =
    let p = c.args.poster.now in let below = c.requires.page.0 in let o = c.enter_page-outcome.result in
    let is = c.enter_page-outcome.ensures.runs.on.state ∙ staged_same (g.P.Poster.level_of p) (g.P.Poster.key_of p) (g.P.Poster.staged p) (g.P.Poster.opened p) (g.P.Poster.posts p) (post.Editing (edit.Opening c.args.at o)) _ below tt in
    (opens_listed (g.P.Poster.level_of p) (g.P.Poster.key_of p) (g.P.Poster.staged p) (g.P.Poster.opened p) (g.P.Poster.posts p) c.args.at o below _ is).course

pub returns : goal.returns
returns g c =
    let p = c.args.poster.now in let level = g.P.Poster.level_of p in let key = g.P.Poster.key_of p in let below = c.requires.page.0 in let o = c.enter_page-outcome.result in
    let h = c.enter_page-outcome.new.hand.seat in let h' = c.reopen.new.hand.seat in let runs = c.enter_page-outcome.ensures.runs in
    let is = runs.on.state ∙ staged_same level key (g.P.Poster.staged p) (g.P.Poster.opened p) (g.P.Poster.posts p) (post.Editing (edit.Opening c.args.at o)) _ below tt in
    let opens = opens_listed level key (g.P.Poster.staged p) (g.P.Poster.opened p) (g.P.Poster.posts p) c.args.at o below _ is in
    let may = may_reply level key (g.P.Poster.staged p) (g.P.Poster.opened p) (g.P.Poster.posts p) o below in
    let one = c.enter_page-outcome.ensures.same.0 in let two = c.reopen.ensures.same.0 in
    record {
      same = (two.0 ∙ one.0, two.1 ∙ one.1, two.2 ∙ one.2);
      empty = c.reopen.ensures.same.2.0 ∙ c.enter_page-outcome.ensures.empty;
      state = g.P.Poster.opened p (post_reply o) may;
      runs = record { own = search rules; running = search rules; on = on_goes c.args.tree.now.store.layout seen.Done _ _ _ _ (on_itself _ _ _ runs.on) c.reopen.ensures.goes opens.opened };
      is = subst (λ (z : PostReply). (m : MayReply level z) × (g.P.Poster.opened p (post_reply o) may ≡ g.P.Poster.opened p z m)) (sym c.reply_by.ensures) (may, refl);
      since = same_all _ _ _ c.enter_page-outcome.ensures.since (same_goes _ _ _ c.reopen.ensures.goes);
      no_room = λ e. inl (lacks_on level key h h' c.reopen.ensures.refusal (goes_keeps seen.Done (known h) (known h') c.reopen.ensures.goes (open_latches_not (known h) c.args.at opens.act)) (c.enter_page-outcome.ensures.asked (reply_refused o (sym c.reply_by.ensures ∙ some_same e))));
    }
