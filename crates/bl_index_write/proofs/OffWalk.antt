-- A post gives up its walk and opens its parent: it stands at the beginning of its way.
use Rattle.std.proofs.Common.{ℕ, ◌≡◌, ◌<◌, ◌++◌, None, refl, sym, ap, ◌∙◌, subst}
use Rattle.bl_layout.specs.declared.layout.Layout.{Layout}
use Rattle.bl_page.specs.declared.page.Page.{Page}
use Rattle.bl_claims.specs.Trails.{entries_at}
use Rattle.bl_claims.specs.Seeing.{name}
use Rattle.bl_proc_steps.specs.declared.acts.Seen.TheVariants as seen
use Rattle.bl_proc_steps.specs.declared.approach.Approach.TheVariants as way
use Rattle.bl_proc_writes.specs.declared.walking.Walk.{Walk}
use Rattle.bl_proc_writes.specs.declared.post.Post.{Post}
use Rattle.bl_proc_writes.specs.declared.post.PostStage.TheVariants as post
use Rattle.bl_proc.specs.declared.kinds.Proc.{Proc}
use Rattle.bl_proc.specs.declared.kinds.Proc.TheVariants as proc
use Rattle.bl_proc.specs.Processes.{next_of}
use Rattle.bl_proc_invariant.specs.Knowing.{Run, know, know_of}
use Rattle.bl_proc_invariant.specs.Walks.{off_walk, LeavesWalk}
use Rattle.bl_index_rule.specs.declared.known.PassState.{PassState}
use Rattle.bl_index_rule.specs.Observed.{HasLeftWalk, IsNear}
use Rattle.bl_index_events.specs.Held.{own_marks, proc_held}
use Rattle.bl_index_events.specs.Runs.{IsOn, IsSameProcess, IsSince}
use Rattle.bl_index_events.proofs.Calls.{since_step}
use Rattle.bl_index_events.proofs.Standing.{on_goes}
use Rattle.bl_index_edit.proofs.Nearing.{nears}
use Rattle.bl_index_write.specs.declared.targets.Posting.{Posting}
use Rattle.bl_index_write.specs.Events.{posting}
use Rattle.bl_index_write.proofs.Underway.{post_in}

module _ (j : Posting) (x : ℕ) (walk : Walk) (below : j.level < 12) where
  abbrev walking : Post
  walking = record { level = j.level; key = j.key; stage = post.Walking walk; least = j.least; most = j.most; below = below }

  abbrev leaving : Proc
  leaving = posting j (post.Coming (way.Leaving x None)) tt

  pub walks_from : (state : Proc) → walk.at ≡ x → state ≡ posting j (post.Walking walk) below → (off : Proc) × LeavesWalk state off x
  walks_from state at is = (proc.Post (off_walk walking walk), record { post = walking; walk = walk; is = is; walks = refl; at = at; then = refl })

  -- what it is then
  off_is : (state off : Proc) → state ≡ posting j (post.Walking walk) below → LeavesWalk state off x → off ≡ leaving
  off_is state off is leaves =
      let same : leaves.post ≡ walking = ap (λ (z : Proc). post_in z leaves.post) (sym leaves.is ∙ is) in
      leaves.then ∙ (ap (λ (z : Post). proc.Post (off_walk z leaves.walk)) same ∙ ap (λ (y : ℕ). posting j (post.Coming (way.Leaving y None)) tt) leaves.at)

  module _ (d e : PassState) where
    pub off_on : (l : Layout) → IsOn l d (posting j (post.Walking walk) below) → x < l.pages → HasLeftWalk d x e → IsOn l e (posting j (post.Coming way.Start) tt)
    off_on l on near (off, leaves, goes) =
        let is = off_is d.state off on.state leaves in
        let there : IsOn l (record d { state = off }) leaving = record {
          runs = on.runs;
          state = is;
          pages = on.pages;
          passes = on.passes;
          near = subst (λ (z : Proc). IsNear d.pages (next_of z)) (sym is) (subst (λ (z : ℕ). x < z) (sym on.pages) near);
          held = subst (λ (z : Proc). proc_held z (own_marks (record d { state = off }))) (sym is) tt;
        } in
        on_goes l seen.Done (record d { state = off }) e leaving (posting j (post.Coming way.Start) tt) there goes (refl, refl, nears j.level j.key (way.Leaving x None) way.Start seen.Done tt refl)

    silent : (r : Run) (p : Proc) → r.state ≡ p → ((got : ℕ → Page) (child time : ℕ) → (know_of got child time p).said ≡ None) → (know r).said ≡ None
    silent r p is none = ap (λ (z : Proc). (know_of r.got r.child r.time z).said) is ∙ none r.got r.child r.time

    -- it is the same process
    pub off_same : d.state ≡ posting j (post.Walking walk) below → HasLeftWalk d x e → IsSameProcess d e
    off_same state (off, leaves, goes) pass old since =
        let h = since.own in
        let is = off_is d.state off state leaves in
        let run : Run = record { state = off; got = h.run.got; child = h.run.child; time = h.run.time } in
        let was = silent h.run (posting j (post.Walking walk) below) (h.state ∙ state) (λ got child time. refl) in
        let now = silent run leaving is (λ got child time. refl) in
        let there : IsSince pass old (record d { state = off }) = record {
          named = since.named;
          number = since.number;
          beginning = since.beginning;
          past = since.past;
          own = record { run = run; state = refl; own = h.own ∙ (λ i. d.past ++ entries_at (name d.pass d.number) ((was ∙ sym now) i)) };
          before = since.before;
          first = since.first;
          since = since.since;
          begins = since.begins;
          begun = since.begun;
          none = since.none;
          only = since.only;
        } in
        since_step _ _ _ _ _ there goes.steps
