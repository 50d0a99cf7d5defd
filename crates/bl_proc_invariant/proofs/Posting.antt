-- Every turn of a post keeps a world good.
use Rattle.std.proofs.Common.{ℕ, ◌≡◌, ◌≤◌, ◌<◌, ◌-◌, Some, None, suc, [], ◌∷◌, arith, ap, sym, ◌∙◌, refl, subst, inl, inr}
use Rattle.std.proofs.lemmas.Bool.{cases_eq}
use Rattle.bl_page.specs.declared.page.Page.{Page}
use Rattle.bl_page.specs.declared.page.Page.TheVariants.{Inner as InnerPage}
use Rattle.bl_page.specs.declared.page.Inner.{Inner}
use Rattle.bl_page.specs.Machine.{Name, State}
use Rattle.bl_page.specs.Machine.Act.{Get}
use Rattle.bl_page.specs.Nodes.{Covers, unbounded, node_of, IsChildOf}
use Rattle.bl_tree.specs.Trees.{IsChild}
use Rattle.bl_claims.specs.Trails.{Mark}
use Rattle.bl_tree_worlds.proofs.Pushes.{HasSaid-silent}
use Rattle.bl_tree_worlds.specs.Worlds.{HoldsPage, Know, World, nodes, tree_of, IsGoes, IsSure, IsGood}
use Rattle.bl_tree_worlds.proofs.Descents.{goes_down, not_released, anchor_not_released}
use Rattle.bl_tree_worlds.proofs.Children.{child_found}
use Rattle.bl_proc_steps.specs.declared.acts.Seen.{Seen}
use Rattle.bl_proc_routes.specs.declared.routes.Step.TheVariants.{Here}
use Rattle.bl_proc_steps.specs.declared.approach.Approach.TheVariants as way
use Rattle.bl_proc_steps.specs.declared.edit.Outcome.{Outcome}
use Rattle.bl_proc_steps.specs.declared.edit.Outcome.TheVariants as outcome
use Rattle.bl_proc_steps.specs.declared.edit.Edit.{Edit}
use Rattle.bl_proc_writes.specs.declared.walking.Walk.{Walk}
use Rattle.bl_proc_writes.specs.declared.post.PostReply.{PostReply}
use Rattle.bl_proc_writes.specs.declared.post.PostStage.{PostStage}
use Rattle.bl_proc_writes.specs.declared.post.PostStage.TheVariants as post
use Rattle.bl_proc_routes.specs.Routes.{Leads}
use Rattle.bl_proc_steps.specs.Edits.{EntersPair}
use Rattle.bl_proc_writes.specs.Posts.{post_reply, post_next_in, PostArrives, PostWalks}
use Rattle.bl_proc_invariant.specs.Turns.{event_of, IsObserved, Does, Turned}
use Rattle.bl_proc_invariant.specs.Tables.{Aim, Carried, carrying, holds_live, goes_to, IsAim, IsDue, IsBelow, know_approach, know_edit}
use Rattle.bl_proc_invariant.specs.Knowing.{post_aim, know_post, LeavesPost, post_got, post_child}
use Rattle.bl_proc_invariant.proofs.Acts.{watched}
use Rattle.bl_proc_invariant.proofs.Approaching.{walks_held, wider, to_right, got_goes, approach_turn, give_up_turn, kept_turn, stay_turn}
use Rattle.bl_proc_invariant.proofs.Editing.{edit_turn, finish_turn}
use Rattle.bl_proc_invariant.proofs.Entering.{enters_learns, enters_places, edit_middle}
use Rattle.bl_proc_invariant.proofs.Ends.{begin_turn, end_turn}
use Rattle.bl_proc_invariant.proofs.Growing as growing
use Rattle.bl_proc_deterministic.proofs.WayCases.{edit_case, growth_case}
use Rattle.bl_proc_deterministic.proofs.KindCases.{PostCase}

pub post_fine : (carried : Carried) (level key child : ℕ) → 0 < level → IsAim (post_aim carried level key child)
post_fine carried level key child above = record {
  once = λ o. inl (refl, refl);
  changed = λ o n m m' at up rest k. elim (cases_eq k key) [
    | inl e ↦ subst (λ z. m' z ≡ m z) (sym e) (up (λ z. omega (arith, z)))
    | inr i ↦ rest k i
  ];
  refused = λ m c h k. refl;
  lists = λ w p x d h l c e f. subst (λ z. IsChild (tree_of w) l key z) (same child c f) (record { alive = h.0.alive; level_is = omega (arith, d, h.0.level, e); sep_is = h.0.sep });
}
  where
    same : (a c : ℕ) → Some a ≡ Some c → a ≡ c
    same a c f = cc

post_leaves : (aim : Aim) (o : Outcome) → IsBelow aim o → LeavesPost (post_reply o)
post_leaves aim outcome.Edited h = tt
post_leaves aim (outcome.SplitAt separator) h = h.1
post_leaves aim outcome.Refused h = tt

module _ {P : Type 0} (know : P → Know) (w : World P) (g : IsGood know w) (p : Name) (b : P) (carried : Carried) (level key : ℕ) (least : 0 < level) (limit : level ≤ 12) where
  -- at the parent
  walk_turn : (x : ℕ) (parent : Inner) (v : Walk) (got : ℕ → Page) (child : ℕ) (s : State Page) → know (w.proc p) ≡ know_approach carried level key (way.Latched x) → know b ≡ know_post carried level key got child (post.Walking v) → InnerPage parent ≡ w.now.contents x → Leads (InnerPage parent) key level Here → PostArrives key x parent (post.Walking v) → Does w.now p (Get x) s → Turned know w p (Get x) s b
  walk_turn x parent v got child s before then observed leads t does =
      let is : IsSure w p (know_approach carried level key (way.Latched x)) = rw before at (g.sure p) in
      let held = is.holds.0 in
      let may = is.goes.0.may in
      let m : Mark = record { event = record { process = p; act = Get x }; saw = Some (w.now.contents x); said = None } in
      let l = subst (λ z. Leads z key level Here) observed leads in
      let page : w.now.contents x ≡ InnerPage v.parent = sym observed ∙ ap InnerPage (sym t.2) in
      let unlisted : (node_of (InnerPage v.parent)).look key ≡ None = rw t.1 at v.unlisted in
      let to : IsGoes w p (goes_to v.child (level - 1) (level - 1)) = goes_down know w g p x (level - 1) key v.child may l.0 (let e = l.2 in omega (arith, least)) (subst (λ z. IsChildOf (node_of z).look key v.child) observed t.3) in
      watched know w g p b _ _ before then (Get x) (Some (w.now.contents x)) None s tt (is.stage, not_released know w g p x may) does refl refl
      (λ y h. elim h [ inl e ↦ inl (t.0 ∙ e) | inr u ↦ absurd u ]) (λ it e. cc) (λ j. refl)
      (record {
        stage = is.stage;
        said = HasSaid-silent w.trail m p carried.said refl is.said;
        holds = ((ap s.owner t.0 ∙ (does.changes.1 x ∙ held.owner), ap w.status t.0 ∙ held.status, tt, ap w.now.contents t.0 ∙ page), tt);
        goes = (to, is.goes.1);
        children = tt;
        passed = tt;
        sound = (is.sound, record { level = ap (λ z. (node_of z).shape.level) (sym page) ∙ l.2; covers = rw page at l.1; was = unlisted; changes = refl }, t.1);
      })

  -- on the walk to the child
  module _ (v : Walk) (got : ℕ → Page) (child : ℕ) (s : State Page) (before : know (w.proc p) ≡ know_post carried level key got child (post.Walking v)) (does : Does w.now p (Get v.child) s) where
    walking : IsSure w p (know_post carried level key got child (post.Walking v))
    walking = rw before at (g.sure p)

    step_turn : (u : Walk) (got' : ℕ → Page) (child' : ℕ) → know b ≡ know_post carried level key got' child' (post.Walking u) → PostWalks level v (w.now.contents v.child) (post.Walking u) → Turned know w p (Get v.child) s b
    step_turn u got' child' then t =
        let is = walking in
        let held = is.holds.0 in
        let to = is.goes.0 in
        let m : Mark = record { event = record { process = p; act = Get v.child }; saw = Some (w.now.contents v.child); said = None } in
        let parent : InnerPage v.parent ≡ InnerPage u.parent = ap InnerPage (sym t.2) in
        let key_is : v.key ≡ key = is.sound.2 in
        let below : v.key < unbounded = rw key_is is.sound.0 in
        let goes : IsGoes w p (goes_to u.child (level - 1) (level - 1)) = rw t.3.0 (wider know w g p _ _ _ (level - 1) (level - 1) to.least to.most (to_right know w g p v.child v.key to.may t.3.1 below)) in
        watched know w g p b _ _ before then (Get v.child) (Some (w.now.contents v.child)) None s tt (is.stage, not_released know w g p v.child to.may) does refl refl
        (λ y h. elim h [ inl e ↦ inl (t.0 ∙ e) | inr n ↦ absurd n ]) (λ it e. cc) (λ j. refl)
        (record {
          stage = is.stage;
          said = HasSaid-silent w.trail m p carried.said refl is.said;
          holds = ((ap s.owner t.0 ∙ (does.changes.1 v.at ∙ held.owner), ap w.status t.0 ∙ held.status, tt, ap w.now.contents t.0 ∙ (held.page ∙ parent)), tt);
          goes = (goes, is.goes.1);
          children = tt;
          passed = tt;
          sound = (is.sound.0, subst (λ z. IsDue (post_aim carried level key 0) z) parent is.sound.1, t.1 ∙ key_is);
        })

    lost_turn : know b ≡ record (carrying carried) { holds = holds_live v.at ∷ [] } → Turned know w p (Get v.child) s b
    lost_turn then =
        let is = walking in
        watched know w g p b _ _ before then (Get v.child) (Some (w.now.contents v.child)) None s tt (is.stage, not_released know w g p v.child is.goes.0.may) does refl refl (λ y h. h) (λ it e. cc) (λ j. refl)
        (walks_held w _ p (Get v.child) (Some (w.now.contents v.child)) carried.said v.at carried.goes (Unit {0}) is.stage is.said (does.changes.1 v.at ∙ is.holds.0.owner) is.holds.0.status is.goes.1 tt)

    again_turn : know b ≡ know_approach carried level key (way.Leaving v.at None) → Turned know w p (Get v.child) s b
    again_turn then =
        let is = walking in
        watched know w g p b _ _ before then (Get v.child) (Some (w.now.contents v.child)) None s tt (is.stage, not_released know w g p v.child is.goes.0.may) does refl refl (λ y h. h) (λ it e. cc) (λ j. refl)
        (walks_held w _ p (Get v.child) (Some (w.now.contents v.child)) carried.said v.at carried.goes (key < unbounded) is.stage is.said (does.changes.1 v.at ∙ is.holds.0.owner) is.holds.0.status is.goes.1 is.sound.0)

    list_turn : (c : Edit) → know b ≡ know_edit (post_aim carried level key v.child) (λ z. InnerPage v.parent) c → PostWalks level v (w.now.contents v.child) (post.Editing c) → Turned know w p (Get v.child) s b
    list_turn c then t =
        let is = walking in
        let held = is.holds.0 in
        let to = is.goes.0 in
        let aim = post_aim carried level key v.child in
        let page = InnerPage v.parent in
        let key_is : v.key ≡ key = is.sound.2 in
        let due : IsDue aim page = record { level = is.sound.1.level; covers = is.sound.1.covers; was = is.sound.1.was; changes = refl } in
        let enters : EntersPair v.at page key v.child c = subst (λ z. EntersPair v.at page z v.child c) key_is t.2 in
        let covers : Covers (nodes w.now v.at).shape key = rw held.page due.covers in
        let level_is : (nodes w.now v.at).shape.level ≡ level = rw held.page due.level in
        let above : (nodes w.now v.at).shape.level ≡ suc (nodes w.now v.child).shape.level = (let lo = to.least in let hi = to.most in omega (arith, level_is, least)) in
        let found = child_found know w p v.at v.child key g held.owner held.status covers above (rw before refl) to.may t.0.0 (t.1 ∙ key_is) in
        watched know w g p b _ _ before then (Get v.child) (Some (w.now.contents v.child)) None s tt (is.stage, not_released know w g p v.child to.may) does refl (edit_middle aim (λ z. page) c)
        (λ y h. elim h [ inl e ↦ subst (λ z. HoldsPage (know_edit aim (λ u. page) c).holds z) e (enters_places aim v.at v.child key page c enters) | inr n ↦ absurd n ]) (λ it e. cc) (λ k. refl)
        (enters_learns w _ p (Get v.child) (Some (w.now.contents v.child)) aim v.at v.child page c (record {
          stage = is.stage;
          said = is.said;
          goes = is.goes.1;
          held = does.changes.1 v.at ∙ held.owner;
          live = held.status;
          is = held.page;
          due = due;
          children = ((does.changes.1 v.at ∙ held.owner, found), tt);
        }) refl refl enters)

  -- Every turn of a post. Where it ends it answers nothing, so it has said nothing.
  pub post_turn : {a a' : PostStage} {what : Seen} → PostCase level key a what a' → ((r : PostReply) → a ≡ post.Ending r → carried.said ≡ None) → (got : ℕ → Page) (child : ℕ) (s : State Page) → know (w.proc p) ≡ know_post carried level key got child a → know b ≡ know_post carried level key (post_got got a what) (post_child child a) a' → IsObserved w.now w.size (post_next_in a) what → Does w.now p (event_of None (post_next_in a) what) s → Turned know w p (event_of None (post_next_in a) what) s b
  post_turn (PostCase.Began a t) ends got child s before then observed does = begin_turn know w g p b carried key s before (rw t at then) does
  post_turn (PostCase.NoLevel c t) ends got child s before then observed does = give_up_turn know w g p b carried level key s before then does
  post_turn (PostCase.Tallest c t) ends got child s before then observed does = give_up_turn know w g p b carried level key s before then does
  post_turn (PostCase.ToGrow c t) ends got child s before then observed does =
      let is : IsSure w p (know_approach carried level key way.Start) = rw before at (g.sure p) in
      got_goes know w g p b carried level key _ 0 s carried.goes before refl refl then is.stage is.said (anchor_not_released know w g) does is.sound is.goes
  post_turn (PostCase.Came a what a' t) ends got child s before then observed does = approach_turn know w g p b carried level key a a' what s limit before then t observed does
  post_turn (PostCase.Listed x parent y l t) ends got child s before then observed does = kept_turn know w g p b carried level key x s before (rw t.0 at then) does
  post_turn (PostCase.ToWalk x parent v l t) ends got child s before then observed does = walk_turn x parent v got child s before then observed l t does
  post_turn (PostCase.Grew h what d t) ends got child s before then observed does = growing.growth_turn know w g p b carried level key (growth_case level h what _ t) got s before then observed does
  post_turn (PostCase.Grown h what a t) ends got child s before then observed does = growing.over_turn know w g p b carried level key (growth_case level h what _ t.0) got s before (rw t.1 at then) does
  post_turn (PostCase.NoRoom h what r t) ends got child s before then observed does = growing.no_room_turn know w g p b carried level key (growth_case level h what _ t.0) got s before (rw t.1 at then) does
  post_turn (PostCase.Walked v c u t) ends got child s before then observed does = step_turn v got child s before does u (λ z. InnerPage v.parent) v.child then (subst (λ z. PostWalks level v z (post.Walking u)) observed t)
  post_turn (PostCase.Entered v c d t) ends got child s before then observed does = list_turn v got child s before does d then (subst (λ z. PostWalks level v z (post.Editing d)) observed t)
  post_turn (PostCase.Stale v c x t) ends got child s before then observed does = lost_turn v got child s before does (rw t.0 at then)
  post_turn (PostCase.Lost v c a t) ends got child s before then observed does = again_turn v got child s before does (rw t.0 at then)
  post_turn (PostCase.Edited c what d t) ends got child s before then observed does = edit_turn know w g p b (post_aim carried level key child) (post_fine carried level key child least) got (edit_case c what _ t) s before then observed does
  post_turn (PostCase.Finished c what r (o, t, same)) ends got child s before then observed does = finish_turn know w g p b (post_aim carried level key child) (post_fine carried level key child least) got (edit_case c what _ t) (LeavesPost r) s before then (λ h. subst LeavesPost (sym same) (post_leaves (post_aim carried level key child) o h.1)) does
  post_turn (PostCase.Opened x r last t) ends got child s before then observed does = stay_turn know w g p b carried level key x (LeavesPost r) s before (rw t at then) does
  post_turn (PostCase.Ended r last t) ends got child s before then observed does = end_turn know w g p b None carried.goes (LeavesPost r) s (rw (ends r refl) at before) (rw (ends r refl) at then) does
