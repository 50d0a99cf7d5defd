-- What a post has done, and one event more: what is told of it in the next state.
use Rattle.std.proofs.Common.{ℕ, suc, ◌≡◌, ◌≢◌, ◌<◌, ◌-◌, ◌++◌, List, [], ◌∷◌, length, get_or, None, Some, arith, ap, sym, ◌∙◌, refl, subst, inl, inr, append_assoc, append-nil}
use Rattle.std.proofs.Math.Numerals.{add-one}
use Rattle.std.proofs.Math.Seq.{get_or-append_seam}
use Rattle.std.proofs.lemmas.List.{length-append}
use Rattle.bl_model.specs.declared.operation.Reply.{Reply}
use Rattle.bl_page.specs.declared.page.Page.{Page}
use Rattle.bl_page.specs.declared.page.Page.TheVariants.{Anchor as AnchorPage, Inner as InnerPage}
use Rattle.bl_page.specs.declared.page.Inner.{Inner}
use Rattle.bl_page.specs.Machine.{Act}
use Rattle.bl_page.specs.Machine.Act.{Get, Put, Take, Latch}
use Rattle.bl_page.specs.Nodes.{node_of, roots_of}
use Rattle.bl_claims.specs.Trails.{Mark, Trail}
use Rattle.bl_claims.specs.Meanings.{writes_in, IsNewTop, RaisesOnly, HasRaised, WritesBack}
use Rattle.bl_tree_worlds.proofs.Meant.{writes_of-push, begun_now, wrote_on, wrote_still, got_on, got_last, done_on, already_on, stale_on, tall_on, no_room_on}
use Rattle.bl_tree_worlds.proofs.Fitted.{fits_row, split_cut}
use Rattle.bl_rearrange.specs.declared.fitted.Fitted.TheVariants.{Split}
use Rattle.bl_rearrange.specs.Rearranged.{IsFitted}
use Rattle.bl_proc_steps.specs.declared.acts.Action.TheVariants as act
use Rattle.bl_proc_steps.specs.declared.acts.Seen.{Seen}
use Rattle.bl_proc_steps.specs.declared.acts.Seen.TheVariants as seen
use Rattle.bl_proc_routes.specs.declared.routes.Step.{Step}
use Rattle.bl_proc_routes.specs.declared.routes.Step.TheVariants.{Again, Right, Down, Here}
use Rattle.bl_proc_steps.specs.declared.approach.Approach.{Approach}
use Rattle.bl_proc_steps.specs.declared.approach.Approach.TheVariants as way
use Rattle.bl_proc_steps.specs.declared.approach.Approached.TheVariants as came
use Rattle.bl_proc_steps.specs.declared.edit.Outcome.{Outcome}
use Rattle.bl_proc_steps.specs.declared.edit.Outcome.TheVariants as outcome
use Rattle.bl_proc_steps.specs.declared.edit.Edit.{Edit}
use Rattle.bl_proc_steps.specs.declared.edit.Edit.TheVariants as edit
use Rattle.bl_proc_steps.specs.declared.edit.Edited.TheVariants as changed
use Rattle.bl_proc_steps.specs.declared.growth.Growth.{Growth}
use Rattle.bl_proc_steps.specs.declared.growth.Growth.TheVariants as growth
use Rattle.bl_proc_steps.specs.declared.growth.Grew.TheVariants as grew
use Rattle.bl_proc_writes.specs.declared.walking.Walk.{Walk}
use Rattle.bl_proc_writes.specs.declared.post.PostReply.{PostReply}
use Rattle.bl_proc_writes.specs.declared.post.PostReply.TheVariants as reply
use Rattle.bl_proc_writes.specs.declared.post.PostStage.{PostStage}
use Rattle.bl_proc_writes.specs.declared.post.PostStage.TheVariants as post
use Rattle.bl_proc_routes.specs.Routes.{Leads}
use Rattle.bl_proc_steps.specs.Approaches.{approach_next, Turns, Approaches}
use Rattle.bl_proc_steps.specs.Edits.{edit_next, EntersPair}
use Rattle.bl_proc_steps.specs.Growths.{growth_next, IsTop, Raises}
use Rattle.bl_page.specs.Tops.{IsAnchor}
use Rattle.bl_proc_writes.specs.Posts.{post_reply, post_next_in, PostArrives}
use Rattle.bl_proc_invariant.specs.Turns.{event_of}
use Rattle.bl_proc_invariant.specs.Logs.{Holding, HoldsParent, HoldsBoth, IsToPut, on_way, approach_log, outcome_log, edit_log, HasHalfRaised, growth_log, reply_log, post_log}
use Rattle.bl_proc_invariant.proofs.Holdings.{held_raised, held_now, held_on, parent_held_on, both_held_on, child_got, parent_got, refused_while, under, is_done, cut_low, row_together, cut_together}
use Rattle.bl_proc_deterministic.proofs.WayCases.{ApproachCase, approach_case, EditCase, edit_case, GrowthCase, growth_case}
use Rattle.bl_proc_deterministic.proofs.KindCases.{PostCase}

no_latched : (level x : ℕ) (c : Page) (o : Step) (y : ℕ) → Turns level x c o (way.Latched y) → ⊥
no_latched level x c Again y h = h
no_latched level x c (Right z) y h = h
no_latched level x c (Down z) y h = h
no_latched level x c Here y h = h

same_latched : (x y : ℕ) → way.Latched y ≡ way.Latched x → x ≡ y
same_latched x y e = cc

pub gets_nothing : (x : ℕ) (what : Seen) → writes_in (event_of None (act.Get x) what) ≡ []
gets_nothing x seen.Done = refl
gets_nothing x (seen.Words c) = refl
gets_nothing x (seen.Took n) = refl
gets_nothing x (seen.Owner retired started own) = refl
gets_nothing x (seen.Blocks it) = refl
gets_nothing x (seen.Probed free) = refl
gets_nothing x seen.Missed = refl
gets_nothing x seen.Refused = refl

-- on its way to a page a process writes nothing
pub approach_writes : (a : Approach) (what : Seen) → writes_in (event_of None (approach_next a) what) ≡ []
approach_writes way.Start what = gets_nothing 0 what
approach_writes (way.At x) what = gets_nothing x what
approach_writes (way.Latching x) seen.Done = refl
approach_writes (way.Latching x) (seen.Words c) = refl
approach_writes (way.Latching x) (seen.Took n) = refl
approach_writes (way.Latching x) (seen.Owner retired started own) = refl
approach_writes (way.Latching x) (seen.Blocks it) = refl
approach_writes (way.Latching x) (seen.Probed free) = refl
approach_writes (way.Latching x) seen.Missed = refl
approach_writes (way.Latching x) seen.Refused = refl
approach_writes (way.Latched x) what = gets_nothing x what
approach_writes (way.Leaving x to) seen.Done = refl
approach_writes (way.Leaving x to) (seen.Words c) = refl
approach_writes (way.Leaving x to) (seen.Took n) = refl
approach_writes (way.Leaving x to) (seen.Owner retired started own) = refl
approach_writes (way.Leaving x to) (seen.Blocks it) = refl
approach_writes (way.Leaving x to) (seen.Probed free) = refl
approach_writes (way.Leaving x to) seen.Missed = refl
approach_writes (way.Leaving x to) seen.Refused = refl

module _ (m : Mark) (level key : ℕ) where
  -- on the way a page is held from its latch on
  pub latched_on : {a : Approach} {y : ℕ} {what : Seen} → ApproachCase level key a what (came.On (way.Latched y)) → m.event.act ≡ event_of None (approach_next a) what → m.event.act ≡ Latch y
  latched_on (ApproachCase.Entered c _ t) did = absurd t
  latched_on (ApproachCase.Turned x c _ o l u) did = absurd (no_latched level x c o _ u)
  latched_on (ApproachCase.LatchedPage x _ t) did = did ∙ ap Latch (same_latched x _ t)
  latched_on (ApproachCase.MissedPage x _ t) did = absurd (let e = t in cc)
  latched_on (ApproachCase.OpenedFor x z _ t) did = absurd (let e = t in cc)
  latched_on (ApproachCase.OpenedLost x _ t) did = absurd (let e = t in cc)

-- A writer on its way, and one mark more.
way_off : {Off : Type 0} {Held : ℕ → Type 0} → ((x : ℕ) → Held x → Off) → (a : Approach) → on_way Off Held a → Off
way_off off way.Start h = h
way_off off (way.At x) h = h
way_off off (way.Latching x) h = h
way_off off (way.Latched x) h = off x h
way_off off (way.Leaving x to) h = h

way_to : {Off : Type 0} {Held : ℕ → Type 0} → Off → (b : Approach) → ((x : ℕ) → b ≡ way.Latched x → Held x) → on_way Off Held b
way_to first way.Start latched = first
way_to first (way.At x) latched = first
way_to first (way.Latching x) latched = first
way_to first (way.Latched x) latched = latched x refl
way_to first (way.Leaving x to) latched = first

pub way_stays : {Off Off' : Type 0} {Held Held' : ℕ → Type 0} → (Off → Off') → ((x : ℕ) → Held x → Held' x) → (a : Approach) → on_way Off Held a → on_way Off' Held' a
way_stays off held way.Start h = off h
way_stays off held (way.At x) h = off h
way_stays off held (way.Latching x) h = off h
way_stays off held (way.Latched x) h = held x h
way_stays off held (way.Leaving x to) h = off h

pub way_goes : {Off Off' : Type 0} {Held Held' : ℕ → Type 0} (m : Mark) (level key : ℕ) → ((x : ℕ) → Held x → Off) → (writes_in m.event.act ≡ [] → Off → Off') → ((x : ℕ) → m.event.act ≡ Latch x → Off → Held' x) → (a b : Approach) (what : Seen) → Approaches level key a what (came.On b) → m.event.act ≡ event_of None (approach_next a) what → on_way Off Held a → on_way Off' Held' b
way_goes m level key off on held a b what t did h =
    let was = way_off off a h in
    way_to (on (ap writes_in did ∙ approach_writes a what) was) b (λ x e. held x (latched_on m level key (approach_case level key a what _ (subst (λ z. Approaches level key a what (came.On z)) e t)) did) was)

module _ (marks : Trail) (m : Mark) (level key : ℕ) (least : 0 < level) where
  abbrev more : Trail
  more = marks ++ m ∷ []

  -- new top levels alone were written, and still are
  raised_on : writes_in m.event.act ≡ [] → HasRaised level marks → HasRaised level more
  raised_on quiet h = wrote_still marks m (RaisesOnly level) quiet h

  -- an answer goes on meaning what it meant
  pub reply_on : (r : PostReply) → writes_in m.event.act ≡ [] → reply_log level key r marks → reply_log level key r more
  reply_on (reply.Done s) quiet h = done_on marks m quiet h
  reply_on reply.Already quiet h = already_on marks m quiet h
  reply_on reply.Stale quiet h = stale_on marks m quiet h
  reply_on reply.NoRoom quiet h = no_room_on marks m quiet h
  reply_on reply.TooTall quiet h = tall_on marks m quiet h

  outcome_on : (o : Outcome) → writes_in m.event.act ≡ [] → outcome_log level key o marks → outcome_log level key o more
  outcome_on outcome.Edited quiet h = done_on marks m quiet h
  outcome_on (outcome.SplitAt s) quiet h = done_on marks m quiet h
  outcome_on outcome.Refused quiet h = no_room_on marks m quiet h

  outcome_reply : (o : Outcome) → outcome_log level key o more → reply_log level key (post_reply o) more
  outcome_reply outcome.Edited h = h
  outcome_reply (outcome.SplitAt s) h = h
  outcome_reply outcome.Refused h = h

  -- at the parent
  to_walk_on : (x : ℕ) (parent : Inner) (v : Walk) → Leads (InnerPage parent) key level Here → PostArrives key x parent (post.Walking v) → m.event.act ≡ Get x → m.saw ≡ Some (InnerPage parent) → Holding level marks x [] → post_log level key (post.Walking v) more
  to_walk_on x parent v l t did saw h =
      let unlisted : (node_of (InnerPage parent)).look key ≡ None = subst (λ (z : Inner × ℕ). (node_of (InnerPage z.0)).look z.1 ≡ None) (λ i. (t.2 i, t.1 i)) v.unlisted in
      let here : HoldsParent level key more x (InnerPage parent) [] = parent_got marks m (InnerPage parent) did saw h l.2 l.1 unlisted in
      (subst (λ (z : ℕ × Inner). HoldsParent level key more z.0 (InnerPage z.1) []) (λ i. (sym t.0 i, sym t.2 i)) here, t.1)

  listed_on : (x : ℕ) (parent : Inner) (y : ℕ) → Leads (InnerPage parent) key level Here → PostArrives key x parent (post.Staying y reply.Already) → m.event.act ≡ Get x → m.saw ≡ Some (InnerPage parent) → Holding level marks x [] → post_log level key (post.Staying y reply.Already) more
  listed_on x parent y l t did saw h = record {
    parent = record {
      at = x;
      under = under (held_on marks m [] (λ o. (let e = sym did ∙ o in cc)) (ap writes_in did) h);
      parent = InnerPage parent;
      got = got_last h.during m did saw;
      level_is = l.2;
      covers = l.1;
    };
    none = writes_of-push h.during m ∙ (ap (λ z. z ++ writes_in m.event.act) h.writes_are ∙ ap writes_in did);
    child = t.1.0;
    listed = t.1.1;
  }

  -- the anchor was put, and with it a new top level
  raised_more : (x : ℕ) (top anchor : Page) (acts : List (Act Page Reply)) → ((before : List (Act Page Reply)) × RaisesOnly level before × (acts ≡ before ++ Take x ∷ Put x top ∷ [])) → IsNewTop level x top anchor → m.event.act ≡ Put 0 anchor → RaisesOnly level (acts ++ writes_in m.event.act)
  raised_more x top anchor acts (before, raises, same) above did =
      subst (RaisesOnly level) (sym (ap (λ z. acts ++ writes_in z) did ∙ (ap (λ z. z ++ Put 0 anchor ∷ []) same ∙ append_assoc before (Take x ∷ Put x top ∷ []) (Put 0 anchor ∷ [])))) (RaisesOnly.Again x top anchor raises above)

  -- of a new top level this was written, and now one thing more
  half_more : (half : List (Act Page Reply)) → HasHalfRaised level half marks → (new : List (Act Page Reply)) → writes_in m.event.act ≡ new → HasHalfRaised level (half ++ new) more
  half_more half h new did = wrote_on marks m (λ acts is. (is.0, is.1, ap (λ z. acts ++ z) did ∙ (ap (λ z. z ++ new) is.2 ∙ append_assoc is.0 half new))) h

  top_level : (above below : ℕ) (c : Page) → IsTop above below c → (node_of c).shape.level ≡ above
  top_level above below (InnerPage i) t = t.0
  top_level above below old t = absurd t

  named_by : (leftmost : List ℕ) (x : ℕ) (c : Page) → IsAnchor (leftmost ++ x ∷ []) c → ((roots_of c).levels ≡ suc (length leftmost)) × ((roots_of c).leftmost (length leftmost) ≡ x)
  named_by leftmost x (AnchorPage a) t = (ap length t ∙ (length-append leftmost (x ∷ []) ∙ add-one (length leftmost)), ap (λ z. get_or z (length leftmost) 0) t ∙ get_or-append_seam leftmost x [] 0)
  named_by leftmost x old t = absurd t

  new_top : (leftmost : List ℕ) (x : ℕ) (top anchor : Page) → length leftmost ≡ level → Raises leftmost x top anchor → IsNewTop level x top anchor
  new_top leftmost x top anchor e t =
      let n = named_by leftmost x anchor t.1 in
      record { top_level = top_level _ _ top t.0 ∙ e; levels = n.0 ∙ ap suc e; named = ap (roots_of anchor).leftmost (sym e) ∙ n.1 }

  grow_on : {g h : Growth} {what : Seen} → GrowthCase level g what (grew.On h) → m.event.act ≡ event_of None (growth_next g) what → growth_log level g marks → growth_log level h more
  grow_on (GrowthCase.LatchedAnchor h t) did log = subst (λ z. growth_log level z more) (sym t) (held_now marks m 0 did log)
  grow_on (GrowthCase.Missed h t) did log = subst (λ z. growth_log level z more) (sym t) (raised_on (ap writes_in did) log)
  grow_on (GrowthCase.Rises c q t) did log = (held_on marks m [] (λ o. (let e = sym did ∙ o in cc)) (ap writes_in did) log, ap (λ z. (roots_of z).levels) (sym t.0) ∙ t.1)
  grow_on (GrowthCase.Stands c t) did log = raised_on (ap writes_in did) (held_raised log)
  grow_on (GrowthCase.TookTop rise n q t) did log =
      let half : HasHalfRaised level (Take n ∷ []) more = wrote_on marks m (λ acts is. (acts, is, ap (λ z. acts ++ writes_in z) did)) (held_raised log.0) in
      (subst (λ z. HasHalfRaised level (Take z ∷ []) more) (sym t.0) half, new_top rise.anchor.leftmost.items q.new q.top q.anchor log.1 (subst (λ z. Raises rise.anchor.leftmost.items z q.top q.anchor) (sym t.0) t.1))
  grow_on (GrowthCase.TopRefused rise h t) did log = subst (λ z. growth_log level z more) (sym t) (refused_while marks m did log.0)
  grow_on (GrowthCase.PutTop r h t) did log = subst (λ z. growth_log level z more) (sym t) (half_more (Take r.new ∷ []) log.0 (Put r.new r.top ∷ []) (ap writes_in did), log.1)
  grow_on (GrowthCase.PutAnchor r h t) did log = subst (λ z. growth_log level z more) (sym t) (wrote_on marks m (λ acts is. raised_more r.new r.top r.anchor acts is log.1 did) log.0)
  grow_on (GrowthCase.OpenedTop x h t) did log = subst (λ z. growth_log level z more) (sym t) (raised_on (ap writes_in did) log)

  grow_end : {g : Growth} {what : Seen} → GrowthCase level g what grew.Refused → m.event.act ≡ event_of None (growth_next g) what → growth_log level g marks → reply_log level key reply.NoRoom more
  grow_end GrowthCase.OpenedRefused did h = no_room_on marks m (ap writes_in did) h

  grown_on : {g : Growth} {what : Seen} → GrowthCase level g what grew.Grown → m.event.act ≡ event_of None (growth_next g) what → growth_log level g marks → HasRaised level more
  grown_on GrowthCase.OpenedGrown did h = raised_on (ap writes_in did) h

  -- a pair is to enter the parent
  enter_on : (x : ℕ) (c : Page) (word : ℕ) (d : Edit) → EntersPair x c key word d → HoldsBoth level key more x c word [] → edit_log level key d more
  enter_on x c word (edit.Putting y page) t h =
      let put : IsToPut level key more x [] (page ∷ []) = record { parent = c; child = word; both = h; together = row_together c page key word (fits_row c page key word 0 t.1 h.above.covers) h.above.unlisted } in
      subst (λ z. IsToPut level key more z [] (page ∷ [])) (sym t.0) put
  enter_on x c word (edit.Taking full) t h =
      (subst (λ z. HoldsBoth level key more full.at z full.word []) (sym t.3) (subst (λ z. HoldsBoth level key more full.at c z []) (sym t.2) (subst (λ z. HoldsBoth level key more z c word []) (sym t.0) h)), t.1)
  enter_on x c word old t h = absurd t

  -- on with the change of the parent
  edit_on : {c d : Edit} {what : Seen} → EditCase c what (changed.On d) → m.event.act ≡ event_of None (edit_next c) what → edit_log level key c marks → edit_log level key d more
  edit_on (EditCase.Put x page d t) did h =
      let both : HoldsBoth level key more x h.parent h.child (Put x page ∷ []) = both_held_on marks m (Put x page ∷ []) (λ o. (let e = sym did ∙ o in cc)) (ap writes_in did) h.both in
      let put : IsToPut level key more x (Put x page ∷ []) (page ∷ []) = record { parent = h.parent; child = h.child; both = both; together = h.together } in
      subst (λ z. edit_log level key z more) (sym t) (is_done None (Put x page ∷ []) (page ∷ []) put (WritesBack.Whole page))
  edit_on (EditCase.PutRefused x page d t) did h =
      subst (λ z. edit_log level key z more) (sym t) (refused_while marks m did h.both.above.holding)
  edit_on (EditCase.Took full n q t) did h =
      let both : HoldsBoth level key more full.at full.page full.word (Take n ∷ []) = both_held_on marks m (Take n ∷ []) (λ o. (let e = sym did ∙ o in cc)) (ap writes_in did) h.0 in
      let cut = split_cut full.page q.left q.right key full.word n q.separator (subst (λ z. IsFitted full.page z full.word n (Split q.left q.right q.separator)) h.1 t.2) both.above.covers in
      let put : IsToPut level key more full.at (Take n ∷ []) (q.right ∷ q.left ∷ []) = (record { parent = full.page; child = full.word; both = both; together = cut_together full.page q.left q.right n key full.word cut both.above.unlisted }) in
      (rw (t.0, t.1) put, cut_low full.page q.left q.right full.key full.word n q.separator t.2)
  edit_on (EditCase.TakeRefused full d t) did h =
      subst (λ z. edit_log level key z more) (sym t) (refused_while marks m did h.0.above.holding)
  edit_on (EditCase.PutNew p d t) did h =
      let put = h.0 in
      let both : HoldsBoth level key more p.at put.parent put.child (Take p.new ∷ Put p.new p.right ∷ []) = both_held_on marks m (Put p.new p.right ∷ []) (λ o. (let e = sym did ∙ o in cc)) (ap writes_in did) put.both in
      subst (λ z. edit_log level key z more) (sym t) (record { parent = put.parent; child = put.child; both = both; together = put.together }, h.1)
  edit_on (EditCase.PutOld p d t) did h =
      let was = h.0 in
      let both : HoldsBoth level key more p.at was.parent was.child (Take p.new ∷ Put p.new p.right ∷ Put p.at p.left ∷ []) = both_held_on marks m (Put p.at p.left ∷ []) (λ o. (let e = sym did ∙ o in cc)) (ap writes_in did) was.both in
      let put : IsToPut level key more p.at (Take p.new ∷ Put p.new p.right ∷ Put p.at p.left ∷ []) (p.right ∷ p.left ∷ []) = record { parent = was.parent; child = was.child; both = both; together = was.together } in
      subst (λ z. edit_log level key z more) (sym t) (is_done (Some p.separator) _ (p.right ∷ p.left ∷ []) put (WritesBack.Split p.new p.separator p.right p.left h.1))
  edit_on (EditCase.OpenedNew x new separator d t) did h =
      subst (λ z. edit_log level key z more) (sym t) (done_on marks m (ap writes_in did) h)

  edit_end : {c : Edit} {what : Seen} {o : Outcome} → EditCase c what (changed.Over o) → m.event.act ≡ event_of None (edit_next c) what → edit_log level key c marks → reply_log level key (post_reply o) more
  edit_end (EditCase.Opened x o last t) did h = outcome_reply last (outcome_on last (ap writes_in did) (subst (λ z. outcome_log level key z marks) (sym t) h))

  -- any step of a post
  pub post_on : {old new : PostStage} {what : Seen} → PostCase level key old what new → m.event.act ≡ event_of None (post_next_in old) what → ((x : ℕ) (c : Page) → m.event.act ≡ Get x → what ≡ seen.Words c → m.saw ≡ Some c) → post_log level key old marks → post_log level key new more
  post_on (PostCase.Began a t) did saw h = subst (λ z. approach_log level z more) (sym t) (begun_now marks m (RaisesOnly level) did RaisesOnly.Never)
  post_on (PostCase.NoLevel c t) did saw h = inl (record { first = raised_on (ap writes_in did) h; anchor = c; got = got_last marks m did (saw 0 c did refl); few = t })
  post_on (PostCase.Tallest c t) did saw h = record { last = t.1; first = raised_on (ap writes_in did) h; anchor = c; got = got_last marks m did (saw 0 c did refl); full = t.0 ∙ t.1 }
  post_on (PostCase.ToGrow c t) did saw h = raised_on (ap writes_in did) h
  post_on (PostCase.Came a what b t) did saw h = way_goes m level key (λ x k. held_raised k) raised_on (held_now marks m) a b what t did h
  post_on (PostCase.Listed x parent y l t) did saw h = listed_on x parent y l t did (saw x (InnerPage parent) did refl) h
  post_on (PostCase.ToWalk x parent v l t) did saw h = to_walk_on x parent v l t did (saw x (InnerPage parent) did refl) h
  post_on (PostCase.Grew g what k t) did saw h = grow_on (growth_case level g what _ t) did h
  post_on (PostCase.Grown g what b t) did saw h = subst (λ z. approach_log level z more) (sym t.1) (grown_on (growth_case level g what _ t.0) did h)
  post_on (PostCase.NoRoom g what last t) did saw h = subst (λ z. reply_log level key z more) (sym t.1) (grow_end (growth_case level g what _ t.0) did h)
  post_on (PostCase.Walked v c u t) did saw (h, same) =
      let on : HoldsParent level key more v.at (InnerPage v.parent) [] = parent_held_on marks m [] (λ o. (let e = sym did ∙ o in cc)) (ap writes_in did) h in
      (subst (λ z. HoldsParent level key more z (InnerPage u.parent) []) (sym t.0) (subst (λ z. HoldsParent level key more v.at (InnerPage z) []) (sym t.2) on), t.1 ∙ same)
  post_on (PostCase.Entered v c d t) did saw (h, same) =
      let l : Leads c key (level - 1) Here = subst (λ z. Leads c z (level - 1) Here) same t.0 in
      let both : HoldsBoth level key more v.at (InnerPage v.parent) v.child [] = child_got marks m v.child c did (saw v.child c did refl) h (let e = l.2 in omega (arith, least)) l.1 (t.1 ∙ same) in
      enter_on v.at (InnerPage v.parent) v.child d (subst (λ z. EntersPair v.at (InnerPage v.parent) z v.child d) same t.2) both
  post_on (PostCase.Stale v c x t) did saw (h, same) =
      let l : Leads c key (level - 1) Here = subst (λ z. Leads c z (level - 1) Here) same t.1 in
      let on = held_on marks m [] (λ o. (let e = sym did ∙ o in cc)) (ap writes_in did) h.holding in
      inr (record {
        parent = record { at = v.at; under = under on; parent = InnerPage v.parent; got = got_on h.holding.during m h.got; level_is = h.level_is; covers = h.covers };
        child = record { at = v.child; child = c; got = got_last h.holding.during m did (saw v.child c did refl); level_is = (let e = l.2 in omega (arith, least)); covers = l.1 };
        none = on.writes_are;
        low = subst (λ z. (node_of c).shape.low ≢ z) same t.2;
      })
  post_on (PostCase.Lost v c a t) did saw (h, same) = subst (λ z. approach_log level z more) (sym t.0) (raised_on (ap writes_in did) (held_raised h.holding))
  post_on (PostCase.Edited c what d t) did saw h = edit_on (edit_case c what _ t) did h
  post_on (PostCase.Finished c what last t) did saw h = subst (λ z. reply_log level key z more) (sym t.2) (edit_end (edit_case c what _ t.1) did h)
  post_on (PostCase.Opened x r last t) did saw h = subst (λ z. reply_log level key z more) (sym t) (reply_on r (ap writes_in did) h)
  post_on (PostCase.Ended r last t) did saw h = subst (λ z. reply_log level key z more) (sym t) (reply_on r (ap writes_in did) h)

  -- a mark that neither writes nor opens a page
  module _ (quiet : writes_in m.event.act ≡ []) (shut : (x : ℕ) → m.event.act ≢ Act.Open x) where
    both_stay : {x y : ℕ} {c : Page} (acts : List (Act Page Reply)) → HoldsBoth level key marks x c y acts → HoldsBoth level key more x c y acts
    both_stay {x} {y} {c} acts h = subst (λ z. HoldsBoth level key more x c y z) (append-nil acts) (both_held_on marks m [] (shut x) quiet h)

    to_put_stays : {x : ℕ} {acts : List (Act Page Reply)} {pages : List Page} → IsToPut level key marks x acts pages → IsToPut level key more x acts pages
    to_put_stays {x} {acts} {pages} h = record { parent = h.parent; child = h.child; both = both_stay acts h.both; together = h.together }

    growth_stays : (g : Growth) → growth_log level g marks → growth_log level g more
    growth_stays growth.Latching h = raised_on quiet h
    growth_stays growth.Latched h = held_on marks m [] (shut 0) quiet h
    growth_stays (growth.Taking r) h = (held_on marks m [] (shut 0) quiet h.0, h.1)
    growth_stays (growth.PuttingTop r) h = (wrote_still marks m _ quiet h.0, h.1)
    growth_stays (growth.PuttingAnchor r) h = (wrote_still marks m _ quiet h.0, h.1)
    growth_stays (growth.OpeningTop x) h = raised_on quiet h
    growth_stays growth.OpeningGrown h = raised_on quiet h
    growth_stays growth.OpeningRefused h = no_room_on marks m quiet h

    edit_stays : (c : Edit) → edit_log level key c marks → edit_log level key c more
    edit_stays (edit.Putting x page) h = to_put_stays h
    edit_stays (edit.Taking full) h = (both_stay [] h.0, h.1)
    edit_stays (edit.PuttingNew p) h = (to_put_stays h.0, h.1)
    edit_stays (edit.PuttingOld p) h = (to_put_stays h.0, h.1)
    edit_stays (edit.OpeningNew x new separator) h = done_on marks m quiet h
    edit_stays (edit.Opening x o) h = outcome_on o quiet h

    pub post_stays : (old : PostStage) → post_log level key old marks → post_log level key old more
    post_stays post.New h = tt
    post_stays (post.Coming a) h = way_stays (raised_on quiet) (λ x k. held_on marks m [] (shut x) quiet k) a h
    post_stays (post.Growing g) h = growth_stays g h
    post_stays (post.Walking v) h = (parent_held_on marks m [] (shut v.at) quiet h.0, h.1)
    post_stays (post.Editing c) h = edit_stays c h
    post_stays (post.Staying x r) h = reply_on r quiet h
    post_stays (post.Ending r) h = reply_on r quiet h
    post_stays (post.Over r) h = reply_on r quiet h
