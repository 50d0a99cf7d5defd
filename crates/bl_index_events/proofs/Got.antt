-- What a process has got of the page that it latched last, and one event more.
use Rattle.std.proofs.Common.{ℕ, zero, suc, ◌≡◌, ◌≢◌, ◌+◌, ◌++◌, ◌≤◌, [], ◌∷◌, None, Some, length, ap, sym, ◌∙◌, refl, subst, append_assoc}
use Rattle.bl_page.specs.declared.page.Page.{Page}
use Rattle.bl_page.specs.declared.page.Page.TheVariants.{Inner}
use Rattle.bl_page.specs.Machine.Act.{Get, Latch}
use Rattle.bl_claims.specs.Trails.{Mark, Trail}
use Rattle.bl_rearrange.specs.Rearranged.{pairs_of}
use Rattle.bl_proc_steps.specs.declared.acts.Seen.{Seen}
use Rattle.bl_proc_steps.specs.declared.acts.Seen.TheVariants as seen
use Rattle.bl_proc_steps.specs.declared.acts.Action.TheVariants as act
use Rattle.bl_proc_steps.specs.declared.approach.Approach.{Approach}
use Rattle.bl_proc_steps.specs.declared.approach.Approach.TheVariants as way
use Rattle.bl_proc_steps.specs.declared.approach.Approached.TheVariants as came
use Rattle.bl_proc_steps.specs.declared.edit.Edit.{Edit}
use Rattle.bl_proc_steps.specs.declared.edit.Edit.TheVariants as edit
use Rattle.bl_proc_steps.specs.declared.edit.Edited.TheVariants as changed
use Rattle.bl_proc_steps.specs.declared.growth.Growth.{Growth}
use Rattle.bl_proc_steps.specs.declared.growth.Growth.TheVariants as growth
use Rattle.bl_proc_steps.specs.declared.growth.Grew.TheVariants as grew
use Rattle.bl_proc_steps.specs.Approaches.{approach_next, Approaches}
use Rattle.bl_proc_steps.specs.Edits.{edit_next, EntersPair, DropsPair, GivesValue}
use Rattle.bl_proc_steps.specs.Growths.{growth_next}
use Rattle.bl_model.specs.declared.deciding.KeyWrite.{KeyWrite}
use Rattle.bl_model.specs.declared.deciding.Effect.{Effect}
use Rattle.bl_model.specs.declared.deciding.Effect.TheVariants.{Keep, Enter, Remove, Replace}
use Rattle.bl_model.specs.Writes.{effect_of}
use Rattle.bl_proc_writes.specs.declared.writing.Noted.{Noted}
use Rattle.bl_proc_writes.specs.declared.writing.WriteStage.{WriteStage}
use Rattle.bl_proc_writes.specs.declared.writing.WriteStage.TheVariants as write
use Rattle.bl_proc_writes.specs.declared.post.PostStage.{PostStage}
use Rattle.bl_proc_writes.specs.declared.post.PostStage.TheVariants as post
use Rattle.bl_proc_writes.specs.declared.paths.Path.{Path}
use Rattle.bl_proc_writes.specs.declared.insert_post.ClimbStage.{ClimbStage}
use Rattle.bl_proc_writes.specs.declared.insert_post.ClimbStage.TheVariants as climb
use Rattle.bl_proc_writes.specs.Paths.{page_at, from_page}
use Rattle.bl_proc_writes.specs.Stands.{Stands}
use Rattle.bl_proc_writes.specs.InsertPosts.{climb_next_in}
use Rattle.bl_proc.specs.declared.kinds.Proc.{Proc}
use Rattle.bl_proc.specs.declared.kinds.Proc.TheVariants.{Find, Write, Post, Part, Compress, Reclaim, Lower, InsertPost}
use Rattle.bl_proc_writes.specs.Writes.{write_next_in, Performs}
use Rattle.bl_proc_writes.specs.Posts.{post_next_in}
use Rattle.bl_proc.specs.Processes.{next_of, Takes}
use Rattle.bl_proc_deterministic.proofs.Following.{not_begin}
use Rattle.bl_proc_deterministic.proofs.WayCases.{approach_case, EditCase, edit_case, GrowthCase, growth_case}
use Rattle.bl_proc_deterministic.proofs.KindCases.{WriteCase, write_case, PostCase, post_case, ClimbCase, climb_case}
use Rattle.bl_proc_invariant.specs.Turns.{event_of}
use Rattle.bl_proc_invariant.specs.Knowing.{write_end, climb_end, end_of_proc}
use Rattle.bl_index_rule.proofs.Marks.{each_append}
use Rattle.bl_proc_invariant.proofs.Logging.{latched_on}
use Rattle.bl_index_events.specs.Refused.{GotLatched, GotHeld, GotAnchor}
use Rattle.bl_index_events.specs.Held.{LatchedLast, GotAt, approach_held, edit_held, growth_held, IsOfOne, IfEnters, write_held, post_held, climb_held, proc_held}
use Rattle.bl_proc_writes.specs.declared.insert_post.Placing.{Placing}

pub if_enters : (effect : Effect) {P Q R S : Type 0} → (P → Q) → (R → S) → IfEnters effect P R → IfEnters effect Q S
if_enters Keep f g p = absurd p
if_enters (Enter value) f g p = f p
if_enters Remove f g p = g p
if_enters (Replace value) f g p = g p

drops_one : (x : ℕ) (c : Page) (key : ℕ) (d : Edit) → DropsPair x c key d → IsOfOne d
drops_one x c key (edit.Putting y page) t = tt
drops_one x c key d t = absurd t

gives_one : (x : ℕ) (c : Page) (key value : ℕ) (d : Edit) → GivesValue x c key value d → IsOfOne d
gives_one x c key value (edit.Putting y page) t = tt
gives_one x c key value d t = absurd t

one_edited : {c : Edit} {what : Seen} {d : Edit} → EditCase c what (changed.On d) → IsOfOne c → IsOfOne d
one_edited (EditCase.Put x page new e) one = subst IsOfOne (sym e) tt
one_edited (EditCase.PutRefused x page new e) one = subst IsOfOne (sym e) tt
one_edited (EditCase.Took full y p t) one = absurd one
one_edited (EditCase.TakeRefused full new e) one = absurd one
one_edited (EditCase.PutNew p new e) one = absurd one
one_edited (EditCase.PutOld p new e) one = absurd one
one_edited (EditCase.OpenedNew x y separator new e) one = absurd one

-- a post that begins at a page has latched nothing
from_held : (x : ℕ) (marks : Trail) → approach_held (from_page x) marks
from_held zero marks = tt
from_held (suc x) marks = tt

module _ (marks : Trail) (m : Mark) where
  abbrev more : Trail
  more = marks ++ m ∷ []

  -- a page was latched just now
  latched_now : (x : ℕ) → m.event.act ≡ Latch x → LatchedLast more x
  latched_now x e = record { before = marks; latch = m; split = refl; latched = e }

  -- none was
  module _ (away : (x : ℕ) → m.event.act ≢ Latch x) where
    latched_still : {x : ℕ} {c : Page} → GotLatched marks x c → GotLatched more x c
    latched_still h = record {
      before = h.before;
      latch = h.latch;
      get = h.get;
      since = h.since ++ m ∷ [];
      split = ap (λ (z : Trail). z ++ m ∷ []) h.split ∙ append_assoc h.before (h.latch ∷ h.get ∷ h.since) (m ∷ []);
      latched = h.latched;
      got = h.got;
      no_more = each_append _ h.since (m ∷ []) h.no_more (away, tt);
    }

    at_still : {level key x : ℕ} {c : Page} → GotAt level key marks x c → GotAt level key more x c
    at_still h = record { got = latched_still h.got; level_is = h.level_is; covers = h.covers }

    pub held_still : {level key : ℕ} {WasSo : Page → Type 0} → GotHeld level key marks WasSo → GotHeld level key more WasSo
    held_still h = record { at = h.at; page = h.page; got = latched_still h.got; level_is = h.level_is; covers = h.covers; was = h.was }

    pub anchor_still : {level : ℕ} → GotAnchor level marks → GotAnchor level more
    anchor_still h = record { anchor = h.anchor; got = latched_still h.got; levels = h.levels }

  -- the page was got just now
  got_now : (x : ℕ) (c : Page) → m.event.act ≡ Get x → m.saw ≡ Some c → LatchedLast marks x → GotLatched more x c
  got_now x c did saw h = record {
    before = h.before;
    latch = h.latch;
    get = m;
    since = [];
    split = ap (λ (z : Trail). z ++ m ∷ []) h.split ∙ append_assoc h.before (h.latch ∷ []) (m ∷ []);
    latched = h.latched;
    got = (did, saw);
    no_more = tt;
  }

  -- on the way
  descend : (level key : ℕ) (a b : Approach) (what : Seen) → Approaches level key a what (came.On b) → m.event.act ≡ event_of None (approach_next a) what → approach_held b more
  descend level key a way.Start what t did = tt
  descend level key a (way.At x) what t did = tt
  descend level key a (way.Latching x) what t did = tt
  descend level key a (way.Latched x) what t did = latched_now x (latched_on m level key (approach_case level key a what _ t) did)
  descend level key a (way.Leaving x to) what t did = tt

  -- a pair is to enter the page
  held_as : {level key x : ℕ} {c : Page} {WasSo : Page → Type 0} → GotAt level key more x c → WasSo c → GotHeld level key more WasSo
  held_as {x = x} {c = c} h was = record { at = x; page = c; got = h.got; level_is = h.level_is; covers = h.covers; was = was }

  entering : (level key x word : ℕ) (c : Page) (d : Edit) → EntersPair x c key word d → GotAt level key more x c → edit_held level key d more
  entering level key x word c (edit.Putting y page) t h = held_as h t.1.0
  entering level key x word c (edit.Taking full) t h = held_as h (subst (λ (z : Page). 14 ≤ length (pairs_of z)) t.3 full.full)
  entering level key x word c old t h = absurd t

  editing : (level key : ℕ) {c d : Edit} {what : Seen} → EditCase c what (changed.On d) → edit_held level key d more
  editing level key (EditCase.Put x page d t) = subst (λ (z : Edit). edit_held level key z more) (sym t) tt
  editing level key (EditCase.PutRefused x page d t) = subst (λ (z : Edit). edit_held level key z more) (sym t) tt
  editing level key (EditCase.Took full y p t) = tt
  editing level key (EditCase.TakeRefused full d t) = subst (λ (z : Edit). edit_held level key z more) (sym t) tt
  editing level key (EditCase.PutNew p d t) = subst (λ (z : Edit). edit_held level key z more) (sym t) tt
  editing level key (EditCase.PutOld p d t) = subst (λ (z : Edit). edit_held level key z more) (sym t) tt
  editing level key (EditCase.OpenedNew x y separator d t) = subst (λ (z : Edit). edit_held level key z more) (sym t) tt

  -- a write
  changing : (key : ℕ) (effect : Effect) (x : ℕ) (c : Page) (d : Edit) → Performs effect x c key d → GotAt 0 key more x c → IfEnters effect (edit_held 0 key d more) (IsOfOne d)
  changing key Keep x c d t h = absurd t
  changing key (Enter value) x c d t h = entering 0 key x value c d t h
  changing key Remove x c d t h = drops_one x c key d t
  changing key (Replace value) x c d t h = gives_one x c key value d t

  writing : {key : ℕ} {does : KeyWrite} {old new : WriteStage} {what : Seen} → WriteCase key does old what new → m.event.act ≡ event_of (write_end does old) (write_next_in old) what → ((x : ℕ) (c : Page) → m.event.act ≡ Get x → what ≡ seen.Words c → m.saw ≡ Some c) → write_held key does old marks → write_held key does new more
  writing (WriteCase.Began a t) did saw h = subst (λ (z : Approach). approach_held z more) (sym t) tt
  writing {key = key} (WriteCase.Came a what b t) did saw h = descend 0 key a b what t did
  writing (WriteCase.Kept x c y there l t) did saw h = tt
  writing {key = key} {does = does} (WriteCase.Changed x c noted d l t) did saw h = changing key (effect_of does noted.there) x c d t.1 (record { got = got_now x c did (saw x c did refl) h; level_is = l.2; covers = l.1 })
  writing (WriteCase.Opened x there last t) did saw h = tt
  writing {key = key} {does = does} (WriteCase.Edited noted c what same d t) did saw h =
      subst (λ (z : Noted). IfEnters (effect_of does z.there) (edit_held 0 key d more) (IsOfOne d)) (sym t.0) (if_enters (effect_of does noted.there) (λ e. editing 0 key (edit_case c what _ t.1)) (one_edited (edit_case c what _ t.1)) h)
  writing (WriteCase.Finished noted c what last t) did saw h = tt
  writing (WriteCase.Ended r last t) did saw h = tt

  -- a post
  growing : (level : ℕ) {g k : Growth} {what : Seen} → GrowthCase level g what (grew.On k) → m.event.act ≡ event_of None (growth_next g) what → ((x : ℕ) (c : Page) → m.event.act ≡ Get x → what ≡ seen.Words c → m.saw ≡ Some c) → growth_held level g marks → growth_held level k more
  growing level (GrowthCase.LatchedAnchor k t) did saw h = subst (λ (z : Growth). growth_held level z more) (sym t) (latched_now 0 did)
  growing level (GrowthCase.Missed k t) did saw h = subst (λ (z : Growth). growth_held level z more) (sym t) tt
  growing level (GrowthCase.Rises c rise t) did saw h = record { anchor = c; got = got_now 0 c did (saw 0 c did refl) h; levels = t.1 }
  growing level (GrowthCase.Stands c t) did saw h = tt
  growing level (GrowthCase.TookTop rise y r t) did saw h = tt
  growing level (GrowthCase.TopRefused rise k t) did saw h = subst (λ (z : Growth). growth_held level z more) (sym t) tt
  growing level (GrowthCase.PutTop r k t) did saw h = subst (λ (z : Growth). growth_held level z more) (sym t) tt
  growing level (GrowthCase.PutAnchor r k t) did saw h = subst (λ (z : Growth). growth_held level z more) (sym t) tt
  growing level (GrowthCase.OpenedTop x k t) did saw h = subst (λ (z : Growth). growth_held level z more) (sym t) tt

  posting : {level key : ℕ} {old new : PostStage} {what : Seen} → PostCase level key old what new → m.event.act ≡ event_of None (post_next_in old) what → ((x : ℕ) (c : Page) → m.event.act ≡ Get x → what ≡ seen.Words c → m.saw ≡ Some c) → post_held level key old marks → post_held level key new more
  posting (PostCase.Began a t) did saw h = subst (λ (z : Approach). approach_held z more) (sym t) tt
  posting (PostCase.NoLevel c t) did saw h = tt
  posting (PostCase.Tallest c t) did saw h = tt
  posting (PostCase.ToGrow c t) did saw h = tt
  posting {level = level} {key = key} (PostCase.Came a what b t) did saw h = descend level key a b what t did
  posting (PostCase.Listed x parent y l t) did saw h = tt
  posting {level = level} {key = key} (PostCase.ToWalk x parent v l t) did saw h =
      let here : GotAt level key more x (Inner parent) = record { got = got_now x (Inner parent) did (saw x (Inner parent) did refl) h; level_is = l.2; covers = l.1 } in
      (t.1, subst (λ (z : ℕ × Page). GotAt level key more z.0 z.1) (λ i. (sym t.0 i, Inner (sym t.2 i))) here)
  posting {level = level} (PostCase.Grew g what k t) did saw h = growing level (growth_case level g what _ t) did saw h
  posting (PostCase.Grown g what a t) did saw h = subst (λ (z : Approach). approach_held z more) (sym t.1) tt
  posting (PostCase.NoRoom g what last t) did saw h = tt
  posting {level = level} {key = key} (PostCase.Walked v c u t) did saw (same, got) =
      (t.1 ∙ same, subst (λ (z : ℕ × Page). GotAt level key more z.0 z.1) (λ i. (sym t.0 i, Inner (sym t.2 i))) (at_still (λ z l. (let e = sym did ∙ l in cc)) got))
  posting {level = level} {key = key} (PostCase.Entered v c d t) did saw (same, got) =
      entering level key v.at v.child (Inner v.parent) d (subst (λ (z : ℕ). EntersPair v.at (Inner v.parent) z v.child d) same t.2) (at_still (λ z l. (let e = sym did ∙ l in cc)) got)
  posting (PostCase.Stale v c x t) did saw h = tt
  posting (PostCase.Lost v c a t) did saw h = subst (λ (z : Approach). approach_held z more) (sym t.0) tt
  posting {level = level} {key = key} (PostCase.Edited c what d t) did saw h = editing level key (edit_case c what _ t)
  posting (PostCase.Finished c what last t) did saw h = tt
  posting (PostCase.Opened x r last t) did saw h = tt
  posting (PostCase.Ended r last t) did saw h = tt

  -- an insertion that posts: its write, and then a post on each level
  climbing : (key : ℕ) (placing : Placing) (old path : Path) {a b : ClimbStage} {what : Seen} → ClimbCase path a what b → Stands key placing old a → m.event.act ≡ event_of (climb_end placing a) (climb_next_in a) what → ((x : ℕ) (c : Page) → m.event.act ≡ Get x → what ≡ seen.Words c → m.saw ≡ Some c) → climb_held a marks → climb_held b more
  climbing key placing old path {what = what} (ClimbCase.Wrote w _ v h t) stands did saw held =
      let by = subst (λ (d : KeyWrite). m.event.act ≡ event_of (write_end d w.stage) (write_next_in w.stage) what) (sym stands.1) did in
      subst (λ (z : ℕ × KeyWrite). write_held z.0 z.1 v.stage more) (λ i. (sym t.0 i, sym t.1 i)) (writing h by saw held)
  climbing key placing old path (ClimbCase.Split w what there level separator q h t) stands did saw held = subst (λ (z : PostStage). post_held q.level q.key z more) (sym t.2) (from_held (page_at path level) more)
  climbing key placing old path (ClimbCase.Unsplit w what r last h t) stands did saw held = tt
  climbing key placing old path (ClimbCase.Posted p what q h t) stands did saw held = subst (λ (z : ℕ × ℕ). post_held z.0 z.1 q.stage more) (λ i. (sym t.0 i, sym t.1 i)) (posting h did saw held)
  climbing key placing old path (ClimbCase.Higher p what separator q h t) stands did saw held = subst (λ (z : PostStage). post_held q.level q.key z more) (sym t.2) (from_held (page_at path (p.level + 1)) more)
  climbing key placing old path (ClimbCase.Finished p what r last h t) stands did saw held = tt
  climbing key placing old path (ClimbCase.Ended r last t) stands did saw held = tt

-- A turn of a process of any kind.
pub held_turn : (old new : Proc) (what : Seen) (marks : Trail) (m : Mark) → Takes old what new → m.event.act ≡ event_of (end_of_proc old) (next_of old) what → ((x : ℕ) (c : Page) → m.event.act ≡ Get x → what ≡ seen.Words c → m.saw ≡ Some c) → proc_held old marks → proc_held new (marks ++ m ∷ [])
held_turn (Write a) (Write c) what marks m t did saw h = subst (λ (z : ℕ × KeyWrite). write_held z.0 z.1 c.stage (marks ++ m ∷ [])) (λ i. (sym t.0 i, sym t.1 i)) (writing marks m (write_case a.key a.write a.stage what c.stage t.2) did saw h)
held_turn (Post a) (Post c) what marks m t did saw h = subst (λ (z : ℕ × ℕ). post_held z.0 z.1 c.stage (marks ++ m ∷ [])) (λ i. (sym t.0 i, sym t.1 i)) (posting marks m (post_case a.level a.key a.stage what c.stage t.2) did saw h)
held_turn (InsertPost a) (InsertPost c) what marks m t did saw h = climbing marks m a.key a.placing a.path c.path (climb_case c.path a.stage what c.stage t.3) a.stands did saw h
held_turn old (Find c) what marks m t did saw h = tt
held_turn old (Part c) what marks m t did saw h = tt
held_turn old (Compress c) what marks m t did saw h = tt
held_turn old (Reclaim c) what marks m t did saw h = tt
held_turn old (Lower c) what marks m t did saw h = tt
held_turn old new what marks m t did saw h = absurd t

-- One that is to begin has latched nothing.
waiting_way : (a : Approach) → approach_next a ≡ act.Begin → (marks : Trail) → approach_held a marks
waiting_way way.Start e marks = tt
waiting_way (way.At x) e marks = tt
waiting_way (way.Latching x) e marks = tt
waiting_way (way.Latched x) e marks = absurd (let f : act.Get x ≡ act.Begin = e in cc)
waiting_way (way.Leaving x to) e marks = tt

waiting_edit : (level key : ℕ) (c : Edit) → edit_next c ≡ act.Begin → (marks : Trail) → edit_held level key c marks
waiting_edit level key (edit.Putting x page) e marks = absurd (let f : act.Put x page ≡ act.Begin = e in cc)
waiting_edit level key (edit.Taking full) e marks = absurd (let f : act.Take ≡ act.Begin = e in cc)
waiting_edit level key (edit.PuttingNew p) e marks = tt
waiting_edit level key (edit.PuttingOld p) e marks = tt
waiting_edit level key (edit.OpeningNew x new separator) e marks = tt
waiting_edit level key (edit.Opening x o) e marks = tt

waiting_growth : (level : ℕ) (g : Growth) → growth_next g ≡ act.Begin → (marks : Trail) → growth_held level g marks
waiting_growth level growth.Latched e marks = absurd (let f : act.Get 0 ≡ act.Begin = e in cc)
waiting_growth level (growth.Taking rise) e marks = absurd (let f : act.Take ≡ act.Begin = e in cc)
waiting_growth level growth.Latching e marks = tt
waiting_growth level (growth.PuttingTop r) e marks = tt
waiting_growth level (growth.PuttingAnchor r) e marks = tt
waiting_growth level (growth.OpeningTop x) e marks = tt
waiting_growth level growth.OpeningGrown e marks = tt
waiting_growth level growth.OpeningRefused e marks = tt

waiting_write : (key : ℕ) (does : KeyWrite) (a : WriteStage) → write_next_in a ≡ act.Begin → (marks : Trail) → write_held key does a marks
waiting_write key does write.New e marks = tt
waiting_write key does (write.Coming a) e marks = waiting_way a e marks
waiting_write key does (write.Keeping x there) e marks = tt
waiting_write key does (write.Editing noted c) e marks = absurd (not_begin c e)
waiting_write key does (write.Ending r) e marks = tt
waiting_write key does (write.Over r) e marks = tt

waiting_post : (level key : ℕ) (a : PostStage) → post_next_in a ≡ act.Begin → (marks : Trail) → post_held level key a marks
waiting_post level key post.New e marks = tt
waiting_post level key (post.Coming a) e marks = waiting_way a e marks
waiting_post level key (post.Growing g) e marks = waiting_growth level g e marks
waiting_post level key (post.Walking w) e marks = absurd (let f : act.Get w.child ≡ act.Begin = e in cc)
waiting_post level key (post.Editing c) e marks = waiting_edit level key c e marks
waiting_post level key (post.Staying x r) e marks = tt
waiting_post level key (post.Ending r) e marks = tt
waiting_post level key (post.Over r) e marks = tt

waiting_climb : (a : ClimbStage) → climb_next_in a ≡ act.Begin → (marks : Trail) → climb_held a marks
waiting_climb (climb.Writing w) e marks = waiting_write w.key w.write w.stage e marks
waiting_climb (climb.Posting p) e marks = waiting_post p.level p.key p.stage e marks
waiting_climb (climb.Ending r) e marks = tt
waiting_climb (climb.Over r) e marks = tt

pub waiting_held : (p : Proc) → next_of p ≡ act.Begin → (marks : Trail) → proc_held p marks
waiting_held (Find p) e marks = tt
waiting_held (Write p) e marks = waiting_write p.key p.write p.stage e marks
waiting_held (Post p) e marks = waiting_post p.level p.key p.stage e marks
waiting_held (Part p) e marks = tt
waiting_held (Compress p) e marks = tt
waiting_held (Reclaim p) e marks = tt
waiting_held (Lower p) e marks = tt
waiting_held (InsertPost p) e marks = waiting_climb p.stage e marks
