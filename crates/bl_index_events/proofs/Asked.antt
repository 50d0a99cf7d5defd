-- What a process asks for, by the page that it holds.
use Rattle.std.proofs.Common.{ℕ, ◌≡◌, ◌≢◌, None, Some, inl, inr, sym, ap, subst, ◌∙◌}
use Rattle.bl_claims.specs.Trails.{Trail}
use Rattle.bl_proc_steps.specs.declared.acts.Action.TheVariants as act
use Rattle.bl_proc_steps.specs.declared.acts.Seen.{Seen}
use Rattle.bl_proc_steps.specs.declared.edit.Edit.{Edit}
use Rattle.bl_proc_steps.specs.declared.edit.Edit.TheVariants as edit
use Rattle.bl_proc_steps.specs.declared.growth.Growth.{Growth}
use Rattle.bl_proc_steps.specs.declared.growth.Growth.TheVariants as growth
use Rattle.bl_proc_steps.specs.Edits.{edit_next, edit_needs}
use Rattle.bl_proc_steps.specs.Growths.{growth_next, growth_needs}
use Rattle.bl_model.specs.declared.deciding.KeyWrite.{KeyWrite}
use Rattle.bl_model.specs.Writes.{effect_of}
use Rattle.bl_proc_writes.specs.declared.writing.WriteStage.{WriteStage}
use Rattle.bl_proc_writes.specs.declared.writing.WriteStage.TheVariants as write
use Rattle.bl_proc_writes.specs.declared.post.Post.{Post as PostIs}
use Rattle.bl_proc_writes.specs.declared.post.PostStage.{PostStage}
use Rattle.bl_proc_writes.specs.declared.post.PostStage.TheVariants as post
use Rattle.bl_proc_writes.specs.declared.paths.Path.{Path}
use Rattle.bl_proc_writes.specs.declared.insert_post.Climbed.{Climbed}
use Rattle.bl_proc_writes.specs.declared.insert_post.Climbed.TheVariants as climbed
use Rattle.bl_proc_writes.specs.declared.insert_post.ClimbStage.{ClimbStage}
use Rattle.bl_proc_writes.specs.declared.insert_post.ClimbStage.TheVariants as climb
use Rattle.bl_proc.specs.declared.kinds.Proc.{Proc}
use Rattle.bl_proc.specs.declared.kinds.Proc.TheVariants.{Find, Write, Post, Part, Compress, Reclaim, Lower, InsertPost}
use Rattle.bl_proc_writes.specs.Writes.{write_next_in, write_needs_in}
use Rattle.bl_proc_writes.specs.Posts.{post_next_in, post_needs_in}
use Rattle.bl_proc_writes.specs.Stands.{Stands}
use Rattle.bl_proc_writes.specs.InsertPosts.{climb_next_in, climb_needs_in}
use Rattle.bl_proc.specs.Processes.{next_of, needs_of, Takes}
use Rattle.bl_proc_deterministic.specs.Refusals.{PostRefused, ClimbRefused, IsRefused}
use Rattle.bl_proc_deterministic.proofs.KindCases.{ClimbCase, climb_case}
use Rattle.bl_index_rule.specs.declared.known.PassState.{PassState}
use Rattle.bl_index_rule.specs.Observed.{Goes}
use Rattle.bl_index_events.specs.Refused.{GotAnchor}
use Rattle.bl_index_events.specs.Held.{HasRoom, IsFull, own_marks, KeepsLatch, IsOfOne, edit_held, growth_held, write_held, post_held, climb_held, proc_held, AsksForPage, AsksForWrite, AsksForPost, AsksWhen, AsksForClimb, AsksFor}
use Rattle.bl_index_events.proofs.Held.{goes_keeps, keeps_held, keeps_anchor}
use Rattle.bl_index_events.proofs.Got.{if_enters}
use Rattle.bl_proc_writes.specs.declared.insert_post.Placing.{Placing}
use Rattle.bl_proc_writes.specs.Placings.{write_of}

same_ask : {a b : ℕ × ℕ} → Some a ≡ Some b → b ≡ a
same_ask {a} {b} e = (let f : b ≡ a = cc in f)

no_ask : {X : Type 0} {b : ℕ × ℕ} → None ≡ Some b → X
no_ask {b = b} e = absurd (let f : None ≡ Some b = e in cc)

-- it asks for what the page takes that it holds
edit_asks : (level key : ℕ) (c : Edit) (ask : ℕ × ℕ) (marks : Trail) → edit_needs c ≡ Some ask → edit_held level key c marks → AsksForPage level key ask marks
edit_asks level key (edit.Putting x page) ask marks e held = inl (same_ask e, held)
edit_asks level key (edit.Taking full) ask marks e held = inr (same_ask e, held)
edit_asks level key (edit.PuttingNew p) ask marks e held = no_ask e
edit_asks level key (edit.PuttingOld p) ask marks e held = no_ask e
edit_asks level key (edit.OpeningNew x new separator) ask marks e held = no_ask e
edit_asks level key (edit.Opening x o) ask marks e held = no_ask e

growth_asks : (level : ℕ) (g : Growth) (ask : ℕ × ℕ) (marks : Trail) → growth_needs g ≡ Some ask → growth_held level g marks → (ask ≡ (1, 2)) × GotAnchor level marks
growth_asks level growth.Latching ask marks e held = no_ask e
growth_asks level growth.Latched ask marks e held = no_ask e
growth_asks level (growth.Taking rise) ask marks e held = (same_ask e, held)
growth_asks level (growth.PuttingTop r) ask marks e held = no_ask e
growth_asks level (growth.PuttingAnchor r) ask marks e held = no_ask e
growth_asks level (growth.OpeningTop x) ask marks e held = no_ask e
growth_asks level growth.OpeningGrown ask marks e held = no_ask e
growth_asks level growth.OpeningRefused ask marks e held = no_ask e

edit_asked : (c : Edit) (ask : ℕ × ℕ) → edit_needs c ≡ Some ask → IsOfOne c → ask ≡ (0, 1)
edit_asked (edit.Putting x page) ask e one = same_ask e
edit_asked (edit.Taking full) ask e one = absurd one
edit_asked (edit.PuttingNew p) ask e one = absurd one
edit_asked (edit.PuttingOld p) ask e one = absurd one
edit_asked (edit.OpeningNew x new separator) ask e one = absurd one
edit_asked (edit.Opening x o) ask e one = no_ask e

write_asks : (key : ℕ) (does : KeyWrite) (a : WriteStage) (ask : ℕ × ℕ) (marks : Trail) → write_needs_in a ≡ Some ask → write_held key does a marks → AsksForWrite key does ask marks
write_asks key does (write.Editing noted c) ask marks e held = (noted.there, if_enters (effect_of does noted.there) (edit_asks 0 key c ask marks e) (edit_asked c ask e) held)
write_asks key does write.New ask marks e held = no_ask e
write_asks key does (write.Coming a) ask marks e held = no_ask e
write_asks key does (write.Keeping x there) ask marks e held = no_ask e
write_asks key does (write.Ending r) ask marks e held = no_ask e
write_asks key does (write.Over r) ask marks e held = no_ask e

post_asks : (p : PostIs) (ask : ℕ × ℕ) (marks : Trail) → needs_of (Post p) ≡ Some ask → proc_held (Post p) marks → AsksFor (Post p) ask marks
post_asks p ask marks e held = by p.stage e held
  where
    by : (a : PostStage) → post_needs_in a ≡ Some ask → post_held p.level p.key a marks → AsksFor (Post p) ask marks
    by post.New e held = no_ask e
    by (post.Coming a) e held = no_ask e
    by (post.Growing g) e held = inr (growth_asks p.level g ask marks e held)
    by (post.Walking w) e held = no_ask e
    by (post.Editing c) e held = inl (edit_asks p.level p.key c ask marks e held)
    by (post.Staying x r) e held = no_ask e
    by (post.Ending r) e held = no_ask e
    by (post.Over r) e held = no_ask e

-- where it asks it latches nothing
edit_away : (c : Edit) (x : ℕ) → edit_next c ≢ act.Latch x
edit_away (edit.Putting y page) x e = cc
edit_away (edit.Taking full) x e = cc
edit_away (edit.PuttingNew p) x e = cc
edit_away (edit.PuttingOld p) x e = cc
edit_away (edit.OpeningNew y new separator) x e = cc
edit_away (edit.Opening y o) x e = cc

growth_away : (g : Growth) (ask : ℕ × ℕ) → growth_needs g ≡ Some ask → (x : ℕ) → growth_next g ≢ act.Latch x
growth_away growth.Latching ask needs x e = no_ask needs
growth_away growth.Latched ask needs x e = cc
growth_away (growth.Taking rise) ask needs x e = cc
growth_away (growth.PuttingTop r) ask needs x e = cc
growth_away (growth.PuttingAnchor r) ask needs x e = cc
growth_away (growth.OpeningTop y) ask needs x e = cc
growth_away growth.OpeningGrown ask needs x e = cc
growth_away growth.OpeningRefused ask needs x e = cc

write_away : (a : WriteStage) (ask : ℕ × ℕ) → write_needs_in a ≡ Some ask → (x : ℕ) → write_next_in a ≢ act.Latch x
write_away write.New ask needs x e = cc
write_away (write.Coming a) ask needs x e = no_ask needs
write_away (write.Keeping y there) ask needs x e = cc
write_away (write.Editing noted c) ask needs x e = edit_away c x e
write_away (write.Ending r) ask needs x e = cc
write_away (write.Over r) ask needs x e = cc

post_away : (a : PostStage) (ask : ℕ × ℕ) → post_needs_in a ≡ Some ask → (x : ℕ) → post_next_in a ≢ act.Latch x
post_away post.New ask needs x e = cc
post_away (post.Coming a) ask needs x e = no_ask needs
post_away (post.Growing g) ask needs x e = growth_away g ask needs x e
post_away (post.Walking w) ask needs x e = cc
post_away (post.Editing c) ask needs x e = edit_away c x e
post_away (post.Staying y r) ask needs x e = cc
post_away (post.Ending r) ask needs x e = cc
post_away (post.Over r) ask needs x e = cc

climb_asks : (key : ℕ) (placing : Placing) (a : ClimbStage) (ask : ℕ × ℕ) (marks : Trail) → climb_needs_in a ≡ Some ask → climb_held a marks → AsksForClimb key placing a ask marks
climb_asks key placing (climb.Writing w) ask marks e held = write_asks w.key w.write w.stage ask marks e held
climb_asks key placing (climb.Posting p) ask marks e held = post_asks p ask marks e held
climb_asks key placing (climb.Ending r) ask marks e held = no_ask e
climb_asks key placing (climb.Over r) ask marks e held = no_ask e

climb_away : (a : ClimbStage) (ask : ℕ × ℕ) → climb_needs_in a ≡ Some ask → (x : ℕ) → climb_next_in a ≢ act.Latch x
climb_away (climb.Writing w) ask needs x e = write_away w.stage ask needs x e
climb_away (climb.Posting p) ask needs x e = post_away p.stage ask needs x e
climb_away (climb.Ending r) ask needs x e = no_ask needs
climb_away (climb.Over r) ask needs x e = no_ask needs

-- that page stays the one that it latched last
page_keeps : (level key : ℕ) (ask : ℕ × ℕ) (d e : PassState) → KeepsLatch d e → AsksForPage level key ask (own_marks d) → AsksForPage level key ask (own_marks e)
page_keeps level key ask d e latch asks = elim asks [
  | inl one ↦ inl (one.0, keeps_held level key HasRoom d e latch one.1)
  | inr two ↦ inr (two.0, keeps_held level key IsFull d e latch two.1)
]

write_keeps : (key : ℕ) (does : KeyWrite) (ask : ℕ × ℕ) (d e : PassState) → KeepsLatch d e → AsksForWrite key does ask (own_marks d) → AsksForWrite key does ask (own_marks e)
write_keeps key does ask d e latch asks = (asks.0, if_enters (effect_of does asks.0) (page_keeps 0 key ask d e latch) (λ one. one) asks.1)

post_keeps : (level key : ℕ) (ask : ℕ × ℕ) (d e : PassState) → KeepsLatch d e → AsksForPost level key ask (own_marks d) → AsksForPost level key ask (own_marks e)
post_keeps level key ask d e latch asks = elim asks [
  | inl page ↦ inl (page_keeps level key ask d e latch page)
  | inr top ↦ inr (top.0, keeps_anchor level d e latch top.1)
]

when_keeps : (key : ℕ) (placing : Placing) (r : Climbed) (ask : ℕ × ℕ) (d e : PassState) → KeepsLatch d e → AsksWhen key placing r ask (own_marks d) → AsksWhen key placing r ask (own_marks e)
when_keeps key placing (climbed.Unsplit r) ask d e latch asks = write_keeps key (write_of placing) ask d e latch asks
when_keeps key placing (climbed.Posted level separator r) ask d e latch asks = post_keeps level separator ask d e latch asks

climb_keeps : (key : ℕ) (placing : Placing) (a : ClimbStage) (ask : ℕ × ℕ) (d e : PassState) → KeepsLatch d e → AsksForClimb key placing a ask (own_marks d) → AsksForClimb key placing a ask (own_marks e)
climb_keeps key placing (climb.Writing w) ask d e latch asks = write_keeps w.key w.write ask d e latch asks
climb_keeps key placing (climb.Posting p) ask d e latch asks = post_keeps p.level p.key ask d e latch asks
climb_keeps key placing (climb.Ending r) ask d e latch asks = when_keeps key placing r ask d e latch asks
climb_keeps key placing (climb.Over r) ask d e latch asks = when_keeps key placing r ask d e latch asks

pub asks_keep : (p : Proc) (ask : ℕ × ℕ) (d e : PassState) → KeepsLatch d e → AsksFor p ask (own_marks d) → AsksFor p ask (own_marks e)
asks_keep (Find p) ask d e latch asks = tt
asks_keep (Write p) ask d e latch asks = write_keeps p.key p.write ask d e latch asks
asks_keep (Post p) ask d e latch asks = post_keeps p.level p.key ask d e latch asks
asks_keep (Part p) ask d e latch asks = tt
asks_keep (Compress p) ask d e latch asks = tt
asks_keep (Reclaim p) ask d e latch asks = tt
asks_keep (Lower p) ask d e latch asks = tt
asks_keep (InsertPost p) ask d e latch asks = climb_keeps p.key p.placing p.stage ask d e latch asks

-- by the event at which it was refused
pub asks_observed : (p : Proc) (ask : ℕ × ℕ) (d e : PassState) (what : Seen) → d.state ≡ p → needs_of p ≡ Some ask → proc_held p (own_marks d) → Goes what d e → AsksFor p ask (own_marks e)
asks_observed (Find p) ask d e what is needs held goes = tt
asks_observed (Write p) ask d e what is needs held goes = asks_keep (Write p) ask d e (goes_keeps what d e goes (λ x l. write_away p.stage ask needs x (ap next_of (sym is) ∙ l))) (write_asks p.key p.write p.stage ask (own_marks d) needs held)
asks_observed (Post p) ask d e what is needs held goes = asks_keep (Post p) ask d e (goes_keeps what d e goes (λ x l. post_away p.stage ask needs x (ap next_of (sym is) ∙ l))) (post_asks p ask (own_marks d) needs held)
asks_observed (Part p) ask d e what is needs held goes = tt
asks_observed (Compress p) ask d e what is needs held goes = tt
asks_observed (Reclaim p) ask d e what is needs held goes = tt
asks_observed (Lower p) ask d e what is needs held goes = tt
asks_observed (InsertPost p) ask d e what is needs held goes = asks_keep (InsertPost p) ask d e (goes_keeps what d e goes (λ x l. climb_away p.stage ask needs x (ap next_of (sym is) ∙ l))) (climb_asks p.key p.placing p.stage ask (own_marks d) needs held)

-- An insertion that goes on without room does not post what it has split.
climb_on : (key : ℕ) (placing : Placing) (old path : Path) {a b : ClimbStage} {what : Seen} (ask : ℕ × ℕ) (marks : Trail) → ClimbCase path a what b → Stands key placing old a → ClimbRefused b → AsksForClimb key placing a ask marks → AsksForClimb key placing b ask marks
climb_on key placing old path ask marks (ClimbCase.Wrote w what v h t) stands refused asks = subst (λ (z : ℕ × KeyWrite). AsksForWrite z.0 z.1 ask marks) (λ i. (sym t.0 i, sym t.1 i)) asks
climb_on key placing old path ask marks (ClimbCase.Split w what there level separator q h t) stands refused asks = absurd (subst PostRefused t.2 refused)
climb_on key placing old path ask marks (ClimbCase.Unsplit w what r last h t) stands refused asks =
    subst (λ (z : Climbed). AsksWhen key placing z ask marks) (sym t.1) (subst (λ (z : ℕ × KeyWrite). AsksForWrite z.0 z.1 ask marks) (λ i. (stands.0 i, stands.1 i)) asks)
climb_on key placing old path ask marks (ClimbCase.Posted p what q h t) stands refused asks = subst (λ (z : ℕ × ℕ). AsksForPost z.0 z.1 ask marks) (λ i. (sym t.0 i, sym t.1 i)) asks
climb_on key placing old path ask marks (ClimbCase.Higher p what separator q h t) stands refused asks = absurd (subst PostRefused t.2 refused)
climb_on key placing old path ask marks (ClimbCase.Finished p what r last h t) stands refused asks = subst (λ (z : Climbed). AsksWhen key placing z ask marks) (sym t.1) asks
climb_on key placing old path ask marks (ClimbCase.Ended r last t) stands refused asks = subst (λ (z : Climbed). AsksWhen key placing z ask marks) (sym t) asks

-- the process goes on
pub asks_on : (p : Proc) (what : Seen) (q : Proc) (ask : ℕ × ℕ) (marks : Trail) → Takes p what q → IsRefused q → AsksFor p ask marks → AsksFor q ask marks
asks_on (Write p) what (Write q) ask marks t refused asks = subst (λ (z : ℕ × KeyWrite). AsksForWrite z.0 z.1 ask marks) (λ i. (sym t.0 i, sym t.1 i)) asks
asks_on (InsertPost p) what (InsertPost q) ask marks t refused asks =
    subst (λ (z : ℕ × Placing). AsksForClimb z.0 z.1 q.stage ask marks) (λ i. (sym t.0 i, sym t.1 i)) (climb_on p.key p.placing p.path q.path ask marks (climb_case q.path p.stage what q.stage t.3) p.stands refused asks)
asks_on (Post p) what (Post q) ask marks t refused asks = elim asks [
  | inl page ↦ inl (subst (λ (z : ℕ × ℕ). AsksForPage z.0 z.1 ask marks) (λ i. (sym t.0 i, sym t.1 i)) page)
  | inr top ↦ inr (top.0, subst (λ (k : ℕ). GotAnchor k marks) (sym t.0) top.1)
]
asks_on old what (Find q) ask marks t refused asks = tt
asks_on old what (Part q) ask marks t refused asks = tt
asks_on old what (Compress q) ask marks t refused asks = tt
asks_on old what (Reclaim q) ask marks t refused asks = tt
asks_on old what (Lower q) ask marks t refused asks = tt
asks_on old what new ask marks t refused asks = absurd t
