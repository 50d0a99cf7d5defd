-- What a hand was refused that found no room, from one event of its process to the next.
use Rattle.std.proofs.Common.{ℕ, List, Option, ◌≡◌, ◌≢◌, None, Some, inl, inr, refl, sym, ap, subst, ◌∙◌}
use Rattle.atomic_table.specs.declared.shared.Seat.{Seat}
use Rattle.bl_model.specs.declared.deciding.KeyWrite.{KeyWrite}
use Rattle.bl_model.specs.declared.deciding.Effect.{Effect}
use Rattle.bl_model.specs.declared.deciding.Effect.TheVariants.{Keep, Enter, Remove, Replace}
use Rattle.bl_model.specs.Writes.{effect_of}
use Rattle.bl_proc_steps.specs.declared.acts.Action.TheVariants as act
use Rattle.bl_proc_steps.specs.declared.acts.Seen.{Seen}
use Rattle.bl_proc_steps.specs.declared.acts.Seen.TheVariants as seen
use Rattle.bl_page.specs.declared.page.Page.{Page}
use Rattle.bl_proc.specs.declared.kinds.Proc.{Proc}
use Rattle.bl_proc.specs.Processes.{next_of, needs_of, Takes}
use Rattle.bl_proc_deterministic.specs.Refusals.{IsRefused, PutsRefused}
use Rattle.bl_proc_deterministic.proofs.RefusedTurns.{takes_refused, takes_puts}
use Rattle.bl_proc_deterministic.proofs.RefusedNexts.{refused_opens, may_ask, may_ask_on}
use Rattle.bl_store_rule.specs.declared.view.View.{View}
use Rattle.bl_layout.specs.declared.layout.Layout.{Layout}
use Rattle.bl_store.specs.Hands.{known, IsWhyOf, WasRefused, IsSameRefusal}
use Rattle.bl_index_rule.specs.declared.known.PassState.{PassState}
use Rattle.bl_proc_steps.specs.declared.edit.Edit.TheVariants as edit
use Rattle.bl_proc_steps.specs.declared.edit.Outcome.{Outcome}
use Rattle.bl_proc_steps.specs.declared.edit.Outcome.TheVariants as outcome
use Rattle.bl_proc_writes.specs.declared.post.PostReply.TheVariants as reply
use Rattle.bl_proc_writes.specs.declared.post.Post.{Post}
use Rattle.bl_proc_writes.specs.declared.insert_post.InsertPost.{InsertPost}
use Rattle.bl_proc_writes.specs.declared.insert_post.Climbed.{Climbed}
use Rattle.bl_proc_writes.specs.declared.insert_post.Climbed.TheVariants as climbed
use Rattle.bl_proc_writes.specs.declared.insert_post.ClimbStage.{ClimbStage}
use Rattle.bl_proc_writes.specs.declared.insert_post.ClimbStage.TheVariants as climb
use Rattle.bl_proc.specs.declared.kinds.Proc.TheVariants as proc
use Rattle.bl_proc.specs.declared.lowering.Lower.{Lower}
use Rattle.bl_proc_writes.specs.declared.writing.Noted.{Noted}
use Rattle.bl_proc_writes.specs.declared.writing.WriteReply.TheVariants.{Done, NoRoom}
use Rattle.bl_proc_writes.specs.Writes.{write_reply}
use Rattle.bl_answers.specs.Hints.{post_hint}
use Rattle.bl_answers.specs.Thin.{thin_hint}
use Rattle.bl_proc_writes.specs.Posts.{post_reply}
use Rattle.bl_index_events.specs.Refused.{GotHeld, LacksForEffect}
use Rattle.bl_index_events.specs.Held.{HasRoom, IsFull, own_marks, KeepsLatch, IsOfOne, IfEnters, edit_held, proc_held, AsksForPage, AsksForWrite, AsksForPost, AsksWhen, AsksForClimb, AsksFor}
use Rattle.bl_index_events.specs.Rooms.{LacksPage, LacksWrite, LacksPost, LacksAsked, TellsRoom}
use Rattle.bl_index_events.specs.Runs.{Moves}
use Rattle.bl_index_events.proofs.Held.{goes_keeps, keeps_held}
use Rattle.bl_index_events.proofs.Asked.{asks_on, asks_keep, asks_observed}
use Rattle.bl_proc_writes.specs.declared.insert_post.Placing.{Placing}
use Rattle.bl_proc_writes.specs.Placings.{write_of}

abbrev H : Type 0
H = Seat (Unit {0}) (View PassState)

-- the hand has not reserved since, so what it was refused it still is
pub refused_on : (h h' : H) (pages frames : ℕ) → IsSameRefusal h h' → WasRefused h pages frames → WasRefused h' pages frames
refused_on h h' pages frames same was = (same.1.0 ∙ was.0, (was.1.0, subst (λ (v : Layout × List ℕ × List ℕ). IsWhyOf v.0 v.1 v.2 pages frames was.1.0) (λ i. (sym same.0 i, sym same.1.1 i, sym same.1.2 i)) was.1.1))

pub tells_done : (h h' : H) (p : Proc) → ((x : ℕ) → next_of p ≡ act.Open x → IsSameRefusal h h') → TellsRoom h h' p seen.Done
tells_done h h' p same = ((λ e. absurd (let f : seen.Done ≡ seen.Refused = e in cc)), same)

pub tells_missed : (h h' : H) (p : Proc) (x : ℕ) → next_of p ≡ act.Latch x → TellsRoom h h' p seen.Missed
tells_missed h h' p x next = ((λ e. absurd (let f : seen.Missed ≡ seen.Refused = e in cc)), λ y opens. absurd (let f : act.Latch x ≡ act.Open y = sym next ∙ opens in cc))

pub tells_words : (h h' : H) (p : Proc) (x : ℕ) (c : Page) → next_of p ≡ act.Get x → TellsRoom h h' p (seen.Words c)
tells_words h h' p x c next = ((λ e. absurd (let f : seen.Words c ≡ seen.Refused = e in cc)), λ y opens. absurd (let f : act.Get x ≡ act.Open y = sym next ∙ opens in cc))

pub tells_took : (h h' : H) (p : Proc) (y : ℕ) → next_of p ≡ act.Take → TellsRoom h h' p (seen.Took y)
tells_took h h' p y next = ((λ e. absurd (let f : seen.Took y ≡ seen.Refused = e in cc)), λ z opens. absurd (let f : act.Take ≡ act.Open z = sym next ∙ opens in cc))

pub tells_refused : (h h' : H) (p : Proc) (ask : ℕ × ℕ) → ((x : ℕ) → next_of p ≢ act.Open x) → needs_of p ≡ Some ask → WasRefused h' ask.0 ask.1 → TellsRoom h h' p seen.Refused
tells_refused h h' p ask not needs was = ((λ e. (ask, needs, was)), λ x opens. absurd (not x opens))

pub latch_opens_not : (p : Proc) (x : ℕ) → next_of p ≡ act.Latch x → (y : ℕ) → next_of p ≢ act.Open y
latch_opens_not p x next y opens = (let f : act.Latch x ≡ act.Open y = sym next ∙ opens in cc)

pub put_opens_not : (p : Proc) (x : ℕ) (c : Page) → next_of p ≡ act.Put x c → (y : ℕ) → next_of p ≢ act.Open y
put_opens_not p x c next y opens = (let f : act.Put x c ≡ act.Open y = sym next ∙ opens in cc)

pub take_opens_not : (p : Proc) → next_of p ≡ act.Take → (y : ℕ) → next_of p ≢ act.Open y
take_opens_not p next y opens = (let f : act.Take ≡ act.Open y = sym next ∙ opens in cc)

pub retire_opens_not : (p : Proc) (x : ℕ) → next_of p ≡ act.Retire x → (y : ℕ) → next_of p ≢ act.Open y
retire_opens_not p x next y opens = (let f : act.Retire x ≡ act.Open y = sym next ∙ opens in cc)

-- A process that goes on without room was refused what it had asked for.
abbrev pub KeepsRoom : H → Proc → Type 0
KeepsRoom h p = (IsRefused p → LacksAsked h p) × (PutsRefused p → ⊥)

pub keeps_room : (h h' : H) (p : Proc) (what : Seen) (q : Proc) → (known h).state ≡ p → proc_held p (own_marks (known h)) → Moves (known h) (known h') → Takes p what q → TellsRoom h h' p what → next_of p ≢ act.End → KeepsRoom h p → KeepsRoom h' q
keeps_room h h' p what q is held moves takes tells going keeps = (
  (λ r. elim (takes_refused p what q takes r) [
    | inl was ↦ elim (refused_opens p was keeps.1) [
      | inl opens ↦
          let lacks = keeps.0 was in
          let latch = goes_keeps moves.0 (known h) (known h') moves.1 (λ x l. (let f : act.Open opens.0 ≡ act.Latch x = sym opens.1 ∙ (ap next_of (sym is) ∙ l) in cc)) in
          (lacks.0, may_ask_on p what q lacks.0 takes lacks.1, refused_on h h' _ _ (tells.1 opens.0 opens.1) lacks.2, asks_on p what q lacks.0 (own_marks (known h')) takes r (asks_keep p lacks.0 (known h) (known h') latch lacks.3))
      | inr end ↦ absurd (going end)
    ]
    | inr observed ↦
        let asked = tells.0 observed in
        (asked.0, may_ask_on p what q asked.0 takes (may_ask p asked.0 asked.1), asked.2, asks_on p what q asked.0 (own_marks (known h')) takes r (asks_observed p asked.0 (known h) (known h') moves.0 is asked.1 held moves.1))
  ]),
  λ r. keeps.1 (takes_puts p what q takes r),
)

-- nothing has happened
pub stays_room : (h h' : H) (p q : Proc) → q ≡ p → IsSameRefusal h h' → known h' ≡ known h → KeepsRoom h p → KeepsRoom h' q
stays_room h h' p q is same still keeps = subst (KeepsRoom h') (sym is) ((λ r. let lacks = keeps.0 r in (lacks.0, lacks.1, refused_on h h' _ _ same lacks.2, subst (λ (d : PassState). AsksFor p lacks.0 (own_marks d)) (sym still) lacks.3)), keeps.1)

-- and it ends so
pub ends_room : (h h' : H) (p q : Proc) → Takes p seen.Done q → IsSameRefusal h h' → KeepsLatch (known h) (known h') → KeepsRoom h p → IsRefused q → LacksAsked h' q
ends_room h h' p q takes same latch keeps r = elim (takes_refused p seen.Done q takes r) [
  | inl was ↦ let lacks = keeps.0 was in (lacks.0, may_ask_on p seen.Done q lacks.0 takes lacks.1, refused_on h h' _ _ same lacks.2, asks_on p seen.Done q lacks.0 (own_marks (known h')) takes r (asks_keep p lacks.0 (known h) (known h') latch lacks.3))
  | inr observed ↦ absurd (let f : seen.Done ≡ seen.Refused = observed in cc)
]

-- By what a hand lacks
pub lacks_on : (level key : ℕ) (h h' : H) → IsSameRefusal h h' → KeepsLatch (known h) (known h') → LacksPage level key h → LacksPage level key h'
lacks_on level key h h' same latch lacks = elim lacks [
  | inl one ↦ inl (refused_on h h' 0 1 same one.0, keeps_held level key HasRoom (known h) (known h') latch one.1)
  | inr two ↦ inr (refused_on h h' 1 2 same two.0, keeps_held level key IsFull (known h) (known h') latch two.1)
]

-- for a frame, where its leaf was to be put
lacks_put : (effect : Effect) (key at : ℕ) (p : Page) (d : PassState) (h : H) → IfEnters effect (edit_held 0 key (edit.Putting at p) (own_marks d)) (IsOfOne (edit.Putting at p)) → KeepsLatch d (known h) → WasRefused h 0 1 → LacksForEffect effect key (own_marks (known h)) (WasRefused h)
lacks_put Keep key at p d h held latch was = absurd held
lacks_put (Enter value) key at p d h held latch was = inl (was, keeps_held 0 key HasRoom d (known h) latch held)
lacks_put Remove key at p d h held latch was = was
lacks_put (Replace value) key at p d h held latch was = was

pub lacks_frame : (key : ℕ) (does : KeyWrite) (there : Option ℕ) (at : ℕ) (p : Page) (d : PassState) (h : H) → IfEnters (effect_of does there) (edit_held 0 key (edit.Putting at p) (own_marks d)) (IsOfOne (edit.Putting at p)) → KeepsLatch d (known h) → WasRefused h 0 1 → LacksWrite key does h
lacks_frame key does there at p d h held latch was = (there, lacks_put (effect_of does there) key at p d h held latch was)

-- for a page and two frames, where it was to be split
pub lacks_split : (key : ℕ) (does : KeyWrite) (value : ℕ) (h : H) → effect_of does None ≡ Enter value → WasRefused h 1 2 → GotHeld 0 key (own_marks (known h)) IsFull → LacksWrite key does h
lacks_split key does value h e was got = (None, subst (λ (z : Effect). LacksForEffect z key (own_marks (known h)) (WasRefused h)) (sym e) (inr (was, got)))

-- by what was asked for the page that it held
lacks_page : (level key : ℕ) (ask : ℕ × ℕ) (h : H) → WasRefused h ask.0 ask.1 → AsksForPage level key ask (own_marks (known h)) → LacksPage level key h
lacks_page level key ask h was asks = elim asks [
  | inl one ↦ inl (subst (λ (z : ℕ × ℕ). WasRefused h z.0 z.1) one.0 was, one.1)
  | inr two ↦ inr (subst (λ (z : ℕ × ℕ). WasRefused h z.0 z.1) two.0 was, two.1)
]

lacks_post : (level key : ℕ) (ask : ℕ × ℕ) (h : H) → WasRefused h ask.0 ask.1 → AsksForPost level key ask (own_marks (known h)) → LacksPost level key h
lacks_post level key ask h was asks = elim asks [
  | inl page ↦ inl (lacks_page level key ask h was page)
  | inr top ↦ inr (subst (λ (z : ℕ × ℕ). WasRefused h z.0 z.1) top.0 was, top.1)
]

pub lacks_asked : (h : H) (p : Post) → LacksAsked h (proc.Post p) → LacksPost p.level p.key h
lacks_asked h p lacks = lacks_post p.level p.key lacks.0 h lacks.2 lacks.3

-- a write, by what it asked for
lacks_effect : (e : Effect) (key : ℕ) (ask : ℕ × ℕ) (h : H) → WasRefused h ask.0 ask.1 → IfEnters e (AsksForPage 0 key ask (own_marks (known h))) (ask ≡ (0, 1)) → LacksForEffect e key (own_marks (known h)) (WasRefused h)
lacks_effect Keep key ask h was asks = absurd asks
lacks_effect (Enter value) key ask h was asks = lacks_page 0 key ask h was asks
lacks_effect Remove key ask h was asks = subst (λ (z : ℕ × ℕ). WasRefused h z.0 z.1) asks was
lacks_effect (Replace value) key ask h was asks = subst (λ (z : ℕ × ℕ). WasRefused h z.0 z.1) asks was

pub lacks_write : (key : ℕ) (does : KeyWrite) (ask : ℕ × ℕ) (h : H) → WasRefused h ask.0 ask.1 → AsksForWrite key does ask (own_marks (known h)) → LacksWrite key does h
lacks_write key does ask h was (there, asks) = (there, lacks_effect (effect_of does there) key ask h was asks)

-- a write with its posts, by what became of it
abbrev pub LacksClimb : H → ℕ → Placing → Climbed → Type 0
LacksClimb h key placing (climbed.Unsplit r) = LacksWrite key (write_of placing) h
LacksClimb h key placing (climbed.Posted level separator r) = LacksPost level separator h

lacks_when : (h : H) (key : ℕ) (placing : Placing) (r : Climbed) (ask : ℕ × ℕ) → WasRefused h ask.0 ask.1 → AsksWhen key placing r ask (own_marks (known h)) → LacksClimb h key placing r
lacks_when h key placing (climbed.Unsplit r) ask was asks = lacks_write key (write_of placing) ask h was asks
lacks_when h key placing (climbed.Posted level separator r) ask was asks = lacks_post level separator ask h was asks

pub lacks_climb : (h : H) (p : InsertPost) (r : Climbed) → p.stage ≡ climb.Over r → LacksAsked h (proc.InsertPost p) → LacksClimb h p.key p.placing r
lacks_climb h p r is lacks = lacks_when h p.key p.placing r lacks.0 lacks.2 (subst (λ (z : ClimbStage). AsksForClimb p.key p.placing z lacks.0 (own_marks (known h))) is lacks.3)

pub lacks_two : (h : H) (p : Lower) → LacksAsked h (proc.Lower p) → WasRefused h 0 2
lacks_two h p lacks = subst (λ (z : ℕ × ℕ). WasRefused h z.0 z.1) lacks.1 lacks.2

pub reply_refused : (o : Outcome) → post_reply o ≡ reply.NoRoom → o ≡ outcome.Refused
reply_refused outcome.Edited e = absurd (let f : reply.Done None ≡ reply.NoRoom = e in cc)
reply_refused (outcome.SplitAt k) e = absurd (let f : reply.Done (Some k) ≡ reply.NoRoom = e in cc)
reply_refused outcome.Refused e = refl

pub words_not_refused : (c : Page) → seen.Words c ≡ seen.Refused → ⊥
words_not_refused c e = (let f : seen.Words c ≡ seen.Refused = e in cc)

pub done_not_refused : seen.Done ≡ seen.Refused → ⊥
done_not_refused e = (let f : seen.Done ≡ seen.Refused = e in cc)

pub write_refused : (noted : Noted) (o : Outcome) → write_reply noted o ≡ NoRoom → o ≡ outcome.Refused
write_refused noted outcome.Edited e = absurd (let f : Done noted.there (thin_hint 1 noted.thin) ≡ NoRoom = e in cc)
write_refused noted (outcome.SplitAt k) e = absurd (let f : Done noted.there (post_hint 1 (Some k)) ≡ NoRoom = e in cc)
write_refused noted outcome.Refused e = refl
