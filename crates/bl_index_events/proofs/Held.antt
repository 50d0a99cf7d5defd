-- What a process has got of the page that it latched last, by its pass's events.
use Rattle.std.proofs.Common.{ℕ, if◌then◌else◌, ◌≡◌, ◌≢◌, ◌+◌, ◌++◌, Option, None, List, [], ◌∷◌, ap, sym, ◌∙◌, subst, append_assoc, append-nil}
use Rattle.bl_model.specs.declared.deciding.KeyWrite.{KeyWrite}
use Rattle.bl_model.specs.declared.deciding.Effect.{Effect}
use Rattle.bl_model.specs.declared.deciding.Effect.TheVariants.{Enter}
use Rattle.bl_model.specs.declared.operation.Reply.{Reply}
use Rattle.bl_model.specs.Writes.{effect_of}
use Rattle.bl_page.specs.declared.page.Page.{Page}
use Rattle.bl_page.specs.Machine.{Name, Act}
use Rattle.bl_page.specs.Machine.Act.{Latch}
use Rattle.bl_claims.specs.Trails.{Mark, Trail, same_name, marks_of}
use Rattle.bl_claims.specs.Walks.{Each}
use Rattle.bl_claims.specs.Seeing.{AreElse, name}
use Rattle.bl_tree_worlds.proofs.Frames.{Each-map}
use Rattle.bl_tree_worlds.proofs.Pushes.{marks_of-own}
use Rattle.bl_proc_steps.specs.declared.acts.Action.{Action}
use Rattle.bl_proc_steps.specs.declared.acts.Action.TheVariants as act
use Rattle.bl_proc_steps.specs.declared.acts.Seen.{Seen}
use Rattle.bl_proc_steps.specs.declared.acts.Seen.TheVariants as seen
use Rattle.bl_proc_steps.specs.declared.edit.Edit.{Edit}
use Rattle.bl_proc.specs.declared.kinds.Proc.{Proc}
use Rattle.bl_proc.specs.Processes.{next_of}
use Rattle.bl_proc_invariant.specs.Turns.{event_of}
use Rattle.bl_proc_invariant.specs.Knowing.{end_of_proc}
use Rattle.bl_index_rule.specs.declared.known.PassState.{PassState}
use Rattle.bl_index_rule.specs.Observed.{Notes, Begins, Goes, Finishes}
use Rattle.bl_index_rule.proofs.Marks.{no_marks}
use Rattle.bl_index_events.specs.Refused.{GotHeld, GotAnchor}
use Rattle.bl_index_events.specs.Held.{own_marks, KeepsLatch, edit_held, IsOfOne, IfEnters, proc_held}
use Rattle.bl_index_events.proofs.Got.{held_still, anchor_still, held_turn, waiting_held}

-- events of other passes
marks_past : (p : Name) (xs ys : Trail) → AreElse p.pass ys → marks_of p (xs ++ ys) ≡ marks_of p xs
marks_past p [] ys h = no_marks p ys (Each-map _ _ ys (λ (m : Mark) (ne : m.event.process.pass ≢ p.pass) (e : m.event.process ≡ p). ne (ap (λ (n : Name). n.pass) e)) h)
marks_past p (m ∷ ms) ys h = ap (λ (z : Trail). if same_name m.event.process p then m ∷ z else z) (marks_past p ms ys h)

-- one event of the process
pub own_noted : (by count : ℕ) (act : Act Page Reply) (d e : PassState) (n : Notes by count act d e) → own_marks e ≡ marks_of (name by count) d.trail ++ n.last ∷ []
own_noted by count act d e n =
    let p : Name = name by count in
    let named : own_marks e ≡ marks_of p e.trail = ap (λ (z : Name). marks_of z e.trail) (λ i. name (n.pass i) (n.number i)) in
    let apart : e.trail ≡ (d.trail ++ n.between) ++ n.last ∷ [] = n.trail ∙ sym (append_assoc d.trail n.between (n.last ∷ [])) in
    let last : marks_of p ((d.trail ++ n.between) ++ n.last ∷ []) ≡ marks_of p (d.trail ++ n.between) ++ n.last ∷ [] = marks_of-own p (d.trail ++ n.between) n.last (ap (λ v. v.process) n.event) in
    named ∙ (ap (marks_of p) apart ∙ (last ∙ ap (λ (z : Trail). z ++ n.last ∷ []) (marks_past p d.trail n.between n.others)))

-- a turn of it
pub goes_held : (what : Seen) (d e : PassState) → Goes what d e → proc_held d.state (own_marks d) → proc_held e.state (own_marks e)
goes_held what d e goes held =
    let n = goes.steps.notes in
    let did : n.last.event.act ≡ event_of (end_of_proc d.state) (next_of d.state) what = ap (λ v. v.act) n.event in
    let on : proc_held goes.course.new (own_marks d ++ n.last ∷ []) = held_turn d.state goes.course.new what (own_marks d) n.last goes.course.takes did (λ x c act observed. goes.saw x c (sym did ∙ act) observed) held in
    subst (λ (z : Proc × Trail). proc_held z.0 z.1) (λ i. (sym goes.state i, sym (own_noted d.pass d.number _ d e n) i)) on

-- its begin
pub begins_held : (pass pages passes : ℕ) (process : Proc) (d e : PassState) → Begins pass pages passes process d e → next_of process ≡ act.Begin → proc_held e.state (own_marks e)
begins_held pass pages passes process d e observed next =
    let n = observed.notes in
    let marks : Trail = marks_of (name pass (d.number + 1)) d.trail in
    let did : n.last.event.act ≡ Act.Begin = ap (λ v. v.act) n.event in
    let action : event_of (end_of_proc process) (next_of process) seen.Done ≡ Act.Begin = ap (λ (a : Action). event_of (end_of_proc process) a seen.Done) next in
    let on : proc_held observed.course.new (marks ++ n.last ∷ []) = held_turn process observed.course.new seen.Done marks n.last observed.course.takes (did ∙ sym action) (λ x c get words. absurd (let f : seen.Done ≡ seen.Words c = words in cc)) (waiting_held process next marks) in
    subst (λ (z : Proc × Trail). proc_held z.0 z.1) (λ i. (sym observed.state i, sym (own_noted pass (d.number + 1) Act.Begin d e n) i)) on

-- an event latches where the action does
latch_next : (reply : Option Reply) (a : Action) (what : Seen) (x : ℕ) → event_of reply a what ≡ Latch x → a ≡ act.Latch x
latch_next reply act.Begin seen.Done x e = absurd (let f = e in cc)
latch_next reply act.End seen.Done x e = absurd (let f = e in cc)
latch_next reply (act.Get y) (seen.Words c) x e = absurd (let f = e in cc)
latch_next reply (act.Put y d) seen.Done x e = absurd (let f = e in cc)
latch_next reply (act.Latch y) seen.Done x e = ap act.Latch (let f = e in cc)
latch_next reply act.Take (seen.Took y) x e = absurd (let f = e in cc)
latch_next reply (act.Open y) seen.Done x e = absurd (let f = e in cc)
latch_next reply (act.Retire y) seen.Done x e = absurd (let f = e in cc)
latch_next reply (act.Look y) (seen.Blocks it) x e = absurd (let f = e in cc)
latch_next reply (act.See y) (seen.Owner retired started own) x e = absurd (let f = e in cc)
latch_next reply (act.Probe y) (seen.Probed free) x e = absurd (let f = e in cc)
latch_next reply (act.Release y) seen.Done x e = absurd (let f = e in cc)
latch_next reply a what x e = absurd (let f = e in cc)

-- a turn in which it latches nothing
pub goes_keeps : (what : Seen) (d e : PassState) → Goes what d e → ((x : ℕ) → next_of d.state ≢ act.Latch x) → KeepsLatch d e
goes_keeps what d e goes away =
    let n = goes.steps.notes in
    (n.last ∷ [], own_noted d.pass d.number _ d e n, ((λ x l. away x (latch_next (end_of_proc d.state) (next_of d.state) what x (sym (ap (λ v. v.act) n.event) ∙ l))), tt))

-- its end
pub ends_keeps : (answer : Option Reply) (d e : PassState) → Finishes answer d e → KeepsLatch d e
ends_keeps answer d e observed =
    let n = observed.notes in
    (n.last ∷ [], own_noted d.pass d.number (Act.End answer) d e n, ((λ x l. (let f : Act.End answer ≡ Latch x = sym (ap (λ v. v.act) n.event) ∙ l in cc)), tt))

each_both : {A : Type 0} (P : A → Type 0) (xs ys : List A) → Each P xs → Each P ys → Each P (xs ++ ys)
each_both P [] ys h k = k
each_both P (x ∷ xs) ys h k = (h.0, each_both P xs ys h.1 k)

pub keeps_both : (d e f : PassState) → KeepsLatch d e → KeepsLatch e f → KeepsLatch d f
keeps_both d e f one two = (one.0 ++ two.0, two.1 ∙ (ap (λ (z : Trail). z ++ two.0) one.1 ∙ append_assoc (own_marks d) one.0 two.0), each_both _ one.0 two.0 one.2 two.2)

-- the page that it got stays the one that it latched last
held_more : {level key : ℕ} {WasSo : Page → Type 0} (marks more : Trail) → Each (λ (m : Mark). (x : ℕ) → m.event.act ≢ Latch x) more → GotHeld level key marks WasSo → GotHeld level key (marks ++ more) WasSo
held_more {level} {key} {WasSo} marks [] h got = subst (λ (z : Trail). GotHeld level key z WasSo) (sym (append-nil marks)) got
held_more {level} {key} {WasSo} marks (m ∷ ms) h got = subst (λ (z : Trail). GotHeld level key z WasSo) (append_assoc marks (m ∷ []) ms) (held_more (marks ++ m ∷ []) ms h.1 (held_still marks m h.0 got))

anchor_more : {level : ℕ} (marks more : Trail) → Each (λ (m : Mark). (x : ℕ) → m.event.act ≢ Latch x) more → GotAnchor level marks → GotAnchor level (marks ++ more)
anchor_more {level} marks [] h got = subst (GotAnchor level) (sym (append-nil marks)) got
anchor_more {level} marks (m ∷ ms) h got = subst (GotAnchor level) (append_assoc marks (m ∷ []) ms) (anchor_more (marks ++ m ∷ []) ms h.1 (anchor_still marks m h.0 got))

pub keeps_held : (level key : ℕ) (WasSo : Page → Type 0) (d e : PassState) → KeepsLatch d e → GotHeld level key (own_marks d) WasSo → GotHeld level key (own_marks e) WasSo
keeps_held level key WasSo d e keeps got = subst (λ (z : Trail). GotHeld level key z WasSo) (sym keeps.1) (held_more (own_marks d) keeps.0 keeps.2 got)

pub keeps_anchor : (level : ℕ) (d e : PassState) → KeepsLatch d e → GotAnchor level (own_marks d) → GotAnchor level (own_marks e)
keeps_anchor level d e keeps got = subst (GotAnchor level) (sym keeps.1) (anchor_more (own_marks d) keeps.0 keeps.2 got)

-- a put, a take and an open latch nothing
pub put_latches_not : (d : PassState) (p : Proc) (x : ℕ) (c : Page) → d.state ≡ p → next_of p ≡ act.Put x c → (y : ℕ) → next_of d.state ≢ act.Latch y
put_latches_not d p x c is next y latches = (let f : act.Put x c ≡ act.Latch y = sym next ∙ (ap next_of (sym is) ∙ latches) in cc)

pub take_latches_not : (d : PassState) (p : Proc) → d.state ≡ p → next_of p ≡ act.Take → (y : ℕ) → next_of d.state ≢ act.Latch y
take_latches_not d p is next y latches = (let f : act.Take ≡ act.Latch y = sym next ∙ (ap next_of (sym is) ∙ latches) in cc)

pub open_latches_not : (d : PassState) (x : ℕ) → next_of d.state ≡ act.Open x → (y : ℕ) → next_of d.state ≢ act.Latch y
open_latches_not d x next y latches = (let f : act.Open x ≡ act.Latch y = sym next ∙ latches in cc)

-- where a pair enters
pub enters_held : (key : ℕ) (does : KeyWrite) (value : ℕ) (c : Edit) (marks : Trail) → effect_of does None ≡ Enter value → IfEnters (effect_of does None) (edit_held 0 key c marks) (IsOfOne c) → edit_held 0 key c marks
enters_held key does value c marks e held = subst (λ (z : Effect). IfEnters z (edit_held 0 key c marks) (IsOfOne c)) e held
