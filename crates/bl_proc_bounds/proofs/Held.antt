-- What a process keeps by its own marks, it owns.
use Rattle.std.proofs.Common.{ℕ, ◌≡◌, ◌≢◌, ◌⊎◌, ◌==◌, ◌++◌, Bool, true, false, if◌then◌else◌, [], ◌∷◌, fold, arith, ap, sym, ◌∙◌, refl, inl, inr, subst}
use Rattle.std.proofs.lemmas.Bool.{cases_eq, false≢true}
use Rattle.bl_model.specs.declared.operation.Reply.{Reply}
use Rattle.bl_page.specs.declared.page.Page.{Page}
use Rattle.bl_page.specs.Machine.{Name, Owner, State, Act, Enabled, Changes}
use Rattle.bl_page.specs.Machine.Owner.{Released, Held, Retired}
use Rattle.bl_page.specs.Machine.Act.{Begin, End, Get, Put, Take, Latch, Retire, Look, Release, Miss}
use Rattle.bl_claims.specs.Trails.{Mark, Trail, marks_of}
use Rattle.bl_tree_worlds.proofs.Pushes.{name_cases, marks_of-own, marks_of-other}
use Rattle.bl_tree_worlds.specs.Worlds.{World, Extends}
use Rattle.bl_claims.specs.Latches.{holds_after}
use Rattle.bl_proc_bounds.specs.Latches.{AllOwned}

-- whether it keeps page y after these marks, where it did or did not before
abbrev pub holds_on : ℕ → Bool → Trail → Bool
holds_on y held marks = fold (λ (before : Bool) (m : Mark). holds_after y before m.event.act) held marks

pub holds_push : (y : ℕ) (held : Bool) (ms : Trail) (m : Mark) → holds_on y held (ms ++ m ∷ []) ≡ holds_after y (holds_on y held ms) m.event.act
holds_push y held [] m = refl
holds_push y held (d ∷ ms) m = holds_push y (holds_after y held d.event.act) ms m

-- a page that it gets, or has got before
gained : (x y : ℕ) (held : Bool) → (if x == y then true else held) ≡ true → (x ≡ y) ⊎ (held ≡ true)
gained x y held e = elim (cases_eq x y) [ inl i ↦ inl i | inr n ↦ inr (let f : (if x == y then true else held) ≡ held = grind arith in sym f ∙ e) ]

-- a page that it does not give up now, and has got before
kept : (x y : ℕ) (held : Bool) → (if x == y then false else held) ≡ true → (x ≢ y) × (held ≡ true)
kept x y held e = elim (cases_eq x y) [
  | inl i ↦ absurd (let f : (if x == y then false else held) ≡ false = grind arith in false≢true (sym f ∙ e))
  | inr n ↦ (n, (let f : (if x == y then false else held) ≡ held = grind arith in sym f ∙ e))
]

-- its own event
own_held : (s s' : State Page) (p : Name) (a : Act Page Reply) (y : ℕ) (held : Bool) → Enabled s p a → Changes s p a s' → (held ≡ true → s.owner y ≡ Held p) → holds_after y held a ≡ true → s'.owner y ≡ Held p
own_held s s' p Begin y held en c own e = c.1 y ∙ own e
own_held s s' p (End answer) y held en c own e = c.1 y ∙ own e
own_held s s' p (Get x) y held en c own e = c.1 y ∙ own e
own_held s s' p (Put x d) y held en c own e = c.1 y ∙ own e
own_held s s' p (Take x) y held en c own e = elim (cases_eq y x) [
  | inl i ↦ ap s'.owner i ∙ c.1.at
  | inr n ↦ c.1.others y n ∙ own (elim (gained x y held e) [ inl i ↦ absurd (n (sym i)) | inr h ↦ h ])
]
own_held s s' p (Latch x) y held en c own e = elim (cases_eq y x) [
  | inl i ↦ ap s'.owner i ∙ c.1.at
  | inr n ↦ c.1.others y n ∙ own (elim (gained x y held e) [ inl i ↦ absurd (n (sym i)) | inr h ↦ h ])
]
own_held s s' p (Act.Open x) y held en c own e = (let k = kept x y held e in c.1.others y (λ i. k.0 (sym i)) ∙ own k.1)
own_held s s' p (Retire x) y held en c own e = (let k = kept x y held e in c.3.1.others y (λ i. k.0 (sym i)) ∙ own k.1)
own_held s s' p (Look it) y held en c own e = c.1 y ∙ own e
own_held s s' p (Release x) y held en c own e = c.1.others y (λ i. (let v : Held p ≡ Retired en.0 = sym (own e) ∙ (ap s.owner i ∙ en.1) in cc)) ∙ own e
own_held s s' p (Miss what) y held en c own e = c.1 y ∙ own e

-- an event of another
other_held : (s s' : State Page) (p q : Name) (a : Act Page Reply) (y : ℕ) → p ≢ q → Enabled s p a → Changes s p a s' → s.owner y ≡ Held q → s'.owner y ≡ Held q
other_held s s' p q Begin y ne en c h = c.1 y ∙ h
other_held s s' p q (End answer) y ne en c h = c.1 y ∙ h
other_held s s' p q (Get x) y ne en c h = c.1 y ∙ h
other_held s s' p q (Put x d) y ne en c h = c.1 y ∙ h
other_held s s' p q (Take x) y ne en c h = c.1.others y (λ i. (let v : Held q ≡ Released = sym h ∙ (ap s.owner i ∙ en) in cc)) ∙ h
other_held s s' p q (Latch x) y ne en c h = c.1.others y (λ i. (let v : Held q ≡ Owner.Open = sym h ∙ (ap s.owner i ∙ en) in cc)) ∙ h
other_held s s' p q (Act.Open x) y ne en c h = c.1.others y (λ i. (let v : Held q ≡ Held p = sym h ∙ (ap s.owner i ∙ en) in ne cc)) ∙ h
other_held s s' p q (Retire x) y ne en c h = c.3.1.others y (λ i. (let v : Held q ≡ Held p = sym h ∙ (ap s.owner i ∙ en) in ne cc)) ∙ h
other_held s s' p q (Look it) y ne en c h = c.1 y ∙ h
other_held s s' p q (Release x) y ne en c h = c.1.others y (λ i. (let v : Held q ≡ Retired en.0 = sym h ∙ (ap s.owner i ∙ en.1) in cc)) ∙ h
other_held s s' p q (Miss what) y ne en c h = c.1 y ∙ h

pub owned_on : {P : Type 0} (w w' : World P) (m : Mark) (b : P) → Extends w w' m b → AllOwned w → AllOwned w'
owned_on w w' m b e all p y keeps = elim (name_cases m.event.process p) [
  | inl i ↦
      let marks : marks_of p w'.trail ≡ marks_of p w.trail ++ m ∷ [] = ap (marks_of p) e.trail ∙ marks_of-own p w.trail m i in
      let now : holds_after y (holds_on y false (marks_of p w.trail)) m.event.act ≡ true = sym (holds_push y false (marks_of p w.trail) m) ∙ (sym (ap (holds_on y false) marks) ∙ keeps) in
      let enabled : Enabled w.now p m.event.act = subst (λ q. Enabled w.now q m.event.act) i e.steps.enabled in
      let changes : Changes w.now p m.event.act w'.now = subst (λ q. Changes w.now q m.event.act w'.now) i e.steps.changes in
      own_held w.now w'.now p m.event.act y (holds_on y false (marks_of p w.trail)) enabled changes (all p y) now
  | inr n ↦
      let marks : marks_of p w'.trail ≡ marks_of p w.trail = ap (marks_of p) e.trail ∙ marks_of-other p w.trail m n in
      other_held w.now w'.now m.event.process p m.event.act y n e.steps.enabled e.steps.changes (all p y (sym (ap (holds_on y false) marks) ∙ keeps))
]

-- nothing has happened
pub owned_first : {P : Type 0} (w : World P) → w.trail ≡ [] → AllOwned w
owned_first w e p y keeps = absurd (false≢true (sym (ap (λ t. holds_on y false (marks_of p t)) e) ∙ keeps))
