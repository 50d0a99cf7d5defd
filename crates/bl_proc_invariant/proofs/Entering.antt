-- At the page of its level that covers its key, under its latch: what a process knows when it begins to change the page.
use Rattle.std.proofs.Common.{ℕ, ◌≡◌, Option, Some, None, ap, sym, ◌∙◌, refl, subst, inl}
use Rattle.bl_model.specs.declared.deciding.Effect.{Effect}
use Rattle.bl_model.specs.declared.deciding.Effect.TheVariants.{Keep, Enter, Remove, Replace}
use Rattle.bl_model.specs.Writes.{effected, MayHave}
use Rattle.bl_page.specs.declared.page.Page.{Page}
use Rattle.bl_page.specs.Machine.{Name, Act}
use Rattle.bl_page.specs.Machine.Owner.{Held}
use Rattle.bl_tree.specs.Trees.Status.{Live}
use Rattle.bl_claims.specs.Trails.{HasSaid}
use Rattle.bl_tree_worlds.proofs.Pushes.{HasSaid-silent}
use Rattle.bl_tree_worlds.specs.Worlds.{Stage, World, IsStage, IsGoes, IsRelied, HoldsPage}
use Rattle.bl_claims.specs.Walks.{Each}
use Rattle.bl_tree_worlds.proofs.Watches.{Learns}
use Rattle.bl_tree_worlds.proofs.Fitted.{fits_row, without_row, value_row}
use Rattle.bl_proc_steps.specs.declared.edit.Edit.{Edit}
use Rattle.bl_proc_steps.specs.declared.edit.Edit.TheVariants.{Putting, Taking, PuttingNew, PuttingOld, OpeningNew, Opening}
use Rattle.bl_proc_steps.specs.Edits.{EntersPair, DropsPair, GivesValue}
use Rattle.bl_proc_writes.specs.Writes.{Performs}
use Rattle.bl_proc_invariant.specs.Tables.{Aim, IsDue, know_edit}

-- What it has of page x, which is c, when a change of it begins.
pub record Begun {P : Type 0} (w w' : World P) (p : Name) (aim : Aim) (x : ℕ) (c : Page) : Type 0 where
  pub stage : IsStage Stage.Busy (w.now.phase p)
  pub said : HasSaid w.trail p aim.carried.said
  pub goes : Each (IsGoes w p) aim.carried.goes
  pub held : w'.now.owner x ≡ Held p
  pub live : w.status x ≡ Live
  pub is : w.now.contents x ≡ c
  pub due : IsDue aim c
  pub children : Each (λ k. (w'.now.owner k.parent ≡ Held p) × IsRelied w p k) (aim.children x)

pub enters_learns : {P : Type 0} (w w' : World P) (p : Name) (a : Act Page _) (saw : Option Page) (aim : Aim) (x word : ℕ) (c : Page) (edit : Edit) → Begun w w' p aim x c → aim.word ≡ Some word → aim.was ≡ None → EntersPair x c aim.key word edit → Learns w w' (record { event = record { process = p; act = a }; saw = saw; said = None }) (know_edit aim (λ z. c) edit)
enters_learns w w' p a saw aim x word c (Putting y page) h is none e = record {
  stage = h.stage;
  said = HasSaid-silent w.trail (record { event = record { process = p; act = a }; saw = saw; said = None }) p aim.carried.said refl h.said;
  holds = ((ap w'.now.owner e.0 ∙ h.held, ap w.status e.0 ∙ h.live, tt, ap w.now.contents e.0 ∙ h.is), tt);
  goes = h.goes;
  children = subst (λ z. Each (λ k. (w'.now.owner k.parent ≡ Held p) × IsRelied w p k) (aim.children z)) (sym e.0) h.children;
  passed = tt;
  sound = (h.due, rw is (fits_row c page aim.key word 0 e.1 h.due.covers));
}
enters_learns w w' p a saw aim x word c (Taking full) h is none e = record {
  stage = h.stage;
  said = HasSaid-silent w.trail (record { event = record { process = p; act = a }; saw = saw; said = None }) p aim.carried.said refl h.said;
  holds = ((ap w'.now.owner e.0 ∙ h.held, ap w.status e.0 ∙ h.live, tt, ap w.now.contents e.0 ∙ (h.is ∙ sym e.3)), tt);
  goes = h.goes;
  children = subst (λ z. Each (λ k. (w'.now.owner k.parent ≡ Held p) × IsRelied w p k) (aim.children z)) (sym e.0) h.children;
  passed = tt;
  sound = (rw e.3 h.due, e.1, ap Some e.2 ∙ sym is, sym e.3, none);
}
enters_learns w w' p a saw aim x word c (PuttingNew t) h is none e = absurd e
enters_learns w w' p a saw aim x word c (PuttingOld t) h is none e = absurd e
enters_learns w w' p a saw aim x word c (OpeningNew y z s) h is none e = absurd e
enters_learns w w' p a saw aim x word c (Opening y o) h is none e = absurd e

pub drops_learns : {P : Type 0} (w w' : World P) (p : Name) (a : Act Page _) (saw : Option Page) (aim : Aim) (x : ℕ) (c : Page) (edit : Edit) → Begun w w' p aim x c → aim.word ≡ None → DropsPair x c aim.key edit → Learns w w' (record { event = record { process = p; act = a }; saw = saw; said = None }) (know_edit aim (λ z. c) edit)
drops_learns w w' p a saw aim x c (Putting y page) h is e = record {
  stage = h.stage;
  said = HasSaid-silent w.trail (record { event = record { process = p; act = a }; saw = saw; said = None }) p aim.carried.said refl h.said;
  holds = ((ap w'.now.owner e.0 ∙ h.held, ap w.status e.0 ∙ h.live, tt, ap w.now.contents e.0 ∙ h.is), tt);
  goes = h.goes;
  children = subst (λ z. Each (λ k. (w'.now.owner k.parent ≡ Held p) × IsRelied w p k) (aim.children z)) (sym e.0) h.children;
  passed = tt;
  sound = (h.due, rw is (without_row c page aim.key e.1 h.due.covers));
}
drops_learns w w' p a saw aim x c (Taking full) h is e = absurd e
drops_learns w w' p a saw aim x c (PuttingNew t) h is e = absurd e
drops_learns w w' p a saw aim x c (PuttingOld t) h is e = absurd e
drops_learns w w' p a saw aim x c (OpeningNew y z s) h is e = absurd e
drops_learns w w' p a saw aim x c (Opening y o) h is e = absurd e

pub gives_learns : {P : Type 0} (w w' : World P) (p : Name) (a : Act Page _) (saw : Option Page) (aim : Aim) (x value : ℕ) (c : Page) (edit : Edit) → Begun w w' p aim x c → aim.word ≡ Some value → GivesValue x c aim.key value edit → Learns w w' (record { event = record { process = p; act = a }; saw = saw; said = None }) (know_edit aim (λ z. c) edit)
gives_learns w w' p a saw aim x value c (Putting y page) h is e = record {
  stage = h.stage;
  said = HasSaid-silent w.trail (record { event = record { process = p; act = a }; saw = saw; said = None }) p aim.carried.said refl h.said;
  holds = ((ap w'.now.owner e.0 ∙ h.held, ap w.status e.0 ∙ h.live, tt, ap w.now.contents e.0 ∙ h.is), tt);
  goes = h.goes;
  children = subst (λ z. Each (λ k. (w'.now.owner k.parent ≡ Held p) × IsRelied w p k) (aim.children z)) (sym e.0) h.children;
  passed = tt;
  sound = (h.due, rw is (value_row c page aim.key value e.1 h.due.covers));
}
gives_learns w w' p a saw aim x value c (Taking full) h is e = absurd e
gives_learns w w' p a saw aim x value c (PuttingNew t) h is e = absurd e
gives_learns w w' p a saw aim x value c (PuttingOld t) h is e = absurd e
gives_learns w w' p a saw aim x value c (OpeningNew y z s) h is e = absurd e
gives_learns w w' p a saw aim x value c (Opening y o) h is e = absurd e

-- the same by the effect of a write
pub performs_learns : {P : Type 0} (w w' : World P) (p : Name) (a : Act Page _) (saw : Option Page) (aim : Aim) (effect : Effect) (x : ℕ) (c : Page) (edit : Edit) → Begun w w' p aim x c → aim.word ≡ effected effect aim.was → MayHave effect aim.was → Performs effect x c aim.key edit → Learns w w' (record { event = record { process = p; act = a }; saw = saw; said = None }) (know_edit aim (λ z. c) edit)
performs_learns w w' p a saw aim Keep x c edit h is may e = absurd e
performs_learns w w' p a saw aim (Enter value) x c edit h is may e = enters_learns w w' p a saw aim x value c edit h is may e
performs_learns w w' p a saw aim Remove x c edit h is may e = drops_learns w w' p a saw aim x c edit h is e
performs_learns w w' p a saw aim (Replace value) x c edit h is may e = gives_learns w w' p a saw aim x value c edit h is e

-- a change begins with the page that it holds, and with no other
pub enters_places : (aim : Aim) (x word key : ℕ) (c : Page) (edit : Edit) → EntersPair x c key word edit → HoldsPage (know_edit aim (λ z. c) edit).holds x
enters_places aim x word key c (Putting y page) e = inl e.0
enters_places aim x word key c (Taking full) e = inl e.0
enters_places aim x word key c old e = absurd e

pub drops_places : (aim : Aim) (x key : ℕ) (c : Page) (edit : Edit) → DropsPair x c key edit → HoldsPage (know_edit aim (λ z. c) edit).holds x
drops_places aim x key c (Putting y page) e = inl e.0
drops_places aim x key c old e = absurd e

pub gives_places : (aim : Aim) (x key value : ℕ) (c : Page) (edit : Edit) → GivesValue x c key value edit → HoldsPage (know_edit aim (λ z. c) edit).holds x
gives_places aim x key value c (Putting y page) e = inl e.0
gives_places aim x key value c old e = absurd e

pub performs_places : (aim : Aim) (effect : Effect) (x key : ℕ) (c : Page) (edit : Edit) → Performs effect x c key edit → HoldsPage (know_edit aim (λ z. c) edit).holds x
performs_places aim Keep x key c edit e = absurd e
performs_places aim (Enter value) x key c edit e = enters_places aim x value key c edit e
performs_places aim Remove x key c edit e = drops_places aim x key c edit e
performs_places aim (Replace value) x key c edit e = gives_places aim x key value c edit e

pub edit_middle : (aim : Aim) (got : ℕ → Page) (edit : Edit) → (know_edit aim got edit).middle ≡ None
edit_middle aim got (Putting y page) = refl
edit_middle aim got (Taking full) = refl
edit_middle aim got (PuttingNew t) = refl
edit_middle aim got (PuttingOld t) = refl
edit_middle aim got (OpeningNew y z s) = refl
edit_middle aim got (Opening y o) = refl
