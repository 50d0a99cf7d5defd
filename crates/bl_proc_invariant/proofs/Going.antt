-- What a process may go to, it may go to still after a put or a take of its own.
use Rattle.std.proofs.Common.{ℕ, ◌≡◌, ◌≢◌, true, List, ap, sym, ◌∙◌, subst, inl, inr}
use Rattle.std.proofs.lemmas.Bool.{cases_eq, false≢true}
use Rattle.bl_page.specs.declared.page.Page.{Page}
use Rattle.bl_page.specs.Machine.{Name, IsAt}
use Rattle.bl_page.specs.Machine.Owner.{Released, Held, Retired}
use Rattle.bl_page.specs.Machine.Act.{Put, Take}
use Rattle.bl_tree.specs.Trees.{Status}
use Rattle.bl_tree.specs.Trees.Status.{Free, Fresh, Live, Anchored}
use Rattle.bl_tree.proofs.Statuses.{live_live}
use Rattle.bl_page.specs.Nodes.{node_of}
use Rattle.bl_claims.specs.Walks.{Each}
use Rattle.bl_tree_worlds.specs.Worlds.{Goes, World, nodes, was_in, IsGoes}
use Rattle.bl_tree_worlds.proofs.Frames.{Each-map}
use Rattle.bl_tree_worlds.proofs.Steady.{Steady, may_still, was_live, free_not, fresh_not, anchored_not}
use Rattle.bl_proc_invariant.specs.Turns.{Does}

pub goes_still : {P : Type 0} (w w' : World P) (p : Name) (goes : List Goes) → Steady w w' → Each (IsGoes w p) goes → Each (IsGoes w' p) goes
goes_still w w' p goes s h =
    Each-map (IsGoes w p) (IsGoes w' p) goes
    (λ g o. record {
      may = may_still w w' s p g.page o.may;
      least = rw (s.level g.page o.may.was) o.least;
      most = rw (s.level g.page o.may.was) o.most;
    }) h

-- a put that leaves each page that was in the tree its level
pub put_steady : {P : Type 0} (w w' : World P) (p : Name) (x : ℕ) (c : Page) → Does w.now p (Put x c) w'.now → ((y : ℕ) → was_in (w.status y) ≡ true → was_in (w'.status y) ≡ true) → (was_in (w.status x) ≡ true → (node_of c).shape.level ≡ (nodes w.now x).shape.level) → Steady w w'
put_steady w w' p x c does was level = record {
  phase = does.changes.2;
  clock = does.on;
  retired = λ y t h. does.changes.1 y ∙ h;
  retired_back = λ y t h. sym (does.changes.1 y) ∙ h;
  was = was;
  level = λ y h. elim (cases_eq y x) [
    | inl e ↦ ap (λ v. (nodes w'.now v).shape.level) e ∙ (ap (λ v. (node_of v).shape.level) does.changes.0.at ∙ (level (subst (λ v. was_in (w.status v) ≡ true) e h) ∙ ap (λ v. (nodes w.now v).shape.level) (sym e)))
    | inr n ↦ ap (λ v. (node_of v).shape.level) (does.changes.0.others y n)
  ];
}

pub take_steady : {P : Type 0} (w w' : World P) (p : Name) (x : ℕ) → Does w.now p (Take x) w'.now → w.now.owner x ≡ Released → w.status x ≡ Free → IsAt x Fresh w.status w'.status → Steady w w'
take_steady w w' p x does free was status = record {
  phase = does.changes.2;
  clock = does.on;
  retired = λ y t h. does.changes.1.others y (λ e. (let c : Released ≡ Retired t = sym free ∙ (ap w.now.owner (sym e) ∙ h) in cc)) ∙ h;
  retired_back = λ y t h. sym (does.changes.1.others y (λ e. (let c : Held p ≡ Retired t = sym does.changes.1.at ∙ (ap w'.now.owner (sym e) ∙ h) in cc))) ∙ h;
  was = λ y h.
      let n : y ≢ x = λ e. false≢true (sym free_not ∙ (ap was_in (sym was ∙ ap w.status (sym e)) ∙ h)) in
      rw (status.others y n) h;
  level = λ y h. ap (λ v. (node_of v).shape.level) (does.changes.0 y);
}

-- a page that comes to be live, and one that was not in the tree
pub was_put : (x : ℕ) (old new : ℕ → Status) → IsAt x Live old new → (y : ℕ) → was_in (old y) ≡ true → was_in (new y) ≡ true
was_put x old new status y h = elim (cases_eq y x) [
  | inl e ↦ ap was_in (ap new e ∙ status.at) ∙ was_live Live live_live
  | inr n ↦ rw (status.others y n) h
]

pub was_fresh : {X : Type 0} (a : Status) → a ≡ Fresh → was_in a ≡ true → X
was_fresh a e h = absurd (false≢true (sym fresh_not ∙ (ap was_in (sym e) ∙ h)))

pub was_anchored : {X : Type 0} (a : Status) → a ≡ Anchored → was_in a ≡ true → X
was_anchored a e h = absurd (false≢true (sym anchored_not ∙ (ap was_in (sym e) ∙ h)))
