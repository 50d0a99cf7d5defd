-- Gets, looks and misses, latches and opens: what a process learns by them, and that the world stays good.
use Rattle.std.proofs.Common.{ℕ, ◌≡◌, ◌≢◌, ◌++◌, Some, None, [], ◌∷◌, arith, ap, sym, ◌∙◌, inl, inr}
use Rattle.bl_model.specs.declared.operation.Reply.{Reply}
use Rattle.bl_page.specs.declared.page.Page.{Page}
use Rattle.bl_model.specs.Map.{SameMap}
use Rattle.bl_page.specs.Machine.{Name, State, Act, Changes}
use Rattle.bl_page.specs.Machine.Owner.{Held}
use Rattle.bl_page.specs.Machine.Phase.{Running}
use Rattle.bl_page.specs.Machine.Act.{Begin, End, Get, Put, Take, Latch, Retire, Look, Release, Miss}
use Rattle.bl_claims.specs.Trails.{Said, Mark, HasSaid, IsPhase}
use Rattle.bl_tree_worlds.specs.Worlds.{Know, World, MapsTo, IsStage, IfKnown, IsHeld, IsGoes, IsRelied, IsPassed, IsSure, HoldsPage, IsGood, Extends}
use Rattle.bl_claims.specs.Walks.{Each}
use Rattle.bl_tree_worlds.proofs.Pushes.{MaySay}
use Rattle.bl_tree_worlds.proofs.Frames.{Each-map}
use Rattle.bl_tree_worlds.proofs.Steady.{may_still, passed_still}
use Rattle.bl_tree_worlds.proofs.Records.{IsInner}
use Rattle.bl_tree_worlds.proofs.Ghosts.{Still, still_steady, still_keeps, held_step}

-- What p knows after the event, told by the world before it, but for the owners.
pub record Learns {P : Type 0} (w w' : World P) (m : Mark) (k : Know) : Type 0 where
  pub stage : IsStage k.stage (w.now.phase m.event.process)
  pub said : HasSaid (w.trail ++ m ∷ []) m.event.process k.said
  pub holds : Each (λ h. (w'.now.owner h.at ≡ Held m.event.process) × (w.status h.at ≡ h.status) × IfKnown h.sep (w.sep h.at) × IfKnown h.page (w.now.contents h.at)) k.holds
  pub goes : Each (IsGoes w m.event.process) k.goes
  pub children : Each (λ c. (w'.now.owner c.parent ≡ Held m.event.process) × IsRelied w m.event.process c) k.children
  pub passed : IsPassed w k.passed
  pub sound : k.sound

pub learns_sure : {P : Type 0} (know : P → Know) (w w' : World P) (m : Mark) (b : P) (k : Know) → Still know w w' m b → Learns w w' m k → IsSure w' m.event.process k
learns_sure know w w' m b k s l =
    let p = m.event.process in
    let steady = still_steady s in
    record {
      stage = rw (steady.phase p) l.stage;
      said = rw s.extends.trail l.said;
      holds = Each-map _ (IsHeld w' p) k.holds (λ h o. record { owner = o.0; status = ap (λ f. f h.at) s.ghosts.status ∙ o.1; sep = rw s.ghosts.sep o.2; page = rw (s.ghosts.contents h.at) o.3 }) l.holds;
      goes = Each-map (IsGoes w p) (IsGoes w' p) k.goes (λ g o. record { may = may_still w w' steady p g.page o.may; least = rw (s.ghosts.contents g.page) o.least; most = rw (s.ghosts.contents g.page) o.most }) l.goes;
      children = Each-map _ (IsRelied w' p) k.children (λ c o. record {
        owner = o.0;
        status = ap (λ f. f c.parent) s.ghosts.status ∙ o.1.status;
        covers = rw (s.ghosts.contents c.parent) o.1.covers;
        level = rw (s.ghosts.contents c.parent, s.ghosts.contents c.at) o.1.level;
        alive = rw s.ghosts.status o.1.alive;
        sep = ap (λ f. f c.at) s.ghosts.sep ∙ o.1.sep;
      }) l.children;
      passed = passed_all k.passed l.passed;
      sound = l.sound;
    }
  where
    passed_all : (q : _) → IsPassed w q → IsPassed w' q
    passed_all None h = tt
    passed_all (Some q) h = passed_still w w' (still_steady s) q h

-- a point of a process that runs and has said nothing
pub may_say : {P : Type 0} (know : P → Know) (w : World P) (m : Mark) → IsInner m.event.act → ((said : Said) → m.said ≡ Some said → ((since : ℕ) × (w.now.phase m.event.process ≡ Running since)) × HasSaid w.trail m.event.process None) → IsGood know w → MaySay w.trail m
may_say know w m i point g = record {
  point = λ said h. let o = point said h in let f : IsPhase w.trail m.event.process (Running 0) = rw o.0.1 at (g.recorded.phases m.event.process) in (f, o.1, i.1);
  end = λ a h. absurd (i.1 a h);
}

abbrev pub IsWatch : Act Page Reply → Type 0
IsWatch Begin = ⊥
IsWatch (End a) = ⊥
IsWatch (Get x) = Unit {0}
IsWatch (Put x c) = ⊥
IsWatch (Take x) = ⊥
IsWatch (Latch x) = ⊥
IsWatch (Act.Open x) = ⊥
IsWatch (Retire x) = ⊥
IsWatch (Look it) = Unit {0}
IsWatch (Release x) = ⊥
IsWatch (Miss what) = Unit {0}

pub watch_inner : (a : Act Page Reply) → IsWatch a → IsInner a
watch_inner Begin h = absurd h
watch_inner (End a) h = absurd h
watch_inner (Get x) h = (λ e. cc, λ a e. cc)
watch_inner (Put x c) h = absurd h
watch_inner (Take x) h = absurd h
watch_inner (Latch x) h = absurd h
watch_inner (Act.Open x) h = absurd h
watch_inner (Retire x) h = absurd h
watch_inner (Look it) h = (λ e. cc, λ a e. cc)
watch_inner (Release x) h = absurd h
watch_inner (Miss what) h = (λ e. cc, λ a e. cc)

-- it changes nothing, and is no take, latch or put
watch_same : (s s' : State Page) (p : Name) (a : Act Page Reply) → IsWatch a → Changes s p a s' → SameMap s.contents s'.contents × SameMap s.owner s'.owner × ((y : ℕ) → (a ≢ Take y) × (a ≢ Latch y)) × ((y : ℕ) (c : Page) → a ≢ Put y c)
watch_same s s' p Begin h c = absurd h
watch_same s s' p (End a) h c = absurd h
watch_same s s' p (Get x) h c = (c.0, c.1, λ y. (λ e. cc, λ e. cc), λ y d e. cc)
watch_same s s' p (Put x d) h c = absurd h
watch_same s s' p (Take x) h c = absurd h
watch_same s s' p (Latch x) h c = absurd h
watch_same s s' p (Act.Open x) h c = absurd h
watch_same s s' p (Retire x) h c = absurd h
watch_same s s' p (Look it) h c = (c.0, c.1, λ y. (λ e. cc, λ e. cc), λ y d e. cc)
watch_same s s' p (Release x) h c = absurd h
watch_same s s' p (Miss what) h c = (c.0, c.1, λ y. (λ e. cc, λ e. cc), λ y d e. cc)

pub record SameGhost {P : Type 0} (w w' : World P) : Type 0 where
  pub status : w'.status ≡ w.status
  pub sep : w'.sep ≡ w.sep
  pub map : w'.map ≡ w.map

-- p gets a page, looks, or misses; it may have the point of its operation there, where that leaves the map as it is
pub record Watches {P : Type 0} (know : P → Know) (w w' : World P) (m : Mark) (b : P) : Type 0 where
  pub extends : Extends w w' m b
  pub watch : IsWatch m.event.act
  pub ghost : SameGhost w w'
  pub middle : (know b).middle ≡ (know (w.proc m.event.process)).middle
  pub places : (x : ℕ) → HoldsPage (know (w.proc m.event.process)).holds x → HoldsPage (know b).holds x
  pub point : (said : Said) → m.said ≡ Some said → ((since : ℕ) × (w.now.phase m.event.process ≡ Running since)) × HasSaid w.trail m.event.process None
  pub maps : MapsTo (w.map 0) (w.map 0) m.said
  pub learns : Learns w w' m (know b)

pub Watches-keeps : {P : Type 0} (know : P → Know) (w w' : World P) (m : Mark) (b : P) → Watches know w w' m b → IsGood know w → IsGood know w'
Watches-keeps know w w' m b s g =
    let same = watch_same w.now w'.now m.event.process m.event.act s.watch s.extends.steps.changes in
    let on = s.extends.steps.on in
    let still : Still know w w' m b = record {
      extends = s.extends;
      inner = watch_inner m.event.act s.watch;
      ghosts = record { contents = same.0; status = s.ghost.status; sep = s.ghost.sep; map = s.ghost.map };
      retired = λ x t h. same.1 x ∙ h;
      retired_back = λ x t h. sym (same.1 x) ∙ h;
      others = λ q x n h. same.1 x ∙ h;
      middle = s.middle;
      paired = λ x y h d z k l. same.1 z ∙ k;
      dead = λ x q d h. (sym (same.1 x) ∙ h, λ e. same.1 _ ∙ e);
    } in
    still_keeps know w w' m b still (may_say know w m (watch_inner m.event.act s.watch) s.point g) (rw (s.ghost.map) s.maps)
    (record {
      fresh = λ y h. inr (rw s.ghost.status at h, λ q e. same.1 y ∙ e, (same.2 y).0, (same.2 y).1, λ x c n e o. same.3 x c e);
      not_taken = λ y h. (same.2 y).0;
      live = λ y h. inl (rw s.ghost.status at h, λ q e. inl (sym (same.1 y) ∙ e));
    })
    (record {
      released = λ x h. rw s.ghost.status (g.owned.released x (sym (same.1 x) ∙ h));
      free = λ x h. same.1 x ∙ g.owned.free x (rw s.ghost.status at h);
      opened = λ x h. rw s.ghost.status (g.owned.opened x (sym (same.1 x) ∙ h));
      retired = λ x t h. let o = g.owned.retired x t (sym (same.1 x) ∙ h) in (rw s.ghost.status o.0, omega (arith, o.1));
      held = held_step know w w' m b s.extends (λ x h. s.places x (g.owned.held x m.event.process (sym (same.1 x) ∙ h))) (λ x q n h. sym (same.1 x) ∙ h) g.owned;
      small = λ x h. rw s.extends.size (g.owned.small x (rw s.ghost.status at h));
      one_anchor = λ x h. g.owned.one_anchor x (rw s.ghost.status at h);
      uprooted = λ x h. let k = g.owned.uprooted x (rw s.ghost.status at h) in record { by = k.by; held = same.1 x ∙ k.held; anchor_held = same.1 0 ∙ k.anchor_held };
    })
    (learns_sure know w w' m b (know b) still s.learns)
    g
