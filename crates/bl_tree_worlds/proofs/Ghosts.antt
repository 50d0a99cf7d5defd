-- Events that change no page's contents: the tree stays as it is.
use Rattle.std.proofs.Common.{◌⊎◌, ℕ, ◌≡◌, ◌≢◌, subst, ap, sym, ◌∙◌, inl, inr}
use Rattle.std.proofs.Math.Path.{fun_ext}
use Rattle.bl_page.specs.Machine.{Name}
use Rattle.bl_page.specs.Machine.Owner.{Held, Retired}
use Rattle.bl_page.specs.Nodes.{unbounded, node_of, roots_of}
use Rattle.bl_tree.specs.Trees.{Tree, IsTree}
use Rattle.bl_tree.specs.Trees.Status.{Live, Right, Gone}
use Rattle.bl_claims.specs.Trails.{Mark}
use Rattle.bl_tree_worlds.specs.Worlds.{Know, World, nodes, tree_of, MapsTo, IsSure, HoldsPage, HasMiddle, AreOwned, IsGood, Extends}
use Rattle.bl_tree_worlds.proofs.Pushes.{name_cases, MaySay}
use Rattle.bl_tree_worlds.proofs.Frames.{Leaves, all_sure}
use Rattle.bl_tree_worlds.proofs.Steady.{Steady, was_live, may_still, passed_still, gone_still}
use Rattle.bl_tree_worlds.proofs.Records.{IsInner, same_phases, record_inner}
use Rattle.bl_tree_worlds.proofs.Names.{MayName, names_step}

pub record SameGhosts {P : Type 0} (w w' : World P) : Type 0 where
  pub contents : (x : ℕ) → w'.now.contents x ≡ w.now.contents x
  pub status : w'.status ≡ w.status
  pub sep : w'.sep ≡ w.sep
  pub map : w'.map ≡ w.map

pub same_tree : {P : Type 0} (w w' : World P) → SameGhosts w w' → IsTree unbounded (tree_of w) → IsTree unbounded (tree_of w')
same_tree w w' s g =
    let c : w'.now.contents ≡ w.now.contents = fun_ext s.contents in
    let e : tree_of w' ≡ tree_of w = λ i. record { node = λ x. node_of (c i x); roots = roots_of (c i 0); status = s.status i; sep = s.sep i; map = s.map i } in
    subst (λ (t : Tree). IsTree unbounded t) (sym e) g

-- the middle of a compression, where neither the parent nor the right page changes
pub middles_step : {P : Type 0} (know : P → Know) (w w' : World P) (m : Mark) (b : P) (x y : ℕ) → Extends w w' m b → (know b).middle ≡ (know (w.proc m.event.process)).middle → (h : HasMiddle know w x y) → ((z : ℕ) → w.now.owner z ≡ Held h.by → (w.status z ≡ Live) ⊎ (w.status z ≡ Right x) → (w'.now.owner z ≡ Held h.by) × (w'.status z ≡ w.status z) × (nodes w'.now z ≡ nodes w.now z)) → w.status y ≡ Right x → HasMiddle know w' x y
middles_step know w w' m b x y e same h kept right =
    let a = kept h.parent h.parent_held (inl h.parent_live) in
    let c = kept y h.held (inr right) in
    record {
      by = h.by;
      parent = h.parent;
      is = elim (name_cases h.by m.event.process) [
        | inl i ↦ rw (i, e.proc.at) (same ∙ rw (← i) h.is)
        | inr i ↦ rw (e.proc.others h.by i) h.is
      ];
      held = c.0;
      parent_held = a.0;
      parent_live = a.1 ∙ h.parent_live;
      parent_level = rw (a.2, c.2) h.parent_level;
      parent_covers = rw (a.2, c.2) h.parent_covers;
    }

-- who holds what, where only p gets or gives a page
pub held_step : {P : Type 0} (know : P → Know) (w w' : World P) (m : Mark) (b : P) → Extends w w' m b → ((x : ℕ) → w'.now.owner x ≡ Held m.event.process → HoldsPage (know b).holds x) → ((x : ℕ) (q : Name) → q ≢ m.event.process → w'.now.owner x ≡ Held q → w.now.owner x ≡ Held q) → AreOwned know w → (x : ℕ) (q : Name) → w'.now.owner x ≡ Held q → HoldsPage (know (w'.proc q)).holds x
held_step know w w' m b e own others g x q h = elim (name_cases q m.event.process) [
  | inl i ↦ rw (i, e.proc.at) (own x (rw i at h))
  | inr i ↦ rw (e.proc.others q i) (g.held x q (others x q i h))
]

-- An inner event that changes no contents, no status and no retirement.
pub record Still {P : Type 0} (know : P → Know) (w w' : World P) (m : Mark) (b : P) : Type 0 where
  pub extends : Extends w w' m b
  pub inner : IsInner m.event.act
  pub ghosts : SameGhosts w w'
  pub retired : (x time : ℕ) → w.now.owner x ≡ Retired time → w'.now.owner x ≡ Retired time
  pub retired_back : (x time : ℕ) → w'.now.owner x ≡ Retired time → w.now.owner x ≡ Retired time
  pub others : (q : Name) (x : ℕ) → q ≢ m.event.process → w.now.owner x ≡ Held q → w'.now.owner x ≡ Held q
  pub middle : (know b).middle ≡ (know (w.proc m.event.process)).middle
  -- whoever is in the middle of a compression keeps its pages
  pub paired : (x y : ℕ) → (h : HasMiddle know w x y) → w.status y ≡ Right x → (z : ℕ) → w.now.owner z ≡ Held h.by → (w.status z ≡ Live) ⊎ (w.status z ≡ Right x) → w'.now.owner z ≡ Held h.by
  -- whoever holds a dead page held it, and still holds the page that it leads to
  pub dead : (x : ℕ) (q : Name) → w.status x ≡ Gone → w'.now.owner x ≡ Held q → (w.now.owner x ≡ Held q) × (w.now.owner (nodes w.now x).shape.right ≡ Held q → w'.now.owner (nodes w.now x).shape.right ≡ Held q)

pub still_steady : {P : Type 0} {know : P → Know} {w w' : World P} {m : Mark} {b : P} → Still know w w' m b → Steady w w'
still_steady {w = w} {w' = w'} {m = m} s = record {
  phase = same_phases w.now w'.now m.event.process m.event.act s.inner s.extends.steps.changes;
  clock = s.extends.steps.on;
  retired = s.retired;
  retired_back = s.retired_back;
  was = λ x h. rw s.ghosts.status h;
  level = λ x h. ap (λ c. (node_of c).shape.level) (s.ghosts.contents x);
}

pub still_leaves : {P : Type 0} {know : P → Know} {w w' : World P} {m : Mark} {b : P} → Still know w w' m b → Leaves w w' m.event.process
still_leaves {w = w} {w' = w'} s =
    let steady = still_steady s in
    record {
      owner = λ q x n h. s.others q x n h;
      contents = λ q x n h. s.ghosts.contents x;
      status = λ q x n h. ap (λ f. f x) s.ghosts.status;
      sep = λ q x n h. ap (λ f. f x) s.ghosts.sep;
      relied = λ q c n h. (rw s.ghosts.status h.alive, ap (λ f. f c.at) s.ghosts.sep);
      may = λ q x n h. may_still w w' steady q x h;
      level = steady.level;
      live_was = λ x h. was_live (w.status x) h;
      phase = λ q n. steady.phase q;
      passed = λ p h. passed_still w w' steady p h;
    }

pub still_keeps : {P : Type 0} (know : P → Know) (w w' : World P) (m : Mark) (b : P) → Still know w w' m b → MaySay w.trail m → MapsTo (w.map 0) (w'.map 0) m.said → MayName w w' m → AreOwned know w' → IsSure w' m.event.process (know b) → IsGood know w → IsGood know w'
still_keeps know w w' m b s say maps name owned own g =
    let steady = still_steady s in
    record {
      tree = same_tree w w' s.ghosts g.tree;
      owned = owned;
      recorded = record_inner w w' m b s.extends s.inner say maps g.recorded;
      bounded = rw s.ghosts.map g.bounded;
      names = names_step w w' m s.extends.trail name g.names;
      gone = λ x h.
          let o : w.status x ≡ Gone = rw s.ghosts.status at h in
          gone_still w w' steady x o (ap node_of (s.ghosts.contents x)) (λ link q held.
          let d = s.dead x q o held in
          let old = ((g.gone x o).left link).not_yet q d.0 in
          (d.0, d.1 old.0, rw s.ghosts.status old.1)) (g.gone x o);
      middles = λ x y h. let o : w.status y ≡ Right x = rw s.ghosts.status at h in let h = g.middles x y o in middles_step know w w' m b x y s.extends s.middle h (λ z k l. (s.paired x y h o z k l, ap (λ f. f z) s.ghosts.status, ap node_of (s.ghosts.contents z))) o;
      sure = all_sure know w w' m b s.extends (still_leaves s) g.sure own;
    }
