-- A process puts a page that it holds.
use Rattle.std.proofs.Common.{suc, ℕ, ◌≡◌, ◌≢◌, ◌<◌, ◌⊎◌, true, Option, Some, None, arith, ap, sym, ◌∙◌, refl, inl, inr}
use Rattle.std.proofs.lemmas.Bool.{cases_eq}
use Rattle.bl_page.specs.declared.page.Page.{Page}
use Rattle.bl_page.specs.Machine.{Name, Owner}
use Rattle.bl_page.specs.Machine.Owner.{Released, Held, Retired}
use Rattle.bl_page.specs.Machine.Act.{Put}
use Rattle.bl_page.specs.Machine.Phase.{Running}
use Rattle.bl_page.specs.Nodes.{Covers, unbounded, node_of}
use Rattle.bl_tree.specs.Trees.{IsLive, IsTree}
use Rattle.bl_tree.specs.Trees.Status.{Free, Fresh, Live, Right, Uprooted, Gone, Anchored}
use Rattle.bl_claims.specs.Trails.{Said, HasSaid}
use Rattle.bl_tree_worlds.specs.Worlds.{Child, Know, World, nodes, tree_of, was_in, MapsTo, IsRelied, IsSure, HoldsPage, IsLowering, IsBounded, IsGood, Extends, put_mark}
use Rattle.bl_tree_worlds.proofs.Pushes.{name_cases}
use Rattle.bl_tree_worlds.proofs.Steady.{Steady, was_live, may_still, passed_still, gone_still}
use Rattle.bl_tree_worlds.proofs.Records.{IsInner}
use Rattle.bl_tree_worlds.proofs.Ghosts.{held_step}
use Rattle.bl_tree_worlds.proofs.Watches.{may_say}
use Rattle.bl_tree_worlds.proofs.Outside.{inner_keeps}

-- a page that p marks dead leads to a live page of its level that p holds
pub record MarksTo {P : Type 0} (w w' : World P) (p : Name) (x : ℕ) : Type 0 where
  pub alive : IsLive (w'.status (nodes w'.now x).shape.right)
  pub held : w.now.owner (nodes w'.now x).shape.right ≡ Held p
  pub level : (nodes w'.now (nodes w'.now x).shape.right).shape.level ≡ (nodes w'.now x).shape.level

-- or it has no link, and was above the leaves
pub record Marks {P : Type 0} (w w' : World P) (p : Name) (x : ℕ) : Type 0 where
  pub end : (nodes w'.now x).shape.end ≡ 0
  pub above : (nodes w'.now x).shape.right ≡ 0 → 0 < (nodes w'.now x).shape.level
  pub left : (nodes w'.now x).shape.right ≢ 0 → MarksTo w w' p x

-- p is in the middle of a compression of the two after its put
pub record InMiddleOf {P : Type 0} (know : P → Know) (w w' : World P) (p : Name) (b : P) (a y : ℕ) : Type 0 where
  pub parent : ℕ
  pub is : (know b).middle ≡ Some (record { parent = parent; left = a; right = y })
  pub held : w.now.owner parent ≡ Held p
  pub live : w'.status parent ≡ Live
  pub level : (nodes w'.now parent).shape.level ≡ suc (nodes w'.now y).shape.level
  pub covers : Covers (nodes w'.now parent).shape (nodes w'.now y).shape.low

-- p puts page x. Where pages stand, and by which keys they are listed, changes at pages that p holds alone.
pub record Puts {P : Type 0} (know : P → Know) (w w' : World P) (p : Name) (x : ℕ) (c : Page) (said : Option Said) (b : P) : Type 0 where
  pub extends : Extends w w' (put_mark p x c said) b
  pub tree : IsTree unbounded (tree_of w')
  pub status : (y : ℕ) → w.now.owner y ≢ Held p → w'.status y ≡ w.status y
  pub sep : (y : ℕ) → w.now.owner y ≢ Held p → w'.sep y ≡ w.sep y
  pub was : (y : ℕ) → was_in (w.status y) ≡ true → was_in (w'.status y) ≡ true
  pub free : (y : ℕ) → w'.status y ≡ Free → w.status y ≡ Free
  pub anchor : (y : ℕ) → w'.status y ≡ Anchored → w.status y ≡ Anchored
  pub level : was_in (w.status x) ≡ true → (node_of c).shape.level ≡ (nodes w.now x).shape.level
  pub fresh : (y : ℕ) → w.now.owner y ≡ Held p → w'.status y ≡ Fresh → (w.status y ≡ Fresh) × (y ≡ x)
  pub becomes : (y : ℕ) → w.now.owner y ≡ Held p → IsLive (w'.status y) → IsLive (w.status y) ⊎ (y ≢ x)
  pub uproots : (y : ℕ) → w.now.owner y ≡ Held p → w'.status y ≡ Uprooted → (w.status y ≡ Uprooted) ⊎ (w.now.owner 0 ≡ Held p)
  pub gone : (y : ℕ) → w.now.owner y ≡ Held p → w'.status y ≡ Gone → (y ≡ x) × Marks w w' p x
  pub no_dead : (y : ℕ) → w.now.owner y ≡ Held p → w.status y ≢ Gone
  pub middle : (a y : ℕ) → w.now.owner y ≡ Held p → w'.status y ≡ Right a → InMiddleOf know w w' p b a y
  pub relied : (q : Name) (c : Child) → q ≢ p → IsRelied w q c → w.now.owner c.at ≡ Held p → IsLive (w'.status c.at) × (w'.sep c.at ≡ w.sep c.at)
  pub places : (y : ℕ) → HoldsPage (know (w.proc p)).holds y → HoldsPage (know b).holds y
  pub point : (s : Said) → said ≡ Some s → ((since : ℕ) × (w.now.phase p ≡ Running since)) × HasSaid w.trail p None
  pub maps : MapsTo (w.map 0) (w'.map 0) said
  pub bounded : IsBounded (w'.map 0)
  pub own : IsSure w' p (know b)

pub same_owner : (p q : Name) (o : Owner) → o ≡ Held p → o ≡ Held q → q ≡ p
same_owner p q o h k = cc

-- whose page it is, p's or not
pub mine : (p : Name) (o : Owner) → (o ≡ Held p) ⊎ (o ≢ Held p)
mine p Released = inr (λ e. cc)
mine p Owner.Open = inr (λ e. cc)
mine p (Held q) = elim (name_cases q p) [ inl i ↦ inl (ap Held i) | inr i ↦ inr (λ e. i cc) ]
mine p (Retired t) = inr (λ e. cc)

pub Puts-keeps : {P : Type 0} (know : P → Know) (w w' : World P) (p : Name) (x : ℕ) (c : Page) (said : Option Said) (b : P) → Puts know w w' p x c said b → IsGood know w → IsGood know w'
Puts-keeps know w w' p x c said b s g =
    let m = put_mark p x c said in
    let change = s.extends.steps.changes in
    let on = s.extends.steps.on in
    let held_x : w.now.owner x ≡ Held p = s.extends.steps.enabled in
    let back : (y : ℕ) → w'.now.owner y ≡ w.now.owner y = change.1 in
    let node : (y : ℕ) → y ≢ x → nodes w'.now y ≡ nodes w.now y = λ y n. ap node_of (change.0.others y n) in
    let not_mine : (y : ℕ) (o : Owner) → w.now.owner y ≡ o → o ≢ Held p → w.now.owner y ≢ Held p = λ y o h n e. n (sym h ∙ e) in
    let not_held : (q : Name) (y : ℕ) → q ≢ p → w.now.owner y ≡ Held q → w.now.owner y ≢ Held p = λ q y n h e. n (same_owner p q (w.now.owner y) e h) in
    let not_x : (q : Name) (y : ℕ) → q ≢ p → w.now.owner y ≡ Held q → y ≢ x = λ q y n h i. n (same_owner p q (w.now.owner y) (ap w.now.owner i ∙ held_x) h) in
    let inner : IsInner (Put x c) = (λ e. cc, λ a e. cc) in
    let steady : Steady w w' = record {
      phase = change.2;
      clock = on;
      retired = λ y t h. back y ∙ h;
      retired_back = λ y t h. sym (back y) ∙ h;
      was = s.was;
      level = λ y h. elim (cases_eq y x) [
        | inl i ↦ rw (i, change.0.at) (s.level (rw i at h))
        | inr i ↦ ap (λ v. v.shape.level) (node y i)
      ];
    } in
    inner_keeps know w w' m b s.extends inner s.tree
    (record {
      released = λ y h. let o = sym (back y) ∙ h in s.status y (not_mine y Released o (λ e. cc)) ∙ g.owned.released y o;
      free = λ y h. back y ∙ g.owned.free y (s.free y h);
      opened = λ y h. let o = sym (back y) ∙ h in rw (s.status y (not_mine y Owner.Open o (λ e. cc))) (g.owned.opened y o);
      retired = λ y t h. let o = sym (back y) ∙ h in let k = g.owned.retired y t o in (s.status y (not_mine y (Retired t) o (λ e. cc)) ∙ k.0, omega (arith, k.1));
      held = held_step know w w' m b s.extends (λ y h. s.places y (g.owned.held y p (sym (back y) ∙ h))) (λ y q n h. sym (back y) ∙ h) g.owned;
      small = λ y h. rw s.extends.size (g.owned.small y (λ e. elim (mine p (w.now.owner y)) [
        | inl i ↦ (let f = sym i ∙ g.owned.free y e in cc)
        | inr i ↦ h (s.status y i ∙ e)
      ]));
      one_anchor = λ y h. g.owned.one_anchor y (s.anchor y h);
      uprooted = λ y h.
          let still : w.status y ≡ Uprooted → IsLowering w' y = λ o. let k = g.owned.uprooted y o in record { by = k.by; held = back y ∙ k.held; anchor_held = back 0 ∙ k.anchor_held } in
          elim (mine p (w.now.owner y)) [
            | inl i ↦ elim (s.uproots y i h) [
              | inl o ↦ still o
              | inr o ↦ record { by = p; held = back y ∙ i; anchor_held = back 0 ∙ o }
            ]
            | inr i ↦ still (sym (s.status y i) ∙ h)
          ];
    })
    (may_say know w m inner s.point g)
    s.maps
    s.bounded
    (record {
      fresh = λ y h. inr (
        elim (mine p (w.now.owner y)) [ inl i ↦ (s.fresh y i h).0 | inr i ↦ sym (s.status y i) ∙ h ],
        λ q e. back y ∙ e,
        λ e. cc,
        λ e. cc,
        λ z d n e o. n (let v : x ≡ z = cc in sym v ∙ sym (s.fresh y o h).1),
      );
      not_taken = λ y h e. cc;
      live = λ y h. elim (mine p (w.now.owner y)) [
        | inl i ↦ elim (s.becomes y i h) [
          | inl l ↦ inl (l, λ q e. inl (sym (back y) ∙ e))
          | inr n ↦ inr (x, c, refl, λ v. n (sym v), back y ∙ i)
        ]
        | inr i ↦ inl (rw (s.status y i) at h, λ q e. inl (sym (back y) ∙ e))
      ];
    })
    (λ y h. elim (mine p (w.now.owner y)) [
      | inl i ↦
          let k = s.gone y i h in
          let d = k.1 in
          rw k.0 (record {
            end = d.end;
            above = d.above;
            left = λ link.
                let to = d.left link in
                record {
                  leads = λ q may. (record { since = may.since; runs = may.runs; was = was_live (w'.status (nodes w'.now x).shape.right) to.alive; kept = λ t e. (let f : Retired t ≡ Held p = sym e ∙ (back (nodes w'.now x).shape.right ∙ to.held) in cc) }, to.level);
                  not_yet = λ q e. let v : q ≡ p = same_owner p q (w'.now.owner x) (back x ∙ held_x) e in (back (nodes w'.now x).shape.right ∙ (to.held ∙ ap Held (sym v)), to.alive, to.level);
                  later = λ q time next may e f. (let v : Retired time ≡ Held p = sym e ∙ (back x ∙ held_x) in absurd (cc v));
                };
          })
      | inr i ↦
          let o = sym (s.status y i) ∙ h in
          let n : y ≢ x = λ v. i (ap w.now.owner v ∙ held_x) in
          gone_still w w' steady y o (node y n) (λ link q e.
          let f = sym (back y) ∙ e in
          let k = ((g.gone y o).left link).not_yet q f in
          let other : w.now.owner (nodes w.now y).shape.right ≢ Held p = λ v. i (f ∙ ap Held (same_owner p q (w.now.owner (nodes w.now y).shape.right) v k.0)) in
          (f, back (nodes w.now y).shape.right ∙ k.0, rw (s.status (nodes w.now y).shape.right other) k.1)) (g.gone y o)
    ])
    (λ a y h. elim (mine p (w.now.owner y)) [
      | inl i ↦ let k = s.middle a y i h in record { by = p; parent = k.parent; is = rw (s.extends.proc.at) k.is; held = back y ∙ i; parent_held = back k.parent ∙ k.held; parent_live = k.live; parent_level = k.level; parent_covers = k.covers }
      | inr i ↦
          let k = g.middles a y (sym (s.status y i) ∙ h) in
          let n : k.by ≢ p = λ v. i (k.held ∙ ap Held v) in
          let other = not_held k.by k.parent n k.parent_held in
          let parent_node = node k.parent (not_x k.by k.parent n k.parent_held) in
          let right_node = node y (not_x k.by y n k.held) in
          record { by = k.by; parent = k.parent; is = rw (s.extends.proc.others k.by n) k.is; held = back y ∙ k.held; parent_held = back k.parent ∙ k.parent_held; parent_live = s.status k.parent other ∙ k.parent_live; parent_level = rw (parent_node, right_node) k.parent_level; parent_covers = rw (parent_node, right_node) k.parent_covers }
    ])
    (record {
      owner = λ q y n h. back y ∙ h;
      contents = λ q y n h. change.0.others y (not_x q y n h);
      status = λ q y n h. s.status y (not_held q y n h);
      sep = λ q y n h. s.sep y (not_held q y n h);
      relied = λ q d n h. elim (mine p (w.now.owner d.at)) [
        | inl i ↦ s.relied q d n h i
        | inr i ↦ (rw (s.status d.at i) h.alive, s.sep d.at i)
      ];
      may = λ q y n h. may_still w w' steady q y h;
      level = steady.level;
      live_was = λ y h. was_live (w.status y) h;
      phase = λ q n. change.2 q;
      passed = λ a h. passed_still w w' steady a h;
    })
    s.own g
