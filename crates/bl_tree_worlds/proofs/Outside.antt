-- Pages outside the tree: a free page is taken, a dead page is retired, a retired page is released.
use Rattle.std.proofs.Common.{ℕ, ◌≡◌, ◌≢◌, ◌<◌, arith, ap, sym, ◌∙◌, inl, inr}
use Rattle.std.proofs.lemmas.Bool.{cases_eq, false≢true}
use Rattle.bl_page.specs.Machine.{Name, Owner, IsAt}
use Rattle.bl_page.specs.Machine.Owner.{Released, Held, Retired}
use Rattle.bl_page.specs.Machine.Act.{Take, Retire, Release}
use Rattle.bl_page.specs.Nodes.{unbounded, node_of, roots_of}
use Rattle.bl_tree.specs.Trees.{Status, IsLive, IsTree}
use Rattle.bl_tree.specs.Trees.Status.{Free, Fresh, Live, Right, Uprooted, Gone, Anchored}
use Rattle.bl_tree.proofs.Statuses.{free_dead, fresh_dead, gone_dead, not_dead}
use Rattle.bl_tree.proofs.Asides.{Aside-keeps}
use Rattle.bl_claims.specs.Trails.{Mark}
use Rattle.bl_tree_worlds.specs.Worlds.{Know, World, nodes, tree_of, was_in, MapsTo, MayGet, IsSure, HoldsPage, HasMiddle, IsGone, AreOwned, IsBounded, IsGood, Extends, silent}
use Rattle.bl_tree_worlds.proofs.Pushes.{MaySay}
use Rattle.bl_tree_worlds.proofs.Frames.{Leaves, all_sure}
use Rattle.bl_tree_worlds.proofs.Steady.{Steady, was_live, free_not, may_still, passed_still, gone_still}
use Rattle.bl_tree_worlds.proofs.Records.{IsInner, record_inner}
use Rattle.bl_tree_worlds.proofs.Names.{MayName, names_step}
use Rattle.bl_tree_worlds.proofs.Ghosts.{middles_step, held_step}
use Rattle.bl_tree_worlds.proofs.Watches.{may_say}

-- An inner event keeps the world good where it keeps each part of it.
pub inner_keeps : {P : Type 0} (know : P → Know) (w w' : World P) (m : Mark) (b : P) → Extends w w' m b → IsInner m.event.act → IsTree unbounded (tree_of w') → AreOwned know w' → MaySay w.trail m → MapsTo (w.map 0) (w'.map 0) m.said → IsBounded (w'.map 0) → MayName w w' m → ((x : ℕ) → w'.status x ≡ Gone → IsGone w' x) → ((x y : ℕ) → w'.status y ≡ Right x → HasMiddle know w' x y) → Leaves w w' m.event.process → IsSure w' m.event.process (know b) → IsGood know w → IsGood know w'
inner_keeps know w w' m b e i tree owned say maps bounded name gone middles leaves own g = record {
  tree = tree;
  owned = owned;
  recorded = record_inner w w' m b e i say maps g.recorded;
  bounded = bounded;
  names = names_step w w' m e.trail name g.names;
  gone = gone;
  middles = middles;
  sure = all_sure know w w' m b e leaves g.sure own;
}

-- p takes the released page x
pub record Takes {P : Type 0} (know : P → Know) (w w' : World P) (p : Name) (x : ℕ) (b : P) : Type 0 where
  pub extends : Extends w w' (silent p (Take x)) b
  pub within : x < w.size
  pub status : IsAt x Fresh w.status w'.status
  pub sep : w'.sep ≡ w.sep
  pub map : w'.map ≡ w.map
  pub middle : (know b).middle ≡ (know (w.proc p)).middle
  pub here : HoldsPage (know b).holds x
  pub places : (y : ℕ) → HoldsPage (know (w.proc p)).holds y → HoldsPage (know b).holds y
  pub own : IsSure w' p (know b)

pub Takes-keeps : {P : Type 0} (know : P → Know) (w w' : World P) (p : Name) (x : ℕ) (b : P) → Takes know w w' p x b → IsGood know w → IsGood know w'
Takes-keeps know w w' p x b s g =
    let change = s.extends.steps.changes in
    let owner = change.1 in
    let u = s.status in
    let on = s.extends.steps.on in
    let was : w.now.owner x ≡ Released = s.extends.steps.enabled in
    let free : w.status x ≡ Free = g.owned.released x was in
    let back : (y : ℕ) → y ≢ x → w'.now.owner y ≡ w.now.owner y = owner.others in
    let not_x : (y : ℕ) (o : Owner) → w'.now.owner y ≡ o → o ≢ Held p → y ≢ x = λ y o h n i. n (sym h ∙ (ap w'.now.owner i ∙ owner.at)) in
    let was_not_x : (y : ℕ) (o : Owner) → w.now.owner y ≡ o → o ≢ Released → y ≢ x = λ y o h n i. n (sym h ∙ (ap w.now.owner i ∙ was)) in
    let status_not : (y : ℕ) (a : Status) → w'.status y ≡ a → a ≢ Fresh → y ≢ x = λ y a h n i. n (sym h ∙ (ap w'.status i ∙ u.at)) in
    let status_was_not : (y : ℕ) (a : Status) → w.status y ≡ a → a ≢ Free → y ≢ x = λ y a h n i. n (sym h ∙ (ap w.status i ∙ free)) in
    let live_not : (y : ℕ) → IsLive (w'.status y) → y ≢ x = λ y h. not_dead w'.status x y (rw u.at fresh_dead) h in
    let live_was_not : (y : ℕ) → IsLive (w.status y) → y ≢ x = λ y h. not_dead w.status x y (rw free free_dead) h in
    let inner : IsInner (Take x) = (λ e. cc, λ a e. cc) in
    let steady : Steady w w' = record {
      phase = change.2;
      clock = on;
      retired = λ y t h. back y (was_not_x y (Retired t) h (λ e. cc)) ∙ h;
      retired_back = λ y t h. sym (back y (not_x y (Retired t) h (λ e. cc))) ∙ h;
      was = λ y h. rw (u.others y (λ i. false≢true (sym free_not ∙ (ap was_in (sym free ∙ ap w.status (sym i)) ∙ h)))) h;
      level = λ y h. ap (λ c. (node_of c).shape.level) (change.0 y);
    } in
    inner_keeps know w w' (silent p (Take x)) b s.extends inner
    (Aside-keeps {x = x} {t = tree_of w} {t' = tree_of w'} (record {
      dead = rw free free_dead;
      dead_after = rw u.at fresh_dead;
      other = λ i. (let a : w.status x ≡ Anchored = rw i g.tree.anchored in cc);
      node = λ z n. ap node_of (change.0 z);
      status = u.others;
      sep = λ z n. ap (λ f. f z) s.sep;
      roots = ap roots_of (change.0 0);
      map = s.map;
    }) g.tree)
    (record {
      released = λ y h. let n = not_x y Released h (λ e. cc) in u.others y n ∙ g.owned.released y (sym (back y n) ∙ h);
      free = λ y h. let n = status_not y Free h (λ e. cc) in back y n ∙ g.owned.free y (sym (u.others y n) ∙ h);
      opened = λ y h. let n = not_x y Owner.Open h (λ e. cc) in rw (u.others y n) (g.owned.opened y (sym (back y n) ∙ h));
      retired = λ y t h. let n = not_x y (Retired t) h (λ e. cc) in let o = g.owned.retired y t (sym (back y n) ∙ h) in (u.others y n ∙ o.0, omega (arith, o.1));
      held = held_step know w w' (silent p (Take x)) b s.extends
          (λ y h. elim (cases_eq y x) [ inl i ↦ rw i s.here | inr i ↦ s.places y (g.owned.held y p (sym (back y i) ∙ h)) ])
          (λ y q n h. sym (back y (not_x y (Held q) h (λ e. n cc))) ∙ h) g.owned;
      uprooted = λ y h.
          let k = g.owned.uprooted y (sym (u.others y (status_not y Uprooted h (λ e. cc))) ∙ h) in
          record { by = k.by; held = back y (was_not_x y (Held k.by) k.held (λ e. cc)) ∙ k.held; anchor_held = back 0 (was_not_x 0 (Held k.by) k.anchor_held (λ e. cc)) ∙ k.anchor_held };
      small = λ y h. rw s.extends.size (elim (cases_eq y x) [ inl i ↦ rw i s.within | inr i ↦ g.owned.small y (λ e. h (u.others y i ∙ e)) ]);
      one_anchor = λ y h. g.owned.one_anchor y (sym (u.others y (status_not y Anchored h (λ e. cc))) ∙ h);
    })
    (may_say know w (silent p (Take x)) inner (λ said h. cc) g)
    (λ k. ap (λ f. f 0 k) s.map)
    (rw s.map g.bounded)
    (record {
      fresh = λ y h. elim (cases_eq y x) [
        | inl i ↦ inl (ap Take (sym i), ap w'.now.owner i ∙ owner.at)
        | inr i ↦ inr (sym (u.others y i) ∙ h, λ q e. back y i ∙ e, (λ e. i (let v : x ≡ y = cc in sym v)), λ e. cc, λ z c n e o. cc)
      ];
      not_taken = λ y h e. live_not y h (let v : x ≡ y = cc in sym v);
      live = λ y h. let n = live_not y h in inl (rw (u.others y n) at h, λ q e. inl (sym (back y n) ∙ e));
    })
    (λ y h.
    let n = status_not y Gone h (λ e. cc) in
    let o = sym (u.others y n) ∙ h in
    gone_still w w' steady y o (ap node_of (change.0 y)) (λ link q held.
    let v = sym (back y n) ∙ held in
    let old = ((g.gone y o).left link).not_yet q v in
    (v, back _ (live_was_not _ old.1) ∙ old.0, rw (u.others _ (live_was_not _ old.1)) old.1)) (g.gone y o))
    (λ a y h.
    let o = sym (u.others y (status_not y (Right a) h (λ e. cc))) ∙ h in
    let i = g.middles a y o in
    middles_step know w w' (silent p (Take x)) b a y s.extends s.middle i (λ z k l. let n = was_not_x z (Held i.by) k (λ e. cc) in (back z n ∙ k, u.others z n, ap node_of (change.0 z))) o)
    (record {
      owner = λ q y n h. back y (was_not_x y (Held q) h (λ e. cc)) ∙ h;
      contents = λ q y n h. change.0 y;
      status = λ q y n h. u.others y (was_not_x y (Held q) h (λ e. cc));
      sep = λ q y n h. ap (λ f. f y) s.sep;
      relied = λ q c n h. (rw (u.others c.at (live_was_not c.at h.alive)) h.alive, ap (λ f. f c.at) s.sep);
      may = λ q y n h. may_still w w' steady q y h;
      level = steady.level;
      live_was = λ y h. was_live (w.status y) h;
      phase = λ q n. change.2 q;
      passed = λ a h. passed_still w w' steady a h;
    })
    s.own g

-- p retires page x, which is dead
pub record Retires {P : Type 0} (know : P → Know) (w w' : World P) (p : Name) (x : ℕ) (b : P) : Type 0 where
  pub extends : Extends w w' (silent p (Retire x)) b
  pub gone : w.status x ≡ Gone
  pub status : w'.status ≡ w.status
  pub sep : w'.sep ≡ w.sep
  pub map : w'.map ≡ w.map
  pub middle : (know b).middle ≡ (know (w.proc p)).middle
  pub places : (y : ℕ) → y ≢ x → HoldsPage (know (w.proc p)).holds y → HoldsPage (know b).holds y
  pub own : IsSure w' p (know b)

pub Retires-keeps : {P : Type 0} (know : P → Know) (w w' : World P) (p : Name) (x : ℕ) (b : P) → Retires know w w' p x b → IsGood know w → IsGood know w'
Retires-keeps know w w' p x b s g =
    let change = s.extends.steps.changes in
    let owner = change.3.1 in
    let on = s.extends.steps.on in
    let was : w.now.owner x ≡ Held p = s.extends.steps.enabled in
    let back : (y : ℕ) → y ≢ x → w'.now.owner y ≡ w.now.owner y = owner.others in
    let not_x : (y : ℕ) (o : Owner) → w'.now.owner y ≡ o → o ≢ Retired change.0 → y ≢ x = λ y o h n i. n (sym h ∙ (ap w'.now.owner i ∙ owner.at)) in
    let was_not_x : (y : ℕ) (o : Owner) → w.now.owner y ≡ o → o ≢ Held p → y ≢ x = λ y o h n i. n (sym h ∙ (ap w.now.owner i ∙ was)) in
    let status_was_not : (y : ℕ) (a : Status) → w.status y ≡ a → a ≢ Gone → y ≢ x = λ y a h n i. n (sym h ∙ (ap w.status i ∙ s.gone)) in
    let live_was_not : (y : ℕ) → IsLive (w.status y) → y ≢ x = λ y h. not_dead w.status x y (rw s.gone gone_dead) h in
    let inner : IsInner (Retire x) = (λ e. cc, λ a e. cc) in
    let node : (y : ℕ) → nodes w'.now y ≡ nodes w.now y = λ y. ap node_of (change.3.0 y) in
    let may : (q : Name) (y : ℕ) → MayGet w q y → MayGet w' q y = λ q y h. record {
      since = h.since;
      runs = change.3.2 q ∙ h.runs;
      was = rw s.status h.was;
      kept = λ t e. elim (cases_eq y x) [
        | inl i ↦
            let f : Retired t ≡ Retired change.0 = sym e ∙ (ap w'.now.owner i ∙ owner.at) in
            let v : t ≡ change.0 = cc in
            let old = g.recorded.since q h.since h.runs in
            omega (arith, change.1)
        | inr i ↦ h.kept t (sym (back y i) ∙ e)
      ];
    } in
    let may_back : (q : Name) (y : ℕ) → MayGet w' q y → MayGet w q y = λ q y h. record {
      since = h.since;
      runs = sym (change.3.2 q) ∙ h.runs;
      was = rw s.status at h.was;
      kept = λ t e. h.kept t (back y (was_not_x y (Retired t) e (λ v. cc)) ∙ e);
    } in
    inner_keeps know w w' (silent p (Retire x)) b s.extends inner
    (Aside-keeps {x = x} {t = tree_of w} {t' = tree_of w'} (record {
      dead = rw s.gone gone_dead;
      dead_after = rw (s.status, s.gone) gone_dead;
      other = λ i. (let a : w.status x ≡ Anchored = rw i g.tree.anchored in cc (s.gone));
      node = λ z n. node z;
      status = λ z n. ap (λ f. f z) s.status;
      sep = λ z n. ap (λ f. f z) s.sep;
      roots = ap roots_of (change.3.0 0);
      map = s.map;
    }) g.tree)
    (record {
      released = λ y h. rw s.status (g.owned.released y (sym (back y (not_x y Released h (λ e. cc))) ∙ h));
      free = λ y h. let o = g.owned.free y (rw s.status at h) in back y (was_not_x y Released o (λ e. cc)) ∙ o;
      opened = λ y h. rw s.status (g.owned.opened y (sym (back y (not_x y Owner.Open h (λ e. cc))) ∙ h));
      retired = λ y t h. elim (cases_eq y x) [
        | inl i ↦ (rw (s.status, i) s.gone, (let f : Retired t ≡ Retired change.0 = sym h ∙ (ap w'.now.owner i ∙ owner.at) in let v : t ≡ change.0 = cc in omega (arith, change.2)))
        | inr i ↦ let o = g.owned.retired y t (sym (back y i) ∙ h) in (rw s.status o.0, omega (arith, o.1))
      ];
      held = held_step know w w' (silent p (Retire x)) b s.extends
          (λ y h. let n = not_x y (Held p) h (λ e. cc) in s.places y n (g.owned.held y p (sym (back y n) ∙ h)))
          (λ y q n h. sym (back y (not_x y (Held q) h (λ e. cc))) ∙ h) g.owned;
      uprooted = λ y h.
          let o : w.status y ≡ Uprooted = rw s.status at h in
          let k = g.owned.uprooted y o in
          record { by = k.by; held = back y (status_was_not y Uprooted o (λ e. cc)) ∙ k.held; anchor_held = back 0 (status_was_not 0 Anchored g.tree.anchored (λ e. cc)) ∙ k.anchor_held };
      small = λ y h. rw s.extends.size (g.owned.small y (rw s.status at h));
      one_anchor = λ y h. g.owned.one_anchor y (rw s.status at h);
    })
    (may_say know w (silent p (Retire x)) inner (λ said h. cc) g)
    (λ k. ap (λ f. f 0 k) s.map)
    (rw s.map g.bounded)
    (record {
      fresh = λ y h.
          let f : w.status y ≡ Fresh = rw s.status at h in
          inr (f, λ q e. back y (status_was_not y Fresh f (λ v. cc)) ∙ e, λ e. cc, λ e. cc, λ z c n e o. cc);
      not_taken = λ y h e. cc;
      live = λ y h. let l : IsLive (w.status y) = rw s.status at h in inl (l, λ q e. inl (sym (back y (live_was_not y l)) ∙ e));
    })
    (λ y h.
    let o : w.status y ≡ Gone = rw s.status at h in
    let old = g.gone y o in
    record {
      end = rw (node y) old.end;
      above = rw (node y) old.above;
      left = λ some.
          let was_left = old.left (rw (node y) at some) in
          record {
            leads = λ q m. let k = was_left.leads q (may_back q y m) in rw (node y) (may q (nodes w.now y).shape.right k.0, ap (λ v. v.shape.level) (node (nodes w.now y).shape.right) ∙ k.1);
            not_yet = λ q held.
                let v = sym (back y (not_x y (Held q) held (λ e. cc))) ∙ held in
                let k = was_left.not_yet q v in
                rw (node y) (back _ (live_was_not _ k.1) ∙ k.0, rw s.status k.1, ap (λ v. v.shape.level) (node (nodes w.now y).shape.right) ∙ k.2);
            later = λ q time next m e. rw (node y) (λ f. elim (cases_eq y x) [
              | inl i ↦
                  let k = was_left.not_yet p (ap w.now.owner i ∙ was) in
                  let v : Held p ≡ Retired next = sym k.0 ∙ (sym (back (nodes w.now y).shape.right (live_was_not (nodes w.now y).shape.right k.1)) ∙ f) in
                  absurd (cc v)
              | inr i ↦
                  let was_retired : w.now.owner y ≡ Retired time = sym (back y i) ∙ e in
                  elim (cases_eq (nodes w.now y).shape.right x) [
                    | inl j ↦
                        let v : Retired next ≡ Retired change.0 = sym f ∙ (ap w'.now.owner j ∙ owner.at) in
                        let u : next ≡ change.0 = cc in
                        let before = (g.owned.retired y time was_retired).1 in
                        omega (arith, change.1)
                    | inr j ↦ was_left.later q time next (may_back q y m) was_retired (sym (back (nodes w.now y).shape.right j) ∙ f)
                  ]
            ]);
          };
    })
    (λ a y h.
    let o : w.status y ≡ Right a = rw s.status at h in
    let i = g.middles a y o in
    middles_step know w w' (silent p (Retire x)) b a y s.extends s.middle i (λ z k l. (back z (λ v. elim l [ inl e ↦ (let f : w.status x ≡ Live = ap w.status (sym v) ∙ e in cc (s.gone)) | inr e ↦ (let f : w.status x ≡ Right a = ap w.status (sym v) ∙ e in cc (s.gone)) ]) ∙ k, ap (λ f. f z) s.status, node z)) o)
    (record {
      owner = λ q y n h. back y (was_not_x y (Held q) h (λ e. n cc)) ∙ h;
      contents = λ q y n h. change.3.0 y;
      status = λ q y n h. ap (λ f. f y) s.status;
      sep = λ q y n h. ap (λ f. f y) s.sep;
      relied = λ q c n h. (rw s.status h.alive, ap (λ f. f c.at) s.sep);
      may = λ q y n h. may q y h;
      level = λ y h. ap (λ v. v.shape.level) (node y);
      live_was = λ y h. was_live (w.status y) h;
      phase = λ q n. change.3.2 q;
      passed = λ a h. (omega (arith, h.0), λ q since below runs. h.1 q since below (sym (change.3.2 q) ∙ runs));
    })
    s.own g

-- p releases page x, which was retired before every process that runs began
pub record Releases {P : Type 0} (know : P → Know) (w w' : World P) (p : Name) (x : ℕ) (b : P) : Type 0 where
  pub extends : Extends w w' (silent p (Release x)) b
  pub status : IsAt x Free w.status w'.status
  pub sep : w'.sep ≡ w.sep
  pub map : w'.map ≡ w.map
  pub middle : (know b).middle ≡ (know (w.proc p)).middle
  pub places : (y : ℕ) → HoldsPage (know (w.proc p)).holds y → HoldsPage (know b).holds y
  pub own : IsSure w' p (know b)

pub Releases-keeps : {P : Type 0} (know : P → Know) (w w' : World P) (p : Name) (x : ℕ) (b : P) → Releases know w w' p x b → IsGood know w → IsGood know w'
Releases-keeps know w w' p x b s g =
    let change = s.extends.steps.changes in
    let owner = change.1 in
    let u = s.status in
    let on = s.extends.steps.on in
    let enabled = s.extends.steps.enabled in
    let was : w.now.owner x ≡ Retired enabled.0 = enabled.1 in
    let gone : w.status x ≡ Gone = (g.owned.retired x enabled.0 was).0 in
    let back : (y : ℕ) → y ≢ x → w'.now.owner y ≡ w.now.owner y = owner.others in
    let not_x : (y : ℕ) (o : Owner) → w'.now.owner y ≡ o → o ≢ Released → y ≢ x = λ y o h n i. n (sym h ∙ (ap w'.now.owner i ∙ owner.at)) in
    let was_held_not : (y : ℕ) (q : Name) → w.now.owner y ≡ Held q → y ≢ x = λ y q h i. (let v : Held q ≡ Retired enabled.0 = sym h ∙ (ap w.now.owner i ∙ was) in cc) in
    let status_not : (y : ℕ) (a : Status) → w'.status y ≡ a → a ≢ Free → y ≢ x = λ y a h n i. n (sym h ∙ (ap w'.status i ∙ u.at)) in
    let live_not : (y : ℕ) → IsLive (w'.status y) → y ≢ x = λ y h. not_dead w'.status x y (rw u.at free_dead) h in
    let live_was_not : (y : ℕ) → IsLive (w.status y) → y ≢ x = λ y h. not_dead w.status x y (rw gone gone_dead) h in
    let inner : IsInner (Release x) = (λ e. cc, λ a e. cc) in
    let node : (y : ℕ) → nodes w'.now y ≡ nodes w.now y = λ y. ap node_of (change.0 y) in
    let kept : (q : Name) (y : ℕ) → MayGet w q y → y ≢ x = λ q y h i. absurd (let t = h.kept enabled.0 (ap w.now.owner i ∙ was) in let o = enabled.2 q h.since h.runs in omega arith) in
    let may : (q : Name) (y : ℕ) → MayGet w q y → MayGet w' q y = λ q y h. record {
      since = h.since;
      runs = change.2 q ∙ h.runs;
      was = rw (u.others y (kept q y h)) h.was;
      kept = λ t e. h.kept t (sym (back y (kept q y h)) ∙ e);
    } in
    let may_back : (q : Name) (y : ℕ) → y ≢ x → MayGet w' q y → MayGet w q y = λ q y n h. record {
      since = h.since;
      runs = sym (change.2 q) ∙ h.runs;
      was = rw (u.others y n) at h.was;
      kept = λ t e. h.kept t (back y n ∙ e);
    } in
    inner_keeps know w w' (silent p (Release x)) b s.extends inner
    (Aside-keeps {x = x} {t = tree_of w} {t' = tree_of w'} (record {
      dead = rw gone gone_dead;
      dead_after = rw u.at free_dead;
      other = λ i. (let a : w.status x ≡ Anchored = rw i g.tree.anchored in cc);
      node = λ z n. node z;
      status = u.others;
      sep = λ z n. ap (λ f. f z) s.sep;
      roots = ap roots_of (change.0 0);
      map = s.map;
    }) g.tree)
    (record {
      released = λ y h. elim (cases_eq y x) [ inl i ↦ rw i u.at | inr i ↦ u.others y i ∙ g.owned.released y (sym (back y i) ∙ h) ];
      free = λ y h. elim (cases_eq y x) [ inl i ↦ rw i owner.at | inr i ↦ back y i ∙ g.owned.free y (sym (u.others y i) ∙ h) ];
      opened = λ y h. let n = not_x y Owner.Open h (λ e. cc) in rw (u.others y n) (g.owned.opened y (sym (back y n) ∙ h));
      retired = λ y t h. let n = not_x y (Retired t) h (λ e. cc) in let o = g.owned.retired y t (sym (back y n) ∙ h) in (u.others y n ∙ o.0, omega (arith, o.1));
      held = held_step know w w' (silent p (Release x)) b s.extends
          (λ y h. s.places y (g.owned.held y p (sym (back y (not_x y (Held p) h (λ e. cc))) ∙ h)))
          (λ y q n h. sym (back y (not_x y (Held q) h (λ e. cc))) ∙ h) g.owned;
      uprooted = λ y h.
          let k = g.owned.uprooted y (sym (u.others y (status_not y Uprooted h (λ e. cc))) ∙ h) in
          record { by = k.by; held = back y (was_held_not y k.by k.held) ∙ k.held; anchor_held = back 0 (was_held_not 0 k.by k.anchor_held) ∙ k.anchor_held };
      small = λ y h. rw s.extends.size (elim (cases_eq y x) [ inl i ↦ absurd (h (rw i u.at)) | inr i ↦ g.owned.small y (λ e. h (u.others y i ∙ e)) ]);
      one_anchor = λ y h. g.owned.one_anchor y (sym (u.others y (status_not y Anchored h (λ e. cc))) ∙ h);
    })
    (may_say know w (silent p (Release x)) inner (λ said h. cc) g)
    (λ k. ap (λ f. f 0 k) s.map)
    (rw s.map g.bounded)
    (record {
      fresh = λ y h. let n = status_not y Fresh h (λ e. cc) in inr (sym (u.others y n) ∙ h, λ q e. back y n ∙ e, λ e. cc, λ e. cc, λ z c m e o. cc);
      not_taken = λ y h e. cc;
      live = λ y h. let n = live_not y h in inl (rw (u.others y n) at h, λ q e. inl (sym (back y n) ∙ e));
    })
    (λ y h.
    let n = status_not y Gone h (λ e. cc) in
    let old = g.gone y (sym (u.others y n) ∙ h) in
    record {
      end = rw (node y) old.end;
      above = rw (node y) old.above;
      left = λ some.
          let was_left = old.left (rw (node y) at some) in
          record {
            leads = λ q m. let k = was_left.leads q (may_back q y n m) in rw (node y) (may q (nodes w.now y).shape.right k.0, ap (λ v. v.shape.level) (node (nodes w.now y).shape.right) ∙ k.1);
            not_yet = λ q held.
                let k = was_left.not_yet q (sym (back y n) ∙ held) in
                rw (node y) (back _ (live_was_not _ k.1) ∙ k.0, rw (u.others _ (live_was_not _ k.1)) k.1, ap (λ v. v.shape.level) (node (nodes w.now y).shape.right) ∙ k.2);
            later = λ q time next m e. rw (node y) (λ f. was_left.later q time next (may_back q y n m) (sym (back y n) ∙ e) (sym (back (nodes w.now y).shape.right (not_x (nodes w.now y).shape.right (Retired next) f (λ v. cc))) ∙ f));
          };
    })
    (λ a y h.
    let o = sym (u.others y (status_not y (Right a) h (λ e. cc))) ∙ h in
    let i = g.middles a y o in
    middles_step know w w' (silent p (Release x)) b a y s.extends s.middle i (λ z k l. let n = was_held_not z i.by k in (back z n ∙ k, u.others z n, node z)) o)
    (record {
      owner = λ q y n h. back y (was_held_not y q h) ∙ h;
      contents = λ q y n h. change.0 y;
      status = λ q y n h. u.others y (was_held_not y q h);
      sep = λ q y n h. ap (λ f. f y) s.sep;
      relied = λ q c n h. (rw (u.others c.at (live_was_not c.at h.alive)) h.alive, ap (λ f. f c.at) s.sep);
      may = λ q y n h. may q y h;
      level = λ y h. ap (λ v. v.shape.level) (node y);
      live_was = λ y h. was_live (w.status y) h;
      phase = λ q n. change.2 q;
      passed = λ a h. (omega (arith, h.0), λ q since below runs. h.1 q since below (sym (change.2 q) ∙ runs));
    })
    s.own g
