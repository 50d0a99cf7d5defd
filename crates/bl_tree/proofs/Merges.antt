-- The two puts of a merge that change bounds: the left page takes all, the right page dies.
use Rattle.std.proofs.Common.{ℕ, ◌≡◌, ◌≢◌, ◌⊎◌, Some, None, false, suc, arith, ap, sym, ◌∙◌, refl, inl, inr}
use Rattle.std.proofs.lemmas.Bool.{cases_eq, cases_lt}
use Rattle.bl_page.specs.Nodes.{Node, Covers}
use Rattle.bl_tree.specs.Trees.{is_live, IsLive, Tree, shapes, IsChild, IsTree}
use Rattle.bl_tree.specs.Moves.{Joins, Dies}
use Rattle.bl_tree.proofs.Statuses.{live_live, left_live, right_live, gone_dead, not_dead, shape_at, not_anchor}
use Rattle.bl_tree.proofs.Said.{pair_uprooted, Says-keeps}
use Rattle.bl_tree.proofs.MergeShapes.{join_shape, die_shape}

pub Joins-keeps : {top x y : ℕ} {b : Node} {t t' : Tree} → Joins top x y b t t' → IsTree top t → IsTree top t'
Joins-keeps {top} {x} {y} {b} {t} {t'} m g =
    let w = m.put.node in
    let u = m.status in
    let c = m.join in
    let lx : IsLive (t.status x) = rw m.live live_live in
    let ly : IsLive (t.status y) = rw m.right_live live_live in
    let live_x : IsLive (t'.status x) = rw u.at (left_live y) in
    let live_y : IsLive (t'.status y) = rw u.at_two (right_live x) in
    let same : (t.node y).shape.level ≡ (t.node x).shape.level = rw (← m.linked) (g.side.link_level x lx m.bound) in
    let wide = g.side.wide x lx in
    let meet : (t.node y).shape.low ≡ (t.node x).shape.end = rw (← m.linked) (g.side.link_same x lx m.bound (λ i. cc (m.live))) in
    let level : (z : ℕ) → (t'.node z).shape.level ≡ (t.node z).shape.level = λ z. elim (cases_eq z x) [
      | inl i ↦ rw (i, w.at) c.level
      | inr i ↦ ap (λ n. n.shape.level) (w.others z i)
    ] in
    let old : (z : ℕ) → IsLive (t'.status z) → IsLive (t.status z) = λ z h. grind (arith, u.others z) in
    let new : (z : ℕ) → IsLive (t.status z) → IsLive (t'.status z) = λ z h. grind (arith, u.others z) in
    Says-keeps (record {
      side = rw m.stays.sep (join_shape top x y b.shape t.status t'.status (shapes t.node) (shapes t'.node) t.sep m.live m.right_live m.bound m.linked c.level c.low c.end c.right (shape_at w) u g.side);
      said = λ z k h d. rw (level z) (elim (cases_eq z x) [
        | inl zx ↦
            let e : Covers b.shape k = rw (zx, w.at) at d in
            rw (zx, w.at) (elim (cases_lt k (t.node y).shape.low) [
              | inl under ↦ record { page = x; live = lx; level_is = refl; covers = (omega arith, omega arith); says = sym (c.look k under) }
              | inr over ↦ record { page = y; live = ly; level_is = same; covers = (over, omega arith); says = sym (c.right_look k over) }
            ])
        | inr zx ↦ record { page = z; live = old z h; level_is = refl; covers = rw (w.others z zx) at d; says = ap (λ n. n.look k) (sym (w.others z zx)) }
      ]);
      children = λ l k z f o. record { alive = new z o.alive; level_is = level z ∙ o.level_is; sep_is = rw m.stays.sep o.sep_is };
      anchored = u.others 0 (not_anchor t.status x lx g.anchored) (not_anchor t.status y ly g.anchored) ∙ g.anchored;
      level = λ z h. (old z h, level z);
      uprooted = pair_uprooted t t' u w (inl refl) (λ e. cc (m.live)) (λ e. cc (m.right_live)) (λ e. cc) (λ e. cc);
      roots = m.put.roots;
      map = m.stays.map;
    }) g

pub Dies-keeps : {top x y : ℕ} {d : Node} {t t' : Tree} → Dies x y d t t' → IsTree top t → IsTree top t'
Dies-keeps {top} {x} {y} {d} {t} {t'} m g =
    let w = m.put.node in
    let u = m.status in
    let lx : IsLive (t.status x) = rw m.left (left_live y) in
    let ly : IsLive (t.status y) = rw (g.side.left x y m.left) (right_live x) in
    let live_x : IsLive (t'.status x) = rw u.at live_live in
    let dead_y : is_live (t'.status y) ≡ false = rw u.at_two gone_dead in
    let not_y : (z : ℕ) → IsLive (t'.status z) → z ≢ y = λ z h. not_dead t'.status y z dead_y h in
    let old : (z : ℕ) → IsLive (t'.status z) → IsLive (t.status z) = λ z h. grind (arith, u.others z, not_y z h) in
    let new : (z : ℕ) → z ≢ y → IsLive (t.status z) → IsLive (t'.status z) = λ z n h. grind (arith, u.others z) in
    let low = g.side.sep_low y ly in
    let kept : (l k z : ℕ) → (t.map (suc l) k ≡ Some z) ⊎ (k ≡ 0) → IsChild t l k z → z ≢ y = λ l k z f o i. elim f [
      | inl h ↦
          let a : t.map (suc (t.node z).shape.level) (t.sep z) ≡ Some z = rw (o.level_is, o.sep_is) h in
          let e : t.map (suc (t.node z).shape.level) (t.sep z) ≡ None = rw i m.unlisted in
          cc
      | inr h ↦ absurd (let s : t.sep y ≡ 0 = rw (← i) (o.sep_is ∙ h) in omega (arith, m.below))
    ] in
    Says-keeps (record {
      side = rw m.stays.sep (die_shape top x y d.shape t.status t'.status (shapes t.node) (shapes t'.node) t.sep m.left m.level m.below m.end m.right (shape_at w) u g.side);
      said = λ z k h e. let o = w.others z (not_y z h) in record { page = z; live = old z h; level_is = ap (λ n. n.shape.level) (sym o); covers = rw o at e; says = ap (λ n. n.look k) (sym o) };
      children = λ l k z f o. let n = kept l k z f o in record { alive = new z n o.alive; level_is = ap (λ n. n.shape.level) (w.others z n) ∙ o.level_is; sep_is = rw m.stays.sep o.sep_is };
      anchored = u.others 0 (not_anchor t.status x lx g.anchored) (not_anchor t.status y ly g.anchored) ∙ g.anchored;
      level = λ z h. (old z h, ap (λ n. n.shape.level) (w.others z (not_y z h)));
      uprooted = pair_uprooted t t' u w (inr refl) (λ e. cc (m.left)) (λ e. cc (g.side.left x y m.left)) (λ e. cc) (λ e. cc);
      roots = m.put.roots;
      map = m.stays.map;
    }) g
