-- The two puts of an evening that change bounds: one page gains, then the other loses.
use Rattle.std.proofs.Common.{ℕ, ◌≡◌, ◌⊎◌, arith, ap, sym, ◌∙◌, refl, inl, inr}
use Rattle.std.proofs.lemmas.Bool.{cases_eq, cases_lt}
use Rattle.bl_page.specs.Machine.{IsAt}
use Rattle.bl_page.specs.Nodes.{Node, Covers}
use Rattle.bl_tree.specs.Trees.{IsLive, IsShape, Tree, shapes, IsTree}
use Rattle.bl_tree.specs.Trees.Status.{Live, Left}
use Rattle.bl_tree.specs.Moves.{IsAtTwo, GainsLeft, GainsRight, LosesLeft, LosesRight}
use Rattle.bl_tree.proofs.Statuses.{live_live, left_live, right_live, shape_at, not_anchor}
use Rattle.bl_tree.proofs.Said.{pair_uprooted, Says-keeps}
use Rattle.bl_tree.proofs.GainShapes.{gain_left_shape, gain_right_shape}
use Rattle.bl_tree.proofs.LossShapes.{lose_right_shape, lose_left_shape}

level_kept : {x : ℕ} {b : Node} {f f' : ℕ → Node} → IsAt x b f f' → b.shape.level ≡ (f x).shape.level → (z : ℕ) → (f' z).shape.level ≡ (f z).shape.level
level_kept {x} w e z = elim (cases_eq z x) [
  | inl i ↦ rw (i, w.at) e
  | inr i ↦ ap (λ n. n.shape.level) (w.others z i)
]

pub GainsLeft-keeps : {top x y : ℕ} {b : Node} {t t' : Tree} → GainsLeft top x y b t t' → IsTree top t → IsTree top t'
GainsLeft-keeps {top} {x} {y} {b} {t} {t'} m g =
    let w = m.put.node in
    let u = m.status in
    let c = m.gain in
    let lx : IsLive (t.status x) = rw m.live live_live in
    let ly : IsLive (t.status y) = rw m.right_live live_live in
    let live_x : IsLive (t'.status x) = rw u.at (left_live y) in
    let live_y : IsLive (t'.status y) = rw u.at_two (right_live x) in
    let same : (t.node y).shape.level ≡ (t.node x).shape.level = rw (← m.linked) (g.side.link_level x lx m.bound) in
    let wide = g.side.wide x lx in
    let meet : (t.node y).shape.low ≡ (t.node x).shape.end = rw (← m.linked) (g.side.link_same x lx m.bound (λ i. cc (m.live))) in
    let level = level_kept w c.level in
    let old : (z : ℕ) → IsLive (t'.status z) → IsLive (t.status z) = λ z h. grind (arith, u.others z) in
    let new : (z : ℕ) → IsLive (t.status z) → IsLive (t'.status z) = λ z h. grind (arith, u.others z) in
    Says-keeps (record {
      side = rw m.stays.sep (gain_left_shape top x y b.shape t.status t'.status (shapes t.node) (shapes t'.node) t.sep m.live m.right_live m.bound m.linked c.level c.low c.above c.below c.right (shape_at w) u g.side);
      said = λ z k h d. rw (level z) (elim (cases_eq z x) [
        | inl zx ↦
            let e : Covers b.shape k = rw (zx, w.at) at d in
            rw (zx, w.at) (elim (cases_lt k (t.node y).shape.low) [
              | inl under ↦ record { page = x; live = lx; level_is = refl; covers = (omega (arith, c.low), omega arith); says = sym (c.look k under) }
              | inr over ↦ record { page = y; live = ly; level_is = same; covers = (over, omega (arith, c.below)); says = sym (c.right_look k over e.1) }
            ])
        | inr zx ↦ record { page = z; live = old z h; level_is = refl; covers = rw (w.others z zx) at d; says = ap (λ n. n.look k) (sym (w.others z zx)) }
      ]);
      children = λ l k z f o. record { alive = new z o.alive; level_is = level z ∙ o.level_is; sep_is = rw m.stays.sep o.sep_is };
      anchored = u.others 0 (not_anchor t.status x lx g.anchored) (not_anchor t.status y ly g.anchored) ∙ g.anchored;
      level = λ z h. (old z h, level z);
      uprooted = pair_uprooted t t' u w (inl refl) (λ e. cc (m.live)) (λ e. cc (m.right_live)) (λ e. cc) (λ e. cc);
      roots = m.put.roots;
      map = m.stays.map;
    }) g

pub GainsRight-keeps : {top x y : ℕ} {d : Node} {t t' : Tree} → GainsRight top x y d t t' → IsTree top t → IsTree top t'
GainsRight-keeps {top} {x} {y} {d} {t} {t'} m g =
    let w = m.put.node in
    let u = m.status in
    let c = m.gain in
    let lx : IsLive (t.status x) = rw m.live live_live in
    let ly : IsLive (t.status y) = rw m.right_live live_live in
    let live_x : IsLive (t'.status x) = rw u.at (left_live y) in
    let live_y : IsLive (t'.status y) = rw u.at_two (right_live x) in
    let same : (t.node y).shape.level ≡ (t.node x).shape.level = rw (← m.linked) (g.side.link_level x lx m.bound) in
    let meet : (t.node y).shape.low ≡ (t.node x).shape.end = rw (← m.linked) (g.side.link_same x lx m.bound (λ i. cc (m.live))) in
    let level = level_kept w c.level in
    let old : (z : ℕ) → IsLive (t'.status z) → IsLive (t.status z) = λ z h. grind (arith, u.others z) in
    let new : (z : ℕ) → IsLive (t.status z) → IsLive (t'.status z) = λ z h. grind (arith, u.others z) in
    Says-keeps (record {
      side = rw m.stays.sep (gain_right_shape top x y d.shape t.status t'.status (shapes t.node) (shapes t'.node) t.sep m.live m.right_live m.bound m.linked c.level c.above c.below c.end c.right (shape_at w) u g.side);
      said = λ z k h f. rw (level z) (elim (cases_eq z y) [
        | inl zy ↦
            let e : Covers d.shape k = rw (zy, w.at) at f in
            rw (zy, w.at) (elim (cases_lt k (t.node y).shape.low) [
              | inl under ↦ record { page = x; live = lx; level_is = sym same; covers = (omega (arith, c.above), omega arith); says = sym (c.look k e.0 under) }
              | inr over ↦ record { page = y; live = ly; level_is = refl; covers = (over, omega (arith, c.end)); says = sym (c.right_look k over) }
            ])
        | inr zy ↦ record { page = z; live = old z h; level_is = refl; covers = rw (w.others z zy) at f; says = ap (λ n. n.look k) (sym (w.others z zy)) }
      ]);
      children = λ l k z f o. record { alive = new z o.alive; level_is = level z ∙ o.level_is; sep_is = rw m.stays.sep o.sep_is };
      anchored = u.others 0 (not_anchor t.status x lx g.anchored) (not_anchor t.status y ly g.anchored) ∙ g.anchored;
      level = λ z h. (old z h, level z);
      uprooted = pair_uprooted t t' u w (inr refl) (λ e. cc (m.live)) (λ e. cc (m.right_live)) (λ e. cc) (λ e. cc);
      roots = m.put.roots;
      map = m.stays.map;
    }) g

-- a page loses keys, and says of the others what it said
lose : {top x y p : ℕ} {b : Node} {t t' : Tree} → t.status x ≡ Left y → IsAt p b t.node t'.node → IsAtTwo x y Live Live t.status t'.status → (p ≡ x) ⊎ (p ≡ y) → IsLive (t.status p) → b.shape.level ≡ (t.node p).shape.level → ((k : ℕ) → Covers b.shape k → Covers (t.node p).shape k × (b.look k ≡ (t.node p).look k)) → t'.roots ≡ t.roots → t'.sep ≡ t.sep → t'.map ≡ t.map → IsShape top t'.status (shapes t'.node) t.sep → IsTree top t → IsTree top t'
lose {top} {x} {y} {p} {b} {t} {t'} sx w u at lp b_level says roots sep map side g =
    let lx : IsLive (t.status x) = rw sx (left_live y) in
    let ly : IsLive (t.status y) = rw (g.side.left x y sx) (right_live x) in
    let live_x : IsLive (t'.status x) = rw u.at live_live in
    let live_y : IsLive (t'.status y) = rw u.at_two live_live in
    let level = level_kept w b_level in
    let old : (z : ℕ) → IsLive (t'.status z) → IsLive (t.status z) = λ z h. grind (arith, u.others z) in
    let new : (z : ℕ) → IsLive (t.status z) → IsLive (t'.status z) = λ z h. grind (arith, u.others z) in
    Says-keeps (record {
      side = rw sep side;
      said = λ z k h f. rw (level z) (elim (cases_eq z p) [
        | inl zp ↦ let o = says k (rw (zp, w.at) at f) in rw (zp, w.at) (record { page = p; live = lp; level_is = refl; covers = o.0; says = sym o.1 })
        | inr zp ↦ record { page = z; live = old z h; level_is = refl; covers = rw (w.others z zp) at f; says = ap (λ n. n.look k) (sym (w.others z zp)) }
      ]);
      children = λ l k z f o. record { alive = new z o.alive; level_is = level z ∙ o.level_is; sep_is = rw sep o.sep_is };
      anchored = u.others 0 (not_anchor t.status x lx g.anchored) (not_anchor t.status y ly g.anchored) ∙ g.anchored;
      level = λ z h. (old z h, level z);
      uprooted = pair_uprooted t t' u w at (λ e. cc) (λ e. cc (g.side.left x y sx)) (λ e. cc) (λ e. cc);
      roots = roots;
      map = map;
    }) g

pub LosesRight-keeps : {top x y : ℕ} {d : Node} {t t' : Tree} → LosesRight x y d t t' → IsTree top t → IsTree top t'
LosesRight-keeps {top} {x} {y} {d} {t} {t'} m g =
    let c = m.loss in
    lose m.left m.put.node m.status (inr refl) (rw (g.side.left x y m.left) (right_live x)) c.level
    (λ k e. ((omega (arith, m.meets, c.low), omega (arith, c.end)), c.look k (omega (arith, c.low))))
    m.put.roots m.stays.sep m.stays.map
    (lose_right_shape top x y d.shape t.status t'.status (shapes t.node) (shapes t'.node) t.sep m.left m.level m.below m.meets m.inner m.linked m.y_sep c.level c.low c.end c.right (shape_at m.put.node) m.status g.side)
    g

pub LosesLeft-keeps : {top x y : ℕ} {b : Node} {t t' : Tree} → LosesLeft x y b t t' → IsTree top t → IsTree top t'
LosesLeft-keeps {top} {x} {y} {b} {t} {t'} m g =
    let c = m.loss in
    lose m.left m.put.node m.status (inl refl) (rw m.left (left_live y)) c.level
    (λ k e. ((omega (arith, c.low), omega (arith, c.end, m.meets)), c.look k (omega (arith, c.end))))
    m.put.roots m.stays.sep m.stays.map
    (lose_left_shape top x y b.shape t.status t'.status (shapes t.node) (shapes t'.node) t.sep m.left m.level m.below m.meets m.y_sep c.level c.low c.end c.right (shape_at m.put.node) m.status g.side)
    g
