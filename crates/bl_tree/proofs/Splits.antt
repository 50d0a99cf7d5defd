-- A split is published, with the row for which it is made.
use Rattle.std.proofs.Common.{ℕ, ◌≡◌, ◌≢◌, ◌<◌, Option, arith, ap, sym, ◌∙◌, inl, inr}
use Rattle.std.proofs.lemmas.Bool.{cases_eq}
use Rattle.bl_page.specs.Nodes.{Node, Covers}
use Rattle.bl_tree.specs.Trees.{IsLive, Tree, shapes, IsChild, IsTree}
use Rattle.bl_tree.specs.Trees.Status.{Fresh, Live, Uprooted, Anchored}
use Rattle.bl_tree.specs.Moves.{Splits}
use Rattle.bl_tree.proofs.Statuses.{live_live, fresh_dead, not_dead, shape_at, same_leftmost}
use Rattle.bl_tree.proofs.Rows.{row_others, row_here, row_listed, row_empty}
use Rattle.bl_tree.proofs.SplitShapes.{cut_shape}

pub Splits-keeps : {top x y k : ℕ} {v : Option ℕ} {b : Node} {t t' : Tree} → Splits x y k v b t t' → IsTree top t → IsTree top t'
Splits-keeps {top} {x} {y} {k} {v} {b} {t} {t'} m g =
    let c = m.cut in
    let lx : IsLive (t.status x) = rw m.live live_live in
    let xy : y ≢ x = λ i. (let e : t.status x ≡ Fresh = rw (← i) m.fresh in cc (m.live)) in
    let y_node : t'.node y ≡ t.node y = m.put.node.others y xy in
    let old : (z : ℕ) → IsLive (t'.status z) → z ≢ y → IsLive (t.status z) = λ z h i. rw (m.status.others z i) at h in
    let not_y : (z : ℕ) → IsLive (t.status z) → z ≢ y = λ z h. not_dead t.status y z (rw m.fresh fresh_dead) h in
    let level : (z : ℕ) → (t'.node z).shape.level ≡ (t.node z).shape.level = λ z. elim (cases_eq z x) [
      | inl i ↦ rw (i, m.put.node.at) c.level
      | inr i ↦ ap (λ n. n.shape.level) (m.put.node.others z i)
    ] in
    let child : (l j z : ℕ) → IsChild t l j z → IsChild t' l j z = λ l j z o. record { alive = rw (m.status.others z (not_y z o.alive)) o.alive; level_is = level z ∙ o.level_is; sep_is = rw m.sep o.sep_is } in
    record {
      side = rw m.sep (cut_shape top x y b.shape t.status t'.status (shapes t.node) (shapes t'.node) t.sep m.live m.fresh c.above c.below c.level c.low c.end c.right c.right_level c.right_end c.right_right m.y_sep (shape_at m.put.node) m.status g.side);
      agree = λ z j h d. elim (cases_eq z y) [
        | inl zy ↦
            let e : Covers (t.node y).shape j = rw (zy, y_node) at d in
            rw (zy, y_node, c.right_level) (row_here j m.map (λ jk. rw jk (c.right_here (rw jk at e.0))) (λ jk. c.right_look j e.0 jk ∙ g.agree x j lx (omega arith, omega arith)))
        | inr zy ↦ elim (cases_eq z x) [
          | inl zx ↦
              let e : Covers b.shape j = rw (zx, m.put.node.at) at d in
              let under : j < (t.node y).shape.low = omega arith in
              rw (zx, m.put.node.at, c.level) (row_here j m.map (λ jk. rw jk (c.here (rw jk at under))) (λ jk. c.look j under jk ∙ g.agree x j lx (omega arith, omega arith)))
          | inr zx ↦ rw (m.put.node.others z zx) (row_others x z k j g m.live c.covered m.map (old z h zy) (rw (m.put.node.others z zx) at d) zx)
        ]
      ];
      listed = λ l j z h. child l j z (row_listed g m.map m.child l j z h);
      anchored = m.status.others 0 (λ i. (let e : t.status y ≡ Anchored = rw (← i) g.anchored in cc (m.fresh))) ∙ g.anchored;
      some_level = rw m.put.roots g.some_level;
      few_levels = rw m.put.roots g.few_levels;
      leftmost = same_leftmost m.put.roots (λ l h. child l 0 (t.roots.leftmost l) (g.leftmost l h));
      below = λ z h n. rw (level z, m.put.roots) (elim (cases_eq z y) [
        | inl zy ↦ rw (zy, c.right_level) (g.below x lx (λ i. cc (m.live)))
        | inr zy ↦ g.below z (old z h zy) (λ i. n (m.status.others z zy ∙ i))
      ]);
      uprooted = λ z h.
          let zy : z ≢ y = λ i. (let e : Live ≡ Uprooted = sym m.status.at ∙ (ap t'.status (sym i) ∙ h) in cc) in
          let was : t.status z ≡ Uprooted = sym (m.status.others z zy) ∙ h in
          let zx : z ≢ x = λ i. (let e : Live ≡ Uprooted = sym m.live ∙ (ap t.status (sym i) ∙ was) in cc) in
          let o = g.uprooted z was in
          record { level_is = rw (m.put.node.others z zx, m.put.roots) o.level_is; low = rw (m.put.node.others z zx) o.low; end = rw (m.put.node.others z zx) o.end };
      empty = λ l j z h e.
          let o = row_empty x k g m.live m.map l j z (rw m.put.roots at h) e in
          let zy : o.page ≢ y = λ i. (let f : Fresh ≡ Uprooted = sym m.fresh ∙ (ap t.status (sym i) ∙ o.is) in cc) in
          record { page = o.page; is = m.status.others o.page zy ∙ o.is; level_is = level o.page ∙ o.level_is };
    }
