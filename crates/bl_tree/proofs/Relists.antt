-- The parent's put of an evening: a child is listed by another key.
use Rattle.std.proofs.Common.{ℕ, ◌≡◌, ◌≢◌, ◌≤◌, Some, suc, arith, ap, sym, ◌∙◌, refl, inl, inr}
use Rattle.std.proofs.lemmas.Bool.{cases_eq}
use Rattle.bl_page.specs.Machine.{IsAt}
use Rattle.bl_page.specs.Nodes.{Shape, Node, Covers}
use Rattle.bl_tree.specs.Trees.{Status, IsLive, IsShape, Tree, IsChild, IsTree}
use Rattle.bl_tree.specs.Trees.Status.{Right}
use Rattle.bl_tree.specs.Moves.{Relists}
use Rattle.bl_tree.proofs.Statuses.{live_live, right_live, same_shapes, same_leftmost, not_here}

resep_shape : {top x y e : ℕ} {st : ℕ → Status} {shape : ℕ → Shape} {sep sep' : ℕ → ℕ} → st y ≡ Right x → (shape y).low ≤ e → IsAt y e sep sep' → IsShape top st shape sep → IsShape top st shape sep'
resep_shape {st = st} sy low s g = record {
  wide = g.wide;
  within = g.within;
  last = g.last;
  link_live = g.link_live;
  link_level = g.link_level;
  link_low = g.link_low;
  link_rise = g.link_rise;
  link_same = g.link_same;
  left = g.left;
  right = g.right;
  apart = g.apart;
  sep_low = λ z h. grind (arith, s.others z, g.sep_low z);
  sep_same = λ z h n. rw (s.others z (λ i. n _ (ap st i ∙ sy))) (g.sep_same z h n);
}

pub Relists-keeps : {top p x y e : ℕ} {q : Node} {t t' : Tree} → Relists p x y e q t t' → IsTree top t → IsTree top t'
Relists-keeps {top} {p} {x} {y} {e} {q} {t} {t'} m g =
    let w = m.put.node in
    let r = m.relisted in
    let ly : IsLive (t.status y) = rw m.right (right_live x) in
    let same : (z : ℕ) → (t'.node z).shape ≡ (t.node z).shape = λ z. elim (cases_eq z p) [
      | inl zp ↦ ap (λ i. (t'.node i).shape) zp ∙ (ap (λ n. n.shape) w.at ∙ (r.shape ∙ ap (λ i. (t.node i).shape) (sym zp)))
      | inr zp ↦ ap (λ n. n.shape) (w.others z zp)
    ] in
    let low = g.side.sep_low y ly in
    let child : (l j c : ℕ) → c ≢ y → IsChild t l j c → IsChild t' l j c = λ l j c n o. record { alive = rw m.status o.alive; level_is = rw (same c) o.level_is; sep_is = m.sep.others c n ∙ o.sep_is } in
    record {
      side = same_shapes m.status same refl (resep_shape m.right m.low m.sep g.side);
      agree = λ z k h d.
          let hz : IsLive (t.status z) = rw m.status at h in
          let dz : Covers (t.node z).shape k = rw (same z) at d in
          rw (same z) (elim (cases_eq z p) [
            | inl zp ↦ rw (zp, w.at) (elim (cases_eq k (t.sep y)) [
              | inl ky ↦ rw ky (r.gone ∙ sym m.gone)
              | inr ky ↦ elim (cases_eq k e) [
                | inl ke ↦ rw ke (r.here ∙ sym m.here)
                | inr ke ↦ r.rest k ky ke ∙ (g.agree p k (rw zp at hz) (rw zp at dz) ∙ sym (m.rest k ky ke))
              ]
            ])
            | inr zp ↦ ap (λ n. n.look k) (w.others z zp) ∙ (g.agree z k hz dz ∙ sym (elim (cases_eq (t.node z).shape.level (t.node p).shape.level) [
              | inl level ↦ rw level (m.rest k (not_here p z (t.sep y) k g.side m.live hz level r.old_covered dz zp) (not_here p z e k g.side m.live hz level r.new_covered dz zp))
              | inr level ↦ ap (λ f. f k) (m.others _ level)
            ]))
          ]);
      listed = λ l k c h. elim (cases_eq (suc l) (t.node p).shape.level) [
        | inl level ↦ elim (cases_eq k (t.sep y)) [
          | inl ky ↦ absurd (let a : t'.map (t.node p).shape.level (t.sep y) ≡ Some c = rw (level, ky) at h in cc (m.gone))
          | inr ky ↦ elim (cases_eq k e) [
            | inl ke ↦
                let a : t'.map (t.node p).shape.level e ≡ Some c = rw (level, ke) at h in
                let cy : c ≡ y = cc (m.here) in
                rw cy (record { alive = rw m.status ly; level_is = rw (same y) (omega (arith, m.level)); sep_is = m.sep.at ∙ sym ke })
            | inr ke ↦
                let o = g.listed l k c (rw level (sym (m.rest k ky ke) ∙ rw level at h)) in
                child l k c (λ i. ky (sym o.sep_is ∙ ap t.sep i)) o
          ]
        ]
        | inr apart ↦
            let o = g.listed l k c (ap (λ f. f k) (sym (m.others _ apart)) ∙ h) in
            child l k c (λ i. apart (let v : (t.node c).shape.level ≡ (t.node y).shape.level = ap (λ z. (t.node z).shape.level) i in omega (arith, m.level, o.level_is))) o
      ];
      anchored = rw m.status g.anchored;
      some_level = rw m.put.roots g.some_level;
      few_levels = rw m.put.roots g.few_levels;
      leftmost = same_leftmost m.put.roots (λ l h. let o = g.leftmost l h in child l 0 (t.roots.leftmost l) (λ i. absurd (let s : t.sep y ≡ 0 = rw (← i) o.sep_is in omega (arith, m.above))) o);
      below = λ z h n. rw (same z, m.put.roots) (g.below z (rw m.status at h) (rw m.status at n));
      uprooted = λ z h. let o = g.uprooted z (rw m.status at h) in record { level_is = rw (same z, m.put.roots) o.level_is; low = rw (same z) o.low; end = rw (same z) o.end };
      empty = λ l k c h f.
          let under = g.below p (rw m.live live_live) (λ i. cc (m.live)) in
          let up : t.roots.levels ≤ l = rw m.put.roots at h in
          let o = g.empty l k c up (ap (λ v. v k) (sym (m.others l (λ i. absurd (omega arith)))) ∙ f) in
          record { page = o.page; is = rw m.status o.is; level_is = rw (same o.page) o.level_is };
    }
