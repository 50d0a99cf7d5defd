-- The tree grows: page 0 names a new top level of one page.
use Rattle.std.proofs.Common.{ℕ, ◌≡◌, ◌≢◌, ◌<◌, ◌≤◌, Some, false, suc, arith, ap, sym, ◌∙◌, refl, inl, inr}
use Rattle.std.proofs.lemmas.Bool.{cases_eq}
use Rattle.bl_page.specs.Machine.{IsAt}
use Rattle.bl_page.specs.Nodes.{Shape}
use Rattle.bl_tree.specs.Trees.{Status, is_live, IsLive, IsShape, Tree, IsChild, IsTree}
use Rattle.bl_tree.specs.Trees.Status.{Fresh, Live, Left, Uprooted, Anchored}
use Rattle.bl_tree.specs.Moves.{Grows}
use Rattle.bl_tree.proofs.Statuses.{live_live, fresh_dead, anchored_dead, not_dead}

grow_shape : {top y : ℕ} {st st' : ℕ → Status} {shape shape' : ℕ → Shape} {sep : ℕ → ℕ} → 0 < top → st y ≡ Fresh → st 0 ≡ Anchored → ((z : ℕ) → IsLive (st z) → (shape z).level ≢ (shape y).level) → (shape y).low ≡ 0 → (shape y).end ≡ top → (shape y).right ≡ 0 → sep y ≡ 0 → IsAt y Live st st' → ((z : ℕ) → z ≢ 0 → shape' z ≡ shape z) → IsShape top st shape sep → IsShape top st' shape' sep
grow_shape {top} {y} {st} {st'} {shape} {shape'} {sep} some sy s0 new low end right sep_y u w g =
    let y0 : 0 ≢ y = λ i. (let e : st y ≡ Anchored = rw (← i) s0 in cc) in
    let dead_0 : is_live (st' 0) ≡ false = rw (u.others 0 y0, s0) anchored_dead in
    let same : (z : ℕ) → IsLive (st' z) → shape' z ≡ shape z = λ z h. w z (not_dead st' 0 z dead_0 h) in
    let old : (z : ℕ) → z ≢ y → IsLive (st' z) → IsLive (st z) = λ z n h. rw (u.others z n) at h in
    let inner : (z : ℕ) → IsLive (st' z) → (shape' z).end < top → z ≢ y = λ z h e i. absurd (let f : (shape y).end < top = rw (i, w y (λ v. y0 (sym v))) at e in omega arith) in
    let next : (z : ℕ) → IsLive (st' z) → (shape' z).end < top → IsLive (st (shape z).right) = λ z h e. g.link_live z (old z (inner z h e) h) (rw (same z h) at e) in
    let next_y : (z : ℕ) → IsLive (st' z) → (shape' z).end < top → (shape z).right ≢ y = λ z h e. not_dead st y _ (rw sy fresh_dead) (next z h e) in
    let next_0 : (z : ℕ) → IsLive (st' z) → (shape' z).end < top → (shape z).right ≢ 0 = λ z h e. not_dead st 0 _ (rw s0 anchored_dead) (next z h e) in
    let level : (z : ℕ) → IsLive (st' z) → (shape' z).level ≡ (shape y).level → z ≡ y = λ z h e. elim (cases_eq z y) [
      | inl i ↦ i
      | inr i ↦ absurd (new z (old z i h) (ap (λ s. s.level) (sym (same z h)) ∙ e))
    ] in
    record {
      wide = λ z h. rw (same z h) (elim (cases_eq z y) [ inl i ↦ rw i (omega arith) | inr i ↦ g.wide z (old z i h) ]);
      within = λ z h. rw (same z h) (elim (cases_eq z y) [ inl i ↦ rw i (omega arith) | inr i ↦ g.within z (old z i h) ]);
      last = λ z h. rw (same z h) (elim (cases_eq z y) [ inl i ↦ rw i (λ e. right) | inr i ↦ g.last z (old z i h) ]);
      link_live = λ z h e. rw (same z h, u.others (shape z).right (next_y z h e)) (next z h e);
      link_level = λ z h e. rw (same z h, w (shape z).right (next_0 z h e)) (g.link_level z (old z (inner z h e) h) (rw (same z h) at e));
      link_low = λ z h e. rw (same z h, w (shape z).right (next_0 z h e)) (g.link_low z (old z (inner z h e) h) (rw (same z h) at e));
      link_rise = λ z h e. rw (same z h, w (shape z).right (next_0 z h e)) (g.link_rise z (old z (inner z h e) h) (rw (same z h) at e));
      link_same = λ z h e n. rw (same z h, w (shape z).right (next_0 z h e)) (g.link_same z (old z (inner z h e) h) (rw (same z h) at e) (λ v. n (u.others z (inner z h e) ∙ (v ∙ ap (λ i. Left i.right) (sym (same z h))))));
      left = λ a c h. grind (arith, u.others a, u.others c, g.left a c);
      right = λ a c h. grind (arith, u.others a, u.others c, g.right a c);
      apart = λ a c k p q l i j m n. elim (cases_eq a y) [
        | inl ay ↦ ay ∙ sym (level c q (sym l ∙ (ap (λ v. (shape' v).level) ay ∙ ap (λ s. s.level) (w y (λ v. y0 (sym v))))))
        | inr ay ↦ elim (cases_eq c y) [
          | inl cy ↦ level a p (l ∙ (ap (λ v. (shape' v).level) cy ∙ ap (λ s. s.level) (w y (λ v. y0 (sym v))))) ∙ sym cy
          | inr cy ↦ g.apart a c k (old a ay p) (old c cy q) (rw (same a p, same c q) at l) (rw (same a p) at i) (rw (same c q) at j) (λ v. m (u.others a ay ∙ v)) (λ v. n (u.others a ay ∙ v))
        ]
      ];
      sep_low = λ z h. rw (same z h) (elim (cases_eq z y) [ inl i ↦ rw i (omega arith) | inr i ↦ g.sep_low z (old z i h) ]);
      sep_same = λ z h n. rw (same z h) (elim (cases_eq z y) [ inl i ↦ rw i (low ∙ sym sep_y) | inr i ↦ g.sep_same z (old z i h) (λ v f. n v (u.others z i ∙ f)) ]);
    }

pub Grows-keeps : {top y : ℕ} {t t' : Tree} → Grows top y t t' → IsTree top t → IsTree top t'
Grows-keeps {top} {y} {t} {t'} m g =
    let u = m.status in
    let first = g.leftmost 0 g.some_level in
    let wide = g.side.wide (t.roots.leftmost 0) first.alive in
    let within = g.side.within (t.roots.leftmost 0) first.alive in
    let not_0 : (z : ℕ) → IsLive (t.status z) → z ≢ 0 = λ z h. not_dead t.status 0 z (rw g.anchored anchored_dead) h in
    let not_y : (z : ℕ) → IsLive (t.status z) → z ≢ y = λ z h. not_dead t.status y z (rw m.fresh fresh_dead) h in
    let y0 : 0 ≢ y = λ i. (let e : t.status y ≡ Anchored = rw (← i) g.anchored in cc (m.fresh)) in
    let y_node : t'.node y ≡ t.node y = m.node y (λ v. y0 (sym v)) in
    let live_y : IsLive (t'.status y) = rw u.at live_live in
    let status_0 : t'.status 0 ≡ Anchored = u.others 0 y0 ∙ g.anchored in
    let same : (z : ℕ) → IsLive (t'.status z) → t'.node z ≡ t.node z = λ z h. m.node z (not_dead t'.status 0 z (rw status_0 anchored_dead) h) in
    let old : (z : ℕ) → z ≢ y → IsLive (t'.status z) → IsLive (t.status z) = λ z n h. rw (u.others z n) at h in
    let child : (l j c : ℕ) → IsChild t l j c → IsChild t' l j c = λ l j c o. record { alive = rw (u.others c (not_y c o.alive)) o.alive; level_is = rw (m.node c (not_0 c o.alive)) o.level_is; sep_is = rw m.sep o.sep_is } in
    record {
      side = rw m.sep (grow_shape (omega arith) m.fresh g.anchored (λ z h e. absurd (let b = g.below z h (m.none z) in omega (arith, m.level))) m.low m.end m.right m.y_sep u (λ z n. ap (λ v. v.shape) (m.node z n)) g.side);
      agree = λ z k h d. rw (same z h) (elim (cases_eq z y) [
        | inl zy ↦ rw (zy, m.level, m.map.at) refl
        | inr zy ↦ let lz = old z zy h in let b = g.below z lz (m.none z) in g.agree z k lz (rw (same z h) at d) ∙ ap (λ f. f k) (sym (m.map.others (t.node z).shape.level (λ i. absurd (omega arith))))
      ]);
      listed = λ l k c h. child l k c (elim (cases_eq (suc l) t.roots.levels) [
        | inl top_level ↦
            let look : (t.node y).look k ≡ Some c = ap (λ f. f k) (sym m.map.at) ∙ rw top_level at h in
            elim (cases_eq k 0) [
              | inl k0 ↦
                  let f : Some (t.roots.leftmost l) ≡ Some c = sym (m.first l top_level) ∙ (ap (t.node y).look (sym k0) ∙ look) in
                  let e : c ≡ t.roots.leftmost l = cc in
                  rw (e, k0) (g.leftmost l (omega arith))
              | inr k0 ↦ absurd (let f = m.only k k0 in cc)
            ]
        | inr lower ↦ g.listed l k c (ap (λ f. f k) (sym (m.map.others (suc l) lower)) ∙ h)
      ]);
      anchored = status_0;
      some_level = rw m.levels (omega arith);
      few_levels = rw m.levels (omega (arith, m.room));
      leftmost = λ l h. elim (cases_eq l t.roots.levels) [
        | inl e ↦ rw (e, m.leftmost.at) (record { alive = live_y; level_is = rw y_node m.level; sep_is = rw m.sep m.y_sep })
        | inr e ↦ rw (m.leftmost.others l e) (child l 0 (t.roots.leftmost l) (g.leftmost l (omega (arith, m.levels))))
      ];
      below = λ z h n. rw (same z h, m.levels) (elim (cases_eq z y) [
        | inl zy ↦ rw (zy, m.level) (omega arith)
        | inr zy ↦ let b = g.below z (old z zy h) (m.none z) in omega arith
      ]);
      uprooted = λ z h. absurd (elim (cases_eq z y) [
        | inl zy ↦ (let e : Live ≡ Uprooted = sym u.at ∙ (ap t'.status (sym zy) ∙ h) in cc)
        | inr zy ↦ m.none z (sym (u.others z zy) ∙ h)
      ]);
      empty = λ l k c h e. absurd (
          let up : suc t.roots.levels ≤ l = rw m.levels at h in
          let o = g.empty l k c (omega arith) (ap (λ f. f k) (sym (m.map.others l (λ i. absurd (omega arith)))) ∙ e) in
          m.none o.page o.is);
    }
