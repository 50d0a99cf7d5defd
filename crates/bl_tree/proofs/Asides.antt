-- A page that is not in the tree changes.
use Rattle.std.proofs.Common.{ℕ, ◌≡◌, ◌≢◌, ◌<◌, false, ap, sym, ◌∙◌, inl, inr}
use Rattle.std.proofs.lemmas.Bool.{cases_eq, false≢true}
use Rattle.bl_page.specs.Nodes.{Shape}
use Rattle.bl_tree.specs.Trees.{Status, is_live, IsLive, IsShape, Tree, IsChild, IsTree}
use Rattle.bl_tree.specs.Trees.Status.{Left}
use Rattle.bl_tree.specs.Moves.{Aside}
use Rattle.bl_tree.proofs.Statuses.{uprooted_live, not_dead, left_live, right_live, same_leftmost}

aside_shape : {top x : ℕ} {st st' : ℕ → Status} {shape shape' : ℕ → Shape} {sep sep' : ℕ → ℕ} → is_live (st x) ≡ false → is_live (st' x) ≡ false → ((z : ℕ) → z ≢ x → shape' z ≡ shape z) → ((z : ℕ) → z ≢ x → st' z ≡ st z) → ((z : ℕ) → z ≢ x → sep' z ≡ sep z) → IsShape top st shape sep → IsShape top st' shape' sep'
aside_shape {top} {x} {st} {st'} {shape} {shape'} {sep} {sep'} d d' w u s g =
    let not_x : (z : ℕ) → IsLive (st' z) → z ≢ x = λ z h. not_dead st' x z d' h in
    let old : (z : ℕ) → IsLive (st' z) → IsLive (st z) = λ z h. rw (u z (not_x z h)) at h in
    let same : (z : ℕ) → IsLive (st' z) → shape' z ≡ shape z = λ z h. w z (not_x z h) in
    let next : (z : ℕ) → IsLive (st' z) → (shape' z).end < top → (shape z).right ≢ x = λ z h e. not_dead st x (shape z).right d (g.link_live z (old z h) (rw (same z h) at e)) in
    record {
      wide = λ z h. rw (same z h) (g.wide z (old z h));
      within = λ z h. rw (same z h) (g.within z (old z h));
      last = λ z h. rw (same z h) (g.last z (old z h));
      link_live = λ z h e. rw (same z h, u (shape z).right (next z h e)) (g.link_live z (old z h) (rw (same z h) at e));
      link_level = λ z h e. rw (same z h, w (shape z).right (next z h e)) (g.link_level z (old z h) (rw (same z h) at e));
      link_low = λ z h e. rw (same z h, w (shape z).right (next z h e)) (g.link_low z (old z h) (rw (same z h) at e));
      link_rise = λ z h e. rw (same z h, w (shape z).right (next z h e)) (g.link_rise z (old z h) (rw (same z h) at e));
      link_same = λ z h e n. rw (same z h, w (shape z).right (next z h e)) (g.link_same z (old z h) (rw (same z h) at e) (λ v. n (u z (not_x z h) ∙ (v ∙ ap (λ i. Left i.right) (sym (same z h))))));
      left = λ a c h. elim (cases_eq a x) [
        | inl ax ↦ absurd (false≢true (sym d' ∙ (ap (λ i. is_live (st' i)) (sym ax) ∙ (ap is_live h ∙ left_live c))))
        | inr ax ↦
            let o = g.left a c (sym (u a ax) ∙ h) in
            u c (not_dead st x c d (rw o (right_live a))) ∙ o
      ];
      right = λ a c h. elim (cases_eq c x) [
        | inl cx ↦ absurd (false≢true (sym d' ∙ (ap (λ i. is_live (st' i)) (sym cx) ∙ (ap is_live h ∙ right_live a))))
        | inr cx ↦
            let o = g.right a c (sym (u c cx) ∙ h) in
            u a (not_dead st x a d (rw o (left_live c))) ∙ o
      ];
      apart = λ a c k p q l i j m n. g.apart a c k (old a p) (old c q) (rw (same a p, same c q) at l) (rw (same a p) at i) (rw (same c q) at j) (λ v. m (u a (not_x a p) ∙ v)) (λ v. n (u a (not_x a p) ∙ v));
      sep_low = λ z h. rw (same z h, s z (not_x z h)) (g.sep_low z (old z h));
      sep_same = λ z h n. rw (same z h, s z (not_x z h)) (g.sep_same z (old z h) (λ v f. n v (u z (not_x z h) ∙ f)));
    }

pub Aside-keeps : {top x : ℕ} {t t' : Tree} → Aside x t t' → IsTree top t → IsTree top t'
Aside-keeps {top} {x} {t} {t'} m g =
    let not_x : (z : ℕ) → IsLive (t'.status z) → z ≢ x = λ z h. not_dead t'.status x z m.dead_after h in
    let old : (z : ℕ) → IsLive (t'.status z) → IsLive (t.status z) = λ z h. rw (m.status z (not_x z h)) at h in
    let child : (l j c : ℕ) → IsChild t l j c → IsChild t' l j c = λ l j c o. let n = not_dead t.status x c m.dead o.alive in record { alive = rw (m.status c n) o.alive; level_is = rw (m.node c n) o.level_is; sep_is = m.sep c n ∙ o.sep_is } in
    record {
      side = aside_shape m.dead m.dead_after (λ z n. ap (λ v. v.shape) (m.node z n)) m.status m.sep g.side;
      agree = λ z k h d. let n = m.node z (not_x z h) in rw (n, m.map) (g.agree z k (old z h) (rw n at d));
      listed = λ l k c h. child l k c (g.listed l k c (rw m.map at h));
      anchored = m.status 0 (λ i. m.other (sym i)) ∙ g.anchored;
      some_level = rw m.roots g.some_level;
      few_levels = rw m.roots g.few_levels;
      leftmost = same_leftmost m.roots (λ l h. child l 0 (t.roots.leftmost l) (g.leftmost l h));
      below = λ z h n. rw (m.node z (not_x z h), m.roots) (g.below z (old z h) (λ i. n (m.status z (not_x z h) ∙ i)));
      uprooted = λ z h.
          let n = not_x z (rw h uprooted_live) in
          let o = g.uprooted z (sym (m.status z n) ∙ h) in
          record { level_is = rw (m.node z n, m.roots) o.level_is; low = rw (m.node z n) o.low; end = rw (m.node z n) o.end };
      empty = λ l k c h e.
          let o = g.empty l k c (rw m.roots at h) (ap (λ f. f l k) (sym m.map) ∙ e) in
          let n = not_dead t.status x o.page m.dead (rw o.is uprooted_live) in
          record { page = o.page; is = m.status o.page n ∙ o.is; level_is = rw (m.node o.page n) o.level_is };
    }
