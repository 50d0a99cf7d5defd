-- The height falls: page 0 names the top level no longer, and then its only page is dead.
use Rattle.std.proofs.Common.{ℕ, ◌≡◌, ◌≢◌, ◌⊎◌, ◌<◌, ◌≤◌, Some, None, false, suc, arith, ap, sym, ◌∙◌, refl, inl, inr}
use Rattle.std.proofs.lemmas.Bool.{cases_eq}
use Rattle.bl_page.specs.Machine.{IsAt}
use Rattle.bl_page.specs.Nodes.{Shape, Node}
use Rattle.bl_tree.specs.Trees.{Status, is_live, IsLive, IsShape, Tree, shapes, IsChild, IsTree}
use Rattle.bl_tree.specs.Trees.Status.{Live, Left, Right, Uprooted, Gone, Anchored}
use Rattle.bl_tree.specs.Moves.{Lowers, Falls}
use Rattle.bl_tree.proofs.Statuses.{live_live, uprooted_live, gone_dead, anchored_dead, not_dead, same_leftmost}

-- the bounds and links stay as they are where a live page x stands elsewhere
uproot_shape : {top x : ℕ} {st st' : ℕ → Status} {shape : ℕ → Shape} {sep : ℕ → ℕ} → st x ≡ Live → IsAt x Uprooted st st' → IsShape top st shape sep → IsShape top st' shape sep
uproot_shape {top} {x} {st} {st'} {shape} {sep} sx u g =
    let lx : IsLive (st x) = rw sx live_live in
    let live_x : IsLive (st' x) = rw u.at uprooted_live in
    let old : (z : ℕ) → IsLive (st' z) → IsLive (st z) = λ z h. elim (cases_eq z x) [ inl i ↦ rw i lx | inr i ↦ rw (u.others z i) at h ] in
    let new : (z : ℕ) → IsLive (st z) → IsLive (st' z) = λ z h. elim (cases_eq z x) [ inl i ↦ rw i live_x | inr i ↦ rw (u.others z i) h ] in
    let pairs : (z : ℕ) (a : Status) → Live ≢ a → Uprooted ≢ a → (st z ≡ a) ⊎ (st' z ≡ a) → st' z ≡ st z = λ z a n m h. elim (cases_eq z x) [
      | inl i ↦ absurd (elim h [ inl e ↦ n (sym sx ∙ (ap st (sym i) ∙ e)) | inr e ↦ m (sym u.at ∙ (ap st' (sym i) ∙ e)) ])
      | inr i ↦ u.others z i
    ] in
    let left_kept : (z y : ℕ) → (st z ≡ Left y) ⊎ (st' z ≡ Left y) → st' z ≡ st z = λ z y h. pairs z (Left y) (λ e. cc) (λ e. cc) h in
    let right_kept : (z y : ℕ) → (st z ≡ Right y) ⊎ (st' z ≡ Right y) → st' z ≡ st z = λ z y h. pairs z (Right y) (λ e. cc) (λ e. cc) h in
    record {
      wide = λ z h. g.wide z (old z h);
      within = λ z h. g.within z (old z h);
      last = λ z h. g.last z (old z h);
      link_live = λ z h e. new (shape z).right (g.link_live z (old z h) e);
      link_level = λ z h. g.link_level z (old z h);
      link_low = λ z h. g.link_low z (old z h);
      link_rise = λ z h. g.link_rise z (old z h);
      link_same = λ z h e n. g.link_same z (old z h) e (λ i. n (left_kept z (shape z).right (inl i) ∙ i));
      left = λ a c h. let o = g.left a c (sym (left_kept a c (inr h)) ∙ h) in right_kept c a (inl o) ∙ o;
      right = λ a c h. let o = g.right a c (sym (right_kept c a (inr h)) ∙ h) in left_kept a c (inl o) ∙ o;
      apart = λ a c k p q l i j m n. g.apart a c k (old a p) (old c q) l i j (λ e. m (left_kept a c (inl e) ∙ e)) (λ e. n (right_kept a c (inl e) ∙ e));
      sep_low = λ z h. g.sep_low z (old z h);
      sep_same = λ z h n. g.sep_same z (old z h) (λ y e. n y (right_kept z y (inl e) ∙ e));
    }

-- the shapes of pages but for one, which is not live, matter
other_shapes : {top o : ℕ} {st : ℕ → Status} {shape shape' : ℕ → Shape} {sep : ℕ → ℕ} → is_live (st o) ≡ false → ((z : ℕ) → z ≢ o → shape' z ≡ shape z) → IsShape top st shape sep → IsShape top st shape' sep
other_shapes {top} {o} {st} {shape} {shape'} {sep} d w g =
    let same : (z : ℕ) → IsLive (st z) → shape' z ≡ shape z = λ z h. w z (not_dead st o z d h) in
    let next : (z : ℕ) → IsLive (st z) → (shape' z).end < top → (shape z).right ≢ o = λ z h e. not_dead st o (shape z).right d (g.link_live z h (rw (same z h) at e)) in
    record {
      wide = λ z h. rw (same z h) (g.wide z h);
      within = λ z h. rw (same z h) (g.within z h);
      last = λ z h. rw (same z h) (g.last z h);
      link_live = λ z h e. rw (same z h) (g.link_live z h (rw (same z h) at e));
      link_level = λ z h e. rw (same z h, w (shape z).right (next z h e)) (g.link_level z h (rw (same z h) at e));
      link_low = λ z h e. rw (same z h, w (shape z).right (next z h e)) (g.link_low z h (rw (same z h) at e));
      link_rise = λ z h e. rw (same z h, w (shape z).right (next z h e)) (g.link_rise z h (rw (same z h) at e));
      link_same = λ z h e n. rw (same z h, w (shape z).right (next z h e)) (g.link_same z h (rw (same z h) at e) (λ v. n (v ∙ ap (λ i. Left i.right) (sym (same z h)))));
      left = g.left;
      right = g.right;
      apart = λ a c k p q l i j. g.apart a c k p q (rw (same a p, same c q) at l) (rw (same a p) at i) (rw (same c q) at j);
      sep_low = λ z h. rw (same z h) (g.sep_low z h);
      sep_same = λ z h n. rw (same z h) (g.sep_same z h n);
    }

pub Lowers-keeps : {top x : ℕ} {t t' : Tree} → 0 < top → Lowers top x t t' → IsTree top t → IsTree top t'
Lowers-keeps {top} {x} {t} {t'} some m g =
    let u = m.status in
    let lx : IsLive (t.status x) = rw m.live live_live in
    let live_x : IsLive (t'.status x) = rw u.at uprooted_live in
    let x0 : x ≢ 0 = not_dead t.status 0 x (rw g.anchored anchored_dead) lx in
    let status_0 : t'.status 0 ≡ Anchored = u.others 0 (λ i. x0 (sym i)) ∙ g.anchored in
    let old : (z : ℕ) → IsLive (t'.status z) → IsLive (t.status z) = λ z h. elim (cases_eq z x) [ inl i ↦ rw i lx | inr i ↦ rw (u.others z i) at h ] in
    let new : (z : ℕ) → IsLive (t.status z) → IsLive (t'.status z) = λ z h. elim (cases_eq z x) [ inl i ↦ rw i live_x | inr i ↦ rw (u.others z i) h ] in
    let same : (z : ℕ) → IsLive (t.status z) → t'.node z ≡ t.node z = λ z h. m.node z (not_dead t.status 0 z (rw g.anchored anchored_dead) h) in
    let child : (l j c : ℕ) → IsChild t l j c → IsChild t' l j c = λ l j c o. record { alive = new c o.alive; level_is = rw (same c o.alive) o.level_is; sep_is = rw m.stays.sep o.sep_is } in
    -- x is alone on its level
    let alone : (z : ℕ) → IsLive (t.status z) → (t.node z).shape.level ≡ (t.node x).shape.level → z ≡ x = λ z h e.
    let wide = g.side.wide z h in
    let within = g.side.within z h in
    sym (g.side.apart x z (t.node z).shape.low lx h (sym e) (omega (arith, m.low), omega (arith, m.end)) (omega arith, wide) (λ i. cc (m.live)) (λ i. cc (m.live))) in
    record {
      side = rw m.stays.sep (other_shapes (rw status_0 anchored_dead) (λ z n. ap (λ v. v.shape) (m.node z n)) (uproot_shape m.live u g.side));
      agree = λ z k h d. let o = old z h in rw (same z o, m.stays.map) (g.agree z k o (rw (same z o) at d));
      listed = λ l k c h. child l k c (g.listed l k c (rw m.stays.map at h));
      anchored = status_0;
      some_level = rw m.levels m.above;
      few_levels = rw m.levels (let few = g.few_levels in omega (arith, m.level));
      leftmost = λ l h. let i : l < (t.node x).shape.level = rw m.levels at h in rw (m.leftmost l i) (child l 0 (t.roots.leftmost l) (g.leftmost l (omega (arith, m.level))));
      below = λ z h n.
          let o = old z h in
          let zx : z ≢ x = λ i. n (ap t'.status i ∙ u.at) in
          let b = g.below z o (m.none z) in
          let not_top : (t.node z).shape.level ≢ (t.node x).shape.level = λ e. zx (alone z o e) in
          rw (same z o, m.levels) (omega (arith, m.level));
      uprooted = λ z h. elim (cases_eq z x) [
        | inl i ↦ rw i (record { level_is = rw (same x lx, m.levels) refl; low = rw (same x lx) m.low; end = rw (same x lx) m.end })
        | inr i ↦ absurd (m.none z (sym (u.others z i) ∙ h))
      ];
      empty = λ l k c h e. elim (cases_eq l (t.node x).shape.level) [
        | inl i ↦ record { page = x; is = u.at; level_is = rw (same x lx) (sym i) }
        | inr i ↦ absurd (
            let up : (t.node x).shape.level ≤ l = rw m.levels at h in
            let o = g.empty l k c (omega (arith, m.level)) (ap (λ f. f l k) (sym m.stays.map) ∙ e) in
            m.none o.page o.is)
      ];
    }

-- an uprooted page dies, which no page links to
fall_shape : {top x : ℕ} {st st' : ℕ → Status} {shape shape' : ℕ → Shape} {sep : ℕ → ℕ} → st x ≡ Uprooted → ((z : ℕ) → IsLive (st z) → (shape z).end < top → (shape z).right ≢ x) → ((z : ℕ) → z ≢ x → shape' z ≡ shape z) → IsAt x Gone st st' → IsShape top st shape sep → IsShape top st' shape' sep
fall_shape {top} {x} {st} {st'} {shape} {shape'} {sep} sx no_link w u g =
    let dead_x : is_live (st' x) ≡ false = rw u.at gone_dead in
    let not_x : (z : ℕ) → IsLive (st' z) → z ≢ x = λ z h. not_dead st' x z dead_x h in
    let old : (z : ℕ) → IsLive (st' z) → IsLive (st z) = λ z h. rw (u.others z (not_x z h)) at h in
    let same : (z : ℕ) → IsLive (st' z) → shape' z ≡ shape z = λ z h. w z (not_x z h) in
    let next : (z : ℕ) → IsLive (st' z) → (shape' z).end < top → (shape z).right ≢ x = λ z h e. no_link z (old z h) (rw (same z h) at e) in
    let paired : (z : ℕ) (a : Status) → Uprooted ≢ a → Gone ≢ a → (st z ≡ a) ⊎ (st' z ≡ a) → z ≢ x = λ z a n m h i. elim h [ inl e ↦ n (sym sx ∙ (ap st (sym i) ∙ e)) | inr e ↦ m (sym u.at ∙ (ap st' (sym i) ∙ e)) ] in
    let lefts : (z y : ℕ) → (st z ≡ Left y) ⊎ (st' z ≡ Left y) → z ≢ x = λ z y h. paired z (Left y) (λ e. cc) (λ e. cc) h in
    let rights : (z y : ℕ) → (st z ≡ Right y) ⊎ (st' z ≡ Right y) → z ≢ x = λ z y h. paired z (Right y) (λ e. cc) (λ e. cc) h in
    record {
      wide = λ z h. rw (same z h) (g.wide z (old z h));
      within = λ z h. rw (same z h) (g.within z (old z h));
      last = λ z h. rw (same z h) (g.last z (old z h));
      link_live = λ z h e. rw (same z h, u.others (shape z).right (next z h e)) (g.link_live z (old z h) (rw (same z h) at e));
      link_level = λ z h e. rw (same z h, w (shape z).right (next z h e)) (g.link_level z (old z h) (rw (same z h) at e));
      link_low = λ z h e. rw (same z h, w (shape z).right (next z h e)) (g.link_low z (old z h) (rw (same z h) at e));
      link_rise = λ z h e. rw (same z h, w (shape z).right (next z h e)) (g.link_rise z (old z h) (rw (same z h) at e));
      link_same = λ z h e n. rw (same z h, w (shape z).right (next z h e)) (g.link_same z (old z h) (rw (same z h) at e) (λ v. n (u.others z (not_x z h) ∙ (v ∙ ap (λ i. Left i.right) (sym (same z h))))));
      left = λ a c h.
          let o = g.left a c (sym (u.others a (lefts a c (inr h))) ∙ h) in
          u.others c (rights c a (inl o)) ∙ o;
      right = λ a c h.
          let o = g.right a c (sym (u.others c (rights c a (inr h))) ∙ h) in
          u.others a (lefts a c (inl o)) ∙ o;
      apart = λ a c k p q l i j m n. g.apart a c k (old a p) (old c q) (rw (same a p, same c q) at l) (rw (same a p) at i) (rw (same c q) at j) (λ v. m (u.others a (not_x a p) ∙ v)) (λ v. n (u.others a (not_x a p) ∙ v));
      sep_low = λ z h. rw (same z h) (g.sep_low z (old z h));
      sep_same = λ z h n. rw (same z h) (g.sep_same z (old z h) (λ v f. n v (u.others z (not_x z h) ∙ f)));
    }

pub Falls-keeps : {top x : ℕ} {d : Node} {t t' : Tree} → 0 < top → Falls x d t t' → IsTree top t → IsTree top t'
Falls-keeps {top} {x} {d} {t} {t'} some m g =
    let w = m.put.node in
    let u = m.status in
    let lx : IsLive (t.status x) = rw m.uprooted uprooted_live in
    let k = g.uprooted x m.uprooted in
    let dead_x : is_live (t'.status x) ≡ false = rw u.at gone_dead in
    let not_x : (z : ℕ) → IsLive (t'.status z) → z ≢ x = λ z h. not_dead t'.status x z dead_x h in
    let old : (z : ℕ) → IsLive (t'.status z) → IsLive (t.status z) = λ z h. rw (u.others z (not_x z h)) at h in
    -- x is the only page of its level, and the only one that is uprooted
    let alone : (z : ℕ) → t.status z ≡ Uprooted → z ≡ x = λ z h.
    let o = g.uprooted z h in
    g.side.apart z x 0 (rw h uprooted_live) lx (o.level_is ∙ sym k.level_is) (omega (arith, o.low), omega (arith, o.end)) (omega (arith, k.low), omega (arith, k.end)) (λ i. cc) (λ i. cc) in
    let lower : (z : ℕ) → IsLive (t.status z) → z ≢ x → (t.node z).shape.level < t.roots.levels = λ z h n. g.below z h (λ e. n (alone z e)) in
    let child : (l j c : ℕ) → c ≢ x → IsChild t l j c → IsChild t' l j c = λ l j c n o. record { alive = rw (u.others c n) o.alive; level_is = rw (w.others c n) o.level_is; sep_is = rw m.sep o.sep_is } in
    record {
      side = rw m.sep (fall_shape {shape = shapes t.node} {shape' = shapes t'.node} m.uprooted (λ z h e r.
          let level : (t.node x).shape.level ≡ (t.node z).shape.level = ap (λ v. (t.node v).shape.level) (sym r) ∙ g.side.link_level z h e in
          let zx : z ≢ x = λ i. absurd (let f : (t.node x).shape.end < top = rw i at e in omega (arith, k.end)) in
          absurd (let b = lower z h zx in omega (arith, k.level_is))) (λ z n. ap (λ v. v.shape) (w.others z n)) u g.side);
      agree = λ z j h e.
          let n = not_x z h in
          let o = old z h in
          let b = lower z o n in
          rw (w.others z n) (g.agree z j o (rw (w.others z n) at e) ∙ ap (λ f. f j) (sym (m.map.others (t.node z).shape.level (λ i. absurd (omega (arith, k.level_is))))));
      listed = λ l j c h. elim (cases_eq (suc l) (t.node x).shape.level) [
        | inl i ↦ absurd (let e : None ≡ Some c = ap (λ f. f j) (sym m.map.at) ∙ (ap (λ v. t'.map v j) (sym i) ∙ h) in cc)
        | inr i ↦
            let was : t.map (suc l) j ≡ Some c = ap (λ f. f j) (sym (m.map.others (suc l) i)) ∙ h in
            let o = g.listed l j c was in
            child l j c (λ e. absurd (
            let level : (t.node x).shape.level ≡ l = ap (λ v. (t.node v).shape.level) (sym e) ∙ o.level_is in
            let s = g.empty (suc l) j c (omega (arith, k.level_is)) was in
            let r = g.uprooted s.page s.is in
            omega (arith, s.level_is, r.level_is, k.level_is))) o
      ];
      anchored = u.others 0 (λ i. (let e : Anchored ≡ Uprooted = sym g.anchored ∙ (ap t.status i ∙ m.uprooted) in cc)) ∙ g.anchored;
      some_level = rw m.put.roots g.some_level;
      few_levels = rw m.put.roots g.few_levels;
      leftmost = same_leftmost m.put.roots (λ l h.
          let o = g.leftmost l h in
          child l 0 (t.roots.leftmost l) (λ e. absurd (
          let level : (t.node x).shape.level ≡ l = ap (λ v. (t.node v).shape.level) (sym e) ∙ o.level_is in
          omega (arith, k.level_is))) o);
      below = λ z h n. rw (w.others z (not_x z h), m.put.roots) (lower z (old z h) (not_x z h));
      uprooted = λ z h. absurd (elim (cases_eq z x) [
        | inl i ↦ (let e : Gone ≡ Uprooted = sym u.at ∙ (ap t'.status (sym i) ∙ h) in cc)
        | inr i ↦ i (alone z (sym (u.others z i) ∙ h))
      ]);
      empty = λ l j c h e. absurd (elim (cases_eq l (t.node x).shape.level) [
        | inl i ↦ (let f : None ≡ Some c = ap (λ f. f j) (sym m.map.at) ∙ (ap (λ v. t'.map v j) (sym i) ∙ e) in cc)
        | inr i ↦
            let s = g.empty l j c (rw m.put.roots at h) (ap (λ f. f j) (sym (m.map.others l i)) ∙ e) in
            let r = g.uprooted s.page s.is in
            absurd (i (sym s.level_is ∙ (r.level_is ∙ sym k.level_is)))
      ]);
    }
