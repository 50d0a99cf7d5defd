-- The bounds and links of pages through a merge.
use Rattle.std.proofs.Common.{◌-◌, ℕ, ◌≡◌, ◌≢◌, ◌<◌, false, arith, ap, sym, ◌∙◌, inl, inr}
use Rattle.std.proofs.lemmas.Bool.{cases_eq, false≢true}
use Rattle.bl_page.specs.Machine.{IsAt}
use Rattle.bl_page.specs.Nodes.{Shape}
use Rattle.bl_tree.specs.Trees.{Status, is_live, IsLive, IsShape}
use Rattle.bl_tree.specs.Trees.Status.{Live, Left, Right, Gone}
use Rattle.bl_tree.specs.Moves.{IsAtTwo}
use Rattle.bl_tree.proofs.TakeShapes.{take_left_shape}
use Rattle.bl_tree.proofs.Statuses.{live_live, left_live, right_live, gone_dead}

-- a merge's first put: the left page x takes all of its right neighbour y
pub join_shape : (top x y : ℕ) (b : Shape) (st st' : ℕ → Status) (shape shape' : ℕ → Shape) (sep : ℕ → ℕ) → st x ≡ Live → st y ≡ Live → (shape x).end < top → (shape x).right ≡ y → b.level ≡ (shape x).level → b.low ≡ (shape x).low → b.end ≡ (shape y).end → b.right ≡ (shape y).right → IsAt x b shape shape' → IsAtTwo x y (Left y) (Right x) st st' → IsShape top st shape sep → IsShape top st' shape' sep
join_shape top x y b st st' shape shape' sep sx sy inner xr b_level b_low b_end b_right w u g =
    let ly : IsLive (st y) = rw sy live_live in
    let wide = g.wide y ly in
    take_left_shape top x y b st st' shape shape' sep sx sy inner xr b_level b_low (omega (arith, wide, b_end)) (inr (b_end, b_right)) w u g

-- a merge's last put: the right page y is dead
pub die_shape : (top x y : ℕ) (d : Shape) (st st' : ℕ → Status) (shape shape' : ℕ → Shape) (sep : ℕ → ℕ) → st x ≡ Left y → (shape x).level ≡ (shape y).level → (shape x).low < (shape y).low → (shape x).end ≡ (shape y).end → (shape x).right ≡ (shape y).right → IsAt y d shape shape' → IsAtTwo x y Live Gone st st' → IsShape top st shape sep → IsShape top st' shape' sep
die_shape top x y d st st' shape shape' sep sx level below end right w u g =
    let sy : st y ≡ Right x = g.left x y sx in
    let lx : IsLive (st x) = rw sx (left_live y) in
    let ly : IsLive (st y) = rw sy (right_live x) in
    let wx = g.wide x lx in
    let wy = g.wide y ly in
    let xy : x ≢ y = λ i. absurd (let e : (shape x).low ≡ (shape y).low = ap (λ z. (shape z).low) i in omega arith) in
    let dead_y : is_live (st' y) ≡ false = rw u.at_two gone_dead in
    let live_x : IsLive (st' x) = rw u.at live_live in
    let not_y : (z : ℕ) → IsLive (st' z) → z ≢ y = λ z h i. absurd (false≢true (sym dead_y ∙ (ap (λ v. is_live (st' v)) (sym i) ∙ h))) in
    let was : (z : ℕ) → IsLive (st' z) → IsLive (st z) = λ z h. grind (arith, u.others z, not_y z h) in
    let same : (z : ℕ) → IsLive (st' z) → shape' z ≡ shape z = λ z h. w.others z (not_y z h) in
    let no_link : (z : ℕ) → IsLive (st' z) → (shape z).end < top → (shape z).right ≢ y = λ z h e r.
    elim (cases_eq z x) [
      | inl zx ↦
          let ry : (shape y).right ≡ y = sym right ∙ (ap (λ v. (shape v).right) (sym zx) ∙ r) in
          let ey : (shape y).end < top = rw (← end, ← zx) e in
          let m : (shape (shape y).right).low ≡ (shape y).end = g.link_same y ly ey (λ i. cc) in
          let n : (shape y).low ≡ (shape y).end = ap (λ v. (shape v).low) (sym ry) ∙ m in
          omega arith
      | inr zx ↦
          let lz = was z h in
          let apart_z : st z ≢ Left y = λ i. zx (let e : st y ≡ Right z = g.left z y i in cc) in
          let m : (shape (shape z).right).low ≡ (shape z).end = g.link_same z lz e (λ i. apart_z (i ∙ ap Left r)) in
          let q : (shape y).low ≡ (shape z).end = ap (λ v. (shape v).low) (sym r) ∙ m in
          let v : (shape y).level ≡ (shape z).level = ap (λ v. (shape v).level) (sym r) ∙ g.link_level z lz e in
          let wz = g.wide z lz in
          zx (g.apart z x ((shape y).low - 1) lz lx (sym v ∙ sym level) (omega arith, omega arith) (omega arith, omega arith) (λ i. cc (g.left z x i)) (λ i. not_y z h (cc (g.right x z i))))
    ] in
    record {
      wide = λ z h. rw (same z h) (g.wide z (was z h));
      within = λ z h. rw (same z h) (g.within z (was z h));
      last = λ z h. rw (same z h) (g.last z (was z h));
      link_live = λ z h e. grind (arith, same z h, was z h, no_link z h, u.others (shape z).right, g.link_live z);
      link_level = λ z h e. grind (arith, same z h, was z h, no_link z h, w.others (shape z).right, g.link_level z);
      link_low = λ z h e. grind (arith, same z h, was z h, no_link z h, w.others (shape z).right, g.link_low z);
      link_rise = λ z h e. grind (arith, same z h, was z h, no_link z h, w.others (shape z).right, g.link_rise z);
      link_same = λ z h e n. elim (cases_eq z x) [
        | inl zx ↦ grind (arith, same z h, no_link z h, w.others (shape z).right, g.link_same y)
        | inr zx ↦ grind (arith, same z h, was z h, not_y z h, no_link z h, u.others z, w.others (shape z).right, g.link_same z)
      ];
      left = λ a c h. grind (arith, u.others a, u.others c, g.left a c);
      right = λ a c h. grind (arith, u.others a, u.others c, g.right a c);
      apart = λ a c k p q l i j m n. grind (arith, same a p, same c q, was a p, was c q, not_y a p, not_y c q, u.others a, u.others c, g.apart a c k);
      sep_low = λ z h. rw (same z h) (g.sep_low z (was z h));
      sep_same = λ z h n. rw (same z h) (elim (cases_eq z x) [
        | inl zx ↦ g.sep_same z (was z h) (λ v f. cc)
        | inr zx ↦ let o = u.others z zx (not_y z h) in g.sep_same z (was z h) (λ v f. n v (o ∙ f))
      ]);
    }
