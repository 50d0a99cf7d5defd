-- The bounds and links of pages through the first put of an evening.
use Rattle.std.proofs.Common.{◌-◌, ℕ, ◌≡◌, ◌≢◌, ◌<◌, arith, ap, sym, ◌∙◌, inl, inr}
use Rattle.std.proofs.lemmas.Bool.{cases_eq}
use Rattle.bl_page.specs.Machine.{IsAt}
use Rattle.bl_page.specs.Nodes.{Shape}
use Rattle.bl_tree.specs.Trees.{Status, IsLive, IsShape}
use Rattle.bl_tree.specs.Trees.Status.{Live, Left, Right}
use Rattle.bl_tree.specs.Moves.{IsAtTwo}
use Rattle.bl_tree.proofs.Statuses.{live_live, left_live, right_live}
use Rattle.bl_tree.proofs.TakeShapes.{take_left_shape}

-- an evening's first put: the left page x takes the front of its right neighbour y
pub gain_left_shape : (top x y : ℕ) (b : Shape) (st st' : ℕ → Status) (shape shape' : ℕ → Shape) (sep : ℕ → ℕ) → st x ≡ Live → st y ≡ Live → (shape x).end < top → (shape x).right ≡ y → b.level ≡ (shape x).level → b.low ≡ (shape x).low → (shape y).low < b.end → b.end < (shape y).end → b.right ≡ y → IsAt x b shape shape' → IsAtTwo x y (Left y) (Right x) st st' → IsShape top st shape sep → IsShape top st' shape' sep
gain_left_shape top x y b st st' shape shape' sep sx sy inner xr b_level b_low above below b_right w u g = take_left_shape top x y b st st' shape shape' sep sx sy inner xr b_level b_low above (inl (below, b_right)) w u g

-- a page has one left neighbour
pub one_left : (top x y z : ℕ) (st : ℕ → Status) (shape : ℕ → Shape) (sep : ℕ → ℕ) → st x ≡ Live → IsLive (st z) → (shape x).end < top → (shape z).end < top → (shape x).right ≡ y → (shape z).right ≡ y → st z ≢ Left y → IsShape top st shape sep → z ≡ x
one_left top x y z st shape sep sx lz ex ez rx rz nz g =
    let lx : IsLive (st x) = rw sx live_live in
    let mz : (shape y).low ≡ (shape z).end = ap (λ v. (shape v).low) (sym rz) ∙ g.link_same z lz ez (λ i. nz (i ∙ ap Left rz)) in
    let mx : (shape y).low ≡ (shape x).end = ap (λ v. (shape v).low) (sym rx) ∙ g.link_same x lx ex (λ i. cc) in
    let vz : (shape y).level ≡ (shape z).level = ap (λ v. (shape v).level) (sym rz) ∙ g.link_level z lz ez in
    let vx : (shape y).level ≡ (shape x).level = ap (λ v. (shape v).level) (sym rx) ∙ g.link_level x lx ex in
    let wz = g.wide z lz in
    let wx = g.wide x lx in
    g.apart z x ((shape y).low - 1) lz lx (sym vz ∙ vx) (omega arith, omega arith) (omega arith, omega arith) (λ i. cc (g.left z x i)) (λ i. cc (g.right x z i))

-- an evening's first put: the right page y takes the back of its left neighbour x
pub gain_right_shape : (top x y : ℕ) (b : Shape) (st st' : ℕ → Status) (shape shape' : ℕ → Shape) (sep : ℕ → ℕ) → st x ≡ Live → st y ≡ Live → (shape x).end < top → (shape x).right ≡ y → b.level ≡ (shape y).level → (shape x).low < b.low → b.low < (shape y).low → b.end ≡ (shape y).end → b.right ≡ (shape y).right → IsAt y b shape shape' → IsAtTwo x y (Left y) (Right x) st st' → IsShape top st shape sep → IsShape top st' shape' sep
gain_right_shape top x y b st st' shape shape' sep sx sy inner xr b_level above below b_end b_right w u g =
    let lx : IsLive (st x) = rw sx live_live in
    let ly : IsLive (st y) = rw sy live_live in
    let ld : st x ≢ Left y = λ i. cc in
    let meet : (shape y).low ≡ (shape x).end = rw xr at (g.link_same x lx inner (rw xr ld)) in
    let same_level : (shape y).level ≡ (shape x).level = rw xr at (g.link_level x lx inner) in
    let wx = g.wide x lx in
    let wy = g.wide y ly in
    let xy : x ≢ y = λ i. absurd (let e : (shape x).low ≡ (shape y).low = ap (λ z. (shape z).low) i in omega arith) in
    let live_x : IsLive (st' x) = rw u.at (left_live y) in
    let live_y : IsLive (st' y) = rw u.at_two (right_live x) in
    record {
      wide = λ z h. grind (arith, w.others z, u.others z, g.wide z);
      within = λ z h. grind (arith, w.others z, u.others z, g.within z, g.within y);
      last = λ z h e. grind (arith, w.others z, u.others z, g.last z, g.last y);
      link_live = λ z h e. grind (arith, w.others z, u.others z, u.others (shape z).right, g.link_live z, u.others (shape y).right, g.link_live y);
      link_level = λ z h e. grind (arith, w.others z, u.others z, w.others (shape z).right, w.others (shape y).right, g.link_level z, g.link_level y);
      link_low = λ z h e. grind (arith, w.others z, u.others z, w.others (shape z).right, w.others (shape y).right, g.link_low z, g.link_low y);
      link_rise = λ z h e. grind (arith, w.others z, u.others z, w.others (shape z).right, w.others (shape y).right, g.link_rise z, g.link_rise y);
      link_same = λ z h e n. elim (cases_eq z x) [
        | inl zx ↦ absurd (n (ap st' zx ∙ (u.at ∙ ap Left (sym (ap (λ v. (shape' v).right) zx ∙ (ap (λ v. v.right) (w.others x xy) ∙ xr))))))
        | inr zx ↦ grind (arith, w.others z, u.others z, w.others (shape z).right, w.others (shape y).right, g.link_same z, g.link_same y, one_left top x y z st shape sep sx, g.left z y)
      ];
      left = λ a c h. grind (arith, u.others a, u.others c, g.left a c);
      right = λ a c h. grind (arith, u.others a, u.others c, g.right a c);
      apart = λ a c k p q l i j m n.
          elim (cases_eq a x) [
            | inl ax ↦ elim (cases_eq c x) [
              | inl cx ↦ ax ∙ sym cx
              | inr cx ↦ elim (cases_eq c y) [
                | inl cy ↦ absurd (m (ap st' ax ∙ (u.at ∙ ap Left (sym cy))))
                | inr cy ↦ grind (arith, w.others a, w.others c, u.others c, g.apart x c k)
              ]
            ]
            | inr ax ↦ elim (cases_eq a y) [
              | inl ay ↦ elim (cases_eq c x) [
                | inl cx ↦ absurd (n (ap st' ay ∙ (u.at_two ∙ ap Right (sym cx))))
                | inr cx ↦ elim (cases_eq c y) [
                  | inl cy ↦ ay ∙ sym cy
                  | inr cy ↦ grind (arith, w.others c, u.others c, g.apart y c k, g.apart x c k)
                ]
              ]
              | inr ay ↦ elim (cases_eq c x) [
                | inl cx ↦ grind (arith, w.others a, w.others c, u.others a, g.apart a x k)
                | inr cx ↦ elim (cases_eq c y) [
                  | inl cy ↦ grind (arith, w.others a, u.others a, g.apart a y k, g.apart a x k, g.left a x, g.right x a)
                  | inr cy ↦ grind (arith, w.others a, w.others c, u.others a, u.others c, g.apart a c k)
                ]
              ]
            ]
          ];
      sep_low = λ z h. grind (arith, w.others z, u.others z, g.sep_low z);
      sep_same = λ z h n. elim (cases_eq z y) [
        | inl zy ↦ absurd (n x (ap st' zy ∙ u.at_two))
        | inr zy ↦ rw (w.others z zy) (elim (cases_eq z x) [
          | inl zx ↦ g.sep_same z (rw (ap st zx) lx) (λ v f. cc)
          | inr zx ↦ let o = u.others z zx zy in g.sep_same z (rw o at h) (λ v f. n v (o ∙ f))
        ])
      ];
    }
