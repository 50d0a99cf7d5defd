-- The bounds and links of pages through the last put of an evening.
use Rattle.std.proofs.Common.{◌-◌, ℕ, ◌≡◌, ◌≢◌, ◌<◌, ◌≤◌, arith, ap, sym, ◌∙◌, inl, inr}
use Rattle.std.proofs.lemmas.Bool.{cases_eq}
use Rattle.bl_page.specs.Machine.{IsAt}
use Rattle.bl_page.specs.Nodes.{Shape, Covers}
use Rattle.bl_tree.specs.Trees.{Status, IsLive, IsShape}
use Rattle.bl_tree.specs.Trees.Status.{Live, Left, Right}
use Rattle.bl_tree.specs.Moves.{IsAtTwo}
use Rattle.bl_tree.proofs.Statuses.{live_live, left_live, right_live}

-- the same of a page that is being evened
pub one_left_mid : (top x y z : ℕ) (st : ℕ → Status) (shape : ℕ → Shape) (sep : ℕ → ℕ) → st x ≡ Left y → IsLive (st z) → (shape x).level ≡ (shape y).level → (shape x).low < (shape y).low → (shape y).low ≤ (shape x).end → (shape z).end < top → (shape z).right ≡ y → z ≢ y → IsShape top st shape sep → z ≡ x
one_left_mid top x y z st shape sep sx lz level below meets ez rz zy g =
    elim (cases_eq z x) [
      | inl zx ↦ zx
      | inr zx ↦
          let sy : st y ≡ Right x = g.left x y sx in
          let lx : IsLive (st x) = rw sx (left_live y) in
          let nz : st z ≢ Left y = λ i. zx (let e : st y ≡ Right z = g.left z y i in cc) in
          let mz : (shape y).low ≡ (shape z).end = ap (λ v. (shape v).low) (sym rz) ∙ g.link_same z lz ez (λ i. nz (i ∙ ap Left rz)) in
          let vz : (shape y).level ≡ (shape z).level = ap (λ v. (shape v).level) (sym rz) ∙ g.link_level z lz ez in
          let wz = g.wide z lz in
          g.apart z x ((shape y).low - 1) lz lx (sym vz ∙ sym level) (omega arith, omega arith) (omega arith, omega arith) (λ i. cc (g.left z x i)) (λ i. zy (cc (g.right x z i)))
    ]

-- an evening's last put, where the left page gained
pub lose_right_shape : (top x y : ℕ) (b : Shape) (st st' : ℕ → Status) (shape shape' : ℕ → Shape) (sep : ℕ → ℕ) → st x ≡ Left y → (shape x).level ≡ (shape y).level → (shape x).low < (shape y).low → (shape y).low < (shape x).end → (shape x).end < (shape y).end → (shape x).right ≡ y → sep y ≡ (shape x).end → b.level ≡ (shape y).level → b.low ≡ (shape x).end → b.end ≡ (shape y).end → b.right ≡ (shape y).right → IsAt y b shape shape' → IsAtTwo x y Live Live st st' → IsShape top st shape sep → IsShape top st' shape' sep
lose_right_shape top x y b st st' shape shape' sep sx level below meets inner xr sep_y b_level b_low b_end b_right w u g =
    let sy : st y ≡ Right x = g.left x y sx in
    let lx : IsLive (st x) = rw sx (left_live y) in
    let ly : IsLive (st y) = rw sy (right_live x) in
    let xy : x ≢ y = λ i. absurd (let e : (shape x).low ≡ (shape y).low = ap (λ z. (shape z).low) i in omega arith) in
    let live_x : IsLive (st' x) = rw u.at live_live in
    let live_y : IsLive (st' y) = rw u.at_two live_live in
    let was : (z : ℕ) → IsLive (st' z) → IsLive (st z) = λ z h. grind (arith, u.others z) in
    record {
      wide = λ z h. grind (arith, w.others z, was z h, g.wide z);
      within = λ z h. grind (arith, w.others z, was z h, g.within z);
      last = λ z h e. grind (arith, w.others z, was z h, g.last z, g.last y);
      link_live = λ z h e. grind (arith, w.others z, was z h, u.others (shape z).right, g.link_live z);
      link_level = λ z h e. grind (arith, w.others z, was z h, w.others (shape z).right, g.link_level z);
      link_low = λ z h e. elim (cases_eq z x) [
        | inl zx ↦ grind (arith, w.others z)
        | inr zx ↦ grind (arith, w.others z, was z h, w.others (shape z).right, g.link_low z, one_left_mid top x y z st shape sep sx)
      ];
      link_rise = λ z h e. elim (cases_eq z x) [
        | inl zx ↦ grind (arith, w.others z)
        | inr zx ↦ grind (arith, w.others z, was z h, w.others (shape z).right, g.link_rise z, one_left_mid top x y z st shape sep sx)
      ];
      link_same = λ z h e n. elim (cases_eq z x) [
        | inl zx ↦ grind (arith, w.others z)
        | inr zx ↦ grind (arith, w.others z, was z h, u.others z, w.others (shape z).right, g.link_same z, g.wide y ly, one_left_mid top x y z st shape sep sx)
      ];
      left = λ a c h. grind (arith, u.others a, u.others c, g.left a c);
      right = λ a c h. grind (arith, u.others a, u.others c, g.right a c);
      apart = λ a c k p q l i j m n.
          elim (cases_eq a y) [
            | inl ay ↦ elim (cases_eq c y) [
              | inl cy ↦ ay ∙ sym cy
              | inr cy ↦ elim (cases_eq c x) [
                | inl cx ↦ absurd (grind (arith, w.others c))
                | inr cx ↦ grind (arith, w.others c, u.others c, g.apart y c k)
              ]
            ]
            | inr ay ↦ elim (cases_eq c y) [
              | inl cy ↦ elim (cases_eq a x) [
                | inl ax ↦ absurd (grind (arith, w.others a))
                | inr ax ↦ grind (arith, w.others a, u.others a, g.apart a y k)
              ]
              | inr cy ↦ grind (arith, w.others a, w.others c, was a p, was c q, u.others a, u.others c, g.apart a c k)
            ]
          ];
      sep_low = λ z h. grind (arith, w.others z, was z h, g.sep_low z);
      sep_same = λ z h n. elim (cases_eq z y) [
        | inl zy ↦ grind (arith, w.others z)
        | inr zy ↦ rw (w.others z zy) (g.sep_same z (was z h) (elim (cases_eq z x) [
          | inl zx ↦ λ v f. cc
          | inr zx ↦ let o = u.others z zx zy in λ v f. n v (o ∙ f)
        ]))
      ];
    }

-- an evening's last put, where the right page gained
pub lose_left_shape : (top x y : ℕ) (b : Shape) (st st' : ℕ → Status) (shape shape' : ℕ → Shape) (sep : ℕ → ℕ) → st x ≡ Left y → (shape x).level ≡ (shape y).level → (shape x).low < (shape y).low → (shape y).low ≤ (shape x).end → sep y ≡ (shape y).low → b.level ≡ (shape x).level → b.low ≡ (shape x).low → b.end ≡ (shape y).low → b.right ≡ y → IsAt x b shape shape' → IsAtTwo x y Live Live st st' → IsShape top st shape sep → IsShape top st' shape' sep
lose_left_shape top x y b st st' shape shape' sep sx level below meets sep_y b_level b_low b_end b_right w u g =
    let sy : st y ≡ Right x = g.left x y sx in
    let lx : IsLive (st x) = rw sx (left_live y) in
    let ly : IsLive (st y) = rw sy (right_live x) in
    let xy : x ≢ y = λ i. absurd (let e : (shape x).low ≡ (shape y).low = ap (λ z. (shape z).low) i in omega arith) in
    let wy = g.wide y ly in
    let live_x : IsLive (st' x) = rw u.at live_live in
    let live_y : IsLive (st' y) = rw u.at_two live_live in
    let was : (z : ℕ) → IsLive (st' z) → IsLive (st z) = λ z h. grind (arith, u.others z) in
    record {
      wide = λ z h. grind (arith, w.others z, was z h, g.wide z);
      within = λ z h. grind (arith, w.others z, was z h, g.within z, g.within x);
      last = λ z h e. grind (arith, w.others z, was z h, g.last z, g.within y);
      link_live = λ z h e. grind (arith, w.others z, was z h, u.others (shape z).right, g.link_live z);
      link_level = λ z h e. grind (arith, w.others z, was z h, w.others y, w.others (shape z).right, g.link_level z);
      link_low = λ z h e. grind (arith, w.others z, was z h, w.others y, w.others (shape z).right, g.link_low z);
      link_rise = λ z h e. elim (cases_eq z x) [
        | inl zx ↦ grind (arith, w.others y)
        | inr zx ↦
            let o = w.others z zx in
            let f : (shape z).end < top = rw o at e in
            let lz = was z h in
            rw o (elim (cases_eq (shape z).right x) [
              | inl rz ↦
                  let m : (shape x).low ≡ (shape z).end = ap (λ v. (shape v).low) (sym rz) ∙ g.link_same z lz f (λ i. cc (g.left z (shape z).right i, ap st rz)) in
                  rw (rz, w.at, b_end) (omega arith)
              | inr rz ↦ rw (w.others (shape z).right rz) (g.link_rise z lz f)
            ])
      ];
      link_same = λ z h e n. elim (cases_eq z x) [
        | inl zx ↦ grind (arith, w.others y)
        | inr zx ↦ grind (arith, w.others z, was z h, u.others z, w.others (shape z).right, g.link_same z, g.wide y ly, one_left_mid top x y z st shape sep sx)
      ];
      left = λ a c h. grind (arith, u.others a, u.others c, g.left a c);
      right = λ a c h. grind (arith, u.others a, u.others c, g.right a c);
      apart = λ a c k p q l i j m n.
          elim (cases_eq a x) [
            | inl ax ↦ elim (cases_eq c x) [
              | inl cx ↦ ax ∙ sym cx
              | inr cx ↦ elim (cases_eq c y) [
                | inl cy ↦ absurd (grind (arith, w.others c))
                | inr cy ↦ grind (arith, w.others c, u.others c, g.apart x c k)
              ]
            ]
            | inr ax ↦ elim (cases_eq c x) [
              | inl cx ↦ elim (cases_eq a y) [
                | inl ay ↦ absurd (grind (arith, w.others a))
                | inr ay ↦
                    let o = w.others a ax in
                    let v = u.others a ax ay in
                    let jb : Covers b k = rw (cx, w.at) at j in
                    g.apart a x k (was a p) lx (sym (ap (λ v. v.level) o) ∙ (l ∙ (ap (λ v. (shape' v).level) cx ∙ (ap (λ v. v.level) w.at ∙ b_level)))) (rw o at i) (omega arith, omega arith) (λ f. m (v ∙ (f ∙ ap Left (sym cx)))) (λ f. n (v ∙ (f ∙ ap Right (sym cx)))) ∙ sym cx
              ]
              | inr cx ↦ grind (arith, w.others a, w.others c, was a p, was c q, u.others a, u.others c, g.apart a c k)
            ]
          ];
      sep_low = λ z h. grind (arith, w.others z, was z h, g.sep_low z);
      sep_same = λ z h n. elim (cases_eq z y) [
        | inl zy ↦ grind (arith, w.others z)
        | inr zy ↦ elim (cases_eq z x) [
          | inl zx ↦ let d = g.sep_same x lx (λ v f. cc) in grind (arith, w.others z)
          | inr zx ↦ rw (w.others z zx) (g.sep_same z (was z h) (let o = u.others z zx zy in λ v f. n v (o ∙ f)))
        ]
      ];
    }
