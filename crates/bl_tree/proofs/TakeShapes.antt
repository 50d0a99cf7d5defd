-- The bounds and links of pages where a page takes pairs of its right neighbour.
use Rattle.std.proofs.Common.{ℕ, ◌≡◌, ◌≢◌, ◌<◌, ◌⊎◌, arith, ap, sym, ◌∙◌, inl, inr}
use Rattle.std.proofs.lemmas.Bool.{cases_eq}
use Rattle.bl_page.specs.Machine.{IsAt}
use Rattle.bl_page.specs.Nodes.{Shape}
use Rattle.bl_tree.specs.Trees.{Status, IsLive, IsShape}
use Rattle.bl_tree.specs.Trees.Status.{Live, Left, Right}
use Rattle.bl_tree.specs.Moves.{IsAtTwo}
use Rattle.bl_tree.proofs.Statuses.{live_live, left_live, right_live}

-- The left page x takes of its right neighbour y the pairs up to a bound: the front of them, and then it links to y, or all, and then it
-- links to where y does.
pub take_left_shape : (top x y : ℕ) (b : Shape) (st st' : ℕ → Status) (shape shape' : ℕ → Shape) (sep : ℕ → ℕ) → st x ≡ Live → st y ≡ Live → (shape x).end < top → (shape x).right ≡ y → b.level ≡ (shape x).level → b.low ≡ (shape x).low → (shape y).low < b.end → ((b.end < (shape y).end) × (b.right ≡ y)) ⊎ ((b.end ≡ (shape y).end) × (b.right ≡ (shape y).right)) → IsAt x b shape shape' → IsAtTwo x y (Left y) (Right x) st st' → IsShape top st shape sep → IsShape top st' shape' sep
take_left_shape top x y b st st' shape shape' sep sx sy inner xr b_level b_low above ends w u g =
    let lx : IsLive (st x) = rw sx live_live in
    let ly : IsLive (st y) = rw sy live_live in
    let ld : st x ≢ Left y = λ i. cc in
    let meet : (shape y).low ≡ (shape x).end = rw xr at (g.link_same x lx inner (rw xr ld)) in
    let same_level : (shape y).level ≡ (shape x).level = rw xr at (g.link_level x lx inner) in
    let wx = g.wide x lx in
    let wy = g.wide y ly in
    let xy : x ≢ y = λ i. absurd (let e : (shape x).low ≡ (shape y).low = ap (λ z. (shape z).low) i in omega arith) in
    let live_x : IsLive (st' x) = rw u.at (left_live y) in
    let live_y : IsLive (st' y) = rw u.at_two (right_live x) in
    record {
      wide = λ z h. grind (arith, w.others z, u.others z, g.wide z);
      within = λ z h. grind (arith, w.others z, u.others z, g.within z, g.within y);
      last = λ z h e. grind (arith, w.others z, u.others z, g.last z, g.last y, g.within y);
      link_live = λ z h e. grind (arith, w.others z, u.others z, u.others (shape z).right, g.link_live z, u.others (shape y).right, g.link_live y);
      link_level = λ z h e. grind (arith, w.others z, u.others z, w.others (shape z).right, w.others (shape y).right, g.link_level z, g.link_level y);
      link_low = λ z h e. grind (arith, w.others z, u.others z, w.others (shape z).right, w.others (shape y).right, g.link_low z, g.link_low y);
      link_rise = λ z h e. grind (arith, w.others z, u.others z, w.others (shape z).right, w.others (shape y).right, g.link_rise z, g.link_rise y);
      link_same = λ z h e n. grind (arith, w.others z, u.others z, w.others (shape z).right, w.others (shape y).right, g.link_same z, g.link_same y);
      left = λ a c h. grind (arith, u.others a, u.others c, g.left a c);
      right = λ a c h. grind (arith, u.others a, u.others c, g.right a c);
      apart = λ a c k p q l i j m n.
          elim (cases_eq a x) [
            | inl ax ↦ elim (cases_eq c x) [
              | inl cx ↦ ax ∙ sym cx
              | inr cx ↦ elim (cases_eq c y) [
                | inl cy ↦ absurd (m (ap st' ax ∙ (u.at ∙ ap Left (sym cy))))
                | inr cy ↦ grind (arith, w.others c, u.others c, g.apart x c k, g.apart y c k)
              ]
            ]
            | inr ax ↦ elim (cases_eq a y) [
              | inl ay ↦ elim (cases_eq c x) [
                | inl cx ↦ absurd (n (ap st' ay ∙ (u.at_two ∙ ap Right (sym cx))))
                | inr cx ↦ elim (cases_eq c y) [
                  | inl cy ↦ ay ∙ sym cy
                  | inr cy ↦ grind (arith, w.others a, w.others c, u.others c, g.apart y c k)
                ]
              ]
              | inr ay ↦ elim (cases_eq c x) [
                | inl cx ↦ grind (arith, w.others a, u.others a, g.apart a x k, g.apart a y k, g.left a y, g.right y a)
                | inr cx ↦ elim (cases_eq c y) [
                  | inl cy ↦ grind (arith, w.others a, w.others c, u.others a, g.apart a y k)
                  | inr cy ↦ grind (arith, w.others a, w.others c, u.others a, u.others c, g.apart a c k)
                ]
              ]
            ]
          ];
      sep_low = λ z h. grind (arith, w.others z, u.others z, g.sep_low z);
      sep_same = λ z h n. elim (cases_eq z y) [
        | inl zy ↦ absurd (n x (ap st' zy ∙ u.at_two))
        | inr zy ↦ elim (cases_eq z x) [
          | inl zx ↦ (ap (λ v. (shape' v).low) zx ∙ (ap (λ v. v.low) w.at ∙ b_low)) ∙ (g.sep_same x lx (λ v f. cc) ∙ ap sep (sym zx))
          | inr zx ↦ let o = u.others z zx zy in rw (w.others z zx) (g.sep_same z (rw o at h) (λ v f. n v (o ∙ f)))
        ]
      ];
    }
