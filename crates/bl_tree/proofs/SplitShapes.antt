-- The bounds and links of pages through a split.
use Rattle.std.proofs.Common.{ℕ, ◌≡◌, ◌≢◌, ◌<◌, arith, sym, ◌∙◌, refl, inl, inr}
use Rattle.std.proofs.lemmas.Bool.{cases_eq}
use Rattle.bl_page.specs.Machine.{IsAt}
use Rattle.bl_page.specs.Nodes.{Shape, Covers}
use Rattle.bl_tree.specs.Trees.{Status, IsShape}
use Rattle.bl_tree.specs.Trees.Status.{Fresh, Live}
use Rattle.bl_tree.proofs.Statuses.{live_live, fresh_dead, not_here}

-- the old page x of a cut is put, and the new one is live: the shape
pub cut_shape : (top x y : ℕ) (b : Shape) (st st' : ℕ → Status) (shape shape' : ℕ → Shape) (sep : ℕ → ℕ) → st x ≡ Live → st y ≡ Fresh → (shape x).low < (shape y).low → (shape y).low < (shape x).end → b.level ≡ (shape x).level → b.low ≡ (shape x).low → b.end ≡ (shape y).low → b.right ≡ y → (shape y).level ≡ (shape x).level → (shape y).end ≡ (shape x).end → (shape y).right ≡ (shape x).right → sep y ≡ (shape y).low → IsAt x b shape shape' → IsAt y Live st st' → IsShape top st shape sep → IsShape top st' shape' sep
cut_shape top x y b st st' shape shape' sep sx sy above below b_level b_low b_end b_right y_level y_end y_right y_sep w u g =
    let xy : x ≢ y = λ i. cc in
    let level : (z : ℕ) → (shape' z).level ≡ (shape z).level = λ z. grind (arith, w.others z) in
    let inside : (z k : ℕ) → Covers (shape' z) k → Covers (shape z) k = λ z k d. (grind (arith, w.others z), grind (arith, w.others z)) in
    record {
      wide = λ z h. grind (arith, w.others z, u.others z, g.wide z);
      within = λ z h. grind (arith, w.others z, u.others z, g.within z);
      last = λ z h e. grind (arith, w.others z, u.others z, g.last z, g.within x);
      link_live = λ z h e. grind (arith, w.others z, u.others z, u.others (shape z).right, g.link_live z, live_live);
      link_level = λ z h e. grind (arith, w.others z, u.others z, w.others (shape z).right, w.others y, g.link_level z, g.link_live z, live_live, fresh_dead);
      link_low = λ z h e. grind (arith, w.others z, u.others z, w.others (shape z).right, w.others y, g.link_low z, g.link_live z, live_live, fresh_dead);
      link_rise = λ z h e. grind (arith, w.others z, u.others z, w.others (shape z).right, w.others y, g.link_rise z, g.link_live z, live_live, fresh_dead);
      link_same = λ z h e n. grind (arith, w.others z, u.others z, w.others (shape z).right, w.others y, g.link_same z, g.link_live z, live_live, fresh_dead);
      left = λ a c h. grind (arith, u.others a, u.others c, g.left a c);
      right = λ a c h. grind (arith, u.others a, u.others c, g.right a c);
      apart = λ a c k p q l i j m n.
          elim (cases_eq a y) [
            | inl ay ↦ elim (cases_eq c y) [
              | inl cy ↦ ay ∙ sym cy
              | inr cy ↦ elim (cases_eq c x) [
                | inl cx ↦ absurd (let jc : Covers b k = rw (cx, w.at) at j in let ia : Covers (shape y) k = rw (ay, w.others y (λ v. xy (sym v))) at i in omega arith)
                | inr cx ↦ absurd (not_here x c k k g sx (rw (u.others c cy) at q) (grind (arith, w.others a, w.others c)) (grind (arith, w.others a)) (rw (w.others c cx) at j) cx refl)
              ]
            ]
            | inr ay ↦ elim (cases_eq c y) [
              | inl cy ↦ elim (cases_eq a x) [
                | inl ax ↦ absurd (let ia : Covers b k = rw (ax, w.at) at i in let jc : Covers (shape y) k = rw (cy, w.others y (λ v. xy (sym v))) at j in omega arith)
                | inr ax ↦ absurd (not_here x a k k g sx (rw (u.others a ay) at p) (grind (arith, w.others a, w.others c)) (grind (arith, w.others c)) (rw (w.others a ax) at i) ax refl)
              ]
              | inr cy ↦ g.apart a c k (rw (u.others a ay) at p) (rw (u.others c cy) at q) (sym (level a) ∙ (l ∙ level c)) (inside a k i) (inside c k j) (λ v. m (u.others a ay ∙ v)) (λ v. n (u.others a ay ∙ v))
            ]
          ];
      sep_low = λ z h. grind (arith, w.others z, u.others z, g.sep_low z);
      sep_same = λ z h n. elim (cases_eq z y) [
        | inl zy ↦ grind (arith, w.others z)
        | inr zy ↦ let o = u.others z zy in let d : (shape z).low ≡ sep z = g.sep_same z (rw o at h) (λ v f. n v (o ∙ f)) in grind (arith, w.others z)
      ];
    }
