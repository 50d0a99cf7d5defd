-- Pages move, and what they say does not: then the tree stays a tree.
use Rattle.std.proofs.Common.{ℕ, ◌≡◌, ◌≢◌, ◌⊎◌, Option, Some, suc, ap, sym, ◌∙◌, refl, inl, inr}
use Rattle.std.proofs.lemmas.Bool.{cases_eq}
use Rattle.bl_page.specs.Machine.{IsAt}
use Rattle.bl_page.specs.Nodes.{Node, Covers}
use Rattle.bl_tree.specs.Trees.{Status, IsLive, IsShape, Tree, shapes, IsChild, IsTree}
use Rattle.bl_tree.specs.Trees.Status.{Uprooted, Anchored}
use Rattle.bl_tree.specs.Moves.{IsAtTwo}
use Rattle.bl_tree.proofs.Statuses.{same_leftmost}

-- what a page says of a key, a page of the level says in t
pub record IsSaid (t : Tree) (level k : ℕ) (v : Option ℕ) : Type 0 where
  pub page : ℕ
  pub live : IsLive (t.status page)
  pub level_is : (t.node page).shape.level ≡ level
  pub covers : Covers (t.node page).shape k
  pub says : (t.node page).look k ≡ v

pub record Says (top : ℕ) (t t' : Tree) : Type 0 where
  pub side : IsShape top t'.status (shapes t'.node) t'.sep
  pub said : (z k : ℕ) → IsLive (t'.status z) → Covers (t'.node z).shape k → IsSaid t (t'.node z).shape.level k ((t'.node z).look k)
  pub children : (l k c : ℕ) → (t.map (suc l) k ≡ Some c) ⊎ (k ≡ 0) → IsChild t l k c → IsChild t' l k c
  pub anchored : t'.status 0 ≡ Anchored
  pub level : (z : ℕ) → IsLive (t'.status z) → IsLive (t.status z) × ((t'.node z).shape.level ≡ (t.node z).shape.level)
  pub uprooted : (z : ℕ) → (t.status z ≡ Uprooted) ⊎ (t'.status z ≡ Uprooted) → (t.status z ≡ Uprooted) × (t'.status z ≡ Uprooted) × ((t'.node z).shape ≡ (t.node z).shape)
  pub roots : t'.roots ≡ t.roots
  pub map : t'.map ≡ t.map

-- two pages change, and none of them is or was uprooted
pub pair_uprooted : {x y v : ℕ} {a b : Status} {n : Node} (t t' : Tree) → IsAtTwo x y a b t.status t'.status → IsAt v n t.node t'.node → (v ≡ x) ⊎ (v ≡ y) → t.status x ≢ Uprooted → t.status y ≢ Uprooted → a ≢ Uprooted → b ≢ Uprooted → (z : ℕ) → (t.status z ≡ Uprooted) ⊎ (t'.status z ≡ Uprooted) → (t.status z ≡ Uprooted) × (t'.status z ≡ Uprooted) × ((t'.node z).shape ≡ (t.node z).shape)
pair_uprooted {x} {y} {v} t t' u w at x_was y_was a_not b_not z h = elim (cases_eq z x) [
  | inl zx ↦ absurd (elim h [ inl e ↦ x_was (ap t.status (sym zx) ∙ e) | inr e ↦ a_not (sym u.at ∙ (ap t'.status (sym zx) ∙ e)) ])
  | inr zx ↦ elim (cases_eq z y) [
    | inl zy ↦ absurd (elim h [ inl e ↦ y_was (ap t.status (sym zy) ∙ e) | inr e ↦ b_not (sym u.at_two ∙ (ap t'.status (sym zy) ∙ e)) ])
    | inr zy ↦
        let o = u.others z zx zy in
        let zv : z ≢ v = λ i. elim at [ inl e ↦ zx (i ∙ e) | inr e ↦ zy (i ∙ e) ] in
        let e : t.status z ≡ Uprooted = elim h [ inl e ↦ e | inr e ↦ sym o ∙ e ] in
        (e, o ∙ e, ap (λ c. c.shape) (w.others z zv))
  ]
]

pub Says-keeps : {top : ℕ} {t t' : Tree} → Says top t t' → IsTree top t → IsTree top t'
Says-keeps {t} {t'} m g = record {
  side = m.side;
  agree = λ z k h d. let o = m.said z k h d in sym o.says ∙ (g.agree o.page k o.live o.covers ∙ (ap (λ l. t.map l k) o.level_is ∙ ap (λ f. f (t'.node z).shape.level k) (sym m.map)));
  listed = λ l k c h. let old : t.map (suc l) k ≡ Some c = ap (λ f. f (suc l) k) (sym m.map) ∙ h in m.children l k c (inl old) (g.listed l k c old);
  anchored = m.anchored;
  some_level = rw m.roots g.some_level;
  few_levels = rw m.roots g.few_levels;
  leftmost = same_leftmost m.roots (λ l h. m.children l 0 (t.roots.leftmost l) (inr refl) (g.leftmost l h));
  below = λ x h n. let o = m.level x h in let b = g.below x o.0 (λ i. n (m.uprooted x (inl i)).1) in rw (m.roots, o.1) b;
  uprooted = λ x h. let o = m.uprooted x (inr h) in let b = g.uprooted x o.0 in record { level_is = rw (m.roots, o.2) b.level_is; low = rw o.2 b.low; end = rw o.2 b.end };
  empty = λ l k c h e. let o = g.empty l k c (rw m.roots at h) (ap (λ f. f l k) (sym m.map) ∙ e) in let s = m.uprooted o.page (inl o.is) in record { page = o.page; is = s.1; level_is = rw s.2 o.level_is };
}
