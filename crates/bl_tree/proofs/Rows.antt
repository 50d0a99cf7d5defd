-- A row of one page changes.
use Rattle.std.proofs.Common.{ℕ, ◌≡◌, ◌≢◌, ◌≤◌, Option, Some, suc, arith, ap, sym, ◌∙◌, inl, inr}
use Rattle.std.proofs.lemmas.Bool.{cases_eq}
use Rattle.bl_model.specs.Map.{Map}
use Rattle.bl_page.specs.Nodes.{Node, Covers}
use Rattle.bl_tree.specs.Trees.{IsLive, Tree, IsChild, HasUprooted, IsTree}
use Rattle.bl_tree.specs.Trees.Status.{Live}
use Rattle.bl_tree.specs.Moves.{IsMapRow, MayList, ChangesRow}
use Rattle.bl_tree.proofs.Statuses.{live_live, same_shapes, same_leftmost, not_here}

-- another page says what its level says, when a row of x has changed
pub row_others : {top : ℕ} {t : Tree} {v : Option ℕ} {map : ℕ → Map} (x z k j : ℕ) → IsTree top t → t.status x ≡ Live → Covers (t.node x).shape k → IsMapRow (t.node x).shape.level k v t.map map → IsLive (t.status z) → Covers (t.node z).shape j → z ≢ x → (t.node z).look j ≡ map (t.node z).shape.level j
row_others {t = t} x z k j g s c m h d zx = g.agree z j h d ∙ sym (elim (cases_eq (t.node z).shape.level (t.node x).shape.level) [
  | inl level ↦ rw level (m.rest j (not_here x z k j g.side s h level c d zx))
  | inr level ↦ ap (λ f. f j) (m.others _ level)
])

-- the page itself
pub row_here : {l k : ℕ} {v w : Option ℕ} {m map : ℕ → Map} (j : ℕ) → IsMapRow l k v m map → (j ≡ k → w ≡ v) → (j ≢ k → w ≡ m l j) → w ≡ map l j
row_here {k = k} j m here rest = elim (cases_eq j k) [
  | inl jk ↦ here jk ∙ rw jk (sym m.here)
  | inr jk ↦ rest jk ∙ sym (m.rest j jk)
]

-- what is listed then
pub row_listed : {top : ℕ} {t : Tree} {level k : ℕ} {v : Option ℕ} {map : ℕ → Map} → IsTree top t → IsMapRow level k v t.map map → MayList t level k v → (l j c : ℕ) → map (suc l) j ≡ Some c → IsChild t l j c
row_listed {level = level} {k = k} g m child l j c h = elim (cases_eq (suc l) level) [
  | inl same ↦ elim (cases_eq j k) [
    | inl jk ↦ rw jk (child l c same (sym m.here ∙ rw (same, jk) at h))
    | inr jk ↦ g.listed l j c (rw same (sym (m.rest j jk) ∙ rw same at h))
  ]
  | inr apart ↦ g.listed l j c (ap (λ f. f j) (sym (m.others _ apart)) ∙ h)
]

-- the levels that page 0 has not say what they said
pub row_empty : {top : ℕ} {t : Tree} {v : Option ℕ} {map : ℕ → Map} (x k : ℕ) → IsTree top t → t.status x ≡ Live → IsMapRow (t.node x).shape.level k v t.map map → (l j c : ℕ) → t.roots.levels ≤ l → map l j ≡ Some c → HasUprooted t l
row_empty {t = t} x k g s m l j c h e =
    let under = g.below x (rw s live_live) (λ i. cc) in
    g.empty l j c h (ap (λ f. f j) (sym (m.others l (λ i. absurd (omega arith)))) ∙ e)

pub ChangesRow-keeps : {top x k : ℕ} {v : Option ℕ} {b : Node} {t t' : Tree} → ChangesRow x k v b t t' → IsTree top t → IsTree top t'
ChangesRow-keeps {top} {x} {k} {v} {b} {t} {t'} m g =
    let same : (z : ℕ) → (t'.node z).shape ≡ (t.node z).shape = λ z. elim (cases_eq z x) [
      | inl zx ↦ ap (λ i. (t'.node i).shape) zx ∙ (ap (λ n. n.shape) m.put.node.at ∙ (m.row.shape ∙ ap (λ i. (t.node i).shape) (sym zx)))
      | inr zx ↦ ap (λ n. n.shape) (m.put.node.others z zx)
    ] in
    let child : (l j c : ℕ) → IsChild t l j c → IsChild t' l j c = λ l j c o. record { alive = rw m.status o.alive; level_is = rw (same c) o.level_is; sep_is = rw m.sep o.sep_is } in
    record {
      side = same_shapes m.status same m.sep g.side;
      agree = λ z j h d.
          let hz : IsLive (t.status z) = rw m.status at h in
          let dz : Covers (t.node z).shape j = rw (same z) at d in
          rw (same z) (elim (cases_eq z x) [
            | inl zx ↦ rw (zx, m.put.node.at) (row_here j m.map (λ jk. rw jk m.row.here) (λ jk. m.row.rest j jk ∙ g.agree x j (rw zx at hz) (rw zx at dz)))
            | inr zx ↦ ap (λ n. n.look j) (m.put.node.others z zx) ∙ row_others x z k j g m.live m.row.covered m.map hz dz zx
          ]);
      listed = λ l j c h. child l j c (row_listed g m.map m.child l j c h);
      anchored = rw m.status g.anchored;
      some_level = rw m.put.roots g.some_level;
      few_levels = rw m.put.roots g.few_levels;
      leftmost = same_leftmost m.put.roots (λ l h. child l 0 (t.roots.leftmost l) (g.leftmost l h));
      below = λ z h n. rw (same z, m.put.roots) (g.below z (rw m.status at h) (rw m.status at n));
      uprooted = λ z h. let o = g.uprooted z (rw m.status at h) in record { level_is = rw (same z, m.put.roots) o.level_is; low = rw (same z) o.low; end = rw (same z) o.end };
      empty = λ l j c h e. let o = row_empty x k g m.live m.map l j c (rw m.put.roots at h) e in record { page = o.page; is = rw m.status o.is; level_is = rw (same o.page) o.level_is };
    }
