-- Fresh pages stay fresh until they are named, and live ones do not become fresh.
use Rattle.std.proofs.Common.{ℕ, ◌≡◌, ◌≢◌, ◌⊎◌, ◌++◌, [], ◌∷◌, ap, sym, ◌∙◌, refl, inl, inr}
use Rattle.bl_page.specs.declared.page.Page.{Page}
use Rattle.bl_page.specs.Machine.{Name, Act}
use Rattle.bl_page.specs.Machine.Owner.{Held}
use Rattle.bl_tree.specs.Trees.{IsLive}
use Rattle.bl_tree.specs.Trees.Status.{Fresh}
use Rattle.bl_claims.specs.Trails.{Mark, marks_of}
use Rattle.bl_claims.specs.Moments.{IsFreshBy}
use Rattle.bl_tree_worlds.specs.Worlds.{World, AreNamed}
use Rattle.bl_tree_worlds.proofs.Pushes.{name_cases, marks_of-own, marks_of-other}
use Rattle.bl_tree_worlds.proofs.Freshness.{fresh_on, fresh_new, fresh_back}

-- what an event of p may do to fresh pages and to live ones
pub record MayName {P : Type 0} (w w' : World P) (m : Mark) : Type 0 where
  -- the new page is taken now, or was fresh and is put alone
  pub fresh : (y : ℕ) → w'.status y ≡ Fresh → ((m.event.act ≡ Act.Take y) × (w'.now.owner y ≡ Held m.event.process)) ⊎ ((w.status y ≡ Fresh) × ((q : Name) → w.now.owner y ≡ Held q → w'.now.owner y ≡ Held q) × (m.event.act ≢ Act.Take y) × (m.event.act ≢ Act.Latch y) × ((x : ℕ) (c : Page) → x ≢ y → m.event.act ≡ Act.Put x c → w.now.owner y ≡ Held m.event.process → ⊥))
  pub not_taken : (y : ℕ) → IsLive (w'.status y) → m.event.act ≢ Act.Take y
  -- a live page was live, or its holder puts another page now
  pub live : (y : ℕ) → IsLive (w'.status y) → (IsLive (w.status y) × ((q : Name) → w'.now.owner y ≡ Held q → (w.now.owner y ≡ Held q) ⊎ ((m.event.act ≡ Act.Latch y) × (q ≡ m.event.process)))) ⊎ ((x : ℕ) × (c : Page) × (m.event.act ≡ Act.Put x c) × (x ≢ y) × (w'.now.owner y ≡ Held m.event.process))

pub names_step : {P : Type 0} (w w' : World P) (m : Mark) → w'.trail ≡ w.trail ++ m ∷ [] → MayName w w' m → AreNamed w → AreNamed w'
names_step w w' m e n g = record {
  fresh = λ y h. elim (n.fresh y h) [
    | inl o ↦ record { holder = m.event.process; held = o.1; by = rw (e, marks_of-own m.event.process w.trail m refl) (fresh_new (marks_of m.event.process w.trail) m y o.0) }
    | inr o ↦
        let f = g.fresh y o.0 in
        record {
          holder = f.holder;
          held = o.1 f.holder f.held;
          by = elim (name_cases m.event.process f.holder) [
            | inl i ↦ rw (e, marks_of-own f.holder w.trail m i) (fresh_on (marks_of f.holder w.trail) m y o.2 o.3 (λ x c d a. o.4 x c d a (f.held ∙ ap Held (sym i))) f.by)
            | inr i ↦ rw (e, marks_of-other f.holder w.trail m i) f.by
          ];
        }
  ];
  named = λ y h f. elim (name_cases m.event.process f.holder) [
    | inl i ↦
        let b = fresh_back (marks_of f.holder w.trail) m y (n.not_taken y h) (rw (e, marks_of-own f.holder w.trail m i) at f.by) in
        elim (n.live y h) [
          | inl o ↦ elim (o.1 f.holder f.held) [
            | inl k ↦ g.named y o.0 (record { holder = f.holder; held = k; by = b.0 })
            | inr k ↦ b.1 k.0
          ]
          | inr o ↦ b.2 o.0 o.1 o.3 o.2
        ]
    | inr i ↦
        let b : IsFreshBy (marks_of f.holder w.trail) y = rw (e, marks_of-other f.holder w.trail m i) at f.by in
        elim (n.live y h) [
          | inl o ↦ elim (o.1 f.holder f.held) [
            | inl k ↦ g.named y o.0 (record { holder = f.holder; held = k; by = b })
            | inr k ↦ i (sym k.1)
          ]
          | inr o ↦ i (let k : Held m.event.process ≡ Held f.holder = sym o.4 ∙ f.held in cc)
        ]
  ];
}
