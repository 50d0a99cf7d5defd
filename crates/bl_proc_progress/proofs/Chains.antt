-- Every wait ends at a process that waits for nobody: the pages that are waited for stand lower and lower.
use Rattle.std.proofs.Common.{ℕ, zero, suc, ◌≡◌, ◌≢◌, ◌⊎◌, ◌+◌, ◌<◌, arith, ap, sym, ◌∙◌, refl, inl, inr}
use Rattle.std.proofs.lemmas.Bool.{cases_eq}
use Rattle.bl_page.specs.Machine.{Name, Owner}
use Rattle.bl_page.specs.Machine.Owner.{Released, Held, Retired}
use Rattle.bl_page.specs.Nodes.{unbounded}
use Rattle.bl_tree_worlds.specs.Worlds.{World, nodes, IsGood}
use Rattle.bl_proc_steps.specs.declared.acts.Action.{Action}
use Rattle.bl_proc_steps.specs.declared.acts.Action.TheVariants as act
use Rattle.bl_proc.specs.Processes.{next_of}
use Rattle.bl_proc_invariant.specs.Knowing.{Run, know}
use Rattle.bl_proc_progress.specs.Waits.{Waits, EndsAt, Ends}
use Rattle.bl_proc_progress.specs.Waits.EndsAt.{Here, Behind}
use Rattle.bl_proc_progress.proofs.Below.{LatchesBelow, latches_below}

-- Whether a process waits can be told.

latches_one : (a : Action) → ((x : ℕ) × (a ≡ act.Latch x)) ⊎ ((x : ℕ) → a ≢ act.Latch x)
latches_one (act.Latch x) = inl (x, refl)
latches_one act.Begin = inr (λ x e. cc)
latches_one act.End = inr (λ x e. cc)
latches_one (act.Get x) = inr (λ y e. cc)
latches_one (act.Put x c) = inr (λ y e. cc)
latches_one (act.Open x) = inr (λ y e. cc)
latches_one act.Take = inr (λ y e. cc)
latches_one (act.Retire x) = inr (λ y e. cc)
latches_one (act.Look x) = inr (λ y e. cc)
latches_one (act.See x) = inr (λ y e. cc)
latches_one (act.Probe x) = inr (λ y e. cc)
latches_one (act.Release x) = inr (λ y e. cc)

is_held : (o : Owner) → ((q : Name) × (o ≡ Held q)) ⊎ ((q : Name) → o ≢ Held q)
is_held Released = inr (λ q e. cc)
is_held Owner.Open = inr (λ q e. cc)
is_held (Held q) = inl (q, refl)
is_held (Retired time) = inr (λ q e. cc)

pub waits : (w : World Run) (p : Name) → Waits w p ⊎ (¬ Waits w p)
waits w p = elim (latches_one (next_of (w.proc p).state)) [
  | inr none ↦ inr (λ s. none s.page s.latches)
  | inl one ↦ elim (is_held (w.now.owner one.0)) [
    | inl o ↦ inl (record { page = one.0; by = o.0; latches = one.1; held = o.1 })
    | inr free ↦ inr (λ s. (let same : act.Latch one.0 ≡ act.Latch s.page = sym one.1 ∙ s.latches in let e : s.page ≡ one.0 = cc in free s.by (ap w.now.owner (sym e) ∙ s.held)))
  ]
]

module _ (w : World Run) (g : IsGood know w) where
  -- On from a process that holds page y: its wait is over, or it ends where the wait of who holds a lower page ends.
  on_from : (p : Name) (y : ℕ) → w.now.owner y ≡ Held p → ((q : Name) (x : ℕ) → w.now.owner x ≡ Held q → LatchesBelow w x y → Ends w q) → Ends w p
  on_from p y held on = elim (waits w p) [
    | inr free ↦ record { last = p; ends = Here free }
    | inl s ↦ (let r = on s.by s.page s.held (latches_below w g p y held s.page s.latches) in record { last = r.last; ends = Behind s r.ends })
  ]

  -- of one level the pages end later and later
  by_end : (level most : ℕ) → ((p : Name) (y : ℕ) → w.now.owner y ≡ Held p → y ≢ 0 → (nodes w.now y).shape.level < level → Ends w p)
      → (p : Name) (y : ℕ) → w.now.owner y ≡ Held p → y ≢ 0 → (nodes w.now y).shape.level ≡ level → unbounded < (nodes w.now y).shape.end + most → Ends w p
  by_end level zero lower p y held other is late = on_from p y held (λ q x o b. elim b.stands.below [
    | inl anchor ↦ absurd (other anchor)
    | inr r ↦ elim r [
      | inl l ↦ lower q x o b.stands.other (omega (arith, l, is))
      | inr s ↦ absurd (let end = b.end s.1 (sym s.0) in let after = s.1 in omega (arith, end, after, late))
    ]
  ])
  by_end level (suc most) lower p y held other is late = on_from p y held (λ q x o b. elim b.stands.below [
    | inl anchor ↦ absurd (other anchor)
    | inr r ↦ elim r [
      | inl l ↦ lower q x o b.stands.other (omega (arith, l, is))
      | inr s ↦ (let after = s.1 in by_end level most lower q x o b.stands.other (s.0 ∙ is) (omega (arith, after, late)))
    ]
  ])

  -- and level by level
  by_level : (level : ℕ) (p : Name) (y : ℕ) → w.now.owner y ≡ Held p → y ≢ 0 → (nodes w.now y).shape.level < level → Ends w p
  by_level zero p y held other below = absurd (omega (arith, below))
  by_level (suc level) p y held other below =
      by_end (nodes w.now y).shape.level (suc unbounded) (λ q x o n l. by_level level q x o n (omega (arith, l, below))) p y held other refl (omega arith)

  -- whoever holds a page
  pub holder_ends : (p : Name) (y : ℕ) → w.now.owner y ≡ Held p → Ends w p
  holder_ends p y held = elim (cases_eq y 0) [
    | inr other ↦ by_level (suc (nodes w.now y).shape.level) p y held other (omega arith)
    | inl anchor ↦ on_from p y held (λ q x o b. by_level (suc (nodes w.now x).shape.level) q x o b.stands.other (omega arith))
  ]

  -- and so whoever there is
  pub ends : (p : Name) → Ends w p
  ends p = elim (waits w p) [
    | inr free ↦ record { last = p; ends = Here free }
    | inl s ↦ (let r = holder_ends s.by s.page s.held in record { last = r.last; ends = Behind s r.ends })
  ]

-- If any page is held, one of those who hold pages waits for nobody.
pub record Goer (w : World Run) : Type 0 where
  pub by : Name
  pub page : ℕ
  pub held : w.now.owner page ≡ Held by
  pub free : ¬ Waits w by

pub goer_of : (w : World Run) (p last : Name) (y : ℕ) → w.now.owner y ≡ Held p → EndsAt w p last → Goer w
goer_of w p last y held (Here free) = record { by = p; page = y; held = held; free = free }
goer_of w p last y held (Behind {last = l} s ends) = goer_of w s.by l s.page s.held ends

pub some_goer : (w : World Run) (p : Name) (y : ℕ) → IsGood know w → w.now.owner y ≡ Held p → Goer w
some_goer w p y g held = (let r = holder_ends w g p y held in goer_of w p r.last y held r.ends)
