-- Small runs of the page machine, checked.
use Rattle.std.proofs.Common.{◌≡◌, ◌≢◌, ℕ, Bool, None, [], ◌∷◌, refl, inl, inr, arith}
use Rattle.std.specs.Prelude.{if◌then◌else◌, ◌==◌, ◌&&◌}
use Rattle.std.proofs.lemmas.Bool.{cases_eq}
use Rattle.bl_page.specs.Machine.{Name, Owner, Phase, State, Act, Event, IsAt, Enabled, Leads}

same : Name → Name → Bool
same a b = (a.pass == b.pass) && (a.number == b.number)

abbrev set_phase : Name → Phase → (Name → Phase) → Name → Phase
set_phase p phase old q = if (q.pass == p.pass) && (q.number == p.number) then phase else old q

abbrev set_owner : ℕ → Owner → (ℕ → Owner) → ℕ → Owner
set_owner x owner old y = if y == x then owner else old y

phase_set : (p : Name) (phase : Phase) (old : Name → Phase) → IsAt p phase old (set_phase p phase old)
phase_set p phase old = record {
  at = grind arith;
  others = λ q other. elim (cases_eq q.pass p.pass) [
    | inl pass ↦ elim (cases_eq q.number p.number) [
      | inl number ↦ absurd (other (λ i. record { pass = pass i; number = number i }))
      | inr differs ↦ grind (arith, differs)
    ]
    | inr differs ↦ grind (arith, differs)
  ];
}

owner_set : (x : ℕ) (owner : Owner) (old : ℕ → Owner) → IsAt x owner old (set_owner x owner old)
owner_set x owner old = record { at = grind arith; others = λ y other. grind (arith, other) }

abbrev reader : Name
reader = record { pass = 0; number = 1 }

abbrev writer : Name
writer = record { pass = 1; number = 1 }

-- page 1 is open, no process has begun
abbrev start : State ℕ
start = record { contents = λ x. 0; owner = set_owner 1 Owner.Open (λ x. Owner.Released); phase = λ p. Phase.Waiting; clock = 0 }

abbrev begun : State ℕ
begun = record start { phase = set_phase reader (Phase.Running 0) start.phase }

abbrev ended : State ℕ
ended = record begun { phase = set_phase reader Phase.Ended begun.phase }

abbrev event : Name → Act ℕ ℕ → Event ℕ ℕ
event p act = record { process = p; act = act }

holds_none : (p : Name) (x : ℕ) → start.owner x ≢ Owner.Held p
holds_none p x = elim (cases_eq x 1) [
  | inl is ↦ λ e. let open_is : start.owner x ≡ Owner.Open = grind (arith, is) in absurd cc
  | inr other ↦ λ e. let free_is : start.owner x ≡ Owner.Released = grind (arith, other) in absurd cc
]

-- a reader begins, gets page 1 and ends
reads_and_ends : Leads start (event reader Act.Begin ∷ event reader (Act.Get 1) ∷ event reader (Act.End None) ∷ []) ended
reads_and_ends = (
  begun,
  record { enabled = refl; changes = (λ x. refl, λ x. refl, (0, omega arith, omega arith, phase_set reader (Phase.Running 0) start.phase)); on = omega arith },
  (
    begun,
    record { enabled = ((0, refl), λ e. absurd cc); changes = (λ x. refl, λ x. refl, λ p. refl); on = omega arith },
    (ended, record { enabled = ((0, refl), holds_none reader); changes = (λ x. refl, λ x. refl, phase_set reader Phase.Ended begun.phase); on = omega arith }, refl),
  ),
)

-- a page that nobody holds is put by nobody
not_put : (p : Name) → ¬ Enabled {A = ℕ} start p (Act.Put 1 7)
not_put p = holds_none p 1

-- page 1 was retired at time 0, after the reader began: it is not released while the reader runs
abbrev retired : State ℕ
retired = record begun { owner = set_owner 1 (Owner.Retired 0) begun.owner; clock = 1 }

not_released : ¬ Enabled {A = ℕ} retired writer (Act.Release 1)
not_released (time, is, after) = let later = after reader 0 refl in absurd (omega (arith, later))
