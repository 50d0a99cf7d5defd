-- How far a walk over pages goes on.
use Rattle.std.proofs.Common.{ℕ, ◌≡◌, ◌<◌, ◌≤◌, ◌+◌, inl, inr, arith}
use Rattle.std.specs.Prelude.{◌⊎◌}
use Rattle.std.proofs.lemmas.Bool.{cases_lt}

-- A walk that goes on where there is a page before its end is past where it began.
pub gone_on : (from at to new : ℕ) → from ≤ at → at ≤ new → (at < to → at < new) → from < to → from < new
gone_on from at to new le up goes lt = elim (cases_lt at to) [
  | inl less ↦ let so = goes less in omega (arith, le, so)
  | inr past ↦ omega (arith, past, up, lt)
]

-- So far a call goes that looks at a page at least: further, or to the end.
pub reached : (pages from to at new : ℕ) → to ≤ pages → to ≤ from + 4096 → (from < to) ⊎ (pages ≤ from) → from ≤ at → (from ≤ to → at ≤ to) → (from < to → from < at)
    → (at < pages → new ≡ at) → (pages ≤ at → new ≡ 0)
    → ((from < new) × (new < pages) × (new ≤ from + 4096)) ⊎ ((new ≡ 0) × (pages ≤ from + 4096))
reached pages from to at new within most some on upto whole goes over = elim (cases_lt at pages) [
  | inl less ↦ elim some [
    | inl lt ↦ let is = goes less in let far = whole lt in let near = upto (omega (arith, lt)) in inl (omega (arith, is, far), omega (arith, is, less), omega (arith, is, near, most))
    | inr none ↦ absurd (omega (arith, none, on, less))
  ]
  | inr past ↦ elim some [
    | inl lt ↦ let near = upto (omega (arith, lt)) in inr (over (omega (arith, past)), omega (arith, past, near, most))
    | inr none ↦ inr (over (omega (arith, past)), omega (arith, none))
  ]
]
