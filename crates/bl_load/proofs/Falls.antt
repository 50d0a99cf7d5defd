-- Rows whose keys rise up to a place.
use Rattle.std.proofs.Common.{◌≡◌, ℕ, ◌+◌, ◌-◌, ◌<◌, ◌≤◌, List, sym, subst, inl, inr, arith}
use Rattle.std.proofs.lemmas.Bool.{cases_lt, cases_eq}
use Rattle.bl_model.specs.Rows.{key_at}

-- the keys of the rows below a place rise
abbrev pub RiseBelow : List (ℕ × ℕ) → ℕ → Type 0
RiseBelow rows n = (i j : ℕ) → i < j → j < n → key_at rows i < key_at rows j

pub rise_more : (rows : List (ℕ × ℕ)) (n : ℕ) → 1 ≤ n → RiseBelow rows n → key_at rows (n - 1) < key_at rows n → RiseBelow rows (n + 1)
rise_more rows n some below next i j lt within = elim (cases_lt j n) [
  | inl less ↦ below i j lt less
  | inr le ↦
      let same : j ≡ n = omega arith in
      subst (λ (m : ℕ). key_at rows i < key_at rows m) (sym same) (elim (cases_eq i (n - 1)) [
        | inl last ↦ subst (λ (m : ℕ). key_at rows m < key_at rows n) (sym last) next
        | inr other ↦ (let a = below i (n - 1) (omega arith) (omega arith) in omega arith)
      ])
]
