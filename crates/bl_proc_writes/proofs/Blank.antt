-- A path with no page noted.
use Rattle.std.proofs.Common.{ℕ, zero, suc, ◌≡◌, ◌-◌, refl}
use Rattle.std.specs.Prelude.{replicate, slice_index}
use Rattle.bl_proc_writes.specs.Paths.{blank, IsBlank}

none_at : (n i : ℕ) → slice_index (replicate n 0) i ≡ 0
none_at zero i = refl
none_at (suc n) zero = refl
none_at (suc n) (suc i) = none_at n i

pub is_blank : IsBlank blank
is_blank level = none_at 11 (level - 1)
