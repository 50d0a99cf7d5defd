-- There is one, and no other.
use Rattle.std.specs.Prelude.{◌≡◌}

pub record One {A : Type 0} (R : A → Type 0) : Type 0 where
  pub new : A
  pub goes : R new
  pub only : (other : A) → R other → other ≡ new
