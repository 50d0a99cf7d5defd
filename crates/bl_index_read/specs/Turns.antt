-- How far a search has come, by the pages that it has got.
use Rattle.std.specs.Prelude.{◌≡◌, ℕ, ◌≤◌}
use Rattle.bl_page.specs.Machine.Act.{Begin}
use Rattle.bl_claims.specs.Trails.{Trail, DoesAt}
use Rattle.bl_claims.specs.Bounds.{gets_of, IsWithinBound, IsBelowBound}
use Rattle.bl_claims.specs.Seeing.{name}

-- A search that the pass began as its process of that number has got so many pages, within its bound, and may get one more.
pub record IsAtTurn (pages pass number turns : ℕ) (trail : Trail) : Type 0 where
  pub begin : ℕ
  pub begun : DoesAt trail begin (name pass number) Begin
  pub bounded : IsWithinBound pages (name pass number) trail
  pub below : IsBelowBound pages (name pass number) trail
  pub gets : gets_of (name pass number) trail ≡ turns

-- A search that the pass began as its process of that number has got its last page, within its bound and so many turns.
pub record IsAtLast (pages pass number turns : ℕ) (trail : Trail) : Type 0 where
  pub begin : ℕ
  pub begun : DoesAt trail begin (name pass number) Begin
  pub bounded : IsWithinBound pages (name pass number) trail
  pub few : gets_of (name pass number) trail ≤ turns
