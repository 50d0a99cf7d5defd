-- An index that a server has opened.
use Rattle.std.specs.Prelude.{◌≡◌, ℕ, max, List, [], length}
use Rattle.bl_model.specs.Rows.{map_of}
use Rattle.bl_claims.specs.Seeing.{first_map}
use Rattle.bl_index.specs.declared.index.Index.{Index}
use Rattle.bl_index.specs.declared.index.Pass.{Pass}
use Rattle.bl_index.specs.Calls.{first_of, pages_of}
use Rattle.bl_serve_ground.specs.declared.ground.Ground.{Ground}
use Rattle.bl_serve_ground.specs.declared.ground.Limits.{Limits}
use Rattle.bl_serve_ground.specs.declared.ground.Ground.TheVariants.{Own}
use Rattle.bl_serve_ground.specs.declared.origin.Origin.{Origin}
use Rattle.bl_serve_ground.specs.Origins.{size_of, HasRows}
use Rattle.bl_serve_ground.specs.Together.{AreTogether, seen_by}

-- The index has the pages and the rows of its origin, and so many passes, which have seen nothing yet.
pub record IsBegunFrom (origin : Origin) (among : ℕ) (index : Index) (passes : List Pass) : Type 0 where
  pub pages : pages_of index ≡ size_of origin
  pub rows : List (ℕ × ℕ)
  pub are_rows : HasRows origin rows
  pub map : first_map (first_of index) ≡ map_of rows
  pub many : length passes ≡ among
  pub unseen : seen_by passes ≡ []
  pub together : AreTogether index (seen_by passes) passes

-- The ground is that index, as one of the server's own, which has as many pages at least, and as many or so many at most, where these are more.
pub record IsOwn (index : Index) (most : ℕ) (ground : Ground) : Type 0 where
  pub limits : Limits
  pub least : limits.least ≡ pages_of index
  pub bound : limits.most ≡ max (pages_of index) most
  pub own : ground ≡ Own index limits
