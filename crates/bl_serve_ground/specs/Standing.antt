-- Where a server stands between two chunks of lines: its index, whose passes have met, and the map that it has come to.
use Rattle.std.specs.Prelude.{◌≡◌, ℕ, ◌<◌, ◌≤◌, ◌++◌, List, length}
use Rattle.bl_model.specs.Map.{Map}
use Rattle.bl_model.specs.History.{IsLegalFrom}
use Rattle.bl_claims.specs.Trails.{Trail, history_of}
use Rattle.bl_claims.specs.Seeing.{first_map}
use Rattle.bl_index.specs.declared.index.Index.{Index}
use Rattle.bl_index.specs.declared.index.Pass.{Pass}
use Rattle.bl_index.specs.Calls.{first_of, pages_of, map_after}
use Rattle.bl_serve_ground.specs.declared.ground.Ground.{Ground}
use Rattle.bl_serve_ground.specs.declared.ground.Ground.TheVariants.{Lent, Own}
use Rattle.bl_serve_ground.specs.Growing.{IsDoubled}
use Rattle.bl_serve_ground.specs.Together.{AreTogether, seen_by}

-- the index on which a server works
abbrev pub index_in : Ground → Index
index_in (Lent index) = index.now
index_in (Own index limits) = index

-- it is one of its own
abbrev pub IsOwned : Ground → Type 0
IsOwned (Lent index) = ⊥
IsOwned (Own index limits) = Unit {0}

-- how many pages it has from now on, at least and at most
abbrev pub sizes_in : Ground → ℕ × ℕ
sizes_in (Lent index) = (pages_of index.now, pages_of index.now)
sizes_in (Own index limits) = (limits.least, limits.most)

-- the map after all that its passes have seen
abbrev pub map_in : Ground → List Pass → Map
map_in ground passes = map_after (first_of (index_in ground)) (seen_by passes)

-- one of its own has some pages at least
abbrev pub HasSome : Ground → Type 0
HasSome (Lent index) = Unit {0}
HasSome (Own index limits) = 0 < limits.least

-- These are all its passes, and they have met; it has the least pages that it may have, doubled some times.
pub record IsAtRest (ground : Ground) (passes : List Pass) : Type 0 where
  pub some : 0 < length passes
  pub together : AreTogether (index_in ground) (seen_by passes) passes
  pub least : HasSome ground
  pub within : (sizes_in ground).0 ≤ (sizes_in ground).1
  pub sizes : IsDoubled (sizes_in ground).0 (sizes_in ground).1 (pages_of (index_in ground))

-- An index that was lent is the same still, and that is what its passes have seen. One of the server's own may be another one by now.
abbrev pub IsStill : Ground → Trail → Ground → List Pass → Type 0
IsStill (Lent index) seen (Lent now) passes = (now.now ≡ index.now) × (seen_by passes ≡ seen)
IsStill (Own index limits) seen (Own now its) passes = Unit {0}
IsStill from seen ground passes = ⊥

-- A server has come here from there by what that trail tells, which may be that of one index behind that of another: it is legal from the map at the
-- start, and led to the map that the index has. It may have as many pages as at the start.
pub record StandsAt (from : Ground) (pages : ℕ × ℕ) (seen : Trail) (ground : Ground) (passes : List Pass) : Type 0 where
  pub rests : IsAtRest ground passes
  pub legal : IsLegalFrom (first_map (first_of (index_in from))) (history_of seen)
  pub map : map_in ground passes ≡ map_after (first_of (index_in from)) seen
  pub still : IsStill from seen ground passes
  pub sizes : sizes_in ground ≡ pages

-- Wherever a server has come from to the one place, it has come to the other one by this trail more.
abbrev pub GoesOn : Ground → List Pass → Trail → Ground → List Pass → Type 0
GoesOn old olds more new news = (from : Ground) (pages : ℕ × ℕ) (seen : Trail) → StandsAt from pages seen old olds → StandsAt from pages (seen ++ more) new news

-- The same where nothing has happened.
abbrev pub Resettles : Ground → List Pass → Ground → List Pass → Type 0
Resettles old olds new news = (from : Ground) (pages : ℕ × ℕ) (seen : Trail) → StandsAt from pages seen old olds → StandsAt from pages seen new news
