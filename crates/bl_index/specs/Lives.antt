-- The lives of an index that is closed and opened again: each begins with the map that the one before it ends with.
use Rattle.std.specs.Prelude.{ℕ, List, [], ◌∷◌, ◌++◌, Option, flat_map}
use Rattle.bl_model.specs.Map.{Map, SameMap}
use Rattle.bl_model.specs.History.{IsLegalFrom, final_map}
use Rattle.bl_model.specs.declared.operation.Entry.{Entry}
use Rattle.bl_page.specs.declared.page.Page.{Page}
use Rattle.bl_claims.specs.Trails.{Trail, history_of}
use Rattle.bl_claims.specs.Seeing.{first_map, IsSeen}
use Rattle.bl_index.specs.declared.index.Index.{Index}
use Rattle.bl_index.specs.declared.index.Pass.{Pass}
use Rattle.bl_index.specs.Calls.{first_of, map_after}
use Rattle.bl_index.specs.Resized.{Resizes}

-- one life: what the index began with, and a trail that is all that has happened in it
pub record Life : Type 0 where
  pub first : List (Option Page)
  pub whole : Trail

abbrev pub life_of : Index → Trail → Life
life_of index whole = record { first = first_of index; whole = whole }

abbrev pub last_map : Life → Map
last_map life = map_after life.first life.whole

-- Each is one that an index may have. The first one begins with m, and each other one with the map that the one before it ends with.
abbrev pub AreLivesFrom : Map → List Life → Type 0
AreLivesFrom m [] = Unit {0}
AreLivesFrom m (life ∷ lives) = SameMap m (first_map life.first) × IsSeen life.first life.whole × AreLivesFrom (last_map life) lives

-- the map that the last of them ends with
abbrev pub map_after_lives : Map → List Life → Map
map_after_lives m [] = m
map_after_lives m (life ∷ lives) = map_after_lives (last_map life) lives

-- their histories, one behind another
abbrev pub history_of_lives : List Life → List Entry
history_of_lives lives = flat_map (λ (life : Life). history_of life.whole) lives

-- That is one history, legal from m, after which the map is the one that the last of them ends with.
pub record IsOneHistory (m : Map) (lives : List Life) : Type 0 where
  pub legal : IsLegalFrom m (history_of_lives lives)
  pub ends : SameMap (final_map m (history_of_lives lives)) (map_after_lives m lives)

-- The index goes on behind these lives: it begins with the map that the last of them ends with.
pub record GoesOnBehind (m : Map) (lives : List Life) (index : Index) : Type 0 where
  pub are_lives : AreLivesFrom m lives
  pub begins : SameMap (map_after_lives m lives) (first_map (first_of index))

-- The histories of lives, one behind another, are one history.
abbrev pub LivesAreOneHistory : Type 0
LivesAreOneHistory = (m : Map) (lives : List Life) → AreLivesFrom m lives → IsOneHistory m lives

-- What a pass has seen of an index that goes on behind lives is one life more.
abbrev pub SeenIsALife : Type 0
SeenIsALife = (m : Map) (lives : List Life) (index : Index) (seen : Trail) → GoesOnBehind m lives index → IsSeen (first_of index) seen
    → AreLivesFrom m (lives ++ life_of index seen ∷ [])

-- So is all that has happened in it once it is resized, and what comes of it goes on behind that.
abbrev pub ResizingAddsALife : Type 0
ResizingAddsALife = (m : Map) (lives : List Life) (old : Index) (passes : List Pass) (pages : ℕ) (new : Index) (news : List Pass) (r : Resizes old passes pages new news)
    → GoesOnBehind m lives old → GoesOnBehind m (lives ++ life_of old r.closes.whole ∷ []) new
