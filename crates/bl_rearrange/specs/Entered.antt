-- Pairs that rise, with one pair more or one less, or with another word in one.
use Rattle.std.specs.Prelude.{◌≡◌, ◌≢◌, ℕ, ◌+◌, ◌<◌, ◌≤◌, List, [], ◌∷◌, length, if◌then◌else◌, nat_lt, ◌==◌, IsSome}
use Rattle.bl_model.specs.Map.{with_pair, without_key, SameMap}
use Rattle.bl_model.specs.Rows.{map_of}
use Rattle.bl_page.specs.Pairs.{RisesFrom, AllWithin, BeginsWith, NameChildren, IsChild, end_of}

-- the pairs with one more, in its place
abbrev pub entered : ℕ → ℕ → List (ℕ × ℕ) → List (ℕ × ℕ)
entered key word [] = (key, word) ∷ []
entered key word (pair ∷ pairs) = if nat_lt key pair.0 then (key, word) ∷ pair ∷ pairs else pair ∷ entered key word pairs

-- the pairs with another key
abbrev pub dropped : ℕ → List (ℕ × ℕ) → List (ℕ × ℕ)
dropped key [] = []
dropped key (pair ∷ pairs) = if pair.0 == key then pairs else pair ∷ dropped key pairs

-- the pairs with that word in the one with the key
abbrev pub replaced : ℕ → ℕ → List (ℕ × ℕ) → List (ℕ × ℕ)
replaced key word [] = []
replaced key word (pair ∷ pairs) = if pair.0 == key then (key, word) ∷ pairs else pair ∷ replaced key word pairs

-- Pairs within those bounds that rise, now with one more.
pub record IsEntered (low high key word : ℕ) (old new : List (ℕ × ℕ)) : Type 0 where
  pub count : length new ≡ length old + 1
  pub rising : RisesFrom 0 new
  pub within : AllWithin low high new
  pub first : BeginsWith low old → BeginsWith low new
  pub children : IsChild word → NameChildren old → NameChildren new
  pub map : SameMap (with_pair (map_of old) key word) (map_of new)

-- The same, split at a key.
pub record AreHalves (low high key word : ℕ) (old lower upper : List (ℕ × ℕ)) (separator : ℕ) : Type 0 where
  pub lower_count : length lower ≡ 8
  pub upper_count : length upper ≡ 7
  pub above : low < separator
  pub below : separator < end_of high
  pub lower_rising : RisesFrom 0 lower
  pub upper_rising : RisesFrom 0 upper
  pub lower_within : AllWithin low separator lower
  pub upper_within : AllWithin separator high upper
  pub lower_first : BeginsWith low old → BeginsWith low lower
  pub upper_first : BeginsWith separator upper
  pub lower_children : IsChild word → NameChildren old → NameChildren lower
  pub upper_children : IsChild word → NameChildren old → NameChildren upper
  pub lower_map : (j : ℕ) → j < separator → map_of lower j ≡ with_pair (map_of old) key word j
  pub upper_map : (j : ℕ) → separator ≤ j → map_of upper j ≡ with_pair (map_of old) key word j

-- Pairs within those bounds that rise, now without a key.
pub record IsDropped (low high key : ℕ) (old new : List (ℕ × ℕ)) : Type 0 where
  pub count : length new ≤ length old
  pub one_less : IsSome (map_of old key) → length new + 1 ≡ length old
  pub rising : RisesFrom 0 new
  pub within : AllWithin low high new
  pub first : key ≢ low → BeginsWith low old → BeginsWith low new
  pub children : NameChildren old → NameChildren new
  pub map : SameMap (without_key (map_of old) key) (map_of new)

-- Pairs within those bounds that rise, now with another word in one.
pub record IsReplaced (low high key word : ℕ) (old new : List (ℕ × ℕ)) : Type 0 where
  pub count : length new ≡ length old
  pub rising : RisesFrom 0 new
  pub within : AllWithin low high new
  pub first : BeginsWith low old → BeginsWith low new
  pub children : IsChild word → NameChildren old → NameChildren new
  pub map : SameMap (with_pair (map_of old) key word) (map_of new)
