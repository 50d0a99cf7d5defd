-- Pairs up to a bound and pairs from it on, in one list, or split in the middle.
use Rattle.std.specs.Prelude.{◌≡◌, ℕ, ◌+◌, ◌/◌, ◌<◌, ◌≤◌, ◌++◌, List, length}
use Rattle.bl_page.specs.Pairs.{RisesFrom, AllWithin, BeginsWith, NameChildren, end_of}
use Rattle.bl_rearrange.specs.declared.sides.Side.{Side}
use Rattle.bl_rearrange.specs.declared.sides.Side.TheVariants as side

-- Rising pairs on both sides of a bound.
pub record AreSides (low middle high : ℕ) (left right : List (ℕ × ℕ)) : Type 0 where
  pub above : low < middle
  pub below : middle < end_of high
  pub left_rising : RisesFrom 0 left
  pub right_rising : RisesFrom 0 right
  pub left_within : AllWithin low middle left
  pub right_within : AllWithin middle high right

-- They are one list.
pub record IsJoined (low high : ℕ) (left right joined : List (ℕ × ℕ)) : Type 0 where
  pub pairs : joined ≡ left ++ right
  pub few : length joined ≤ 14
  pub rising : RisesFrom 0 joined
  pub within : AllWithin low high joined
  pub first : BeginsWith low left → BeginsWith low joined
  pub children : NameChildren left → NameChildren right → NameChildren joined

-- They are split in the middle, at a key.
pub record AreShares (low high : ℕ) (left right lower upper : List (ℕ × ℕ)) (separator : ℕ) : Type 0 where
  pub pairs : lower ++ upper ≡ left ++ right
  pub half : length lower ≡ (length left + length right + 1) / 2
  pub lower_few : length lower ≤ 14
  pub upper_few : length upper ≤ 14
  pub above : low < separator
  pub below : separator < end_of high
  pub lower_rising : RisesFrom 0 lower
  pub upper_rising : RisesFrom 0 upper
  pub lower_within : AllWithin low separator lower
  pub upper_within : AllWithin separator high upper
  pub lower_first : BeginsWith low left → BeginsWith low lower
  pub upper_first : BeginsWith separator upper
  pub lower_children : NameChildren left → NameChildren right → NameChildren lower
  pub upper_children : NameChildren left → NameChildren right → NameChildren upper

-- Where the left side had so many pairs and has so many now: it has lost none, or some.
abbrev pub MovesTo : Side → ℕ → ℕ → Type 0
MovesTo side.Left had has = had ≤ has
MovesTo side.Right had has = has < had
