-- Rows: pairs of a key and its value.
use Rattle.std.specs.Prelude.{◌≡◌, ℕ, ◌≤◌, ◌<◌, List, [], ◌∷◌, length, slice_index_or, Option, None, Some, if◌then◌else◌, ◌==◌}

-- the key of the row at a place
abbrev pub key_at : List (ℕ × ℕ) → ℕ → ℕ
key_at rows i = let row = slice_index_or rows i (0, 0) in row.0

-- each key is below those of the rows behind it
abbrev pub HasRisingKeys : List (ℕ × ℕ) → Type 0
HasRisingKeys rows = (i j : ℕ) → i < j → j < length rows → key_at rows i < key_at rows j

-- the map whose pairs are the rows
abbrev pub map_of : List (ℕ × ℕ) → ℕ → Option ℕ
map_of [] key = None
map_of ((k, value) ∷ rows) key = if k == key then Some value else map_of rows key

-- the row at place i has the key
pub record IsAt (rows : List (ℕ × ℕ)) (key i : ℕ) : Type 0 where
  pub in_range : i < length rows
  pub has_key : key_at rows i ≡ key

-- no row has the key, and it would stand at place i
pub record IsGapFor (rows : List (ℕ × ℕ)) (key i : ℕ) : Type 0 where
  pub in_range : i ≤ length rows
  pub smaller_before : (j : ℕ) → j < i → key_at rows j < key
  pub greater_after : (j : ℕ) → i ≤ j → j < length rows → key < key_at rows j
