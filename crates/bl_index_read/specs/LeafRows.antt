-- The rows of a leaf that a part lists, and those of them that a scan gives, upwards or downwards.
use Rattle.std.specs.Prelude.{◌≡◌, ℕ, ◌+◌, ◌^◌, ◌<◌, ◌≤◌, Bool, true, false, nat_le, nat_lt, List, [], ◌∷◌, length, filter, reverse, Option, Some, None}
use Rattle.bl_model.specs.Rows.{key_at}
use Rattle.bl_model.specs.declared.operation.Next.{Next}
use Rattle.bl_page.specs.declared.page.Page.{Page}
use Rattle.bl_page.specs.Nodes.{node_of}
use Rattle.bl_proc.specs.declared.parts.Direction.{Direction}
use Rattle.bl_proc.specs.declared.parts.Direction.TheVariants.{Up, Down}
use Rattle.bl_proc.specs.Parts.{GoesOnAt, GoesOnBelow}
use Rattle.bl_index_read.specs.declared.leaf_rows.Behind.{Behind}
use Rattle.bl_index_read.specs.declared.leaf_rows.Behind.TheVariants as behind

-- the key is below an end, if there is one
abbrev pub IsBelow : Option ℕ → ℕ → Type 0
IsBelow None key = Unit {0}
IsBelow (Some end) key = key < end

-- the test of it
abbrev pub is_below : Option ℕ → ℕ → Bool
is_below None key = true
is_below (Some end) key = nat_lt key end

-- nothing of a scan is left from there on
abbrev pub IsOver : Option ℕ → Option ℕ → Type 0
IsOver to None = Unit {0}
IsOver None (Some from) = ⊥
IsOver (Some end) (Some from) = end ≤ from

-- In that direction the key comes before an end, if there is one.
abbrev pub IsBefore : Direction → Option ℕ → ℕ → Type 0
IsBefore Up to key = IsBelow to key
IsBefore Down None key = Unit {0}
IsBefore Down (Some end) key = end < key

-- the test of it
abbrev pub is_before : Direction → Option ℕ → ℕ → Bool
is_before Up to key = is_below to key
is_before Down None key = true
is_before Down (Some end) key = nat_lt end key

-- The key is that one or comes behind it.
abbrev pub IsFrom : Direction → ℕ → ℕ → Type 0
IsFrom Up from key = from ≤ key
IsFrom Down from key = key ≤ from

-- nothing of a scan in that direction is left from there on
abbrev pub IsPast : Direction → Option ℕ → Option ℕ → Type 0
IsPast Up to upto = IsOver to upto
IsPast Down to None = Unit {0}
IsPast Down None (Some from) = ⊥
IsPast Down (Some end) (Some from) = from ≤ end

-- each key comes before those of the rows behind it
abbrev pub AreInOrder : Direction → List (ℕ × ℕ) → Type 0
AreInOrder direction rows = (i j : ℕ) → i < j → j < length rows → IsBefore direction (Some (key_at rows j)) (key_at rows i)

-- A scan goes on from where a part ended, or is over. Of the page at which the next part looks first nothing is said.
abbrev pub GoesOnWithin : Direction → Option ℕ → Option ℕ → Behind → Type 0
GoesOnWithin direction to upto (behind.Part from near) = (upto ≡ Some from) × (from < 2 ^ 64) × IsBefore direction to from
GoesOnWithin direction to upto behind.Nothing = IsPast direction to upto

-- The part behind that page begins so.
abbrev pub GoesOnToward : Direction → Page → Next → Type 0
GoesOnToward Up c next = GoesOnAt (node_of c).shape.end next
GoesOnToward Down c next = GoesOnBelow (node_of c).shape.low next

-- the rows whose keys are not below that one
abbrev pub rows_from : ℕ → List (ℕ × ℕ) → List (ℕ × ℕ)
rows_from from rows = filter (λ row. nat_le from row.0) rows

-- those of them whose keys lie below an end
abbrev pub rows_between : ℕ → Option ℕ → List (ℕ × ℕ) → List (ℕ × ℕ)
rows_between from to rows = filter (λ row. is_below to row.0) (rows_from from rows)

-- Of the rows from place first on those before place last have keys below the end, and the others have not.
pub record EndsBefore (rows : List (ℕ × ℕ)) (to : Option ℕ) (first last : ℕ) : Type 0 where
  pub behind : first ≤ last
  pub in_range : last ≤ length rows
  pub below : (i : ℕ) → first ≤ i → i < last → is_below to (key_at rows i) ≡ true
  pub others : (i : ℕ) → last ≤ i → i < length rows → is_below to (key_at rows i) ≡ false

-- the greatest key below an end, if there is one, or the greatest of all
abbrev pub IsLastBelow : Option ℕ → ℕ → Type 0
IsLastBelow None last = last + 1 ≡ 2 ^ 64
IsLastBelow (Some end) last = last + 1 ≡ end

-- the least key above an end, if there is one, or the least of all
abbrev pub first_above : Option ℕ → ℕ
first_above None = 0
first_above (Some end) = end + 1

-- rows with rising keys, in the order in which a scan gives them
abbrev pub toward : Direction → List (ℕ × ℕ) → List (ℕ × ℕ)
toward Up rows = rows
toward Down rows = reverse rows

-- those that it gives from a key on and before an end
abbrev pub portion_of : Direction → ℕ → Option ℕ → List (ℕ × ℕ) → List (ℕ × ℕ)
portion_of Up from to rows = rows_between from to rows
portion_of Down from to rows = reverse (rows_between (first_above to) (Some (from + 1)) rows)

-- the key of the first of these rows, if there is one
abbrev pub first_key : List (ℕ × ℕ) → Option ℕ
first_key [] = None
first_key (row ∷ rows) = Some row.0
