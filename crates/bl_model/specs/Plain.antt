-- What `PlainMap` answers beyond a map step.
use Rattle.std.specs.Prelude.{◌≡◌, ℕ, ◌≤◌, ◌<◌, List, length, take, None, IsSome}
use Rattle.bl_model.specs.declared.operation.Op.{Op}
use Rattle.bl_model.specs.declared.operation.Op.TheVariants.{Insert, Put}
use Rattle.bl_model.specs.declared.operation.Next.TheVariants.{More, End}
use Rattle.bl_model.specs.declared.operation.Reply.{Reply}
use Rattle.bl_model.specs.declared.operation.Reply.TheVariants.{Rows}
use Rattle.bl_model.specs.Map.{Map}
use Rattle.bl_model.specs.Rows.{key_at}

-- A part has at most 14 rows. It stops before the end only where it has 14, and then at a key of the map.
abbrev pub FillsPart : Map → Reply → Type 0
FillsPart m (Rows rows (More next)) = (length rows.items ≡ 14) × IsSome (m next)
FillsPart m (Rows rows End) = length rows.items ≤ 14
FillsPart m reply = Unit {0}

-- the operation makes the map larger: an insert or a put of a key that isn't there
abbrev pub NeedsRoom : Map → Op → Type 0
NeedsRoom m (Insert key value) = m key ≡ None
NeedsRoom m (Put key value) = m key ≡ None
NeedsRoom m op = ⊥

-- the first 14 rows, and the key of the fifteenth if there is one
abbrev pub BeginsPart : List (ℕ × ℕ) → Reply → Type 0
BeginsPart rows (Rows part (More next)) = (14 < length rows) × (part.items ≡ take 14 rows) × (next ≡ key_at rows 14)
BeginsPart rows (Rows part End) = (length rows ≤ 14) × (part.items ≡ rows)
BeginsPart rows reply = ⊥
