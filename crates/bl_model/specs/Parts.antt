-- What a part lists, and where it ended.
use Rattle.std.specs.Prelude.{ℕ, Option, Some, None, List, []}
use Rattle.bl_model.specs.declared.operation.Next.{Next}
use Rattle.bl_model.specs.declared.operation.Next.TheVariants.{More, End}
use Rattle.bl_model.specs.declared.operation.Reply.{Reply}
use Rattle.bl_model.specs.declared.operation.Reply.TheVariants.{Rows}

-- the rows of a part
abbrev pub rows_of : Reply → List (ℕ × ℕ)
rows_of (Rows rows next) = rows.items
rows_of reply = []

-- the key that a part ended before, and with which the next one begins; none, where it went to the end of the map
abbrev pub next_key : Next → Option ℕ
next_key (More key) = Some key
next_key End = None

abbrev pub ended_at : Reply → Option ℕ
ended_at (Rows rows next) = next_key next
ended_at reply = None
