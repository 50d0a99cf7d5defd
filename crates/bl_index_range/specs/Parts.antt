-- What ranges and scans are made of: calls one after another, and of each part the rows before an end.
use Rattle.std.specs.Prelude.{◌≡◌, ℕ, List, [], ◌∷◌, Option, filter}
use Rattle.bl_page.specs.declared.page.Page.{Page}
use Rattle.bl_model.specs.Parts.{rows_of}
use Rattle.bl_model.specs.declared.operation.Entry.{Entry}
use Rattle.bl_model.specs.declared.operation.Reply.{Reply}
use Rattle.bl_claims.specs.Trails.{Trail}
use Rattle.bl_proc.specs.declared.parts.Direction.{Direction}
use Rattle.bl_index_read.specs.LeafRows.{is_below, is_before}
use Rattle.bl_index_read.specs.Searching.{Finds}

-- the rows of a part that lie below an end
abbrev pub rows_below : Option ℕ → Reply → List (ℕ × ℕ)
rows_below to reply = filter (λ row. is_below to row.0) (rows_of reply)

-- the same in a direction
abbrev pub rows_before : Direction → Option ℕ → Reply → List (ℕ × ℕ)
rows_before direction to reply = filter (λ row. is_before direction to row.0) (rows_of reply)

-- The pass has made calls that were answered so, one after another, each with so many turns, and nothing else.
abbrev pub AreCalls : List (Option Page) → ℕ → ℕ → ℕ → List Entry → Trail → Trail → Type 0
AreCalls first pages pass turns [] old new = new ≡ old
AreCalls first pages pass turns (e ∷ es) old new =
    (mid : Trail) × Finds first pages pass turns e.op e.reply old mid × AreCalls first pages pass turns es mid new
