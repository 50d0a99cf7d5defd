-- A file in memory, and what it has been.
use Rattle.std.specs.Prelude.{ℕ, zero, suc, List, [], ◌∷◌, Vec}
use Rattle.std.specs.declared.alloc.Global.{Global}
use Rattle.bl_journal.specs.declared.memory.Memory.{Memory}

-- its bytes
abbrev pub memory_bytes : Memory → List ℕ
memory_bytes m = m.bytes.items

-- what it was at the moment of that number, or is now
abbrev pub content_at : List (Vec ℕ Global) → List ℕ → ℕ → List ℕ
content_at [] now t = now
content_at (v ∷ past) now zero = v.items
content_at (v ∷ past) now (suc t) = content_at past now t
