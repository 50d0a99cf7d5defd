-- The options of a server and their limits.
use Rattle.std.specs.Prelude.{◌≡◌, ◌≤◌, ◌^◌, ℕ, Option, Some, None}
use Rattle.bl_serve_lines.specs.declared.options.ServeOptions.{ServeOptions}

-- 4 to 2^28 pages, and no more than there may be, 1 to 32 workers, 16 compressors at most
abbrev pub AreWithin : ServeOptions → Type 0
AreWithin options = (4 ≤ options.pages) × (options.pages ≤ options.most) × (options.most ≤ 2 ^ 28) × (1 ≤ options.workers) × (options.workers ≤ 32) × (options.compressors ≤ 16)

-- an index of pages that were asked for keeps them, and any other may grow to 2^28
abbrev pub KeepsPages : Option ℕ → ServeOptions → Type 0
KeepsPages (Some asked) options = options.most ≡ options.pages
KeepsPages None options = options.most ≡ 2 ^ 28

-- what is held of an option is within the limits: the value that was given, where that is within them, and the default where none was
abbrev pub IsHeld : Option ℕ → ℕ → ℕ → ℕ → ℕ → Type 0
IsHeld value default least most held =
    (least ≤ held) × (held ≤ most) × ((v : ℕ) → value ≡ Some v → least ≤ v → v ≤ most → held ≡ v) × (value ≡ None → held ≡ default)
