-- The pages by which a process has come down.
use Rattle.std.specs.Prelude.{◌≡◌, ℕ, zero, suc, ◌-◌, replicate, slice_index, slice_set}
use Rattle.bl_page.specs.declared.page.Page.{Page}
use Rattle.bl_page.specs.Nodes.{node_of}
use Rattle.bl_proc_steps.specs.declared.acts.Seen.{Seen}
use Rattle.bl_proc_steps.specs.declared.acts.Seen.TheVariants as seen
use Rattle.bl_proc_routes.specs.declared.routes.Step.{Step}
use Rattle.bl_proc_routes.specs.declared.routes.Step.TheVariants.{Down}
use Rattle.bl_proc_steps.specs.declared.approach.Approach.{Approach}
use Rattle.bl_proc_steps.specs.declared.approach.Approach.TheVariants.{Start, At, Latching}
use Rattle.bl_proc_routes.specs.Routes.{Leads}
use Rattle.bl_proc_writes.specs.declared.paths.Path.{Path}

-- the page that is noted for a level above the leaves, 0 for none
abbrev pub page_at : Path → ℕ → ℕ
page_at path level = slice_index path.pages (level - 1)

-- none is noted
abbrev pub IsBlank : Path → Type 0
IsBlank path = (level : ℕ) → page_at path level ≡ 0

-- the path by which none is noted
abbrev pub blank : Path
blank = record { pages = replicate 11 0 }

-- page x is noted for a level above the leaves, and the rest stays
abbrev pub noted : ℕ → ℕ → Path → Path
noted level x path = record path { pages = slice_set path.pages (level - 1) x }

-- where a writer begins, by the page that is noted for its level: it latches that page before it gets it
abbrev pub from_page : ℕ → Approach
from_page zero = Start
from_page (suc x) = Latching (suc x)

-- a page x, which is c, is noted for its level where the way goes down from it
abbrev pub NotesBy : ℕ → Page → Step → Path → Path → Type 0
NotesBy x c (Down y) old new = new ≡ noted (node_of c).shape.level x old
NotesBy x c o old new = new ≡ old

-- A writer of that level, on its way to that key, has seen that: it may have got a page without a latch.
abbrev pub Notes : ℕ → ℕ → Approach → Seen → Path → Path → Type 0
Notes level key (At x) (seen.Words c) old new = (o : Step) × Leads c key level o × NotesBy x c o old new
Notes level key a what old new = new ≡ old
