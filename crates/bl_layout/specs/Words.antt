-- Where each word of a store stands in its table.
use Rattle.std.specs.Prelude.{ℕ, ◌≡◌, ◌+◌, ◌*◌, ◌/◌, ◌<◌, ◌≤◌}
use Rattle.bl_layout.specs.declared.layout.Layout.{Layout}
use Rattle.bl_layout.specs.declared.word.Word.{Word}
use Rattle.bl_layout.specs.declared.word.Word.TheVariants.{Clock, Process, Page, PageOwner, FrameOwner, FrameWord}

abbrev pub frame_count : Layout → ℕ
frame_count l = l.pages + l.spare

-- So many frames are those that so many pages and passes take: two for each page up to 65,536 pages, and above one for each and an eighth of
-- that, or 65,536 where an eighth is less; and eight for each pass.
abbrev pub HasFrames : ℕ → ℕ → ℕ → Type 0
HasFrames pages passes frames = (pages ≤ 65536 → frames ≡ 2 * pages + 8 * passes)
    × (65536 < pages → pages / 8 ≤ 65536 → frames ≡ pages + 65536 + 8 * passes)
    × (65536 < pages → 65536 < pages / 8 → frames ≡ pages + pages / 8 + 8 * passes)

-- the number of all words together
abbrev pub word_count : Layout → ℕ
word_count l = 1 + l.passes + 2 * l.pages + 33 * frame_count l

-- a name of a word that a store of these sizes has
abbrev pub IsNamed : Layout → Word → Type 0
IsNamed l Clock = Unit {0}
IsNamed l (Process p) = p < l.passes
IsNamed l (Page x) = x < l.pages
IsNamed l (PageOwner x) = x < l.pages
IsNamed l (FrameOwner f) = f < frame_count l
IsNamed l (FrameWord f i) = (f < frame_count l) × (i < 32)

-- the number of a word
abbrev pub number_of : Layout → Word → ℕ
number_of l Clock = 0
number_of l (Process p) = 1 + p
number_of l (Page x) = 1 + l.passes + x
number_of l (PageOwner x) = 1 + l.passes + l.pages + x
number_of l (FrameOwner f) = 1 + l.passes + 2 * l.pages + f
number_of l (FrameWord f i) = 1 + l.passes + 2 * l.pages + frame_count l + 32 * f + i
