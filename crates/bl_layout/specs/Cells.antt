-- Where each word stands in the table of a store: by a cell.
use Rattle.std.specs.Prelude.{ℕ, ◌+◌, ◌*◌}
use Rattle.bl_layout.specs.declared.layout.Layout.{Layout}
use Rattle.bl_layout.specs.declared.word.Word.{Word}
use Rattle.bl_layout.specs.declared.word.Word.TheVariants.{Clock, Process, Page, PageOwner, FrameOwner, FrameWord}
use Rattle.bl_layout.specs.Words.{frame_count}

-- The clock has the first cells for itself. Pages, owners and frames follow in the order of their numbers. Each process word has 16
-- cells behind them.
abbrev pub front : Layout → ℕ
front l = 22 + 8 * l.passes

abbrev pub behind : Layout → ℕ
behind l = front l + 2 * l.pages + 33 * frame_count l

abbrev pub cell_count : Layout → ℕ
cell_count l = behind l + 16 * (1 + l.passes)

-- the cell of a word
abbrev pub cell_of : Layout → Word → ℕ
cell_of l Clock = 0
cell_of l (Process p) = behind l + 16 * (1 + p)
cell_of l (Page x) = front l + x
cell_of l (PageOwner x) = front l + l.pages + x
cell_of l (FrameOwner f) = front l + 2 * l.pages + f
cell_of l (FrameWord f i) = front l + 2 * l.pages + frame_count l + 32 * f + i
