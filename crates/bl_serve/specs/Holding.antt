-- Lines that a server has answered, from where it stood to where it stands.
use Rattle.std.specs.Prelude.{◌≡◌, ℕ, ◌+◌, ◌++◌, List, Option, length}
use Rattle.bl_serve_lines.specs.declared.request.Request.{Request}
use Rattle.bl_serve_lines.specs.declared.serving.Sectioning.{Sectioning}
use Rattle.bl_serve_lines.specs.declared.serving.Totals.{Totals}
use Rattle.bl_claims.specs.Trails.{Trail}
use Rattle.bl_index.specs.declared.index.Index.{Index}
use Rattle.bl_index.specs.declared.index.Pass.{Pass}
use Rattle.bl_index.specs.Calls.{first_of, pages_of}
use Rattle.bl_map.specs.declared.handle.Handle.{Handle}
use Rattle.bl_map.specs.Handles.{seats_of}
use Rattle.bl_serve_reading.specs.declared.section_reader.SectionEnd.{SectionEnd}
use Rattle.bl_serve_ground.specs.declared.ground.Ground.{Ground}
use Rattle.bl_serve.specs.Sections.{Held, end_text}
use Rattle.bl_serve_ground.specs.Together.{AreTogether, seen_by}
use Rattle.bl_serve.specs.Serving.{ServedBy}
use Rattle.bl_serve_ground.specs.Standing.{GoesOn, StandsAt, index_in, sizes_in}

-- These are handles of all seats of the index, which have met.
abbrev pub AreMet : Index → List Handle → Type 0
AreMet index handles = AreTogether index (seen_by (seats_of handles)) (seats_of handles)

-- A chunk was answered by the passes, which were together and are so again: since then they have seen its entries, and no others.
pub record HoldsChunk (index : Index) (done : ℕ) (asked : List (Option Request)) (text : List ℕ) (olds news : List Pass) : Type 0 where
  pub more : Trail
  pub held : Held (pages_of index, pages_of index) done asked text more
  pub together : AreTogether index (seen_by olds ++ more) news

-- Lines were answered, by an index that had so many pages at least and at most, and the server has come on by their entries, and by no others.
pub record HoldsSection (pages : ℕ × ℕ) (old : Ground) (done : ℕ) (asked : List (Option Request)) (text : List ℕ) (olds : List Pass) (new : Ground) (news : List Pass) : Type 0 where
  pub more : Trail
  pub held : Held pages done asked text more
  pub goes : GoesOn old olds more new news

-- The same, with one line more for bytes behind the last LF.
pub record ServesSection (pages : ℕ × ℕ) (old : Ground) (done : ℕ) (asked : List (Option Request)) (end : SectionEnd) (text : List ℕ) (olds : List Pass) (new : Ground) (news : List Pass) : Type 0 where
  pub answers : List ℕ
  pub holds : HoldsSection pages old done asked answers olds new news
  pub ends : text ≡ answers ++ end_text end (done + length asked + 1)

-- The input was served, and the server has come on by the entries of what was served.
pub record ServesOn (how : Sectioning) (old : Ground) (olds : List Pass) (new : Ground) (news : List Pass) (totals : Totals) (input output : List ℕ) : Type 0 where
  pub now : Trail
  pub served : ServedBy how (sizes_in old) (first_of (index_in old)) (seen_by olds) now input output totals
  pub stands : StandsAt old (sizes_in old) now new news
