-- What the server promises.
use Rattle.std.specs.Prelude.{◌≡◌, ℕ, suc, ◌+◌, ◌<◌, ◌≤◌, ◌⊎◌, List, [], ◌∷◌, ◌++◌, Option, Result, Err, IfOk, IfErr, length}
use Rattle.std.specs.Io.KnownBytes.{Appends, Consumes, IsAtEnd}
use Rattle.bl_serve_lines.specs.declared.request.Request.{Request}
use Rattle.bl_serve_lines.specs.declared.serving.Sectioning.{Sectioning}
use Rattle.bl_serve_lines.specs.declared.serving.Totals.{Totals}
use Rattle.bl_serve_lines.specs.declared.serving.ServeFault.{ServeFault}
use Rattle.bl_serve_lines.specs.declared.serving.ServeFault.TheVariants.{Read, Write, Memory, Lost}
use Rattle.bl_serve_lines.specs.Served.{Served, whole_history}
use Rattle.bl_serve_lines.specs.Streams.{EndsRead}
use Rattle.bl_page.specs.declared.page.Page.{Page}
use Rattle.bl_claims.specs.Trails.{Trail, history_of}
use Rattle.bl_index.specs.declared.index.Index.{Index}
use Rattle.bl_index.specs.declared.index.Pass.{Pass}
use Rattle.bl_index.specs.Calls.{first_of, pages_of, map_after}
use Rattle.bl_serve_ground.specs.Together.{AreTogether, seen_by}
use Rattle.bl_serve_reading.specs.Reading.{EndsReading, ReadsLines}

-- a section of so many lines behind so many others may end by it: there was no memory, or the answer of one of its lines was lost
abbrev pub IsInside : ℕ → ℕ → ServeFault → Type 0
IsInside done count Read = ⊥
IsInside done count Write = ⊥
IsInside done count Memory = Unit {0}
IsInside done count (Lost number) = (done < number) × (number ≤ done + count)

-- how a section behind so many lines ends by a fault: it could not be read, or lines that were read could not be answered
abbrev pub FailsSection : Sectioning → ServeFault → ℕ → ℕ → List (Option Request) → List ℕ → List ℕ → List ℕ → Type 0 → Type 0 → Type 0
FailsSection how fault done most asked rest unread left at_end failed =
    EndsReading how (Err fault) most asked rest unread left at_end failed ⊎ (ReadsLines unread left asked rest × IsInside done (length asked) fault)

-- The input is served by an index that has so many pages, at least and at most, from the map after old on, and the trail now is old with the entries
-- of what was served, in the order of its history, and with no others.
pub record ServedBy (how : Sectioning) (pages : ℕ × ℕ) (first : List (Option Page)) (old now : Trail) (input output : List ℕ) (totals : Totals) : Type 0 where
  pub served : Served how pages (map_after first old) input output totals
  pub more : Trail
  pub begins : now ≡ old ++ more
  pub history : history_of more ≡ whole_history served

-- The passes have served: all have seen one trail, which is what they had seen with the entries of what was served.
pub record Serves (how : Sectioning) (index : Index) (olds news : List Pass) (totals : Totals) (input output : List ℕ) : Type 0 where
  pub now : Trail
  pub served : ServedBy how (pages_of index, pages_of index) (first_of index) (seen_by olds) now input output totals
  pub together : AreTogether index now news

-- Serving has ended. The input was read, and more ahead of it; the output was written. Without a fault the input was served, up to
-- where the reader ends; a fault stopped it.
pub record EndsServing {T : Type 0} (IsServed : T → List ℕ → List ℕ → Type 0) (IsStopped : List ℕ → List ℕ → ServeFault → Type 0 → Type 0 → Type 0)
    (unread left : Option (List ℕ)) (reader_failed : Type 0) (before after : Option (List ℕ)) (writer_failed : Type 0)
    (result : Result T ServeFault) : Type 0 where
  pub input : List ℕ
  pub ahead : List ℕ
  pub output : List ℕ
  pub consumed : Consumes unread left (input ++ ahead)
  pub wrote : Appends before after output
  pub ok : IfOk result (λ t. IsServed t input output × EndsRead input ahead (IsAtEnd left))
  pub fault : IfErr result (λ fault. IsStopped (input ++ ahead) output fault reader_failed writer_failed)
