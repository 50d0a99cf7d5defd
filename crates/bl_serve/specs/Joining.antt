-- The outputs of shares, and the replies in the order of the lines.
use Rattle.std.specs.Prelude.{◌≡◌, ◌≢◌, ℕ, ◌+◌, ◌<◌, ◌==◌, List, map, length, sum, slice_index, count_by}
use Rattle.bl_serve_lines.specs.declared.serving.ServeFault.{ServeFault}
use Rattle.bl_serve_lines.specs.declared.serving.ServeFault.TheVariants.{Read, Write, Memory, Lost}
use Rattle.bl_serve_lines.specs.Dealt.{dealt}
use Rattle.bl_serve_worker.specs.declared.chunk.ShareOutput.{ShareOutput}
use Rattle.bl_serve_worker.specs.Answering.{joined_text}

-- it has a reply for each line of its share, and these are all of its text
pub record IsWhole (deals : List ℕ) (w : ShareOutput) : Type 0 where
  pub many : length w.lengths.items ≡ length (dealt w.share deals deals)
  pub bytes : sum w.lengths.items ≡ length w.text.items

-- of the replies to all lines it has those of its share
pub record IsOutputOf (deals : List ℕ) (texts : List (List ℕ)) (w : ShareOutput) : Type 0 where
  pub text : w.text.items ≡ joined_text (dealt w.share deals texts)
  pub cuts : w.lengths.items ≡ map length (dealt w.share deals texts)

-- how many of the outputs are of that share
abbrev pub times : ℕ → List ShareOutput → ℕ
times share outputs = count_by (λ w. w.share == share) outputs

-- The number is that of the first line whose share the outputs do not have exactly once, behind so many lines that are done.
pub record IsLeastLost (outputs : List ShareOutput) (deals : List ℕ) (done number : ℕ) : Type 0 where
  pub place : ℕ
  pub is : number ≡ done + 1 + place
  pub within : place < length deals
  pub once : (i : ℕ) → i < place → times (slice_index deals i) outputs ≡ 1
  pub not_once : times (slice_index deals place) outputs ≢ 1

-- where the fault says that a line was lost, it names that line
abbrev pub NamesLost : List ShareOutput → List ℕ → ℕ → ServeFault → Type 0
NamesLost outputs deals done Read = Unit {0}
NamesLost outputs deals done Write = Unit {0}
NamesLost outputs deals done Memory = Unit {0}
NamesLost outputs deals done (Lost number) = IsLeastLost outputs deals done number
