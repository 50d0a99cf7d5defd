-- Passes of an index that have met.
use Rattle.std.specs.Prelude.{◌≡◌, ℕ, suc, List, [], ◌∷◌, length}
use Rattle.bl_claims.specs.Trails.{Trail}
use Rattle.bl_claims.specs.Seeing.{IsLinearizable}
use Rattle.bl_index.specs.declared.index.Index.{Index}
use Rattle.bl_index.specs.declared.index.Pass.{Pass}
use Rattle.bl_index.specs.Calls.{first_of, IsPassOf, number_of, trail, passes_of}

-- passes of the index that are numbered from that number on, each of which has seen that trail
abbrev pub AreFrom : Index → Trail → ℕ → List Pass → Type 0
AreFrom index seen from [] = Unit {0}
AreFrom index seen from (pass ∷ passes) = IsPassOf index pass × (number_of pass ≡ from) × (trail pass ≡ seen) × AreFrom index seen (suc from) passes

-- These are all passes of the index, by their numbers. All have seen one trail, which is linearizable.
pub record AreTogether (index : Index) (seen : Trail) (passes : List Pass) : Type 0 where
  pub count : length passes ≡ passes_of index
  pub each : AreFrom index seen 0 passes
  pub may_be : IsLinearizable (first_of index) seen

-- what the first pass has seen
abbrev pub seen_by : List Pass → Trail
seen_by [] = []
seen_by (pass ∷ passes) = trail pass
