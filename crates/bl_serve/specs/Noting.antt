-- What a server notes of the rows that its passes change.
use Rattle.std.specs.Prelude.{◌≡◌, ℕ, ◌+◌, ◌++◌, List, flat_map}
use Rattle.bl_model.specs.Map.{Map}
use Rattle.bl_journal.specs.Rows.{times, Leads}
use Rattle.bl_changes.specs.declared.changes.Changes.{Changes}
use Rattle.bl_changes.specs.Changes.{all_came, all_went}
use Rattle.bl_claims.specs.Seeing.{own}
use Rattle.bl_index.specs.declared.index.Pass.{Pass}
use Rattle.bl_index.specs.Calls.{number_of, trail}

-- the rows that came by the own entries of passes
abbrev pub came_by : List Pass → List (ℕ × ℕ)
came_by passes = flat_map (λ pass. all_came (own (number_of pass) (trail pass))) passes

-- the rows that went
abbrev pub went_by : List Pass → List (ℕ × ℕ)
went_by passes = flat_map (λ pass. all_went (own (number_of pass) (trail pass))) passes

-- These rows came and went by the passes' own entries since they were those, in any order.
pub record HaveNoted (olds news : List Pass) (came went : List (ℕ × ℕ)) : Type 0 where
  pub came_are : (key value : ℕ) → times key value (came_by news) ≡ times key value (came_by olds) + times key value came
  pub went_are : (key value : ℕ) → times key value (went_by news) ≡ times key value (went_by olds) + times key value went

-- What came and went by them is noted behind what was noted before.
pub record NoteMore (olds : List Pass) (noted : Changes) (news : List Pass) (more : Changes) : Type 0 where
  pub came : List (ℕ × ℕ)
  pub went : List (ℕ × ℕ)
  pub came_is : more.came.items ≡ noted.came.items ++ came
  pub went_is : more.went.items ≡ noted.went.items ++ went
  pub have : HaveNoted olds news came went

-- If what was noted led from some map to that one, then what is noted now leads from there to this one.
abbrev pub StillLead : Changes → Map → Changes → Map → Type 0
StillLead noted old more new = (first : Map) → Leads noted.came.items noted.went.items first old → Leads more.came.items more.went.items first new
