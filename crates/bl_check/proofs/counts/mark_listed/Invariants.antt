use Rattle.std.proofs.Common.{◌≡◌, ℕ, ◌<◌, ◌||◌, length, take, false}
use Rattle.std.specs.Prelude.{slice_index_or}
use Rattle.std.specs.List.{list_any}
use Rattle.bl_check.specs.Reports.{lists}
use Rattle.bl_check.proofs.counts.mark_listed.Given as goal

abbrev pub invariant-loop-page : goal.invariant-loop-page
invariant-loop-page l = (x : ℕ) → x < length l.marks → slice_index_or l.marks x false ≡ (slice_index_or l.fn.marks x false || list_any (lists x) (take l.page-index l.pages))
