-- What one handle tells of its map and its seat, told of the same handle as it was before.
use Rattle.std.proofs.Common.{ℕ, List, Option, subst}
use Rattle.bl_page.specs.declared.page.Page.{Page}
use Rattle.bl_index.specs.Calls.{first_of}
use Rattle.bl_map.specs.declared.handle.Handle.{Handle}
use Rattle.bl_map.specs.Handles.{IsSameHandle, HasKeptUp, first_map_of, number_of_seat, seen_by}
use Rattle.bl_map_calls.specs.Works.{Adds}
use Rattle.bl_map_calls.proofs.Adding.{nothing, then_adds}

pub by_same : (P : List (Option Page) → ℕ → Type 0) (a b : Handle) → IsSameHandle a b → P (first_map_of b) (number_of_seat b) → P (first_map_of a) (number_of_seat a)
by_same P a b same h = subst (λ (z : List (Option Page) × ℕ). P z.0 z.1) (λ i. (first_of (same.0 i).now, same.1.2 i)) h

pub kept_none : (a : Handle) → HasKeptUp a a
kept_none a = nothing (first_map_of a) (number_of_seat a) (seen_by a)

pub kept_as : (a b c : Handle) → IsSameHandle a b → HasKeptUp b c → Adds (first_map_of a) (number_of_seat a) (seen_by b) (seen_by c)
kept_as a b c same kept = by_same (λ first number. Adds first number (seen_by b) (seen_by c)) a b same kept

pub kept_more : (a b c : Handle) → IsSameHandle a b → HasKeptUp a b → HasKeptUp b c → HasKeptUp a c
kept_more a b c same kept more = then_adds (first_map_of a) (number_of_seat a) (seen_by a) (seen_by b) (seen_by c) kept (kept_as a b c same more)
