-- How many hints can wait.
use Rattle.std.specs.Prelude.{◌≡◌, ℕ}
use Rattle.crossbeam_queue.specs.Passes.{ruled_capacity}
use Rattle.bl_hints.specs.declared.hints.Hints.{Hints}

-- each of the two queues has n places
abbrev pub HasPlaces : ℕ → Hints → Type 0
HasPlaces n h = (ruled_capacity h.posts ≡ n) × (ruled_capacity h.thins ≡ n)
