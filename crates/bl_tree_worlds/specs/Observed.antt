-- What a table of processes must tell of compressions: whoever is in the middle of one has the trail say so.
use Rattle.std.specs.Prelude.{◌≡◌, ◌⊎◌, ℕ}
use Rattle.bl_tree.specs.Trees.Status.{Right}
use Rattle.bl_claims.specs.Moments.{InMiddle, InEvening}
use Rattle.bl_tree_worlds.specs.Worlds.{World, nodes}

pub record TellsMiddles {P : Type 0} (w : World P) : Type 0 where
  pub middle : (x y : ℕ) → w.status y ≡ Right x → InMiddle w.now w.trail x y
  pub evening : (x y : ℕ) → w.status y ≡ Right x → ((nodes w.now y).shape.low ≡ w.sep y) ⊎ InEvening w.now w.trail y
