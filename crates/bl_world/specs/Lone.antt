-- The lone walk of a key: what a search for it would meet if nothing changed meanwhile.
use Rattle.std.specs.Prelude.{◌≡◌, ℕ, suc, length}
use Rattle.bl_claims.specs.Walks.{HasLoneWalk}
use Rattle.bl_claims.specs.Moments.{snapshot_of}
use Rattle.bl_world.specs.Views.{View}
use Rattle.bl_world.specs.Worlds.{HasWorld}
use Rattle.bl_world.specs.Accounts.{Account}

-- The lone walk of the key, as the account of the world tells it, ends at that leaf. With that of page 0 it has so many gets.
pub record IsLoneWalk (v : View) (key leaf gets : ℕ) : Type 0 where
  pub account : Account v
  pub walk : HasLoneWalk (snapshot_of account.now account.trail) key
  pub ends : leaf ≡ walk.leaf
  pub count : gets ≡ suc (length walk.pages)

-- the same of the world that stands behind the lists
pub record HasWalk (v : View) (key leaf gets : ℕ) : Type 0 where
  pub has : HasWorld v.pages v.owners v.processes v.events
  pub walk : HasLoneWalk (snapshot_of has.world.now has.world.trail) key
  pub ends : leaf ≡ walk.leaf
  pub count : gets ≡ suc (length walk.pages)
