-- An index that was to go on with more pages, or with fewer.
use Rattle.std.specs.Prelude.{◌≡◌, ℕ, zero, suc, ◌*◌, min, List, Option, length}
use Rattle.bl_model.specs.Map.{SameMap}
use Rattle.bl_page.specs.declared.page.Page.{Page}
use Rattle.bl_check.specs.Rows.{AreRowsOf}
use Rattle.bl_claims.specs.Seeing.{first_map}
use Rattle.bl_index.specs.declared.index.Index.{Index}
use Rattle.bl_index.specs.declared.index.Pass.{Pass}
use Rattle.bl_index.specs.Calls.{first_of, map_after, pages_of, passes_of}
use Rattle.bl_index.specs.Closed.{Closes}
use Rattle.bl_index.specs.Opened.{IsReopened}
use Rattle.bl_index.specs.Resized.{Resizes}
use Rattle.bl_load.specs.Loads.{HoldsRows}
use Rattle.bl_serve_ground.specs.declared.ground.Limits.{Limits}

-- so many pages, doubled so many times, as far as there may be so many
abbrev pub doubled : ℕ → ℕ → ℕ → ℕ
doubled pages most zero = pages
doubled pages most (suc times) = min most (2 * doubled pages most times)

-- It was doubled some times.
pub record IsDoubled (pages most size : ℕ) : Type 0 where
  pub times : ℕ
  pub is : size ≡ doubled pages most times

-- The rows of the image are laid out anew in so many pages, twelve a leaf.
pub record LaysOut (image : List (Option Page)) (pages : ℕ) (laid : List (Option Page)) : Type 0 where
  pub rows : List (ℕ × ℕ)
  pub are_rows : AreRowsOf image rows
  pub held : HoldsRows 12 rows laid
  pub count : length laid ≡ pages

-- The old index is closed, and the new one is opened with as many passes from the rows of its image, which were laid out anew in so many pages. So it
-- begins with the map after all that has happened in the old one.
pub record Shrinks (old : Index) (olds : List Pass) (pages : ℕ) (new : Index) (news : List Pass) : Type 0 where
  pub image : List (Option Page)
  pub closes : Closes old olds image
  pub laid : List (Option Page)
  pub lays : LaysOut image pages laid
  pub reopens : IsReopened laid (passes_of old) new news
  pub map : SameMap (map_after (first_of old) closes.whole) (first_map (first_of new))

-- It is as it was, with its passes; or it was closed, and goes on from its image with as many pages as it had, or with so many, which are more, or
-- into which its rows were laid out anew.
pub data GoesOnWith (old : Index) (olds : List Pass) (size : ℕ) (new : Index) (news : List Pass) : Type 0 where
  Stays : new ≡ old → news ≡ olds → GoesOnWith old olds size new news
  Returns : Resizes old olds (pages_of old) new news → GoesOnWith old olds size new news
  Opens : Resizes old olds size new news → GoesOnWith old olds size new news
  Lays : Shrinks old olds size new news → GoesOnWith old olds size new news

-- The same with the least pages that it may have, doubled some times.
pub record GoesOnWithin (limits : Limits) (old : Index) (olds : List Pass) (new : Index) (news : List Pass) : Type 0 where
  pub size : ℕ
  pub fits : IsDoubled limits.least limits.most size
  pub goes : GoesOnWith old olds size new news
