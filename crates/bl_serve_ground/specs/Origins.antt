-- What the index of a server begins with.
use Rattle.std.specs.Prelude.{◌≡◌, ◌≤◌, ◌^◌, max, ℕ, List, [], length}
use Rattle.bl_check.specs.Rows.{AreRowsOf}
use Rattle.bl_serve_ground.specs.declared.origin.Origin.{Origin}
use Rattle.bl_serve_ground.specs.declared.origin.Origin.TheVariants.{Empty, Image}

-- it has as many pages as an index may have, as an image has by its type
abbrev pub HasPages : Origin → Type 0
HasPages (Empty pages) = (4 ≤ pages) × (pages ≤ 2 ^ 28)
HasPages (Image quiet) = Unit {0}

-- how many pages the index has
abbrev pub size_of : Origin → ℕ
size_of (Empty pages) = pages
size_of (Image quiet) = length quiet.image.pages.items

-- the rows that the index begins with: none, or those of the image
abbrev pub HasRows : Origin → List (ℕ × ℕ) → Type 0
HasRows (Empty pages) rows = rows ≡ []
HasRows (Image quiet) rows = AreRowsOf quiet.image.pages.items rows

-- how many pages it has from then on, at least and at most, where it may grow to so many
abbrev pub sizes_of : Origin → ℕ → ℕ × ℕ
sizes_of origin most = (size_of origin, max (size_of origin) most)
