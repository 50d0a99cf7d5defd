-- What the pages of a sound image are to the tree: an index may begin with them, and a world leaves them.
use Rattle.std.specs.Prelude.{◌≡◌, ◌≢◌, ℕ, List, [], Bool, Option, Some, None, is_some}
use Rattle.bl_model.specs.Map.{SameMap}
use Rattle.bl_model.specs.Rows.{map_of, HasRisingKeys}
use Rattle.bl_page.specs.declared.page.Page.{Page}
use Rattle.bl_page.specs.Machine.{Name, Owner, State}
use Rattle.bl_page.specs.Nodes.{node_of, roots_of}
use Rattle.bl_tree.specs.Starts.{AreSound, start_map}
use Rattle.bl_claims.specs.Moments.{snapshot_of, HasLaws}
use Rattle.bl_claims.specs.Opening.{node_in, roots_in}
use Rattle.bl_check.specs.Rows.{AreRowsOf}
use Rattle.bl_page.specs.Pages.{page_at}
use Rattle.bl_check.specs.Spans.{span_at}

abbrev pub live_in : List (Option Page) → ℕ → Bool
live_in pages x = is_some (span_at pages x)

-- The live pages are sound pages of the tree, so that work may begin there.
abbrev pub MayBegin : List (Option Page) → Type 0
MayBegin pages = AreSound (live_in pages) (λ x. node_in (page_at pages x)) (roots_in (page_at pages 0))

-- The pages have rows, whose keys rise, and no other rows.
pub record HasOneListOfRows (pages : List (Option Page)) : Type 0 where
  pub rows : List (ℕ × ℕ)
  pub are_rows : AreRowsOf pages rows
  pub rising : HasRisingKeys rows
  pub only : (other : List (ℕ × ℕ)) → AreRowsOf pages other → other ≡ rows

-- What its leaves say is the map of the image's rows, and the laws of the tree hold with that map.
pub record BeginsWithRows (s : State Page) (rows : List (ℕ × ℕ)) : Type 0 where
  pub map : SameMap (map_of rows) (start_map (λ x. node_of (s.contents x)) (roots_of (s.contents 0)) 0)
  pub laws : HasLaws (snapshot_of s []) (map_of rows)

-- what an image keeps of page x as the machine has it: what it holds where it is open, else nothing
abbrev pub IsLeft : State Page → ℕ → Option Page → Type 0
IsLeft s x None = s.owner x ≢ Owner.Open
IsLeft s x (Some page) = (s.owner x ≡ Owner.Open) × (s.contents x ≡ page)

-- The pages of an image are what is left of the machine's, of which nobody holds one.
pub record AreLeft (pages : List (Option Page)) (s : State Page) : Type 0 where
  pub pages_are : (x : ℕ) → IsLeft s x (page_at pages x)
  pub none_held : (x : ℕ) (p : Name) → s.owner x ≢ Owner.Held p
