-- A small image and the machine that it opens to: an anchor, an empty leaf, and two pages that are not in use.
use Rattle.std.proofs.Common.{ℕ, zero, suc, List, [], ◌∷◌, Option, Some, None, refl, arith}
use Rattle.bl_page.specs.declared.page.Leaf.{Leaf as LeafPage}
use Rattle.bl_page.specs.declared.page.Page.{Page}
use Rattle.bl_page.specs.declared.page.Page.TheVariants.{Anchor, Leaf}
use Rattle.bl_page.specs.Machine.{Owner, State}
use Rattle.bl_page.specs.Machine.Phase.{Waiting}
use Rattle.bl_check.specs.Rows.{AreRowsOf}
use Rattle.bl_check.specs.Rows.RowsFrom.{Last}
use Rattle.bl_page.specs.Pages.{page_at}
use Rattle.bl_claims.specs.Opening.{IsStored, IsOpened}

abbrev anchor : Page
anchor = Anchor (record { leftmost = record { items = 1 ∷ [] }; some = omega arith; few = omega arith; pages = ((omega arith, omega arith), tt) })

abbrev empty : LeafPage
empty = record { low = 0; high = 0; right = 0; rows = record { items = [] }; bounds = omega arith; link = omega arith; few = omega arith; order = tt; cover = tt }

abbrev leaf : Page
leaf = Leaf empty

abbrev pages : List (Option Page)
pages = Some anchor ∷ Some leaf ∷ None ∷ None ∷ []

abbrev owner : ℕ → Owner
owner zero = Owner.Open
owner (suc zero) = Owner.Open
owner (suc (suc x)) = Owner.Released

-- what the two released pages hold says nothing
abbrev contents : ℕ → Page
contents zero = anchor
contents (suc x) = leaf

abbrev machine : State Page
machine = record { contents = contents; owner = owner; phase = λ p. Waiting; clock = 0 }

stored : (x : ℕ) → IsStored machine x (page_at pages x)
stored zero = (refl, refl)
stored (suc zero) = (refl, refl)
stored (suc (suc zero)) = refl
stored (suc (suc (suc zero))) = refl
stored (suc (suc (suc (suc x)))) = refl

opened : IsOpened pages machine
opened = record { pages_are = stored; waiting = λ p. refl }

no_rows : AreRowsOf pages []
no_rows = Last empty refl refl
