-- A new top level.
use Rattle.std.specs.Prelude.{◌≡◌, ◌≢◌, ℕ, ◌<◌, ◌-◌, Option, None, Some, List, [], ◌∷◌, ◌++◌, length, get_or}
use Rattle.bl_page.specs.declared.page.Page.{Page}
use Rattle.bl_page.specs.declared.page.Page.TheVariants.{Anchor, Inner}
use Rattle.bl_page.specs.Nodes.{roots_of}
use Rattle.bl_page.specs.Tops.{IsAnchor}
use Rattle.bl_proc_steps.specs.declared.acts.Action.{Action}
use Rattle.bl_proc_steps.specs.declared.acts.Action.TheVariants as act
use Rattle.bl_proc_steps.specs.declared.acts.Seen.{Seen}
use Rattle.bl_proc_steps.specs.declared.acts.Seen.TheVariants as seen
use Rattle.bl_proc_steps.specs.declared.growth.Growth.{Growth}
use Rattle.bl_proc_steps.specs.declared.growth.Growth.TheVariants.{Latching, Latched, Taking, PuttingTop, PuttingAnchor, OpeningTop, OpeningGrown, OpeningRefused}
use Rattle.bl_proc_steps.specs.declared.growth.Grew.{Grew}
use Rattle.bl_proc_steps.specs.declared.growth.Grew.TheVariants.{On, Grown, Refused}

abbrev pub growth_next : Growth → Action
growth_next Latching = act.Latch 0
growth_next Latched = act.Get 0
growth_next (Taking rise) = act.Take
growth_next (PuttingTop r) = act.Put r.new r.top
growth_next (PuttingAnchor r) = act.Put 0 r.anchor
growth_next (OpeningTop x) = act.Open x
growth_next OpeningGrown = act.Open 0
growth_next OpeningRefused = act.Open 0

-- pages and frames
abbrev pub growth_needs : Growth → Option (ℕ × ℕ)
growth_needs Latching = None
growth_needs Latched = None
growth_needs (Taking rise) = Some (1, 2)
growth_needs (PuttingTop r) = None
growth_needs (PuttingAnchor r) = None
growth_needs (OpeningTop x) = None
growth_needs OpeningGrown = None
growth_needs OpeningRefused = None

-- The first page of a level above others: it has no bounds and no link, and lists that one page by the key 0.
abbrev pub IsTop : ℕ → ℕ → Page → Type 0
IsTop level below (Inner i) = (i.level ≡ level) × (i.low ≡ 0) × (i.high ≡ 0) × (i.right ≡ 0) × (i.children.items ≡ (0, below) ∷ [])
IsTop level below page = ⊥

-- Page new is to be the top of a tree with one level more than these leftmost pages have.
abbrev pub Raises : List ℕ → ℕ → Page → Page → Type 0
Raises leftmost new top anchor = IsTop (length leftmost) (get_or leftmost (length leftmost - 1) 0) top × IsAnchor (leftmost ++ new ∷ []) anchor

-- The growth of a tree that has that many levels.
abbrev pub Grows : ℕ → Growth → Seen → Grew → Type 0
Grows level Latching seen.Done (On new) = new ≡ Latched
Grows level Latching seen.Missed (On new) = new ≡ Latching
Grows level Latched (seen.Words c) (On (Taking rise)) = (c ≡ Anchor rise.anchor) × ((roots_of c).levels ≡ level)
Grows level Latched (seen.Words c) (On OpeningGrown) = level < 12 → (roots_of c).levels ≢ level
Grows level (Taking rise) (seen.Took y) (On (PuttingTop r)) = (r.new ≡ y) × Raises rise.anchor.leftmost.items y r.top r.anchor
Grows level (Taking rise) seen.Refused (On new) = new ≡ OpeningRefused
Grows level (PuttingTop r) seen.Done (On new) = new ≡ PuttingAnchor r
Grows level (PuttingAnchor r) seen.Done (On new) = new ≡ OpeningTop r.new
Grows level (OpeningTop x) seen.Done (On new) = new ≡ OpeningGrown
Grows level OpeningGrown seen.Done Grown = Unit {0}
Grows level OpeningRefused seen.Done Refused = Unit {0}
Grows level old what new = ⊥
