-- How long the way of a writer still is, if no page is put any more: four turns for each page that a search for its key would get from
-- there on. A missed latch makes it one turn longer: the page is got, and if it is the right one, is tried again. From a page that covers
-- no key, as a dead one, the way goes on as soon as it is got, so that it may count two turns less there.
use Rattle.std.specs.Prelude.{◌≡◌, ◌⊎◌, ℕ, ◌+◌, ◌*◌, None, Some}
use Rattle.bl_page.specs.declared.page.Page.{Page}
use Rattle.bl_page.specs.Nodes.{node_of}
use Rattle.bl_proc_steps.specs.declared.approach.Approach.{Approach}
use Rattle.bl_proc_steps.specs.declared.approach.Approach.TheVariants as way
use Rattle.bl_proc_steps.specs.declared.descent.Descent.{Descent}
use Rattle.bl_proc_steps.specs.declared.descent.Descent.TheVariants.{AtAnchor, At}
use Rattle.bl_proc_bounds.specs.Paces.{IsAhead}

-- so many gets are ahead of a search there, and four times as many turns, with so many more, or less one, are left
pub record IsLeft (contents : ℕ → Page) (key : ℕ) (at : Descent) (more less turns : ℕ) : Type 0 where
  pub gets : ℕ
  pub ahead : IsAhead contents key at gets
  pub count : turns + less ≡ 4 * gets + more

-- so many turns less, where the page covers no key
abbrev pub IsSaved : Page → ℕ → Type 0
IsSaved c saved = (saved ≡ 0) ⊎ ((saved ≡ 2) × ((node_of c).shape.end ≡ 0))

abbrev pub WayLeft : (ℕ → Page) → ℕ → Approach → ℕ → Type 0
WayLeft contents key way.Start turns = IsLeft contents key AtAnchor 0 0 turns
WayLeft contents key (way.At x) turns = (saved : ℕ) × IsSaved (contents x) saved × IsLeft contents key (At x) 1 saved turns
WayLeft contents key (way.Latching x) turns = IsLeft contents key (At x) 0 0 turns
WayLeft contents key (way.Latched x) turns = IsLeft contents key (At x) 0 1 turns
WayLeft contents key (way.Leaving x None) turns = IsLeft contents key AtAnchor 1 0 turns
WayLeft contents key (way.Leaving x (Some y)) turns = IsLeft contents key (At y) 1 0 turns
