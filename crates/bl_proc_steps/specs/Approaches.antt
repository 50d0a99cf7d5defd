-- The way of a writer to the page of its level that covers its key.
use Rattle.std.specs.Prelude.{◌≡◌, ◌≢◌, ℕ, suc, ◌<◌, ◌≤◌, Option, None, Some}
use Rattle.bl_page.specs.declared.page.Page.{Page}
use Rattle.bl_page.specs.declared.page.Page.TheVariants.{Inner}
use Rattle.bl_page.specs.Nodes.{Roots, node_of, roots_of}
use Rattle.bl_proc_steps.specs.declared.acts.Action.{Action}
use Rattle.bl_proc_steps.specs.declared.acts.Action.TheVariants as act
use Rattle.bl_proc_steps.specs.declared.acts.Seen.{Seen}
use Rattle.bl_proc_steps.specs.declared.acts.Seen.TheVariants as seen
use Rattle.bl_proc_routes.specs.declared.routes.Step.{Step}
use Rattle.bl_proc_routes.specs.declared.routes.Step.TheVariants.{Again, Right, Down, Here}
use Rattle.bl_proc_steps.specs.declared.approach.Approach.{Approach}
use Rattle.bl_proc_steps.specs.declared.approach.Approach.TheVariants.{Start, At, Latching, Latched, Leaving}
use Rattle.bl_proc_steps.specs.declared.approach.Approached.{Approached}
use Rattle.bl_proc_steps.specs.declared.approach.Approached.TheVariants as came
use Rattle.bl_proc_steps.specs.declared.approach.Came.{Came}
use Rattle.bl_proc_steps.specs.declared.approach.Came.TheVariants.{NoLevel, On, ToParent}
use Rattle.bl_proc_routes.specs.Routes.{Leads}
use Rattle.bl_page.specs.Tops.{top_of}

abbrev pub approach_next : Approach → Action
approach_next Start = act.Get 0
approach_next (At x) = act.Get x
approach_next (Latching x) = act.Latch x
approach_next (Latched x) = act.Get x
approach_next (Leaving x to) = act.Open x

-- it is to get a page, and holds none
abbrev pub IsToLook : Approach → Type 0
IsToLook Start = Unit {0}
IsToLook (At x) = Unit {0}
IsToLook (Latching x) = ⊥
IsToLook (Latched x) = ⊥
IsToLook (Leaving x to) = ⊥

-- From the anchor: to the leftmost page of the top level, which is latched where it is the writer's own level. Where the
-- tree has no such level, the anchor again.
abbrev pub Enters : ℕ → Roots → Approach → Type 0
Enters level roots Start = roots.levels ≤ level
Enters level roots (At x) = (suc level < roots.levels) × (x ≡ top_of roots)
Enters level roots (Latching x) = (suc level ≡ roots.levels) × (x ≡ roots.leftmost level)
Enters level roots (Latched x) = ⊥
Enters level roots (Leaving x to) = ⊥

-- From a page x that was got without a latch: on by where it leads. A page of the writer's level is latched before it is
-- got, and so is x itself where it covers the key.
abbrev pub Turns : ℕ → ℕ → Page → Step → Approach → Type 0
Turns level x c Again Start = Unit {0}
Turns level x c (Right y) (At z) = (z ≡ y) × ((node_of c).shape.level ≢ level)
Turns level x c (Right y) (Latching z) = (z ≡ y) × ((node_of c).shape.level ≡ level)
Turns level x c (Down y) (At z) = (z ≡ y) × ((node_of c).shape.level ≢ suc level)
Turns level x c (Down y) (Latching z) = (z ≡ y) × ((node_of c).shape.level ≡ suc level)
Turns level x c Here (Latching z) = z ≡ x
Turns level x c o a = ⊥

-- From a page that is held: it is opened, then the page to its right is latched, or the way begins again.
abbrev pub Quits : Step → Option ℕ → Type 0
Quits (Right y) to = to ≡ Some y
Quits (Down y) to = to ≡ None
Quits Again to = to ≡ None
Quits Here to = ⊥

-- A writer of that level, on its way to that key.
abbrev pub Approaches : ℕ → ℕ → Approach → Seen → Approached → Type 0
Approaches level key Start (seen.Words c) (came.On a) = Enters level (roots_of c) a
Approaches level key (At x) (seen.Words c) (came.On a) = (o : Step) × Leads c key level o × Turns level x c o a
Approaches level key (Latching x) seen.Done (came.On a) = a ≡ Latched x
Approaches level key (Latching x) seen.Missed (came.On a) = a ≡ At x
Approaches level key (Latched x) (seen.Words c) (came.On (Leaving y to)) = (y ≡ x) × ((o : Step) × Leads c key level o × Quits o to)
Approaches level key (Latched x) (seen.Words c) (came.Here y page) = (y ≡ x) × (page ≡ c) × Leads c key level Here
Approaches level key (Leaving x (Some y)) seen.Done (came.On a) = a ≡ Latching y
Approaches level key (Leaving x None) seen.Done (came.On a) = a ≡ Start
Approaches level key old what new = ⊥

-- the anchor, where it was got, is of a tree that has the level
abbrev pub HasLevel : ℕ → Approach → Seen → Type 0
HasLevel level Start (seen.Words c) = level < (roots_of c).levels
HasLevel level a what = Unit {0}

-- the anchor was got, and is of a tree with that many levels
abbrev pub CountsLevels : Approach → Seen → ℕ → Type 0
CountsLevels Start (seen.Words c) n = n ≡ (roots_of c).levels
CountsLevels a what n = ⊥

-- On the way to the parent of that level that covers the key: an approach, as long as the tree has the level.
abbrev pub Comes : ℕ → ℕ → Approach → Seen → Came → Type 0
Comes level key a what (NoLevel n) = (n ≤ level) × CountsLevels a what n
Comes level key a what (On b) = HasLevel level a what × Approaches level key a what (came.On b)
Comes level key a what (ToParent x parent) = Approaches level key a what (came.Here x (Inner parent))
