-- The way of a search to the leaf that covers its key.
use Rattle.std.specs.Prelude.{◌≡◌, ℕ, ◌⊎◌}
use Rattle.bl_page.specs.declared.page.Page.{Page}
use Rattle.bl_page.specs.Nodes.{roots_of}
use Rattle.bl_proc_steps.specs.declared.acts.Action.{Action}
use Rattle.bl_proc_steps.specs.declared.acts.Action.TheVariants as act
use Rattle.bl_proc_routes.specs.declared.routes.Step.TheVariants as onward
use Rattle.bl_proc_steps.specs.declared.descent.Descent.{Descent}
use Rattle.bl_proc_steps.specs.declared.descent.Descent.TheVariants.{AtAnchor, At}
use Rattle.bl_proc_steps.specs.declared.descent.Descended.{Descended}
use Rattle.bl_proc_steps.specs.declared.descent.Descended.TheVariants.{On, Here}
use Rattle.bl_proc_routes.specs.Routes.{Leads}
use Rattle.bl_page.specs.Tops.{top_of}

-- the page that it is to get
abbrev pub descent_page : Descent → ℕ
descent_page AtAnchor = 0
descent_page (At x) = x

abbrev pub descent_next : Descent → Action
descent_next d = act.Get (descent_page d)

-- It goes by what each page says of its key, until a leaf covers it.
abbrev pub Descends : ℕ → Descent → Page → Descended → Type 0
Descends key AtAnchor c (On d) = d ≡ At (top_of (roots_of c))
Descends key (At x) c (On AtAnchor) = Leads c key 0 onward.Again
Descends key (At x) c (On (At y)) = (Leads c key 0 (onward.Right y)) ⊎ (Leads c key 0 (onward.Down y))
Descends key (At x) c Here = Leads c key 0 onward.Here
Descends key d c new = ⊥
