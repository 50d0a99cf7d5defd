-- A descent goes on, and in one way.
use Rattle.std.proofs.Common.{ℕ, ◌≡◌, ap, sym, ◌∙◌, refl, inl, inr}
use Rattle.bl_page.specs.declared.page.Page.{Page}
use Rattle.bl_page.specs.Nodes.{roots_of}
use Rattle.bl_proc_routes.specs.declared.routes.Step.{Step}
use Rattle.bl_proc_routes.specs.declared.routes.Step.TheVariants as onward
use Rattle.bl_proc_steps.specs.declared.descent.Descent.{Descent}
use Rattle.bl_proc_steps.specs.declared.descent.Descent.TheVariants.{AtAnchor, At}
use Rattle.bl_proc_steps.specs.declared.descent.Descended.{Descended}
use Rattle.bl_proc_steps.specs.declared.descent.Descended.TheVariants.{On, Here}
use Rattle.bl_proc_routes.specs.Routes.{Leads}
use Rattle.bl_page.specs.Tops.{top_of}
use Rattle.bl_proc_steps.specs.Descents.{Descends}
use Rattle.bl_proc_deterministic.proofs.Onwards.{leads_some, leads_one}

-- by where the page leads
abbrev led : Step → Descended
led onward.Again = On AtAnchor
led (onward.Right y) = On (At y)
led (onward.Down y) = On (At y)
led onward.Here = Here

module _ (key x : ℕ) (c : Page) where
  by_step : (o : Step) → Leads c key 0 o → Descends key (At x) c (led o)
  by_step onward.Again t = t
  by_step (onward.Right y) t = inl t
  by_step (onward.Down y) t = inr t
  by_step onward.Here t = t

  step_of : (a : Descended) → Descends key (At x) c a → (o : Step) × Leads c key 0 o × (a ≡ led o)
  step_of (On AtAnchor) t = (onward.Again, t, refl)
  step_of (On (At y)) t = elim t [ inl r ↦ (onward.Right y, r, refl) | inr d ↦ (onward.Down y, d, refl) ]
  step_of Here t = (onward.Here, t, refl)

pub descent_some : (key : ℕ) (d : Descent) (c : Page) → (a : Descended) × Descends key d c a
descent_some key AtAnchor c = (On (At (top_of (roots_of c))), refl)
descent_some key (At x) c = (let o = leads_some c key 0 in (led o.0, by_step key x c o.0 o.1))

descent_one : (key : ℕ) (d : Descent) (c : Page) (a b : Descended) → Descends key d c a → Descends key d c b → b ≡ a
descent_one key AtAnchor c (On d) (On e) s t = ap On (t ∙ sym s)
descent_one key AtAnchor c Here b s t = absurd s
descent_one key AtAnchor c a Here s t = absurd t
descent_one key (At x) c a b s t =
    let o = step_of key x c a s in
    let u = step_of key x c b t in
    u.2 ∙ (ap led (leads_one c key 0 u.0 o.0 u.1 o.1) ∙ sym o.2)

pub on_one : (key : ℕ) (d : Descent) (c : Page) (e f : Descent) → Descends key d c (On e) → Descends key d c (On f) → f ≡ e
on_one key d c e f s t = (let same : On f ≡ On e = descent_one key d c (On e) (On f) s t in cc)

pub on_here : (key : ℕ) (d : Descent) (c : Page) (e : Descent) → Descends key d c (On e) → Descends key d c Here → ⊥
on_here key d c e s t = (let same : Here ≡ On e = descent_one key d c (On e) Here s t in cc)
