-- Where a descent ends.
use Rattle.std.proofs.Common.{ℕ}
use Rattle.bl_page.specs.declared.page.Page.{Page}
use Rattle.bl_proc_routes.specs.declared.routes.Step.TheVariants as onward
use Rattle.bl_proc_steps.specs.declared.descent.Descent.{Descent}
use Rattle.bl_proc_steps.specs.declared.descent.Descent.TheVariants.{AtAnchor, At}
use Rattle.bl_proc_steps.specs.declared.descent.Descended.TheVariants.{Here}
use Rattle.bl_proc_routes.specs.Routes.{Leads}
use Rattle.bl_proc_steps.specs.Descents.{Descends}

-- its leaf covers the key
pub here_leads : (key : ℕ) (d : Descent) (c : Page) → Descends key d c Here → Leads c key 0 onward.Here
here_leads key AtAnchor c t = absurd t
here_leads key (At x) c t = t
