-- A writer that is there has got a page of its level that covers its key.
use Rattle.std.proofs.Common.{ℕ, None, Some, sym, subst}
use Rattle.bl_page.specs.declared.page.Page.{Page}
use Rattle.bl_proc_steps.specs.declared.acts.Seen.{Seen}
use Rattle.bl_proc_steps.specs.declared.acts.Seen.TheVariants as seen
use Rattle.bl_proc_routes.specs.declared.routes.Step.TheVariants.{Here}
use Rattle.bl_proc_steps.specs.declared.approach.Approach.{Approach}
use Rattle.bl_proc_steps.specs.declared.approach.Approach.TheVariants.{Start, At, Latching, Latched, Leaving}
use Rattle.bl_proc_steps.specs.declared.approach.Approached.TheVariants as came
use Rattle.bl_proc_routes.specs.Routes.{Leads}
use Rattle.bl_proc_steps.specs.Approaches.{Approaches}

pub here_leads : (level key : ℕ) (a : Approach) (what : Seen) (x : ℕ) (c : Page) → Approaches level key a what (came.Here x c) → Leads c key level Here
here_leads level key Start seen.Done x c t = absurd t
here_leads level key (At y) seen.Done x c t = absurd t
here_leads level key (Latching y) seen.Done x c t = absurd t
here_leads level key (Latched y) (seen.Words d) x c t = subst (λ (p : Page). Leads p key level Here) (sym t.1) t.2
here_leads level key (Leaving y None) seen.Done x c t = absurd t
here_leads level key (Leaving y (Some to)) seen.Done x c t = absurd t
here_leads level key old what x c t = absurd t
