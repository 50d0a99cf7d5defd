-- What a lowering has done, state by state.
use Rattle.std.specs.Prelude.{◌≡◌, List, [], ◌∷◌}
use Rattle.bl_model.specs.declared.operation.Reply.{Reply}
use Rattle.bl_page.specs.declared.page.Page.{Page}
use Rattle.bl_page.specs.declared.page.Page.TheVariants.{Anchor}
use Rattle.bl_page.specs.declared.page.Anchor.{Anchor as AnchorPage}
use Rattle.bl_page.specs.Machine.{Act}
use Rattle.bl_page.specs.Machine.Act.{Get, Put, Latch}
use Rattle.bl_page.specs.Nodes.{roots_of}
use Rattle.bl_claims.specs.Trails.{Trail}
use Rattle.bl_claims.specs.Meanings.{HasGot, Unwritten}
use Rattle.bl_proc_steps.specs.declared.lowering.Summit.{Summit}
use Rattle.bl_proc_steps.specs.declared.lowering.Sinking.{Sinking}
use Rattle.bl_proc_steps.specs.declared.lowering.Lowering.{Lowering}
use Rattle.bl_proc_steps.specs.declared.lowering.Lowering.TheVariants.{Looking, LatchingAnchor, LatchedAnchor, LatchingTop, LatchedTop, PuttingAnchor, PuttingDead, Retiring, OpeningTop, OpeningAnchor}
use Rattle.bl_page.specs.Tops.{top_of}
use Rattle.bl_proc_steps.specs.Lowerings.{Sinks}
use Rattle.bl_claims.specs.Squeezed.{Since}
use Rattle.bl_claims.specs.Lowered.{to_top, IsToLower, MeansLowered}

-- the anchor was latched and got, and the top page is the leftmost one of its last level
pub record AtSummit (marks : Trail) (t : Summit) (acts : List (Act Page Reply)) : Type 0 where
  pub since : Since marks 0 acts
  pub got : HasGot since.during 0 (Anchor t.anchor)
  pub top : t.top ≡ top_of (roots_of (Anchor t.anchor))

-- the top page that was got is not needed, and this is what is put then
pub record IsToLowerBy (marks : Trail) (s : Sinking) (acts : List (Act Page Reply)) : Type 0 where
  pub anchor : AnchorPage
  pub is : IsToLower marks s.top anchor acts
  pub sinks : Sinks anchor.leftmost.items s

abbrev pub lowering_log : Lowering → Trail → Type 0
lowering_log Looking marks = Unwritten marks
lowering_log LatchingAnchor marks = Unwritten marks
lowering_log LatchedAnchor marks = Since marks 0 []
lowering_log (LatchingTop t) marks = AtSummit marks t (Get 0 ∷ [])
lowering_log (LatchedTop t) marks = AtSummit marks t (Get 0 ∷ Latch t.top ∷ [])
lowering_log (PuttingAnchor s) marks = IsToLowerBy marks s (to_top s.top)
lowering_log (PuttingDead s) marks = IsToLowerBy marks s (Get 0 ∷ Latch s.top ∷ Get s.top ∷ Put 0 s.anchor ∷ [])
lowering_log (Retiring x) marks = (s : Sinking) × (x ≡ s.top) × IsToLowerBy marks s (Get 0 ∷ Latch s.top ∷ Get s.top ∷ Put 0 s.anchor ∷ Put s.top s.dead ∷ [])
lowering_log (OpeningTop x what) marks = MeansLowered what marks
lowering_log (OpeningAnchor what) marks = MeansLowered what marks
