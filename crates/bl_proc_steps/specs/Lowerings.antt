-- The top level is taken away.
use Rattle.std.specs.Prelude.{◌≡◌, ◌≢◌, ℕ, ◌≤◌, ◌-◌, Option, None, Some, List, length, take}
use Rattle.bl_page.specs.declared.page.Page.TheVariants.{Anchor}
use Rattle.bl_page.specs.Nodes.{roots_of}
use Rattle.bl_proc_steps.specs.declared.acts.Action.{Action}
use Rattle.bl_proc_steps.specs.declared.acts.Action.TheVariants as act
use Rattle.bl_proc_steps.specs.declared.acts.Seen.{Seen}
use Rattle.bl_proc_steps.specs.declared.acts.Seen.TheVariants as seen
use Rattle.bl_answers.specs.declared.answers.Lowered.TheVariants as lowered
use Rattle.bl_proc_steps.specs.declared.lowering.Sinking.{Sinking}
use Rattle.bl_proc_steps.specs.declared.lowering.Lowering.{Lowering}
use Rattle.bl_proc_steps.specs.declared.lowering.Lowering.TheVariants.{Looking, LatchingAnchor, LatchedAnchor, LatchingTop, LatchedTop, PuttingAnchor, PuttingDead, Retiring, OpeningTop, OpeningAnchor}
use Rattle.bl_proc_steps.specs.declared.lowering.Sank.{Sank}
use Rattle.bl_proc_steps.specs.declared.lowering.Sank.TheVariants.{On, Over}
use Rattle.bl_page.specs.Tops.{top_of, IsAnchor, IsSole, IsFallen}

abbrev pub lowering_next : Lowering → Action
lowering_next Looking = act.Get 0
lowering_next LatchingAnchor = act.Latch 0
lowering_next LatchedAnchor = act.Get 0
lowering_next (LatchingTop t) = act.Latch t.top
lowering_next (LatchedTop t) = act.Get t.top
lowering_next (PuttingAnchor s) = act.Put 0 s.anchor
lowering_next (PuttingDead s) = act.Put s.top s.dead
lowering_next (Retiring x) = act.Retire x
lowering_next (OpeningTop x what) = act.Open x
lowering_next (OpeningAnchor what) = act.Open 0

-- pages and frames
abbrev pub lowering_needs : Lowering → Option (ℕ × ℕ)
lowering_needs Looking = None
lowering_needs LatchingAnchor = None
lowering_needs LatchedAnchor = None
lowering_needs (LatchingTop t) = None
lowering_needs (LatchedTop t) = None
lowering_needs (PuttingAnchor s) = Some (0, 2)
lowering_needs (PuttingDead s) = None
lowering_needs (Retiring x) = None
lowering_needs (OpeningTop x what) = None
lowering_needs (OpeningAnchor what) = None

-- the anchor with these leftmost pages loses its top level
abbrev pub Sinks : List ℕ → Sinking → Type 0
Sinks leftmost s = IsAnchor (take (length leftmost - 1) leftmost) s.anchor × IsFallen (length leftmost - 1) s.dead

-- A tree of one level needs it. Else the anchor and the top page are latched and got, and where the page is not needed the
-- anchor is put, then the dead page, which is then retired.
abbrev pub Lowers : Lowering → Seen → Sank → Type 0
Lowers Looking (seen.Words c) (Over what) = (what ≡ lowered.Needed) × ((roots_of c).levels ≡ 1)
Lowers Looking (seen.Words c) (On new) = (new ≡ LatchingAnchor) × ((roots_of c).levels ≢ 1)
Lowers LatchingAnchor seen.Done (On new) = new ≡ LatchedAnchor
Lowers LatchingAnchor seen.Missed (On new) = new ≡ LatchingAnchor
Lowers LatchedAnchor (seen.Words c) (On (LatchingTop t)) = (c ≡ Anchor t.anchor) × (t.top ≡ top_of (roots_of c))
Lowers LatchedAnchor (seen.Words c) (On (OpeningAnchor what)) = (what ≡ lowered.Needed) × ((roots_of c).levels ≤ 1)
Lowers (LatchingTop t) seen.Done (On new) = new ≡ LatchedTop t
Lowers (LatchingTop t) seen.Missed (On new) = new ≡ LatchingTop t
Lowers (LatchedTop t) (seen.Words c) (On (PuttingAnchor s)) = (s.top ≡ t.top) × IsSole c × Sinks t.anchor.leftmost.items s
Lowers (LatchedTop t) (seen.Words c) (On (OpeningTop x what)) = (x ≡ t.top) × (what ≡ lowered.Needed) × (¬ IsSole c)
Lowers (PuttingAnchor s) seen.Done (On new) = new ≡ PuttingDead s
Lowers (PuttingAnchor s) seen.Refused (On new) = new ≡ OpeningTop s.top lowered.NoRoom
Lowers (PuttingDead s) seen.Done (On new) = new ≡ Retiring s.top
Lowers (Retiring x) seen.Done (On new) = new ≡ OpeningAnchor lowered.Lowered
Lowers (OpeningTop x what) seen.Done (On new) = new ≡ OpeningAnchor what
Lowers (OpeningAnchor what) seen.Done (Over last) = last ≡ what
Lowers old what new = ⊥
