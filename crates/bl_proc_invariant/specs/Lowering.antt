-- What a lowering knows in each of its states. got is what the process got of the pages under its latches.
use Rattle.std.specs.Prelude.{◌≡◌, ◌≢◌, ℕ, ◌-◌, ◌<◌, ◌==◌, if◌then◌else◌, Some, None, List, [], ◌∷◌, length, get_or}
use Rattle.bl_page.specs.declared.page.Page.{Page}
use Rattle.bl_page.specs.declared.page.Page.TheVariants.{Anchor}
use Rattle.bl_tree.specs.Trees.Status.{Uprooted, Gone}
use Rattle.bl_page.specs.Nodes.{node_of, roots_of}
use Rattle.bl_tree_worlds.specs.Worlds.{Stage, Know}
use Rattle.bl_proc_steps.specs.declared.acts.Seen.{Seen}
use Rattle.bl_proc_steps.specs.declared.acts.Seen.TheVariants as seen
use Rattle.bl_proc_steps.specs.declared.lowering.Sinking.{Sinking}
use Rattle.bl_proc_steps.specs.declared.lowering.Lowering.{Lowering}
use Rattle.bl_proc_steps.specs.declared.lowering.Lowering.TheVariants.{Looking, LatchingAnchor, LatchedAnchor, LatchingTop, LatchedTop, PuttingAnchor, PuttingDead, Retiring, OpeningTop, OpeningAnchor}
use Rattle.bl_page.specs.Tops.{top_of, IsAnchor, IsSole, IsFallen}
use Rattle.bl_proc_steps.specs.Lowerings.{Sinks}
use Rattle.bl_proc_invariant.specs.Tables.{idle, holds_live, holds_known, anchor_known}

-- the anchor and the top page, as they were got
abbrev pub got_top : Page → Page → ℕ → Page
got_top anchor top x = if x == 0 then anchor else top

-- The anchor that was got names more than one level, and the top page that was got is the only one of its level.
pub record IsToSink (got : ℕ → Page) (s : Sinking) : Type 0 where
  pub leftmost : List ℕ
  pub anchor : IsAnchor leftmost (got 0)
  pub tall : 1 < length leftmost
  pub top : s.top ≡ get_or leftmost (length leftmost - 1) 0
  pub other : 0 ≢ s.top
  pub sole : IsSole (got s.top)
  pub sinks : Sinks leftmost s

abbrev pub know_lowering : (ℕ → Page) → Lowering → Know
know_lowering got Looking = idle Stage.Busy
know_lowering got LatchingAnchor = idle Stage.Busy
know_lowering got LatchedAnchor = record (idle Stage.Busy) { holds = anchor_known None ∷ [] }
know_lowering got (LatchingTop t) =
    record (idle Stage.Busy) { holds = anchor_known (Some (Anchor t.anchor)) ∷ []; sound = t.top ≡ top_of (roots_of (Anchor t.anchor)) }
know_lowering got (LatchedTop t) =
    record (idle Stage.Busy) {
      holds = anchor_known (Some (Anchor t.anchor)) ∷ holds_live t.top ∷ [];
      sound = (t.top ≡ top_of (roots_of (Anchor t.anchor))) × (0 ≢ t.top);
    }
know_lowering got (PuttingAnchor s) =
    record (idle Stage.Busy) { holds = anchor_known (Some (got 0)) ∷ holds_known s.top (got s.top) ∷ []; sound = IsToSink got s }
know_lowering got (PuttingDead s) =
    record (idle Stage.Busy) {
      holds = anchor_known None ∷ record { at = s.top; status = Uprooted; sep = None; page = Some (got s.top) } ∷ [];
      sound = (0 ≢ s.top) × IsFallen (node_of (got s.top)).shape.level s.dead;
    }
know_lowering got (Retiring x) =
    record (idle Stage.Busy) { holds = anchor_known None ∷ record { at = x; status = Gone; sep = None; page = None } ∷ []; sound = 0 ≢ x }
know_lowering got (OpeningTop x what) = record (idle Stage.Busy) { holds = anchor_known None ∷ holds_live x ∷ []; sound = 0 ≢ x }
know_lowering got (OpeningAnchor what) = record (idle Stage.Busy) { holds = anchor_known None ∷ [] }

-- what it has got after it was told this
abbrev pub lowering_got : (ℕ → Page) → Lowering → Seen → ℕ → Page
lowering_got got LatchedAnchor (seen.Words c) = λ x. c
lowering_got got (LatchedTop t) (seen.Words c) = got_top (Anchor t.anchor) c
lowering_got got l what = got
