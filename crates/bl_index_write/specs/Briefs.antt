-- Processes that may not wait: where one may turn back, and how soon it does.
use Rattle.std.specs.Prelude.{◌≡◌, ◌+◌, ◌≤◌, ℕ, Bool, true, false}
use Rattle.bl_proc_steps.specs.declared.approach.Approach.TheVariants as way
use Rattle.bl_proc_steps.specs.declared.growth.Growth.{Growth}
use Rattle.bl_proc_steps.specs.declared.growth.Growth.TheVariants as growth
use Rattle.bl_proc_steps.specs.declared.lowering.Lowering.{Lowering}
use Rattle.bl_proc_steps.specs.declared.lowering.Lowering.TheVariants as lowering
use Rattle.bl_proc_writes.specs.declared.post.PostStage.{PostStage}
use Rattle.bl_proc_writes.specs.declared.post.PostStage.TheVariants as post
use Rattle.bl_proc.specs.declared.lowering.LowerStage.{LowerStage}
use Rattle.bl_proc.specs.declared.lowering.LowerStage.TheVariants as lower

-- A post that makes a new top level turns back before it has latched the anchor, and where its way begins again.

abbrev pub is_way : PostStage → Bool
is_way (post.Coming a) = true
is_way s = false

abbrev pub post_turns : PostStage → Bool
post_turns (post.Coming a) = true
post_turns (post.Growing growth.Latching) = true
post_turns s = false

-- A lowering turns back before it has latched the anchor, and where it has not got the latch of the top page.

abbrev pub sink_turns : Lowering → Bool
sink_turns lowering.Looking = true
sink_turns lowering.LatchingAnchor = true
sink_turns (lowering.LatchingTop t) = true
sink_turns l = false

abbrev pub lower_turns : LowerStage → Bool
lower_turns (lower.Sinking l) = sink_turns l
lower_turns s = false

-- How many events it makes at most until it may turn back, or is over.

abbrev pub growth_left : Growth → ℕ
growth_left growth.Latching = 0
growth_left growth.Latched = 7
growth_left (growth.Taking rise) = 6
growth_left (growth.PuttingTop r) = 5
growth_left (growth.PuttingAnchor r) = 4
growth_left (growth.OpeningTop x) = 3
growth_left growth.OpeningGrown = 2
growth_left growth.OpeningRefused = 3

abbrev pub post_left : PostStage → ℕ
post_left (post.Coming a) = 0
post_left (post.Growing g) = growth_left g
post_left (post.Ending r) = 2
post_left s = 1

abbrev pub sink_left : Lowering → ℕ
sink_left lowering.Looking = 0
sink_left lowering.LatchingAnchor = 0
sink_left lowering.LatchedAnchor = 4
sink_left (lowering.LatchingTop t) = 0
sink_left (lowering.LatchedTop t) = 7
sink_left (lowering.PuttingAnchor s) = 6
sink_left (lowering.PuttingDead s) = 5
sink_left (lowering.Retiring x) = 4
sink_left (lowering.OpeningTop x what) = 4
sink_left (lowering.OpeningAnchor what) = 3

abbrev pub lower_left : LowerStage → ℕ
lower_left lower.New = 1
lower_left (lower.Sinking l) = sink_left l
lower_left (lower.Ending r) = 2
lower_left (lower.Over r) = 1

-- From 16 events on it makes so few more that it has made 24 at most.
abbrev pub IsSoon : ℕ → ℕ → Type 0
IsSoon left event = 16 ≤ event → left + event ≤ 24

-- a post that makes a new top level, or begins its way again, or is over or about to be
abbrev pub IsRising : PostStage → Type 0
IsRising (post.Coming a) = a ≡ way.Start
IsRising (post.Growing g) = Unit {0}
IsRising (post.Ending r) = Unit {0}
IsRising (post.Over r) = Unit {0}
IsRising s = ⊥

-- it may turn back there, and reserves nothing

abbrev pub IsPostBack : PostStage → Type 0
IsPostBack (post.Coming a) = a ≡ way.Start
IsPostBack (post.Growing growth.Latching) = Unit {0}
IsPostBack s = ⊥

abbrev pub IsSinkBack : Lowering → Type 0
IsSinkBack lowering.Looking = Unit {0}
IsSinkBack lowering.LatchingAnchor = Unit {0}
IsSinkBack (lowering.LatchingTop t) = Unit {0}
IsSinkBack l = ⊥

abbrev pub IsLowerBack : LowerStage → Type 0
IsLowerBack (lower.Sinking l) = IsSinkBack l
IsLowerBack s = ⊥
