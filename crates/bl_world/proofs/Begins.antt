-- A change, a growth or a compression of two children is never to begin: the process that carries it out has begun.
use Rattle.std.proofs.Common.{◌≡◌}
use Rattle.bl_proc_steps.specs.declared.acts.Action.TheVariants as act
use Rattle.bl_proc_steps.specs.declared.approach.Approach.{Approach}
use Rattle.bl_proc_steps.specs.declared.approach.Approach.TheVariants as way
use Rattle.bl_proc_steps.specs.declared.edit.Edit.{Edit}
use Rattle.bl_proc_steps.specs.declared.edit.Edit.TheVariants as edit
use Rattle.bl_proc_steps.specs.declared.growth.Growth.{Growth}
use Rattle.bl_proc_steps.specs.declared.growth.Growth.TheVariants as growth
use Rattle.bl_rearrange.specs.declared.sides.Side.{Side}
use Rattle.bl_rearrange.specs.declared.sides.Side.TheVariants as side
use Rattle.bl_proc_steps.specs.declared.lowering.Lowering.{Lowering}
use Rattle.bl_proc_steps.specs.declared.lowering.Lowering.TheVariants as lowering
use Rattle.bl_proc_steps.specs.Lowerings.{lowering_next}
use Rattle.bl_proc_compress.specs.declared.compression.Puts.{Puts}
use Rattle.bl_proc_compress.specs.declared.compression.Compression.{Compression}
use Rattle.bl_proc_compress.specs.declared.compression.Compression.TheVariants.{PuttingFirst, PuttingLast}
use Rattle.bl_proc_steps.specs.Approaches.{approach_next}
use Rattle.bl_proc_steps.specs.Edits.{edit_next}
use Rattle.bl_proc_steps.specs.Growths.{growth_next}
use Rattle.bl_proc_compress.specs.Compressions.{put_of, other, compression_next}

pub approach_begins : {X : Type 0} (a : Approach) → approach_next a ≡ act.Begin → X
approach_begins way.Start e = absurd cc
approach_begins (way.At x) e = absurd cc
approach_begins (way.Latching x) e = absurd cc
approach_begins (way.Latched x) e = absurd cc
approach_begins (way.Leaving x to) e = absurd cc

pub edit_begins : {X : Type 0} (c : Edit) → edit_next c ≡ act.Begin → X
edit_begins (edit.Putting x page) e = absurd cc
edit_begins (edit.Taking full) e = absurd cc
edit_begins (edit.PuttingNew p) e = absurd cc
edit_begins (edit.PuttingOld p) e = absurd cc
edit_begins (edit.OpeningNew x new s) e = absurd cc
edit_begins (edit.Opening x what) e = absurd cc

pub growth_begins : {X : Type 0} (g : Growth) → growth_next g ≡ act.Begin → X
growth_begins growth.Latching e = absurd cc
growth_begins growth.Latched e = absurd cc
growth_begins (growth.Taking r) e = absurd cc
growth_begins (growth.PuttingTop r) e = absurd cc
growth_begins (growth.PuttingAnchor r) e = absurd cc
growth_begins (growth.OpeningTop x) e = absurd cc
growth_begins growth.OpeningGrown e = absurd cc
growth_begins growth.OpeningRefused e = absurd cc

put_begins : {X : Type 0} (sd : Side) (u : Puts) → put_of sd u ≡ act.Begin → X
put_begins side.Left u e = absurd cc
put_begins side.Right u e = absurd cc

pub compression_begins : {X : Type 0} (c : Compression) → compression_next c ≡ act.Begin → X
compression_begins (PuttingFirst u) e = put_begins u.gains u e
compression_begins (PuttingLast u) e = put_begins (other u.gains) u e
compression_begins old e = absurd cc

pub lowering_begins : {X : Type 0} (l : Lowering) → lowering_next l ≡ act.Begin → X
lowering_begins lowering.Looking e = absurd cc
lowering_begins lowering.LatchingAnchor e = absurd cc
lowering_begins lowering.LatchedAnchor e = absurd cc
lowering_begins (lowering.LatchingTop t) e = absurd cc
lowering_begins (lowering.LatchedTop t) e = absurd cc
lowering_begins (lowering.PuttingAnchor s) e = absurd cc
lowering_begins (lowering.PuttingDead s) e = absurd cc
lowering_begins (lowering.Retiring x) e = absurd cc
lowering_begins (lowering.OpeningTop x what) e = absurd cc
lowering_begins (lowering.OpeningAnchor what) e = absurd cc
