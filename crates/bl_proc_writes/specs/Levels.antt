-- The level of a post by its state: a parent that is split is itself to be posted one level higher, so it is no page of the
-- last level that a tree may have.
use Rattle.std.specs.Prelude.{ℕ, ◌<◌, None, Some}
use Rattle.std.proofs.Props.{props}
use Rattle.bl_proc_writes.specs.declared.post.PostStage.{PostStage}
use Rattle.bl_proc_writes.specs.declared.post.PostStage.TheVariants.{New, Coming, Growing, Walking, Editing, Staying, Ending, Over}
use Rattle.bl_proc_writes.specs.declared.post.PostReply.{PostReply}
use Rattle.bl_proc_writes.specs.declared.post.PostReply.TheVariants as reply

-- the level of a reply that has a hint beside it
abbrev pub MayReply : ℕ → PostReply → Type 0
MayReply level (reply.Done (Some separator)) = level < 12
MayReply level r = Unit {0}

abbrev pub IsBelowTop : ℕ → PostStage → Type 0
IsBelowTop level New = Unit {0}
IsBelowTop level (Coming a) = Unit {0}
IsBelowTop level (Growing g) = Unit {0}
IsBelowTop level (Walking w) = level < 12
IsBelowTop level (Editing c) = level < 12
IsBelowTop level (Staying x r) = MayReply level r
IsBelowTop level (Ending r) = MayReply level r
IsBelowTop level (Over r) = MayReply level r

MayReply-prop : (level : ℕ) (r : PostReply) → IsProp (MayReply level r)
MayReply-prop level (reply.Done None) = hlevel props
MayReply-prop level (reply.Done (Some separator)) = hlevel props
MayReply-prop level reply.Already = hlevel props
MayReply-prop level reply.Stale = hlevel props
MayReply-prop level reply.NoRoom = hlevel props
MayReply-prop level reply.TooTall = hlevel props

-- such a fact has one proof at most
pub IsBelowTop-prop : (level : ℕ) (stage : PostStage) → IsProp (IsBelowTop level stage)
IsBelowTop-prop level New = hlevel props
IsBelowTop-prop level (Coming a) = hlevel props
IsBelowTop-prop level (Growing g) = hlevel props
IsBelowTop-prop level (Walking w) = hlevel props
IsBelowTop-prop level (Editing c) = hlevel props
IsBelowTop-prop level (Staying x r) = MayReply-prop level r
IsBelowTop-prop level (Ending r) = MayReply-prop level r
IsBelowTop-prop level (Over r) = MayReply-prop level r
