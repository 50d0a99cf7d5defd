-- Writes of one key: what they do and answer, by what the key has.
use Rattle.std.specs.Prelude.{◌≡◌, ◌≢◌, ℕ, Option, None, Some, IsSome, if◌then◌else◌, ◌==◌}
use Rattle.bl_model.specs.declared.operation.Op.{Op}
use Rattle.bl_model.specs.declared.operation.Op.TheVariants as op
use Rattle.bl_model.specs.declared.operation.Reply.{Reply}
use Rattle.bl_model.specs.declared.operation.Reply.TheVariants as reply
use Rattle.bl_model.specs.declared.operation.KeyReply.TheVariants as key_reply
use Rattle.bl_model.specs.declared.operation.KeyReply.TheVariants.{Absent, Inserted, Present, Deleted, Changed, Differs}
use Rattle.bl_model.specs.declared.deciding.KeyWrite.{KeyWrite}
use Rattle.bl_model.specs.declared.deciding.KeyWrite.TheVariants.{Insert, Put, Delete, Change}
use Rattle.bl_model.specs.declared.deciding.Effect.{Effect}
use Rattle.bl_model.specs.declared.deciding.Effect.TheVariants.{Keep, Enter, Remove, Replace}
use Rattle.bl_model.specs.declared.deciding.Decided.{Decided}
use Rattle.bl_model.specs.Map.{Map, MayAnswer, IsMapStep}
use Rattle.bl_model.specs.Replies.{reply_of}

-- the operation on the map
abbrev pub write_op : ℕ → KeyWrite → Op
write_op key (Insert value) = op.Insert key value
write_op key (Put value) = op.Put key value
write_op key Delete = op.Delete key
write_op key (Change old new) = op.Change key old new

-- an operation that changes nothing
abbrev pub IsRead : Op → Type 0
IsRead (op.Find key) = Unit {0}
IsRead (op.Part from) = Unit {0}
IsRead (op.PartDown from) = Unit {0}
IsRead other = ⊥

-- what the key has afterwards, where it had that
abbrev pub effected : Effect → Option ℕ → Option ℕ
effected Keep there = there
effected (Enter value) there = Some value
effected Remove there = None
effected (Replace value) there = Some value

-- What is done to the pair of a key, whatever its value.
pub data Deed : Type 0 where
  Kept : Deed
  Entered : Deed
  Removed : Deed
  Replaced : Deed

abbrev pub deed_of : Effect → Deed
deed_of Keep = Kept
deed_of (Enter value) = Entered
deed_of Remove = Removed
deed_of (Replace value) = Replaced

-- what was done, by what is answered
abbrev pub deed_told : Reply → Deed
deed_told reply.Inserted = Entered
deed_told (reply.Replaced value) = Replaced
deed_told (reply.Deleted value) = Removed
deed_told reply.Changed = Replaced
deed_told other = Kept

-- It may have that effect: only what is not there is entered, and only what is there goes or gives way.
abbrev pub MayHave : Effect → Option ℕ → Type 0
MayHave Keep there = Unit {0}
MayHave (Enter value) there = there ≡ None
MayHave Remove there = IsSome there
MayHave (Replace value) there = IsSome there

-- what a write does and answers
abbrev pub decided : KeyWrite → Option ℕ → Decided
decided (Insert value) None = record { effect = Enter value; reply = Inserted }
decided (Insert value) (Some there) = record { effect = Keep; reply = Present there }
decided (Put value) None = record { effect = Enter value; reply = Inserted }
decided (Put value) (Some there) = record { effect = Replace value; reply = key_reply.Replaced there }
decided Delete None = record { effect = Keep; reply = Absent }
decided Delete (Some there) = record { effect = Remove; reply = Deleted there }
decided (Change old new) None = record { effect = Keep; reply = Absent }
decided (Change old new) (Some there) =
    if there == old then record { effect = Replace new; reply = Changed } else record { effect = Keep; reply = Differs there }

abbrev pub effect_of : KeyWrite → Option ℕ → Effect
effect_of write there = (decided write there).effect

-- the map's reply
abbrev pub replied : KeyWrite → Option ℕ → Reply
replied write there = reply_of (decided write there).reply

-- The answer is the map's, tells what is done, and leaves the key as the effect says, on every map in which the key has that;
-- where the effect is a change, there may have been no room for it.
pub record IsDecided (write : KeyWrite) (there : Option ℕ) (d : Decided) : Type 0 where
  pub step : (key : ℕ) (m m' : Map) → m key ≡ there → m' key ≡ effected d.effect there → ((j : ℕ) → j ≢ key → m' j ≡ m j)
      → IsMapStep m (write_op key write) (reply_of d.reply) m'
  pub fits : MayHave d.effect there
  pub told : deed_told (reply_of d.reply) ≡ deed_of d.effect
  pub room : reply_of d.reply ≢ reply.NoRoom
  pub refused : (key : ℕ) (m : Map) → m key ≡ there → d.effect ≢ Keep → MayAnswer m (write_op key write) reply.NoRoom
