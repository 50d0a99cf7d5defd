-- What a call promises that writes many keys.
use Rattle.std.specs.Prelude.{◌≡◌, ◌≢◌, ℕ, ◌+◌, ◌<◌, ◌++◌, List, [], ◌∷◌, Option, length}
use mathlib.Core.Option.{some}
use lib.ListN.{get_elem?}
use Rattle.bl_model.specs.declared.deciding.KeyWrite.{KeyWrite}
use Rattle.bl_model.specs.declared.deciding.KeyWrite.TheVariants as key_write
use Rattle.bl_model.specs.declared.operation.Op.{Op}
use Rattle.bl_model.specs.declared.operation.KeyReply.{KeyReply}
use Rattle.bl_model.specs.declared.operation.KeyReply.TheVariants as reply
use Rattle.bl_model.specs.Replies.{reply_of}
use Rattle.bl_model.specs.Writes.{write_op}
use Rattle.bl_page.specs.declared.page.Page.{Page}
use Rattle.bl_claims.specs.Trails.{Trail}
use Rattle.bl_claims.specs.Seeing.{IsLinearizable, own, GoesOnFrom}
use Rattle.bl_index.specs.declared.index.Pass.{Pass}
use Rattle.bl_waiting.specs.declared.waiting.Waiting.{Waiting}
use Rattle.bl_map_calls.specs.Entries.{entries_of}
use Rattle.bl_map_calls.specs.Waits.{WritesKey}
use Rattle.bl_map_calls.specs.Works.{FoundNoRoom}

-- a row, as an insertion, or to be put; a key, as a deletion
abbrev pub insertion_of : ℕ × ℕ → ℕ × KeyWrite
insertion_of row = (row.0, key_write.Insert row.1)

abbrev pub put_of : ℕ × ℕ → ℕ × KeyWrite
put_of row = (row.0, key_write.Put row.1)

abbrev pub deletion_of : ℕ → ℕ × KeyWrite
deletion_of key = (key, key_write.Delete)

-- the operation of a write of a key
abbrev pub op_at : ℕ × KeyWrite → Op
op_at at = write_op at.0 at.1

-- The writes that these ask for were made, one after another, each with its reply, and what each left to do was done or kept before the next.
pub data WritesKeys {A : Type 0} (first : List (Option Page)) (pass : ℕ) (ask : A → ℕ × KeyWrite)
    : List A → List KeyReply → Waiting → Waiting → Trail → Trail → Type 0 where
  NoneWritten : {waiting : Waiting} {old : Trail} → WritesKeys first pass ask [] [] waiting waiting old old
  OneWritten : {list : List A} {replies : List KeyReply} {before mid after : Waiting} {old between new : Trail} (a : A) (said : KeyReply)
      → WritesKeys first pass ask list replies before mid old between → WritesKey first pass (op_at (ask a)) (reply_of said) mid after between new
      → WritesKeys first pass ask (list ++ a ∷ []) (replies ++ said ∷ []) before after old new

-- The same, and these are the new entries of the pass, in that order.
pub record WritesMany {A : Type 0} (first : List (Option Page)) (pass : ℕ) (ask : A → ℕ × KeyWrite) (list : List A) (replies : List KeyReply)
    (before after : Waiting) (old new : Trail) : Type 0 where
  pub each : length replies ≡ length list
  pub begins : GoesOnFrom old new
  pub seen : IsLinearizable first old → IsLinearizable first new
  pub mine : own pass new ≡ own pass old ++ entries_of pass (λ a. op_at (ask a)) list replies
  pub changes : WritesKeys first pass ask list replies before after old new

-- of so many replies each but the last says that there was room
abbrev pub HadRoomBefore : ℕ → List KeyReply → Type 0
HadRoomBefore count replies = (place : ℕ) → place + 1 < count → get_elem? replies place ≢ some reply.NoRoom

-- So many were answered, and the last of them found no room, which is the last that the pass has done.
pub record StopsFull {A : Type 0} (ask : A → ℕ × KeyWrite) (list : List A) (replies : List KeyReply) (count : ℕ) (old new : Pass) : Type 0 where
  pub last : ℕ
  pub is_last : count ≡ last + 1
  pub a : A
  pub asked : get_elem? list last ≡ some a
  pub refused : get_elem? replies last ≡ some reply.NoRoom
  pub lacks : FoundNoRoom (ask a).0 (ask a).1 old new
