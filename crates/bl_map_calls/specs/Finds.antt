-- What a call promises that looks many keys up.
use Rattle.std.specs.Prelude.{◌≡◌, ℕ, ◌++◌, List, Option, length}
use Rattle.bl_model.specs.declared.operation.Op.TheVariants as op
use Rattle.bl_model.specs.declared.operation.KeyReply.{KeyReply}
use Rattle.bl_page.specs.declared.page.Page.{Page}
use Rattle.bl_claims.specs.Trails.{Trail}
use Rattle.bl_claims.specs.Seeing.{IsLinearizable, own, GoesOnFrom}
use Rattle.bl_map_calls.specs.Entries.{entries_of}
use Rattle.bl_map_calls.specs.Works.{Searches}

-- The pass has looked these keys up, one after another, and each has its reply: these are its new entries, in that order, and it has
-- done nothing but search.
pub record FindsMany (first : List (Option Page)) (pages pass : ℕ) (keys : List ℕ) (replies : List KeyReply) (old new : Trail) : Type 0 where
  pub each : length replies ≡ length keys
  pub begins : GoesOnFrom old new
  pub seen : IsLinearizable first old → IsLinearizable first new
  pub mine : own pass new ≡ own pass old ++ entries_of pass op.Find keys replies
  pub searches : Searches first pages pass (entries_of pass op.Find keys replies) old new
