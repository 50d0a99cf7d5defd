-- What a crash leaves of a server that keeps a log.
use Rattle.std.specs.Prelude.{◌≡◌, ◌≢◌, ◌⊎◌, ℕ, List, [], ◌++◌, Option}
use Rattle.std.specs.Io.KnownBytes.{Appends}
use Rattle.bl_model.specs.declared.operation.Entry.{Entry}
use Rattle.bl_model.specs.History.{final_map}
use Rattle.bl_model.specs.Map.{Map}
use Rattle.bl_journal.specs.Logs.{IsLogOf}
use Rattle.bl_serve_lines.specs.declared.serving.Sectioning.{Sectioning}
use Rattle.bl_serve_lines.specs.declared.serving.ServeFault.TheVariants.{Write}
use Rattle.bl_serve_lines.specs.Served.{Stopped, history_of}

-- What was printed are the replies to the lines of finished sections, and a beginning of those of the next one, as a failed write leaves them. The
-- log is that of the map after the finished sections, and after the next one too or not, but always if a byte of its replies was printed.
pub record Survives (how : Sectioning) (pages : ℕ × ℕ) (start : Map) (input : List ℕ) (before told : Option (List ℕ)) (left : List ℕ) : Type 0 where
  pub output : List ℕ
  pub printed : Appends before told output
  pub answered : Stopped how pages start input output Write
  pub logged : List Entry
  pub all_or_none : (logged ≡ []) ⊎ (logged ≡ answered.last.history)
  pub not_behind : answered.begun ≢ [] → logged ≡ answered.last.history
  pub log : IsLogOf left (final_map start (history_of answered.sections ++ logged))
