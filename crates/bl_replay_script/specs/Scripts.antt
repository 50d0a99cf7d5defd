-- Scripts as bytes, and the first line that is bad.
use Rattle.std.specs.Prelude.{◌≡◌, ℕ, ◌+◌, ◌<◌, List, [], ◌∷◌, ◌++◌, length, flat_map}
use Rattle.bl_serve_lines.specs.Lines.{HasNoLf}
use Rattle.bl_replay_script.specs.declared.command.Command.{Command}
use Rattle.bl_replay_script.specs.declared.command.Kinds.{Kinds}
use Rattle.bl_replay_script.specs.declared.reading.ScriptFault.{ScriptFault}
use Rattle.bl_replay_script.specs.declared.reading.ScriptFault.TheVariants as fault
use Rattle.bl_replay_script.specs.Commands.{command_text, head_text, IsPageCount, MayStand, starts, started_by}

-- the lines as they are read: each ends with one LF
abbrev pub script_text : ℕ → List Command → List ℕ
script_text pages commands = head_text pages ++ 10 ∷ flat_map (λ c. command_text c ++ 10 ∷ []) commands

-- Each command may stand where it does, the first behind lines that have started so many processes.
abbrev pub AllStand : Kinds → ℕ → ℕ → List Command → Type 0
AllStand kinds pages started [] = Unit {0}
AllStand kinds pages started (c ∷ commands) = MayStand kinds pages started c × AllStand kinds pages (started + starts c) commands

-- The bytes are a script: so many pages, and commands each of which may stand where it does.
pub record IsScript (kinds : Kinds) (pages : ℕ) (commands : List Command) (bytes : List ℕ) : Type 0 where
  pub count : IsPageCount pages
  pub stand : AllStand kinds pages 0 commands
  pub spelled : bytes ≡ script_text pages commands

-- What is left is no line of a script, whatever a line may say: it begins with more than 69 bytes without LF, or nothing
-- stands behind it and there is no LF in it.
pub data HasNoLine (left : List ℕ) (at_end : Type 0) : Type 0 where
  Long : (line rest : List ℕ) → HasNoLf line → 69 < length line → left ≡ line ++ rest → HasNoLine left at_end
  Cut : HasNoLf left → at_end → HasNoLine left at_end

-- What is left begins with a line that is bad: it is no line, or says nothing that may stand there.
pub data BeginsBadly (May : List ℕ → Type 0) (left : List ℕ) (at_end : Type 0) : Type 0 where
  NoLine : HasNoLine left at_end → BeginsBadly May left at_end
  NoSense : (line rest : List ℕ) → HasNoLf line → left ≡ line ++ 10 ∷ rest → (May line → ⊥) → BeginsBadly May left at_end

-- a first line
abbrev pub IsHead : List ℕ → Type 0
IsHead line = (pages : ℕ) × IsPageCount pages × (line ≡ head_text pages)

-- a line that may stand behind lines that have started so many processes
abbrev pub IsNext : Kinds → ℕ → ℕ → List ℕ → Type 0
IsNext kinds pages started line = (c : Command) × MayStand kinds pages started c × (line ≡ command_text c)

-- The bytes are no script, and that line is the first that is bad. at_end says that no byte stands behind these. The line
-- behind the last LF is bad unless it is empty; the first line is bad also where it is empty.
pub data IsBadAt (kinds : Kinds) (bytes : List ℕ) (at_end : Type 0) : ℕ → Type 0 where
  First : BeginsBadly IsHead bytes at_end → IsBadAt kinds bytes at_end 1
  Later : (pages : ℕ) (commands : List Command) (good left : List ℕ) → IsScript kinds pages commands good → bytes ≡ good ++ left → 0 < length left
      → BeginsBadly (IsNext kinds pages (started_by commands)) left at_end → IsBadAt kinds bytes at_end (length commands + 2)

-- Why bytes gave no script: that line is bad, or the reader has failed. Memory says nothing of them.
abbrev pub IsScriptFault : Kinds → List ℕ → Type 0 → Type 0 → ScriptFault → Type 0
IsScriptFault kinds bytes at_end reader_failed (fault.Line number) = IsBadAt kinds bytes at_end number
IsScriptFault kinds bytes at_end reader_failed fault.Read = reader_failed
IsScriptFault kinds bytes at_end reader_failed fault.Memory = Unit {0}
