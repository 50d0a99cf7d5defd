-- What reading one line gave. Private functions cite this, and no public clause does.
use Rattle.std.specs.Prelude.{◌≡◌, ℕ, ◌<◌, List, [], ◌∷◌, ◌++◌, length, Option, Some, None, Result, Ok, Err}
use Rattle.bl_serve_lines.specs.Lines.{HasNoLf}
use Rattle.bl_replay_script.specs.declared.command.Kinds.{Kinds}
use Rattle.bl_replay_script.specs.declared.lines.Next.{Next}
use Rattle.bl_replay_script.specs.declared.lines.Next.TheVariants as next
use Rattle.bl_replay_script.specs.declared.lines.Said.{Said}
use Rattle.bl_replay_script.specs.declared.lines.Said.TheVariants as said
use Rattle.bl_replay_script.specs.Commands.{command_text, head_text, IsPageCount, MayStand}
use Rattle.bl_replay_script.specs.Scripts.{HasNoLine, BeginsBadly, IsHead, IsNext}

-- unread begins with the line, and left stands behind its LF; or it is empty; or it begins with no line
abbrev pub GivesLine : {E : Type 0} → List ℕ → List ℕ → Result Next E → List ℕ → Type 0 → Type 0 → Type 0
GivesLine unread line (Ok next.Line) left at_end failed = HasNoLf line × (unread ≡ line ++ 10 ∷ left)
GivesLine unread line (Ok next.End) left at_end failed = (unread ≡ []) × (left ≡ []) × at_end
GivesLine unread line (Ok next.NoLine) left at_end failed = HasNoLine unread at_end × (0 < length unread)
GivesLine unread line (Err e) left at_end failed = failed

-- the first line was read, or is bad
abbrev pub GivesHead : {E : Type 0} → List ℕ → Result (Option ℕ) E → List ℕ → Type 0 → Type 0 → Type 0
GivesHead unread (Ok (Some pages)) left at_end failed = IsPageCount pages × (unread ≡ head_text pages ++ 10 ∷ left)
GivesHead unread (Ok None) left at_end failed = BeginsBadly IsHead unread at_end
GivesHead unread (Err e) left at_end failed = failed

-- a command was read, or there is none left, or the line is bad
abbrev pub GivesCommand : {E : Type 0} → Kinds → ℕ → ℕ → List ℕ → Result Said E → List ℕ → Type 0 → Type 0 → Type 0
GivesCommand kinds pages started unread (Ok (said.Command c)) left at_end failed = MayStand kinds pages started c × (unread ≡ command_text c ++ 10 ∷ left)
GivesCommand kinds pages started unread (Ok said.End) left at_end failed = (unread ≡ []) × (left ≡ []) × at_end
GivesCommand kinds pages started unread (Ok said.Bad) left at_end failed = BeginsBadly (IsNext kinds pages started) unread at_end × (0 < length unread)
GivesCommand kinds pages started unread (Err e) left at_end failed = failed
