-- What a script prints: the text of its commands, one after the other, on what stands in a world.
use Rattle.std.specs.Prelude.{◌≡◌, ◌⊎◌, ℕ, Bool, ◌+◌, ◌<◌, ◌≤◌, Option, Some, None, List, [], ◌∷◌, ◌++◌, length, true, slice_get}
use Rattle.bl_model.specs.declared.operation.Op.TheVariants as op
use Rattle.bl_model.specs.declared.operation.Op.{Op}
use Rattle.bl_model.specs.declared.deciding.KeyWrite.{KeyWrite}
use Rattle.bl_model.specs.Writes.{write_op}
use Rattle.bl_replay_script.specs.declared.command.Start.{Start}
use Rattle.bl_replay_script.specs.declared.command.Start.TheVariants as start
use Rattle.bl_replay_script.specs.declared.command.Command.{Command}
use Rattle.bl_replay_script.specs.declared.command.Command.TheVariants as command
use Rattle.bl_replay_script.specs.declared.command.Kinds.{Kinds}
use Rattle.bl_replay_script.specs.Commands.{IsPageCount}
use Rattle.bl_replay_script.specs.Scripts.{AllStand}
use Rattle.bl_answers.specs.declared.answers.Answer.{Answer}
use Rattle.bl_proc.specs.declared.kinds.Proc.{Proc}
use Rattle.bl_proc.specs.declared.kinds.Proc.TheVariants as proc
use Rattle.bl_proc.specs.declared.searching.FindStage.TheVariants as find
use Rattle.bl_proc.specs.declared.parts.PartStage.TheVariants as part
use Rattle.bl_proc.specs.Parts.{up, down}
use Rattle.bl_proc_writes.specs.declared.insert_post.Placing.TheVariants as place
use Rattle.bl_proc.specs.Processes.{answer_of, IsFind, IsWrite, IsPost, IsPart, IsCompress, IsReclaim, IsLower, IsInsertPost}
use Rattle.bl_world.specs.declared.turns.Act.TheVariants as act
use Rattle.bl_world.specs.declared.turns.Event.{Event}
use Rattle.bl_world.specs.declared.turns.Turn.{Turn}
use Rattle.bl_world.specs.declared.turns.Turn.TheVariants as turn
use Rattle.bl_world.specs.Views.{View}
use Rattle.bl_world.specs.Turns.{TurnsTo}
use Rattle.bl_world.specs.WorldSteps.{IsOpening, Starts}
use Rattle.bl_world.specs.Choices.{Chooses}
use Rattle.bl_world.specs.Waits.{MayGoOn, HaveAnswered}
use Rattle.bl_world.specs.Accounts.{Account}
use Rattle.bl_replay.specs.Texts.{event_line, answer_line}
use Rattle.bl_replay.specs.Pages.{put_text}

-- The process with that number has this answer, or none yet.
pub record HasAnswer (v : View) (number : ℕ) (a : Option Answer) : Type 0 where
  pub place : ℕ
  pub counts : number ≡ place + 1
  pub process : Proc
  pub stood : slice_get v.processes place ≡ Some process
  pub answer : a ≡ answer_of process

-- the line of an answer, where it is there now and was not before
abbrev pub new_answer : ℕ → Option Answer → Option Answer → List ℕ
new_answer number None (Some a) = answer_line number a
new_answer number None None = []
new_answer number (Some b) after = []

-- One turn of a process prints its event, then what stands in the page that it put, which is there, where pages are wanted, and then its
-- answer where this turn gave it.
pub record Prints (with_pages : Bool) (v : View) (number : ℕ) (turn : Turn) (text : List ℕ) (v' : View) : Type 0 where
  pub turned : TurnsTo v turn v'
  pub event : Event
  pub recorded : v'.events ≡ v.events ++ event ∷ []
  pub before : Option Answer
  pub had : HasAnswer v number before
  pub after : Option Answer
  pub has : HasAnswer v' number after
  pub there : (x : ℕ) → event.act ≡ act.Put x → x < length v'.pages
  pub printed : text ≡ event_line event ++ put_text with_pages event v'.pages ++ new_answer number before after

-- One turn of a process, as it is chosen for it; a take may be told its page.
abbrev pub PrintsChosen : Bool → View → ℕ → Option ℕ → List ℕ → View → Type 0
PrintsChosen with_pages v number page text v' = (turn : Turn) × Chooses v number page turn × Prints with_pages v number turn text v'

-- Turns of a process that had not answered before any of them, so many.
pub data PrintsTurns (with_pages : Bool) (number : ℕ) (v : View) : ℕ → List ℕ → View → Type 0 where
  Still : PrintsTurns with_pages number v 0 [] v
  More : (count : ℕ) (text more : List ℕ) (mid v' : View) → PrintsTurns with_pages number v count text mid → HasAnswer mid number None
      → PrintsChosen with_pages mid number None more v'
      → PrintsTurns with_pages number v (count + 1) (text ++ more) v'

-- So many turns of processes that might go on, each the one that came next for its process.
pub data PrintsSettling (with_pages : Bool) (v : View) : ℕ → List ℕ → View → Type 0 where
  Resting : PrintsSettling with_pages v 0 [] v
  Onward : (count number : ℕ) (text more : List ℕ) (mid v' : View) → PrintsSettling with_pages v count text mid → MayGoOn mid number
      → PrintsChosen with_pages mid number None more v'
      → PrintsSettling with_pages v (count + 1) (text ++ more) v'

-- a search that is to begin, and to look at that page then
abbrev pub IsFindNear : ℕ → ℕ → Proc → Type 0
IsFindNear key page (proc.Find p) = (p.key ≡ key) × (p.stage ≡ find.Near page)
IsFindNear key page p = ⊥

-- a part that is to begin, and to look at that page then
abbrev pub IsPartNear : ℕ → ℕ → Proc → Type 0
IsPartNear from page (proc.Part p) = (p.from ≡ up from) × (p.stage ≡ part.Near page)
IsPartNear from page p = ⊥

-- a process that is to read so
abbrev pub Reads : Op → Proc → Type 0
Reads (op.Find key) p = IsFind key p
Reads (op.Part from) p = IsPart (up from) p
Reads (op.PartDown from) p = IsPart (down from) p
Reads o p = ⊥

-- a process that is to carry that operation out: it reads, or writes one key
abbrev pub Carries : Op → Proc → Type 0
Carries o p = Reads o p ⊎ ((key : ℕ) × (does : KeyWrite) × (write_op key does ≡ o) × IsWrite key does p)

-- a process that a script starts, which has done nothing yet
abbrev pub IsStart : Start → Proc → Type 0
IsStart (start.Operation o) p = Carries o p
IsStart (start.InsertPost key value) p = IsInsertPost key (place.Insert value) p
IsStart (start.PutPost key value) p = IsInsertPost key (place.Put value) p
IsStart (start.FindNear key page) p = IsFindNear key page p
IsStart (start.PartNear from page) p = IsPartNear from page p
IsStart (start.Post level key) p = IsPost level key p
IsStart (start.Compress level key) p = IsCompress level key p
IsStart (start.Reclaim page) p = IsReclaim page p
IsStart start.Lower p = IsLower p

-- What one command does and prints. A run ends with its last turn, or when its process has answered. A world is left to itself until all
-- have answered, or for so many turns.
abbrev pub Does : Bool → View → Command → List ℕ → View → Type 0
Does with_pages v (command.Start start) text v' = (p : Proc) × IsStart start p × Starts v p v' × (text ≡ [])
Does with_pages v (command.Turn number) text v' = PrintsChosen with_pages v number None text v'
Does with_pages v (command.TurnAt number page) text v' = PrintsChosen with_pages v number (Some page) text v'
Does with_pages v (command.Refuse number) text v' = Prints with_pages v number (turn.Refuse number) text v'
Does with_pages v (command.Run number most) text v' =
    (count : ℕ) × (count ≤ most) × PrintsTurns with_pages number v count text v' × ((count ≡ most) ⊎ ((a : Answer) × HasAnswer v' number (Some a)))
Does with_pages v (command.Settle most) text v' = (count : ℕ) × (count ≤ most) × PrintsSettling with_pages v count text v' × ((count ≡ most) ⊎ HaveAnswered v')

-- What a list of commands does and prints.
pub data Plays (with_pages : Bool) (v : View) : List Command → List ℕ → View → Type 0 where
  Nothing : Plays with_pages v [] [] v
  Then : (commands : List Command) (next : Command) (text more : List ℕ) (mid v' : View) → Plays with_pages v commands text mid → Does with_pages mid next more v'
      → Plays with_pages v (commands ++ next ∷ []) (text ++ more) v'

-- A list of commands was broken off: behind some of them, and maybe behind some turns of a run or of a world that was left to itself.
pub data BreaksOff (with_pages : Bool) (v : View) (commands : List Command) : List ℕ → Type 0 where
  Behind : (done rest : List Command) (text : List ℕ) (v' : View) → commands ≡ done ++ rest → Plays with_pages v done text v' → BreaksOff with_pages v commands text
  Within : (done rest : List Command) (number most count : ℕ) (text more : List ℕ) (mid v' : View) → commands ≡ done ++ command.Run number most ∷ rest
      → Plays with_pages v done text mid
      → count ≤ most → PrintsTurns with_pages number mid count more v' → BreaksOff with_pages v commands (text ++ more)
  Unsettled : (done rest : List Command) (most count : ℕ) (text more : List ℕ) (mid v' : View) → commands ≡ done ++ command.Settle most ∷ rest
      → Plays with_pages v done text mid
      → count ≤ most → PrintsSettling with_pages mid count more v' → BreaksOff with_pages v commands (text ++ more)

-- What a script that was carried out has printed; and what may be believed of the world in the end.
abbrev pub PlaysOut : Bool → ℕ → List Command → List ℕ → Type 0
PlaysOut with_pages pages commands text =
    (start : View) × (end : View) × IsOpening pages start × Plays with_pages start commands text end × ∥ Account end ∥₁

-- What a script that was broken off has printed: nothing, where there was no memory for a world, or what it did until then.
abbrev pub PlaysInto : Bool → ℕ → List Command → List ℕ → Type 0
PlaysInto with_pages pages commands text = (text ≡ []) ⊎ ((start : View) × IsOpening pages start × BreaksOff with_pages start commands text)

-- the kinds of process that a script may start
abbrev pub all_kinds : Kinds
all_kinds = record { part = true; compress = true; reclaim = true; lower = true }

-- A script as it is read: each of its commands may stand where it does.
abbrev pub MayPlay : ℕ → List Command → Type 0
MayPlay pages commands = IsPageCount pages × AllStand all_kinds pages 0 commands
