-- The lines of a script: the text of each command, and where it is allowed.
use Rattle.std.specs.Prelude.{ℕ, ◌+◌, ◌<◌, ◌≤◌, ◌^◌, List, [], ◌∷◌, ◌++◌, codes, decimal, IsTrue}
use Rattle.bl_model.specs.declared.operation.Op.{Op}
use Rattle.bl_model.specs.declared.operation.Op.TheVariants.{Find, Insert, Put, Delete, Change, Part, PartDown}
use Rattle.bl_replay_script.specs.declared.command.Start.{Start}
use Rattle.bl_replay_script.specs.declared.command.Start.TheVariants.{Operation, FindNear, InsertPost, PutPost, PartNear, Post, Compress, Reclaim, Lower}
use Rattle.bl_replay_script.specs.declared.command.Command.{Command}
use Rattle.bl_replay_script.specs.declared.command.Command.TheVariants as command
use Rattle.bl_replay_script.specs.declared.command.Kinds.{Kinds}

-- one number, and two or three with a space between each two
abbrev pub one : ℕ → List ℕ
one a = decimal a

abbrev pub two : ℕ → ℕ → List ℕ
two a b = decimal a ++ codes " " ++ decimal b

abbrev pub three : ℕ → ℕ → ℕ → List ℕ
three a b d = two a b ++ codes " " ++ decimal d

-- the text of the line that starts an operation
abbrev pub operation_text : Op → List ℕ
operation_text (Find key) = codes "find " ++ one key
operation_text (Insert key value) = codes "insert " ++ two key value
operation_text (Put key value) = codes "put " ++ two key value
operation_text (Delete key) = codes "delete " ++ one key
operation_text (Change key old new) = codes "change " ++ three key old new
operation_text (Part from) = codes "part " ++ one from
operation_text (PartDown from) = codes "partdown " ++ one from

-- the text of the line that starts a process
abbrev pub start_text : Start → List ℕ
start_text (Operation op) = operation_text op
start_text (FindNear key page) = codes "findnear " ++ two key page
start_text (InsertPost key value) = codes "insertpost " ++ two key value
start_text (PutPost key value) = codes "putpost " ++ two key value
start_text (PartNear from page) = codes "partnear " ++ two from page
start_text (Post level key) = codes "post " ++ two level key
start_text (Compress level key) = codes "compress " ++ two level key
start_text (Reclaim page) = codes "reclaim " ++ one page
start_text Lower = codes "lower"

-- the text of each line behind the first, without its LF
abbrev pub command_text : Command → List ℕ
command_text (command.Start start) = start_text start
command_text (command.Turn process) = codes "turn " ++ one process
command_text (command.TurnAt process page) = codes "turn " ++ two process page
command_text (command.Refuse process) = codes "refuse " ++ one process
command_text (command.Run process most) = codes "run " ++ two process most
command_text (command.Settle most) = codes "settle " ++ one most

-- the text of the first line
abbrev pub head_text : ℕ → List ℕ
head_text pages = codes "pages " ++ one pages

-- a number of 64 bits
abbrev pub Fits : ℕ → Type 0
Fits number = number < 2 ^ 64

abbrev pub IsLevel : ℕ → Type 0
IsLevel level = (1 ≤ level) × (level ≤ 12)

abbrev pub IsPageCount : ℕ → Type 0
IsPageCount pages = (4 ≤ pages) × (pages ≤ 65536)

-- a process that has been started
abbrev pub IsStarted : ℕ → ℕ → Type 0
IsStarted started process = (1 ≤ process) × (process ≤ started) × Fits process

-- The operation may be started: its kind is there.
abbrev pub MayAsk : Kinds → Op → Type 0
MayAsk kinds (Find key) = Fits key
MayAsk kinds (Insert key value) = Fits key × Fits value
MayAsk kinds (Put key value) = Fits key × Fits value
MayAsk kinds (Delete key) = Fits key
MayAsk kinds (Change key old new) = Fits key × Fits old × Fits new
MayAsk kinds (Part from) = IsTrue kinds.part × Fits from
MayAsk kinds (PartDown from) = IsTrue kinds.part × Fits from

-- The process may be started: its kind is there, its level is one of 1 to 12, its page one of the script's.
abbrev pub MayStart : Kinds → ℕ → Start → Type 0
MayStart kinds pages (Operation op) = MayAsk kinds op
MayStart kinds pages (FindNear key page) = Fits key × (page < pages)
MayStart kinds pages (InsertPost key value) = Fits key × Fits value
MayStart kinds pages (PutPost key value) = Fits key × Fits value
MayStart kinds pages (PartNear from page) = IsTrue kinds.part × Fits from × (page < pages)
MayStart kinds pages (Post level key) = IsLevel level × Fits key
MayStart kinds pages (Compress level key) = IsTrue kinds.compress × IsLevel level × Fits key
MayStart kinds pages (Reclaim page) = IsTrue kinds.reclaim × (page < pages)
MayStart kinds pages Lower = IsTrue kinds.lower

-- The command may stand behind lines that have started so many processes.
abbrev pub MayStand : Kinds → ℕ → ℕ → Command → Type 0
MayStand kinds pages started (command.Start start) = MayStart kinds pages start
MayStand kinds pages started (command.Turn process) = IsStarted started process
MayStand kinds pages started (command.TurnAt process page) = IsStarted started process × (page < pages)
MayStand kinds pages started (command.Refuse process) = IsStarted started process
MayStand kinds pages started (command.Run process most) = IsStarted started process × Fits most
MayStand kinds pages started (command.Settle most) = Fits most

-- how many processes a command starts
abbrev pub starts : Command → ℕ
starts (command.Start start) = 1
starts (command.Turn process) = 0
starts (command.TurnAt process page) = 0
starts (command.Refuse process) = 0
starts (command.Run process most) = 0
starts (command.Settle most) = 0

abbrev pub started_by : List Command → ℕ
started_by [] = 0
started_by (c ∷ commands) = starts c + started_by commands
