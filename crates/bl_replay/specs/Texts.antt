-- The text of events and of answers.
use Rattle.std.specs.Prelude.{ℕ, Option, Some, None, List, [], ◌++◌, codes, decimal}
use Rattle.bl_serve_lines.specs.Text.{reply_text, numbered}
use Rattle.bl_answers.specs.declared.answers.Answer.{Answer}
use Rattle.bl_answers.specs.declared.answers.Answer.TheVariants as answer
use Rattle.bl_answers.specs.declared.answers.Hint.{Hint}
use Rattle.bl_answers.specs.declared.answers.Hint.TheVariants as hint
use Rattle.bl_answers.specs.declared.answers.Posted.{Posted}
use Rattle.bl_answers.specs.declared.answers.Posted.TheVariants as posted
use Rattle.bl_answers.specs.declared.answers.Squeezed.{Squeezed}
use Rattle.bl_answers.specs.declared.answers.Squeezed.TheVariants as squeezed
use Rattle.bl_answers.specs.declared.answers.Reclaimed.{Reclaimed}
use Rattle.bl_answers.specs.declared.answers.Reclaimed.TheVariants as reclaimed
use Rattle.bl_answers.specs.declared.answers.Lowered.{Lowered}
use Rattle.bl_answers.specs.declared.answers.Lowered.TheVariants as lowered
use Rattle.bl_world.specs.declared.turns.Act.{Act}
use Rattle.bl_world.specs.declared.turns.Act.TheVariants as act
use Rattle.bl_world.specs.declared.turns.Event.{Event}

-- what an event did, and to which page or process
abbrev pub act_text : Act → List ℕ
act_text act.Begin = codes "begin"
act_text act.End = codes "end"
act_text (act.Get x) = codes "get " ++ decimal x
act_text (act.Put x) = codes "put " ++ decimal x
act_text (act.Latch x) = codes "latch " ++ decimal x
act_text (act.Take x) = codes "take " ++ decimal x
act_text (act.Open x) = codes "open " ++ decimal x
act_text (act.Retire x) = codes "retire " ++ decimal x
act_text (act.Look q) = codes "look " ++ decimal q
act_text (act.See x) = codes "see " ++ decimal x
act_text (act.Release x) = codes "release " ++ decimal x
act_text act.Miss = codes "miss"

-- the line of an event: the number of its process, what it did, LF
abbrev pub event_line : Event → List ℕ
event_line e = numbered e.process (act_text e.act)

-- the work that is left for another process, behind an answer
abbrev pub hint_text : Option Hint → List ℕ
hint_text None = []
hint_text (Some (hint.Post level key)) = codes " post " ++ decimal level ++ codes " " ++ decimal key
hint_text (Some (hint.Thin level key)) = codes " thin " ++ decimal level ++ codes " " ++ decimal key

-- what became of a post
abbrev pub posted_text : Posted → List ℕ
posted_text posted.Done = codes "done"
posted_text posted.Already = codes "already"
posted_text posted.Stale = codes "stale"
posted_text posted.NoRoom = codes "noroom"
posted_text posted.TooTall = codes "tootall"

-- what became of the last post of an insertion, where it has split anything
abbrev pub last_text : Option Posted → List ℕ
last_text None = []
last_text (Some what) = codes " " ++ posted_text what

-- what became of a compression
abbrev pub squeezed_text : Squeezed → List ℕ
squeezed_text squeezed.Merged = codes "merged"
squeezed_text squeezed.Evened = codes "evened"
squeezed_text squeezed.Enough = codes "enough"
squeezed_text squeezed.Alone = codes "alone"
squeezed_text squeezed.Unposted = codes "unposted"
squeezed_text squeezed.NoRoom = codes "noroom"

-- what became of a page that was to be released
abbrev pub reclaimed_text : Reclaimed → List ℕ
reclaimed_text reclaimed.Released = codes "released"
reclaimed_text reclaimed.Kept = codes "kept"

-- what became of a top level that was to be taken away
abbrev pub lowered_text : Lowered → List ℕ
lowered_text lowered.Lowered = codes "lowered"
lowered_text lowered.Needed = codes "needed"
lowered_text lowered.NoRoom = codes "noroom"

abbrev pub answer_text : Answer → List ℕ
answer_text (answer.Op reply hint) = reply_text reply ++ hint_text hint
answer_text (answer.Post posted hint) = posted_text posted ++ hint_text hint
answer_text (answer.Compress squeezed hint) = squeezed_text squeezed ++ hint_text hint
answer_text (answer.Reclaim what) = reclaimed_text what
answer_text (answer.Lower what) = lowered_text what
answer_text (answer.InsertPost reply last hint) = reply_text reply ++ last_text last ++ hint_text hint

-- the line of the answer of the process with that number
abbrev pub answer_line : ℕ → Answer → List ℕ
answer_line number answer = numbered number (codes "answer " ++ answer_text answer)
