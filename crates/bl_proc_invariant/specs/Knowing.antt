-- What each kind of process knows.
use Rattle.std.specs.Prelude.{◌≡◌, ◌≢◌, ℕ, zero, suc, ◌-◌, ◌<◌, Bool, true, false, Option, Some, None, List, [], ◌∷◌, length}
use Rattle.bl_model.specs.declared.operation.Op.TheVariants as op
use Rattle.bl_model.specs.declared.operation.Reply.{Reply}
use Rattle.bl_model.specs.declared.operation.Reply.TheVariants as reply
use Rattle.bl_model.specs.declared.deciding.KeyWrite.{KeyWrite}
use Rattle.bl_model.specs.declared.deciding.Effect.{Effect}
use Rattle.bl_model.specs.declared.deciding.Effect.TheVariants.{Keep, Enter, Remove, Replace}
use Rattle.bl_model.specs.Writes.{write_op, effect_of, effected, replied}
use Rattle.bl_page.specs.declared.page.Page.{Page}
use Rattle.bl_page.specs.declared.page.Page.TheVariants.{Anchor, Inner}
use Rattle.bl_page.specs.Machine.{Owner, State}
use Rattle.bl_page.specs.Machine.Owner.{Released, Held, Retired}
use Rattle.bl_page.specs.Nodes.{unbounded}
use Rattle.bl_tree.specs.Trees.Status.{Fresh}
use Rattle.bl_claims.specs.Trails.{Said}
use Rattle.bl_tree_worlds.specs.Worlds.{Goes, Passed, Stage, Know}
use Rattle.bl_proc_steps.specs.declared.acts.Seen.{Seen}
use Rattle.bl_proc_steps.specs.declared.acts.Seen.TheVariants as seen
use Rattle.bl_answers.specs.declared.answers.Hint.TheVariants as hint
use Rattle.bl_proc.specs.declared.searching.FindStage.TheVariants as find
use Rattle.bl_proc.specs.declared.searching.FindStage.{FindStage}
use Rattle.bl_proc_writes.specs.declared.writing.Noted.{Noted}
use Rattle.bl_proc_writes.specs.declared.writing.WriteReply.{WriteReply}
use Rattle.bl_proc_writes.specs.declared.writing.WriteReply.TheVariants as written
use Rattle.bl_proc_writes.specs.declared.writing.WriteStage.{WriteStage}
use Rattle.bl_proc_writes.specs.declared.writing.WriteStage.TheVariants as write
use Rattle.bl_proc.specs.declared.parts.PartRows.{PartRows}
use Rattle.bl_proc.specs.declared.parts.PartStage.{PartStage}
use Rattle.bl_proc.specs.declared.parts.PartStart.{PartStart}
use Rattle.bl_proc.specs.declared.parts.PartStage.TheVariants as part
use Rattle.bl_proc.specs.Parts.{part_op}
use Rattle.bl_proc_steps.specs.declared.growth.Growth.{Growth}
use Rattle.bl_proc_steps.specs.declared.growth.Growth.TheVariants as growth
use Rattle.bl_proc_writes.specs.declared.post.PostReply.{PostReply}
use Rattle.bl_proc_writes.specs.declared.post.PostReply.TheVariants as posted
use Rattle.bl_proc_writes.specs.declared.post.PostStage.{PostStage}
use Rattle.bl_proc_writes.specs.declared.post.PostStage.TheVariants as post
use Rattle.bl_proc.specs.declared.reclaiming.Round.{Round}
use Rattle.bl_proc.specs.declared.reclaiming.ReclaimStage.{ReclaimStage}
use Rattle.bl_proc.specs.declared.reclaiming.ReclaimStage.TheVariants as reclaim
use Rattle.bl_proc_compress.specs.declared.compress.CompressStage.{CompressStage}
use Rattle.bl_proc_compress.specs.declared.compress.CompressStage.TheVariants as compress
use Rattle.bl_proc.specs.declared.lowering.LowerStage.{LowerStage}
use Rattle.bl_proc.specs.declared.lowering.LowerStage.TheVariants as lower
use Rattle.bl_proc_writes.specs.declared.paths.Path.{Path}
use Rattle.bl_proc_writes.specs.declared.insert_post.Climbed.{Climbed}
use Rattle.bl_proc_writes.specs.declared.insert_post.Climbed.TheVariants as climbed
use Rattle.bl_proc_writes.specs.declared.insert_post.Placing.{Placing}
use Rattle.bl_proc_writes.specs.Placings.{write_of}
use Rattle.bl_proc_writes.specs.declared.insert_post.ClimbStage.{ClimbStage}
use Rattle.bl_proc_writes.specs.declared.insert_post.ClimbStage.TheVariants as climb
use Rattle.bl_proc.specs.declared.kinds.Proc.{Proc}
use Rattle.bl_proc.specs.declared.kinds.Proc.TheVariants as proc
use Rattle.bl_proc_writes.specs.Writes.{write_reply}
use Rattle.bl_proc_steps.specs.Growths.{Raises}
use Rattle.bl_page.specs.Tops.{IsAnchor}
use Rattle.bl_proc_invariant.specs.Compressing.{know_compression, compression_got}
use Rattle.bl_proc_invariant.specs.Lowering.{know_lowering, lowering_got}
use Rattle.bl_proc_invariant.specs.Tables.{idle, Carried, unsaid, alone, carrying, holds_live, holds_known, anchor_known, goes_to, know_descent, know_approach, Aim, IsDue, know_edit}

-- it is to begin; it is to end, or has ended, with what it said
abbrev pub early : ℕ → Know
early key = record (idle Stage.Early) { sound = key < unbounded }

abbrev pub ending : Option Said → Know
ending said = record (idle Stage.Busy) { said = said }

abbrev pub late : Option Said → Know
late said = record (idle Stage.Late) { said = said }

-- Searches

abbrev pub found_reply : Option ℕ → Reply
found_reply (Some value) = reply.Found value
found_reply None = reply.Absent

abbrev pub found : ℕ → Option ℕ → Option Said
found key value = Some (record { op = op.Find key; reply = found_reply value })

abbrev pub know_find : ℕ → FindStage → Know
know_find key find.New = early key
know_find key (find.Near x) = early key
know_find key (find.Probing x) = record (idle Stage.Busy) { sound = key < unbounded }
know_find key (find.Descending d) = know_descent key d
know_find key (find.Ending value) = ending (found key value)
know_find key (find.Over value) = late (found key value)

-- Parts

abbrev pub listed : PartStart → PartRows → Option Said
listed from r = Some (record { op = part_op from; reply = reply.Rows r.rows r.next })

abbrev pub know_part : PartStart → PartStage → Know
know_part from part.New = early from.key
know_part from (part.Near x) = early from.key
know_part from (part.Probing x) = record (idle Stage.Busy) { sound = from.key < unbounded }
know_part from (part.Descending d) = know_descent from.key d
know_part from (part.Ending r) = ending (listed from r)
know_part from (part.Over r) = late (listed from r)

-- Writes of one key

abbrev pub written_reply : KeyWrite → WriteReply → Reply
written_reply does (written.Done there left) = replied does there
written_reply does written.NoRoom = reply.NoRoom

abbrev pub writes : ℕ → KeyWrite → WriteReply → Option Said
writes key does r = Some (record { op = write_op key does; reply = written_reply does r })

abbrev pub is_change : Effect → Bool
is_change Keep = false
is_change (Enter value) = true
is_change Remove = true
is_change (Replace value) = true

abbrev pub write_aim : List Goes → ℕ → KeyWrite → Noted → Aim
write_aim goes key does noted = record {
  level = 0;
  key = key;
  was = noted.there;
  word = effected (effect_of does noted.there) noted.there;
  changes = is_change (effect_of does noted.there);
  carried = unsaid goes;
  says = λ o. writes key does (write_reply noted o);
  said = λ o. writes key does (write_reply noted o);
  children = λ x. [];
}

-- what is known of the post that a write leaves: the pair has entered, and the separator is a key of the tree
abbrev pub LeavesWrite : KeyWrite → WriteReply → Type 0
LeavesWrite does (written.Done there (Some (hint.Post level separator))) = (there ≡ None) × (separator < unbounded)
LeavesWrite does r = Unit {0}

abbrev pub know_write : List Goes → ℕ → KeyWrite → (ℕ → Page) → WriteStage → Know
know_write goes key does got write.New = record (early key) { goes = goes }
know_write goes key does got (write.Coming a) = know_approach (unsaid goes) 0 key a
know_write goes key does got (write.Keeping x there) = record (ending (writes key does (written.Done there None))) { holds = holds_live x ∷ []; goes = goes }
know_write goes key does got (write.Editing noted c) = know_edit (write_aim goes key does noted) got c
know_write goes key does got (write.Ending r) = record (ending (writes key does r)) { goes = goes; sound = LeavesWrite does r }
know_write goes key does got (write.Over r) = late (writes key does r)

-- Growths: page 0 is held, and as the process got it

-- these leftmost pages, of a tree of that many levels that may have one more
pub record MayRise (level : ℕ) (c : Page) (leftmost : List ℕ) : Type 0 where
  pub anchor : IsAnchor leftmost c
  pub levels : length leftmost ≡ level
  pub room : level < 12

abbrev pub know_growth : Carried → ℕ → ℕ → (ℕ → Page) → Growth → Know
know_growth carried level key got growth.Latching = record (carrying carried) { sound = key < unbounded }
know_growth carried level key got growth.Latched = record (carrying carried) { holds = anchor_known None ∷ []; sound = key < unbounded }
know_growth carried level key got (growth.Taking rise) =
    record (carrying carried) {
      holds = anchor_known (Some (Anchor rise.anchor)) ∷ [];
      sound = (key < unbounded) × MayRise level (Anchor rise.anchor) rise.anchor.leftmost.items × (got 0 ≡ Anchor rise.anchor);
    }
know_growth carried level key got (growth.PuttingTop r) =
    record (carrying carried) {
      holds = anchor_known (Some (got 0)) ∷ record { at = r.new; status = Fresh; sep = None; page = None } ∷ [];
      sound = (key < unbounded) × ((leftmost : List ℕ) × MayRise level (got 0) leftmost × Raises leftmost r.new r.top r.anchor);
    }
know_growth carried level key got (growth.PuttingAnchor r) =
    record (carrying carried) {
      holds = anchor_known (Some (got 0)) ∷ record { at = r.new; status = Fresh; sep = Some 0; page = Some r.top } ∷ [];
      sound = (key < unbounded) × ((leftmost : List ℕ) × MayRise level (got 0) leftmost × Raises leftmost r.new r.top r.anchor);
    }
know_growth carried level key got (growth.OpeningTop x) =
    record (carrying carried) { holds = anchor_known None ∷ holds_live x ∷ []; sound = (key < unbounded) × (0 ≢ x) }
know_growth carried level key got growth.OpeningGrown = record (carrying carried) { holds = anchor_known None ∷ []; sound = key < unbounded }
know_growth carried level key got growth.OpeningRefused = record (carrying carried) { holds = anchor_known None ∷ [] }

-- Posts: they answer no operation of the map. While a parent is held, it is known that it does not list the key.

abbrev pub post_aim : Carried → ℕ → ℕ → ℕ → Aim
post_aim carried level key child = record {
  level = level;
  key = key;
  was = None;
  word = Some child;
  changes = true;
  carried = carried;
  says = λ o. None;
  said = λ o. carried.said;
  children = λ x. record { parent = x; at = child; key = key } ∷ [];
}

-- and of the one that a post leaves
abbrev pub LeavesPost : PostReply → Type 0
LeavesPost (posted.Done (Some separator)) = separator < unbounded
LeavesPost r = Unit {0}

abbrev pub know_post : Carried → ℕ → ℕ → (ℕ → Page) → ℕ → PostStage → Know
know_post carried level key got child post.New = record (early key) { said = carried.said; goes = carried.goes }
know_post carried level key got child (post.Coming a) = know_approach carried level key a
know_post carried level key got child (post.Growing g) = know_growth carried level key got g
know_post carried level key got child (post.Walking w) =
    record (carrying carried) {
      holds = holds_known w.at (Inner w.parent) ∷ [];
      goes = goes_to w.child (level - 1) (level - 1) ∷ carried.goes;
      sound = (key < unbounded) × IsDue (post_aim carried level key 0) (Inner w.parent) × (w.key ≡ key);
    }
know_post carried level key got child (post.Editing c) = know_edit (post_aim carried level key child) got c
know_post carried level key got child (post.Staying x r) = record (carrying carried) { holds = holds_live x ∷ []; sound = LeavesPost r }
know_post carried level key got child (post.Ending r) = record (ending carried.said) { goes = carried.goes; sound = LeavesPost r }
know_post carried level key got child (post.Over r) = late carried.said

-- Writes that post: all the time they may go to each page that they have noted, which is of the level for which it is noted.

-- the pages that are noted from that level on
abbrev pub goes_above : ℕ → List ℕ → List Goes
goes_above level [] = []
goes_above level (zero ∷ rest) = goes_above (suc level) rest
goes_above level (suc x ∷ rest) = goes_to (suc x) level level ∷ goes_above (suc level) rest

abbrev pub path_goes : Path → List Goes
path_goes path = goes_above 1 path.pages

abbrev pub climbed_reply : Placing → Climbed → Reply
climbed_reply placing (climbed.Unsplit r) = written_reply (write_of placing) r
climbed_reply placing (climbed.Posted level k r) = reply.Inserted

abbrev pub climbed_said : ℕ → Placing → Climbed → Option Said
climbed_said key placing r = Some (record { op = write_op key (write_of placing); reply = climbed_reply placing r })

abbrev pub LeavesClimb : Placing → Climbed → Type 0
LeavesClimb placing (climbed.Unsplit r) = LeavesWrite (write_of placing) r
LeavesClimb placing (climbed.Posted level k r) = LeavesPost r

-- when it posts it has said that its pair has entered
abbrev pub inserted : ℕ → Placing → Path → Carried
inserted key placing path = record { said = Some (record { op = write_op key (write_of placing); reply = reply.Inserted }); goes = path_goes path }

abbrev pub know_climb : ℕ → Placing → Path → (ℕ → Page) → ℕ → ClimbStage → Know
know_climb key placing path got child (climb.Writing w) = know_write (path_goes path) key (write_of placing) got w.stage
know_climb key placing path got child (climb.Posting p) = know_post (inserted key placing path) p.level p.key got child p.stage
know_climb key placing path got child (climb.Ending r) = record (ending (climbed_said key placing r)) { goes = path_goes path; sound = LeavesClimb placing r }
know_climb key placing path got child (climb.Over r) = late (climbed_said key placing r)

-- Compressions: they answer no operation of the map

abbrev pub know_compress : ℕ → ℕ → (ℕ → Page) → CompressStage → Know
know_compress level key got compress.New = early key
know_compress level key got (compress.Coming a) = know_approach alone level key a
know_compress level key got (compress.Compressing c) = know_compression level key got c
know_compress level key got (compress.Staying x) = record (idle Stage.Busy) { holds = holds_live x ∷ [] }
know_compress level key got (compress.Ending r) = ending None
know_compress level key got (compress.Over r) = late None

-- Releases: they answer no operation of the map, and never begin. While a process looks at the others, it knows of all but
-- those that are still ahead of it that they began after the page was retired, if they run.

abbrev pub looks : Passed → Know
looks passed = record (idle Stage.Early) { passed = Some passed }

abbrev pub round : ℕ → Round → Passed
round time r = record { time = time; next = r.next; last = r.started; own = r.own }

-- none is ahead
abbrev pub all : ℕ → Passed
all time = record { time = time; next = 1; last = 0; own = 0 }

abbrev pub know_reclaim : ℕ → ReclaimStage → Know
know_reclaim time reclaim.Seeing = idle Stage.Early
know_reclaim time (reclaim.Looking r) = looks (round time r)
know_reclaim time reclaim.Releasing = looks (all time)
know_reclaim time (reclaim.Over what) = idle Stage.Early

-- Lowerings: they answer no operation of the map.

abbrev pub know_lower : (ℕ → Page) → LowerStage → Know
know_lower got lower.New = idle Stage.Early
know_lower got (lower.Sinking l) = know_lowering got l
know_lower got (lower.Ending r) = ending None
know_lower got (lower.Over r) = late None

-- Any process: its state, what it got of the pages that it holds, the child that it is to list, and since when the page that
-- it is to release is retired.
pub record Run : Type 0 where
  pub state : Proc
  pub got : ℕ → Page
  pub child : ℕ
  pub time : ℕ

abbrev pub know_of : (ℕ → Page) → ℕ → ℕ → Proc → Know
know_of got child time (proc.Find p) = know_find p.key p.stage
know_of got child time (proc.Write p) = know_write [] p.key p.write got p.stage
know_of got child time (proc.Post p) = know_post alone p.level p.key got child p.stage
know_of got child time (proc.Part p) = know_part p.from p.stage
know_of got child time (proc.Compress p) = know_compress p.level p.key got p.stage
know_of got child time (proc.Reclaim p) = know_reclaim time p.stage
know_of got child time (proc.Lower p) = know_lower got p.stage
know_of got child time (proc.InsertPost p) = know_climb p.key p.placing p.path got child p.stage

-- by its state alone
abbrev pub know : Run → Know
know r = know_of r.got r.child r.time r.state

-- what is answered at an end
abbrev pub find_end : FindStage → Option Reply
find_end find.New = None
find_end (find.Near x) = None
find_end (find.Probing x) = None
find_end (find.Descending d) = None
find_end (find.Ending value) = Some (found_reply value)
find_end (find.Over value) = None

abbrev pub part_end : PartStage → Option Reply
part_end part.New = None
part_end (part.Near x) = None
part_end (part.Probing x) = None
part_end (part.Descending d) = None
part_end (part.Ending r) = Some (reply.Rows r.rows r.next)
part_end (part.Over r) = None

abbrev pub write_end : KeyWrite → WriteStage → Option Reply
write_end does write.New = None
write_end does (write.Coming a) = None
write_end does (write.Keeping x there) = None
write_end does (write.Editing noted c) = None
write_end does (write.Ending r) = Some (written_reply does r)
write_end does (write.Over r) = None

abbrev pub climb_end : Placing → ClimbStage → Option Reply
climb_end placing (climb.Writing w) = write_end (write_of placing) w.stage
climb_end placing (climb.Posting p) = None
climb_end placing (climb.Ending r) = Some (climbed_reply placing r)
climb_end placing (climb.Over r) = None

abbrev pub end_of_proc : Proc → Option Reply
end_of_proc (proc.Find p) = find_end p.stage
end_of_proc (proc.Write p) = write_end p.write p.stage
end_of_proc (proc.Post p) = None
end_of_proc (proc.Part p) = part_end p.stage
end_of_proc (proc.Compress p) = None
end_of_proc (proc.Reclaim p) = None
end_of_proc (proc.Lower p) = None
end_of_proc (proc.InsertPost p) = climb_end p.placing p.stage

-- what a process has got of the pages that it holds, after it was told this
abbrev pub write_got : (ℕ → Page) → WriteStage → Seen → ℕ → Page
write_got got (write.Coming a) (seen.Words c) = λ x. c
write_got got stage what = got

abbrev pub post_got : (ℕ → Page) → PostStage → Seen → ℕ → Page
post_got got (post.Growing g) (seen.Words c) = λ x. c
post_got got (post.Walking w) what = λ x. Inner w.parent
post_got got stage what = got

abbrev pub compress_got : (ℕ → Page) → CompressStage → Seen → ℕ → Page
compress_got got (compress.Compressing c) what = compression_got got c what
compress_got got stage what = got

abbrev pub lower_got : (ℕ → Page) → LowerStage → Seen → ℕ → Page
lower_got got (lower.Sinking l) what = lowering_got got l what
lower_got got stage what = got

abbrev pub climb_got : (ℕ → Page) → ClimbStage → Seen → ℕ → Page
climb_got got (climb.Writing w) what = write_got got w.stage what
climb_got got (climb.Posting p) what = post_got got p.stage what
climb_got got (climb.Ending r) what = got
climb_got got (climb.Over r) what = got

abbrev pub post_child : ℕ → PostStage → ℕ
post_child child (post.Walking w) = w.child
post_child child stage = child

abbrev pub climb_child : ℕ → ClimbStage → ℕ
climb_child child (climb.Writing w) = child
climb_child child (climb.Posting p) = post_child child p.stage
climb_child child (climb.Ending r) = child
climb_child child (climb.Over r) = child

abbrev pub got_next : (ℕ → Page) → Proc → Seen → ℕ → Page
got_next got (proc.Find p) what = got
got_next got (proc.Write p) what = write_got got p.stage what
got_next got (proc.Post p) what = post_got got p.stage what
got_next got (proc.Part p) what = got
got_next got (proc.Compress p) what = compress_got got p.stage what
got_next got (proc.Reclaim p) what = got
got_next got (proc.Lower p) what = lower_got got p.stage what
got_next got (proc.InsertPost p) what = climb_got got p.stage what

abbrev pub child_next : ℕ → Proc → ℕ
child_next child (proc.Find p) = child
child_next child (proc.Write p) = child
child_next child (proc.Post p) = post_child child p.stage
child_next child (proc.Part p) = child
child_next child (proc.Compress p) = child
child_next child (proc.Reclaim p) = child
child_next child (proc.Lower p) = child
child_next child (proc.InsertPost p) = climb_child child p.stage

-- since when the page is retired, if it is, at which a release looks
abbrev pub retired_since : Owner → ℕ → ℕ
retired_since (Retired time) old = time
retired_since Released old = old
retired_since Owner.Open old = old
retired_since (Held p) old = old

abbrev pub reclaim_time : State Page → ℕ → ℕ → ReclaimStage → ℕ
reclaim_time now time page reclaim.Seeing = retired_since (now.owner page) time
reclaim_time now time page (reclaim.Looking r) = time
reclaim_time now time page reclaim.Releasing = time
reclaim_time now time page (reclaim.Over what) = time

abbrev pub time_next : State Page → ℕ → Proc → ℕ
time_next now time (proc.Find p) = time
time_next now time (proc.Write p) = time
time_next now time (proc.Post p) = time
time_next now time (proc.Part p) = time
time_next now time (proc.Compress p) = time
time_next now time (proc.Reclaim p) = reclaim_time now time p.page p.stage
time_next now time (proc.Lower p) = time
time_next now time (proc.InsertPost p) = time

-- the process after it was told this of these pages, in that state
abbrev pub run_next : State Page → Run → Seen → Proc → Run
run_next now r what state = record { state = state; got = got_next r.got r.state what; child = child_next r.child r.state; time = time_next now r.time r.state }
