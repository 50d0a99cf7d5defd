-- A write that posts what it splits, by its state: it is a write of its leaf, and then a post on each level that it climbs to.
use Rattle.std.specs.Prelude.{◌≡◌, ℕ, ◌+◌, ◌⊎◌, Option, None, Some}
use Rattle.bl_model.specs.declared.operation.Reply.{Reply}
use Rattle.bl_model.specs.declared.operation.Reply.TheVariants as reply
use Rattle.bl_model.specs.Writes.{replied}
use Rattle.bl_proc_steps.specs.declared.acts.Action.{Action}
use Rattle.bl_proc_steps.specs.declared.acts.Action.TheVariants as act
use Rattle.bl_proc_steps.specs.declared.acts.Seen.{Seen}
use Rattle.bl_proc_steps.specs.declared.acts.Seen.TheVariants as seen
use Rattle.bl_answers.specs.declared.answers.Answer.{Answer}
use Rattle.bl_answers.specs.declared.answers.Answer.TheVariants as answer
use Rattle.bl_answers.specs.declared.answers.Hint.TheVariants as hint
use Rattle.bl_answers.specs.declared.answers.Posted.{Posted as PostedAs}
use Rattle.bl_answers.specs.declared.answers.Posted.TheVariants as posted
use Rattle.bl_answers.specs.Hints.{left_hint}
use Rattle.bl_proc_writes.specs.declared.paths.Path.{Path}
use Rattle.bl_proc_writes.specs.declared.post.Post.{Post}
use Rattle.bl_proc_writes.specs.declared.post.PostStage.{PostStage}
use Rattle.bl_proc_writes.specs.declared.post.PostStage.TheVariants as post
use Rattle.bl_proc_writes.specs.declared.post.PostReply.{PostReply}
use Rattle.bl_proc_writes.specs.declared.post.PostReply.TheVariants as listed
use Rattle.bl_proc_writes.specs.declared.writing.WriteStage.{WriteStage}
use Rattle.bl_proc_writes.specs.declared.writing.WriteStage.TheVariants as write
use Rattle.bl_proc_writes.specs.declared.writing.WriteReply.{WriteReply}
use Rattle.bl_proc_writes.specs.declared.writing.WriteReply.TheVariants as written
use Rattle.bl_proc_writes.specs.declared.insert_post.InsertPost.{InsertPost}
use Rattle.bl_proc_writes.specs.declared.insert_post.ClimbStage.{ClimbStage}
use Rattle.bl_proc_writes.specs.declared.insert_post.ClimbStage.TheVariants.{Writing, Posting, Ending, Over}
use Rattle.bl_proc_writes.specs.declared.insert_post.Climbed.{Climbed}
use Rattle.bl_proc_writes.specs.declared.insert_post.Climbed.TheVariants.{Unsplit, Posted}
use Rattle.bl_proc_writes.specs.declared.insert_post.Placing.{Placing}
use Rattle.bl_proc_writes.specs.Placings.{write_of}
use Rattle.bl_proc_writes.specs.Paths.{page_at, from_page, Notes}
use Rattle.bl_proc_writes.specs.Stands.{IsWriting, IsPosting}
use Rattle.bl_proc_writes.specs.Writes.{write_next_of, write_needs_of, WriteGoes, WriteTakes}
use Rattle.bl_proc_writes.specs.Posts.{post_next, post_needs, PostGoes, PostTakes}

-- what became of the write
abbrev pub placed_reply : Placing → WriteReply → Reply
placed_reply placing (written.Done there hint) = replied (write_of placing) there
placed_reply placing written.NoRoom = reply.NoRoom

-- what became of a post
abbrev pub posted_as : PostReply → PostedAs
posted_as (listed.Done separator) = posted.Done
posted_as listed.Already = posted.Already
posted_as listed.Stale = posted.Stale
posted_as listed.NoRoom = posted.NoRoom
posted_as listed.TooTall = posted.TooTall

-- Only a write that has entered its pair splits a page.
abbrev pub climbed_answer : Placing → Climbed → Answer
climbed_answer placing (Unsplit r) = answer.InsertPost (placed_reply placing r) None None
climbed_answer placing (Posted level key r) = answer.InsertPost reply.Inserted (Some (posted_as r)) (left_hint level key (posted_as r))

abbrev pub climb_next_in : ClimbStage → Action
climb_next_in (Writing w) = write_next_of w
climb_next_in (Posting p) = post_next p
climb_next_in (Ending r) = act.End
climb_next_in (Over r) = act.End

abbrev pub climb_needs_in : ClimbStage → Option (ℕ × ℕ)
climb_needs_in (Writing w) = write_needs_of w
climb_needs_in (Posting p) = post_needs p
climb_needs_in (Ending r) = None
climb_needs_in (Over r) = None

abbrev pub climb_answer_in : Placing → ClimbStage → Option Answer
climb_answer_in placing (Writing w) = None
climb_answer_in placing (Posting p) = None
climb_answer_in placing (Ending r) = None
climb_answer_in placing (Over r) = Some (climbed_answer placing r)

-- A write and a post note the pages from which their ways go down.
abbrev pub WriteNotes : ℕ → WriteStage → Seen → Path → Path → Type 0
WriteNotes key (write.Coming a) what old new = Notes 0 key a what old new
WriteNotes key stage what old new = new ≡ old

abbrev pub PostNotes : ℕ → ℕ → PostStage → Seen → Path → Path → Type 0
PostNotes level key (post.Coming a) what old new = Notes level key a what old new
PostNotes level key stage what old new = new ≡ old

abbrev pub ClimbNotes : ClimbStage → Seen → Path → Path → Type 0
ClimbNotes (Writing w) what old new = WriteNotes w.key w.stage what old new
ClimbNotes (Posting p) what old new = PostNotes p.level p.key p.stage what old new
ClimbNotes (Ending r) what old new = new ≡ old
ClimbNotes (Over r) what old new = new ≡ old

-- a post of that key to that level that begins at the page noted for the level
abbrev pub PostsFrom : Path → ℕ → ℕ → Post → Type 0
PostsFrom path level key p = (p.level ≡ level) × (p.key ≡ key) × (p.stage ≡ post.Coming (from_page (page_at path level)))

-- its leaf was not split
abbrev pub IsUnsplit : WriteReply → Type 0
IsUnsplit (written.Done there (Some (hint.Post level separator))) = ⊥
IsUnsplit r = Unit {0}

-- its parent was not split
abbrev pub IsLast : PostReply → Type 0
IsLast (listed.Done (Some separator)) = ⊥
IsLast r = Unit {0}

-- The write takes its turn. Where it is to end, and has split its leaf, the separator is to be posted to level 1, from the page noted
-- there. So does a post, and where it is to end, and has split its parent, its separator is to be posted one level higher.
abbrev pub ClimbGoes : Path → ClimbStage → Seen → ClimbStage → Type 0
ClimbGoes path (Writing w) what (Writing v) = WriteTakes w what v × IsWriting v.stage
ClimbGoes path (Writing w) what (Posting p) =
    (there : Option ℕ) × (level : ℕ) × (separator : ℕ)
    × WriteGoes w.key w.write w.stage what (write.Ending (written.Done there (Some (hint.Post level separator))))
    × PostsFrom path level separator p
ClimbGoes path (Writing w) what (Ending last) = (r : WriteReply) × WriteGoes w.key w.write w.stage what (write.Ending r) × IsUnsplit r × (last ≡ Unsplit r)
ClimbGoes path (Posting p) what (Posting q) =
    (PostTakes p what q × IsPosting q.stage)
    ⊎ ((separator : ℕ) × PostGoes p.level p.key p.stage what (post.Ending (listed.Done (Some separator))) × PostsFrom path (p.level + 1) separator q)
ClimbGoes path (Posting p) what (Ending last) =
    (r : PostReply) × PostGoes p.level p.key p.stage what (post.Ending r) × IsLast r × (last ≡ Posted p.level p.key r)
ClimbGoes path (Ending r) seen.Done (Over last) = last ≡ r
ClimbGoes path old what new = ⊥

abbrev pub climb_next : InsertPost → Action
climb_next p = climb_next_in p.stage

abbrev pub climb_needs : InsertPost → Option (ℕ × ℕ)
climb_needs p = climb_needs_in p.stage

abbrev pub climb_answer : InsertPost → Option Answer
climb_answer p = climb_answer_in p.placing p.stage

-- What was seen is noted before it is taken.
abbrev pub ClimbTakes : InsertPost → Seen → InsertPost → Type 0
ClimbTakes old what new =
    (new.key ≡ old.key) × (new.placing ≡ old.placing) × ClimbNotes old.stage what old.path new.path × ClimbGoes new.path old.stage what new.stage

-- it is to begin
abbrev pub IsToBegin : ClimbStage → Type 0
IsToBegin (Writing w) = w.stage ≡ write.New
IsToBegin stage = ⊥
