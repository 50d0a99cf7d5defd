-- A post, by its state.
use Rattle.std.specs.Prelude.{◌≡◌, ◌≢◌, ℕ, ◌+◌, ◌-◌, ◌<◌, Option, None, Some}
use Rattle.bl_page.specs.declared.page.Page.{Page}
use Rattle.bl_page.specs.declared.page.Page.TheVariants.{Inner as InnerPage}
use Rattle.bl_page.specs.declared.page.Inner.{Inner}
use Rattle.bl_page.specs.Nodes.{node_of, IsChildOf}
use Rattle.bl_proc_steps.specs.declared.acts.Action.{Action}
use Rattle.bl_proc_steps.specs.declared.acts.Action.TheVariants as act
use Rattle.bl_proc_steps.specs.declared.acts.Seen.{Seen}
use Rattle.bl_proc_steps.specs.declared.acts.Seen.TheVariants as seen
use Rattle.bl_answers.specs.declared.answers.Answer.{Answer}
use Rattle.bl_answers.specs.declared.answers.Answer.TheVariants as answer
use Rattle.bl_answers.specs.declared.answers.Posted.TheVariants as posted
use Rattle.bl_proc_routes.specs.declared.routes.Step.{Step}
use Rattle.bl_proc_routes.specs.declared.routes.Step.TheVariants.{Again, Right, Down, Here}
use Rattle.bl_proc_steps.specs.declared.approach.Approach.TheVariants.{Start, Leaving}
use Rattle.bl_proc_steps.specs.declared.approach.Came.{Came}
use Rattle.bl_proc_steps.specs.declared.approach.Came.TheVariants as come
use Rattle.bl_proc_steps.specs.declared.edit.Outcome.{Outcome}
use Rattle.bl_proc_steps.specs.declared.edit.Outcome.TheVariants as outcome
use Rattle.bl_proc_steps.specs.declared.edit.Edited.TheVariants as edit
use Rattle.bl_proc_steps.specs.declared.growth.Growth.TheVariants as growth
use Rattle.bl_proc_steps.specs.declared.growth.Grew.TheVariants as grew
use Rattle.bl_proc_writes.specs.declared.walking.Walk.{Walk}
use Rattle.bl_proc_writes.specs.declared.post.Post.{Post}
use Rattle.bl_proc_writes.specs.declared.post.PostStage.{PostStage}
use Rattle.bl_proc_writes.specs.declared.post.PostStage.TheVariants.{New, Coming, Growing, Walking, Editing, Staying, Ending, Over}
use Rattle.bl_proc_writes.specs.declared.post.PostReply.{PostReply}
use Rattle.bl_proc_writes.specs.declared.post.PostReply.TheVariants as reply
use Rattle.bl_proc_routes.specs.Routes.{Leads}
use Rattle.bl_proc_steps.specs.Approaches.{approach_next, Comes}
use Rattle.bl_proc_steps.specs.Edits.{edit_next, edit_needs, EntersPair, Changes}
use Rattle.bl_proc_steps.specs.Growths.{growth_next, growth_needs, Grows}
use Rattle.bl_answers.specs.Hints.{post_hint}

-- what a post answers when its parent is open again
abbrev pub post_reply : Outcome → PostReply
post_reply outcome.Edited = reply.Done None
post_reply (outcome.SplitAt separator) = reply.Done (Some separator)
post_reply outcome.Refused = reply.NoRoom

-- A parent of that level that was split is itself to be posted, one level higher.
abbrev pub posted_answer : ℕ → PostReply → Answer
posted_answer level (reply.Done separator) = answer.Post posted.Done (post_hint (level + 1) separator)
posted_answer level reply.Already = answer.Post posted.Already None
posted_answer level reply.Stale = answer.Post posted.Stale None
posted_answer level reply.NoRoom = answer.Post posted.NoRoom None
posted_answer level reply.TooTall = answer.Post posted.TooTall None

abbrev pub post_next_in : PostStage → Action
post_next_in New = act.Begin
post_next_in (Coming a) = approach_next a
post_next_in (Growing g) = growth_next g
post_next_in (Walking w) = act.Get w.child
post_next_in (Editing c) = edit_next c
post_next_in (Staying x r) = act.Open x
post_next_in (Ending r) = act.End
post_next_in (Over r) = act.End

abbrev pub post_needs_in : PostStage → Option (ℕ × ℕ)
post_needs_in New = None
post_needs_in (Coming a) = None
post_needs_in (Growing g) = growth_needs g
post_needs_in (Walking w) = None
post_needs_in (Editing c) = edit_needs c
post_needs_in (Staying x r) = None
post_needs_in (Ending r) = None
post_needs_in (Over r) = None

abbrev pub post_answer_in : ℕ → PostStage → Option Answer
post_answer_in level New = None
post_answer_in level (Coming a) = None
post_answer_in level (Growing g) = None
post_answer_in level (Walking w) = None
post_answer_in level (Editing c) = None
post_answer_in level (Staying x r) = None
post_answer_in level (Ending r) = None
post_answer_in level (Over r) = Some (posted_answer level r)

-- In a tree that has only that many levels: too few levels have no such parent; where one level is missing, it is made, if
-- the tree may have it.
abbrev pub PostLacks : ℕ → ℕ → PostStage → Type 0
PostLacks level levels (Ending reply.Stale) = levels < level
PostLacks level levels (Ending reply.TooTall) = (levels ≡ level) × (level ≡ 12)
PostLacks level levels (Growing growth.Latching) = (levels ≡ level) × (level ≢ 12)
PostLacks level levels stage = ⊥

-- At the parent x: it lists the key, or the walk to the child that covers the key begins with the key's child.
abbrev pub PostArrives : ℕ → ℕ → Inner → PostStage → Type 0
PostArrives key x parent (Staying y reply.Already) = (y ≡ x) × ((child : ℕ) × ((node_of (InnerPage parent)).look key ≡ Some child))
PostArrives key x parent (Walking w) = (w.at ≡ x) × (w.key ≡ key) × (w.parent ≡ parent) × IsChildOf (node_of (InnerPage parent)).look key w.child
PostArrives key x parent stage = ⊥

-- the walk cannot go on to the page that covers the key
abbrev pub IsLost : Step → Type 0
IsLost Again = Unit {0}
IsLost (Right y) = y ≡ 0
IsLost (Down y) = Unit {0}
IsLost Here = ⊥

-- A walk has got c, on its way to the page one level below the parent that covers the key. Where that page's low is the
-- key, the parent is to list it; where its low is another key, there is nothing to list. A walk that is lost opens the
-- parent and begins again.
abbrev pub PostWalks : ℕ → Walk → Page → PostStage → Type 0
PostWalks level w c (Walking v) = (v.at ≡ w.at) × (v.key ≡ w.key) × (v.parent ≡ w.parent) × Leads c w.key (level - 1) (Right v.child)
PostWalks level w c (Editing edit) = Leads c w.key (level - 1) Here × ((node_of c).shape.low ≡ w.key) × EntersPair w.at (InnerPage w.parent) w.key w.child edit
PostWalks level w c (Staying x reply.Stale) = (x ≡ w.at) × Leads c w.key (level - 1) Here × ((node_of c).shape.low ≢ w.key)
PostWalks level w c (Coming a) = (a ≡ Leaving w.at None) × ((o : Step) × Leads c w.key (level - 1) o × IsLost o)
PostWalks level w c stage = ⊥

-- By what became of the way to the parent.
abbrev pub PostComes : ℕ → ℕ → Came → PostStage → Type 0
PostComes level key (come.NoLevel levels) new = PostLacks level levels new
PostComes level key (come.On a) new = new ≡ Coming a
PostComes level key (come.ToParent x parent) new = PostArrives key x parent new

-- When a growth is over, the way begins again; where there was no room, the post ends.
abbrev pub PostGoes : ℕ → ℕ → PostStage → Seen → PostStage → Type 0
PostGoes level key New seen.Done (Coming a) = a ≡ Start
PostGoes level key (Coming a) what new = (m : Came) × Comes level key a what m × PostComes level key m new
PostGoes level key (Growing g) what (Growing h) = Grows level g what (grew.On h)
PostGoes level key (Growing g) what (Coming a) = Grows level g what grew.Grown × (a ≡ Start)
PostGoes level key (Growing g) what (Ending r) = Grows level g what grew.Refused × (r ≡ reply.NoRoom)
PostGoes level key (Walking w) (seen.Words c) new = PostWalks level w c new
PostGoes level key (Editing c) what (Editing d) = Changes c what (edit.On d)
PostGoes level key (Editing c) what (Ending r) = (o : Outcome) × Changes c what (edit.Over o) × (r ≡ post_reply o)
PostGoes level key (Staying x r) seen.Done (Ending last) = last ≡ r
PostGoes level key (Ending r) seen.Done (Over last) = last ≡ r
PostGoes level key old what new = ⊥

abbrev pub post_next : Post → Action
post_next p = post_next_in p.stage

abbrev pub post_needs : Post → Option (ℕ × ℕ)
post_needs p = post_needs_in p.stage

abbrev pub post_answer : Post → Option Answer
post_answer p = post_answer_in p.level p.stage

abbrev pub PostTakes : Post → Seen → Post → Type 0
PostTakes old what new = (new.level ≡ old.level) × (new.key ≡ old.key) × PostGoes old.level old.key old.stage what new.stage
