-- Where processes go in a small tree: a leaf, page 1, with the key 1 below the bound 9; a leaf, page 2, with the key 12 from
-- there on; and their parent, page 3, which lists page 1 alone.
use Rattle.std.proofs.Common.{◌≡◌, Some, None, [], ◌∷◌, arith, refl, inl, inr}
use Rattle.bl_page.specs.declared.page.Page.{Page}
use Rattle.bl_page.specs.declared.page.Page.TheVariants as page
use Rattle.bl_proc_steps.specs.declared.acts.Action.TheVariants as act
use Rattle.bl_proc_steps.specs.declared.acts.Seen.TheVariants as seen
use Rattle.bl_answers.specs.declared.answers.Answer.TheVariants as answer
use Rattle.bl_answers.specs.declared.answers.Posted.TheVariants as posted
use Rattle.bl_answers.specs.declared.answers.Hint.TheVariants as hint
use Rattle.bl_model.specs.declared.operation.Reply.TheVariants as reply
use Rattle.bl_proc_routes.specs.declared.routes.Step.TheVariants as onward
use Rattle.bl_proc_steps.specs.declared.descent.Descent.TheVariants as descent
use Rattle.bl_proc.specs.declared.searching.FindStage.TheVariants as find
use Rattle.bl_proc_steps.specs.declared.approach.Approach.TheVariants as approach
use Rattle.bl_proc_steps.specs.declared.approach.Approached.TheVariants as came
use Rattle.bl_proc_steps.specs.declared.approach.Came.TheVariants as come
use Rattle.bl_proc_steps.specs.declared.edit.Outcome.TheVariants as outcome
use Rattle.bl_proc_steps.specs.declared.edit.Edit.TheVariants as edit
use Rattle.bl_proc_steps.specs.declared.edit.Edited.TheVariants as changed
use Rattle.bl_model.specs.declared.deciding.KeyWrite.TheVariants.{Insert, Put, Delete, Change}
use Rattle.bl_proc_writes.specs.declared.writing.WriteStage.TheVariants as write
use Rattle.bl_proc_writes.specs.declared.writing.WriteReply.TheVariants.{Done}
use Rattle.bl_proc_steps.specs.declared.growth.Growth.TheVariants as growth
use Rattle.bl_proc_steps.specs.declared.growth.Grew.TheVariants as grew
use Rattle.bl_proc_writes.specs.declared.post.PostStage.TheVariants as post
use Rattle.bl_proc_writes.specs.declared.post.PostReply.TheVariants as listed
use Rattle.bl_proc_steps.specs.Given.{Gives}
use Rattle.bl_proc_routes.specs.Routes.{Leads}
use Rattle.bl_proc.specs.Searches.{FindGoes, found_answer}
use Rattle.bl_proc_steps.specs.Approaches.{Approaches}
use Rattle.bl_proc_steps.specs.Edits.{Changes, edit_needs}
use Rattle.bl_proc_writes.specs.Writes.{WriteGoes, write_reply, write_answer}
use Rattle.bl_proc_steps.specs.Growths.{Grows, Raises}
use Rattle.bl_proc_writes.specs.Posts.{PostGoes, posted_answer}
use Rattle.bl_proc_writes.specs.declared.paths.Path.{Path}
use Rattle.bl_proc_writes.specs.declared.post.Post.{Post}
use Rattle.bl_proc_writes.specs.declared.writing.Write.{Write}
use Rattle.bl_proc_writes.specs.declared.insert_post.ClimbStage.TheVariants.{Writing, Posting}
use Rattle.bl_proc_writes.specs.declared.insert_post.Climbed.TheVariants.{Posted, Unsplit}
use Rattle.bl_proc_writes.specs.declared.insert_post.Placing.TheVariants as place
use Rattle.bl_proc_writes.specs.Paths.{Notes}
use Rattle.bl_proc_writes.specs.InsertPosts.{climbed_answer, ClimbGoes}

abbrev left_leaf : Page
left_leaf = page.Leaf (record { low = 0; high = 9; right = 2; rows = record { items = (1, 10) ∷ [] }; bounds = omega arith; link = omega arith; few = omega arith; order = (omega arith, tt); cover = ((omega arith, omega arith), tt) })

abbrev right_leaf : Page
right_leaf = page.Leaf (record { low = 9; high = 0; right = 0; rows = record { items = (12, 120) ∷ [] }; bounds = omega arith; link = omega arith; few = omega arith; order = (omega arith, tt); cover = ((omega arith, omega arith), tt) })

abbrev parent : Page
parent = page.Inner (record { level = 1; low = 0; high = 0; right = 0; children = record { items = (0, 1) ∷ [] }; above_leaves = omega arith; below_limit = omega arith; bounds = omega arith; link = omega arith; few = omega arith; order = (omega arith, tt); cover = ((omega arith, omega arith), tt); first = refl; pages = ((omega arith, omega arith), tt) })

abbrev low_anchor : Page
low_anchor = page.Anchor (record { leftmost = record { items = 1 ∷ [] }; some = omega arith; few = omega arith; pages = ((omega arith, omega arith), tt) })

abbrev high_anchor : Page
high_anchor = page.Anchor (record { leftmost = record { items = 1 ∷ 3 ∷ [] }; some = omega arith; few = omega arith; pages = ((omega arith, omega arith), ((omega arith, omega arith), tt)) })

abbrev merged_away : Page
merged_away = page.Dead (record { level = 0; low = 9; right = 1; below_limit = omega arith; link = omega arith })

abbrev fallen_top : Page
fallen_top = page.Dead (record { level = 1; low = 0; right = 0; below_limit = omega arith; link = omega arith })

-- what may be refused, and what may not
take_refused : Gives act.Take (Some (1, 2)) seen.Refused
take_refused = refl

put_of_a_split_is_done : ¬ Gives (act.Put 2 right_leaf) None seen.Refused
put_of_a_split_is_done h = absurd cc

-- 12 on the way to its leaf
leaf_leads_right : Leads left_leaf 12 0 (onward.Right 2)
leaf_leads_right = (refl, inr (tt, omega arith))

leaf_is_here : Leads right_leaf 12 0 onward.Here
leaf_is_here = (tt, (omega arith, omega arith), refl)

parent_leads_down : Leads parent 12 0 (onward.Down 1)
parent_leads_down = (tt, (omega arith, omega arith), omega arith, record { key = 0; listed = refl; reached = omega arith; greatest = λ j c h le. grind arith })

dead_leads_right : Leads merged_away 12 0 (onward.Right 1)
dead_leads_right = (refl, inl (tt, λ e. absurd (omega (arith, e))))

fallen_leads_nowhere : Leads fallen_top 12 0 onward.Again
fallen_leads_nowhere = (λ h. refl, λ h. absurd h)

low_above_key : Leads right_leaf 5 0 onward.Again
low_above_key = ((λ h. absurd h), λ h. inl (omega arith))

-- a search for 12, and what it answers
find_goes_right : FindGoes 12 (find.Descending (descent.At 1)) (seen.Words left_leaf) (find.Descending (descent.At 2))
find_goes_right = inl leaf_leads_right

find_ends : FindGoes 12 (find.Descending (descent.At 2)) (seen.Words right_leaf) (find.Ending (Some 120))
find_ends = (leaf_is_here, refl)

found_it : found_answer (Some 120) ≡ answer.Op (reply.Found 120) None
found_it = refl

-- a writer latches the leftmost leaf at once where there is one level, and else goes down
way_to_the_only_leaf : Approaches 0 5 approach.Start (seen.Words low_anchor) (came.On (approach.Latching 1))
way_to_the_only_leaf = (refl, refl)

way_from_the_top : Approaches 0 5 approach.Start (seen.Words high_anchor) (came.On (approach.At 3))
way_from_the_top = (omega arith, refl)

way_down : Approaches 0 12 (approach.At 3) (seen.Words parent) (came.On (approach.Latching 1))
way_down = (onward.Down 1, parent_leads_down, (refl, refl))

way_across : Approaches 0 12 (approach.Latched 1) (seen.Words left_leaf) (came.On (approach.Leaving 1 (Some 2)))
way_across = (refl, (onward.Right 2, leaf_leads_right, refl))

way_ends : Approaches 0 12 (approach.Latched 2) (seen.Words right_leaf) (came.Here 2 right_leaf)
way_ends = (refl, refl, leaf_is_here)

-- a page that has room is put by one frame; where that is refused, it is opened
put_needs_a_frame : edit_needs (edit.Putting 1 left_leaf) ≡ Some (0, 1)
put_needs_a_frame = refl

put_refused : Changes (edit.Putting 1 left_leaf) seen.Refused (changed.On (edit.Opening 1 outcome.Refused))
put_refused = refl

-- an insertion of 12, which is there
insert_is_there : WriteGoes 12 (Insert 5) (write.Coming (approach.Latched 2)) (seen.Words right_leaf) (write.Keeping 2 (Some 120))
insert_is_there = (2, right_leaf, way_ends, (refl, refl, refl))

it_is_replaced : write_answer (Put 5) (Done (Some 120) None) ≡ answer.Op (reply.Replaced 120) None
it_is_replaced = refl

it_was_present : write_answer (Insert 5) (Done (Some 120) None) ≡ answer.Op (reply.Present 120) None
it_was_present = refl

-- a split is answered with its hint
split_hint : write_answer (Insert 5) (write_reply (record { there = None; thin = None }) (outcome.SplitAt 9)) ≡ answer.Op reply.Inserted (Some (hint.Post 1 9))
split_hint = refl

-- a deletion of 13, which is not there
delete_is_absent : WriteGoes 13 Delete (write.Coming (approach.Latched 2)) (seen.Words right_leaf) (write.Keeping 2 None)
delete_is_absent = (2, right_leaf, (refl, refl, (tt, (omega arith, omega arith), refl)), (refl, refl, refl))

-- a change of 12 from 7, which it has not, and one from 120, once it is done
it_differs : write_answer (Change 7 8) (Done (Some 120) None) ≡ answer.Op (reply.Differs 120) None
it_differs = refl

it_is_changed : write_answer (Change 120 8) (Done (Some 120) None) ≡ answer.Op reply.Changed None
it_is_changed = refl

-- a tree of one level gets page 3 as its top
raises : Raises (1 ∷ []) 3 parent high_anchor
raises = ((refl, refl, refl, refl, refl), refl)

other_was_faster : Grows 1 growth.Latched (seen.Words high_anchor) (grew.On growth.OpeningGrown)
other_was_faster few same = absurd (omega arith)

-- posts to level 1 and to level 2
post_grows : PostGoes 1 9 (post.Coming approach.Start) (seen.Words low_anchor) (post.Growing growth.Latching)
post_grows = (come.NoLevel 1, (omega arith, refl), (refl, λ same. absurd (omega arith)))

post_is_stale : PostGoes 2 9 (post.Coming approach.Start) (seen.Words low_anchor) (post.Ending listed.Stale)
post_is_stale = (come.NoLevel 1, (omega arith, refl), omega arith)

post_goes_to_the_parent : PostGoes 1 9 (post.Coming approach.Start) (seen.Words high_anchor) (post.Coming (approach.Latching 3))
post_goes_to_the_parent = (come.On (approach.Latching 3), (omega arith, (refl, refl)), refl)

post_of_a_parent : posted_answer 1 (listed.Done (Some 40)) ≡ answer.Post posted.Done (Some (hint.Post 2 40))
post_of_a_parent = refl

-- an insertion that posts: it notes page 3, the parent, when it goes down from there to its leaf
abbrev no_path : Path
no_path = record { pages = 0 ∷ 0 ∷ 0 ∷ 0 ∷ 0 ∷ 0 ∷ 0 ∷ 0 ∷ 0 ∷ 0 ∷ 0 ∷ [] }

abbrev by_three : Path
by_three = record { pages = 3 ∷ 0 ∷ 0 ∷ 0 ∷ 0 ∷ 0 ∷ 0 ∷ 0 ∷ 0 ∷ 0 ∷ 0 ∷ [] }

note_down : Notes 0 12 (approach.At 3) (seen.Words parent) no_path by_three
note_down = (onward.Down 1, parent_leads_down, refl)

-- its leaf was split at 9, which is to be posted to level 1, from that page on
abbrev splitting : Write
splitting = record { key = 12; write = Insert 5; stage = write.Editing (record { there = None; thin = None }) (edit.Opening 1 (outcome.SplitAt 9)) }

abbrev post_of_nine : Post
post_of_nine = record { level = 1; key = 9; stage = post.Coming (approach.Latching 3); least = omega arith; most = omega arith; below = tt }

goes_up : ClimbGoes by_three (Writing splitting) seen.Done (Posting post_of_nine)
goes_up = (None, 1, 9, (outcome.SplitAt 9, refl, refl), (refl, refl, refl))

-- with no page noted it would begin at the anchor
abbrev post_from_the_anchor : Post
post_from_the_anchor = record { level = 1; key = 9; stage = post.Coming approach.Start; least = omega arith; most = omega arith; below = tt }

goes_by_the_anchor : ClimbGoes no_path (Writing splitting) seen.Done (Posting post_from_the_anchor)
goes_by_the_anchor = (None, 1, 9, (outcome.SplitAt 9, refl, refl), (refl, refl, refl))

-- what it answers: the last post has listed its key, or met no room
climbed_it : climbed_answer (place.Insert 5) (Posted 1 9 (listed.Done None)) ≡ answer.InsertPost reply.Inserted (Some posted.Done) None
climbed_it = refl

-- a put that replaced what was there has split nothing
replaced_it : climbed_answer (place.Put 5) (Unsplit (Done (Some 120) None)) ≡ answer.InsertPost (reply.Replaced 120) None None
replaced_it = refl

met_no_room : climbed_answer (place.Insert 5) (Posted 1 9 listed.NoRoom) ≡ answer.InsertPost reply.Inserted (Some posted.NoRoom) (Some (hint.Post 1 9))
met_no_room = refl
