-- Every turn of an insertion that posts keeps a world good: the write or the post within it takes its turn, after the page from
-- which it goes down is noted; and where that is to end, the next post may stand there instead.
use Rattle.std.proofs.Common.{ℕ, ◌≡◌, ◌+◌, ◌<◌, Option, None, Some, arith, ap, ◌∙◌, refl, subst}
use Rattle.bl_model.specs.declared.operation.Reply.TheVariants as reply
use Rattle.bl_model.specs.Writes.{write_op, replied}
use Rattle.bl_page.specs.declared.page.Page.{Page}
use Rattle.bl_page.specs.Machine.{Name, State}
use Rattle.bl_page.specs.Nodes.{unbounded}
use Rattle.bl_claims.specs.Trails.{HasSaid}
use Rattle.bl_tree_worlds.specs.Worlds.{World, IsSure, IsGood}
use Rattle.bl_tree_worlds.proofs.After.{is_put_name}
use Rattle.bl_proc_steps.specs.declared.acts.Seen.{Seen}
use Rattle.bl_answers.specs.declared.answers.Hint.TheVariants as hint
use Rattle.bl_proc_writes.specs.declared.paths.Path.{Path}
use Rattle.bl_proc_writes.specs.declared.post.Post.{Post}
use Rattle.bl_proc_writes.specs.declared.post.PostReply.TheVariants as listed
use Rattle.bl_proc_writes.specs.declared.writing.Write.{Write}
use Rattle.bl_proc_writes.specs.declared.writing.WriteReply.TheVariants as written
use Rattle.bl_proc_writes.specs.declared.writing.WriteStage.{WriteStage}
use Rattle.bl_proc_writes.specs.declared.writing.WriteStage.TheVariants as write
use Rattle.bl_proc_writes.specs.declared.insert_post.Climbed.{Climbed}
use Rattle.bl_proc_writes.specs.declared.insert_post.Climbed.TheVariants as climbed
use Rattle.bl_proc_writes.specs.declared.insert_post.ClimbStage.{ClimbStage}
use Rattle.bl_proc_writes.specs.declared.insert_post.ClimbStage.TheVariants as climb
use Rattle.bl_proc.specs.declared.kinds.Proc.TheVariants as proc
use Rattle.bl_proc_writes.specs.Paths.{page_at, from_page}
use Rattle.bl_proc_writes.specs.Stands.{IsPosting, BeginsBlank, Stands}
use Rattle.bl_proc_writes.specs.InsertPosts.{WriteNotes, ClimbNotes, climb_next_in}
use Rattle.bl_proc_invariant.specs.Turns.{event_of, IsObserved, Does, Turned}
use Rattle.bl_proc_invariant.specs.Tables.{know_approach}
use Rattle.bl_proc_invariant.specs.Knowing.{Run, know, path_goes, climbed_said, LeavesClimb, inserted, know_write, know_post, know_climb, climb_end, climb_got, climb_child, write_got, post_got, post_child}
use Rattle.bl_proc_invariant.proofs.Ends.{end_turn}
use Rattle.bl_proc_invariant.proofs.Instead.{with_proc, turned_instead, then_instead}
use Rattle.bl_proc_invariant.proofs.Noting.{from_sure, from_holds, write_noted, post_noted}
use Rattle.bl_proc_invariant.proofs.Writing.{write_turn}
use Rattle.bl_proc_invariant.proofs.Posting.{post_turn}
use Rattle.bl_proc_deterministic.proofs.KindCases.{WriteCase, PostCase, ClimbCase}
use Rattle.bl_proc_writes.specs.declared.insert_post.Placing.{Placing}
use Rattle.bl_proc_writes.specs.declared.insert_post.Placing.TheVariants as place
use Rattle.bl_proc_writes.specs.Placings.{write_of}

-- a write whose key was not there says that its pair has entered
pub changed_inserts : (placing : Placing) (there : Option ℕ) → there ≡ None → replied (write_of placing) there ≡ reply.Inserted
changed_inserts (place.Insert value) None none = refl
changed_inserts (place.Put value) None none = refl
changed_inserts placing (Some other) none = absurd (let f = none in cc)

begins_noted : (key : ℕ) (b : WriteStage) (what : Seen) (old new : Path) → WriteNotes key b what old new → BeginsBlank old b → BeginsBlank new b
begins_noted key write.New what old new t h = rw t h
begins_noted key (write.Coming a) what old new t h = tt
begins_noted key (write.Keeping x there) what old new t h = tt
begins_noted key (write.Editing noted c) what old new t h = tt
begins_noted key (write.Ending r) what old new t h = tt
begins_noted key (write.Over r) what old new t h = tt

module _ (w : World Run) (g : IsGood know w) (p : Name) (key : ℕ) (placing : Placing) (old new : Path) (got : ℕ → Page) (child time : ℕ) where
  -- the insertion in that stage, which has noted what it saw
  abbrev at_write : (v : Write) → Stands key placing new (climb.Writing v) → Run
  at_write v stands = record { state = proc.InsertPost (record { key = key; placing = placing; path = new; stage = climb.Writing v; stands = stands }); got = got; child = child; time = time }

  abbrev at_post : (q : Post) → Stands key placing new (climb.Posting q) → Run
  at_post q stands = record { state = proc.InsertPost (record { key = key; placing = placing; path = new; stage = climb.Posting q; stands = stands }); got = got; child = child; time = time }

  -- it is to end, if no post follows
  abbrev at_end : Climbed → Run
  at_end r = record { state = proc.InsertPost (record { key = key; placing = placing; path = new; stage = climb.Ending r; stands = tt }); got = got; child = child; time = time }

  -- the post that follows
  follows : (r : Climbed) (separator level : ℕ) (c : Run) → know c ≡ know_approach (inserted key placing new) level separator (from_page (page_at new level)) → 0 < level → (v : World Run) → IsSure v p (know (at_end r)) → HasSaid v.trail p (inserted key placing new).said → separator < unbounded → IsSure v p (know c)
  follows r separator level c then least v is said below =
      rw then (from_sure v p (inserted key placing new) new level separator (page_at new level) refl refl least below is.stage said is.goes)

  write_within : (v : Write) → Stands key placing old (climb.Writing v) → {b : WriteStage} {what : Seen} → WriteCase v.key v.write v.stage what b → ClimbNotes (climb.Writing v) what old new → (s : State Page) (c : Run) → know (w.proc p) ≡ know_climb key placing old got child (climb.Writing v) → know c ≡ know_write (path_goes new) key (write_of placing) (write_got got v.stage what) b → IsObserved w.now w.size (climb_next_in (climb.Writing v)) what → Does w.now p (event_of (climb_end placing (climb.Writing v)) (climb_next_in (climb.Writing v)) what) s → Turned know w p (event_of (climb_end placing (climb.Writing v)) (climb_next_in (climb.Writing v)) what) s c
  write_within v stands {b} {what} h notes s c before then observed does =
      let noted : WriteNotes key v.stage what old new = subst (λ k. WriteNotes k v.stage what old new) stands.0 notes in
      let here : Stands key placing new (climb.Writing v) = (stands.0, stands.1, stands.2, begins_noted key v.stage what old new noted stands.3) in
      let turn : WriteCase key (write_of placing) v.stage what b = subst (λ d. WriteCase key d v.stage what b) stands.1 (subst (λ k. WriteCase k v.write v.stage what b) stands.0 h) in
      let good = write_noted know w g p (at_write v here) key (write_of placing) got v.stage what old new noted before refl observed in
      turned_instead know w p _ s (at_write v here) c
      (write_turn know (with_proc w p (at_write v here)) good p c (path_goes new) key (write_of placing) turn got s (ap know (is_put_name p (at_write v here) w.proc).at) then observed does)

  post_within : (q : Post) → Stands key placing old (climb.Posting q) → {b : _} {what : Seen} → PostCase q.level q.key q.stage what b → ClimbNotes (climb.Posting q) what old new → (s : State Page) (c : Run) → know (w.proc p) ≡ know_climb key placing old got child (climb.Posting q) → know c ≡ know_post (inserted key placing new) q.level q.key (post_got got q.stage what) (post_child child q.stage) b → IsObserved w.now w.size (climb_next_in (climb.Posting q)) what → Does w.now p (event_of None (climb_next_in (climb.Posting q)) what) s → Turned know w p (event_of None (climb_next_in (climb.Posting q)) what) s c
  post_within q stands {b} {what} h notes s c before then observed does =
      let good = post_noted know w g p (at_post q stands) (inserted key placing new).said q.level q.key got child q.stage what old new notes before refl observed in
      turned_instead know w p _ s (at_post q stands) c
      (post_turn know (with_proc w p (at_post q stands)) good p c (inserted key placing new) q.level q.key q.least q.most h (λ r e. absurd (subst IsPosting e stands)) got child s (ap know (is_put_name p (at_post q stands) w.proc).at) then observed does)

  pub climb_turn : {a b : ClimbStage} {what : Seen} → ClimbCase new a what b → Stands key placing old a → ClimbNotes a what old new → (s : State Page) (c : Run) → know (w.proc p) ≡ know_climb key placing old got child a → know c ≡ know_climb key placing new (climb_got got a what) (climb_child child a) b → IsObserved w.now w.size (climb_next_in a) what → Does w.now p (event_of (climb_end placing a) (climb_next_in a) what) s → Turned know w p (event_of (climb_end placing a) (climb_next_in a) what) s c
  climb_turn (ClimbCase.Wrote v what u h t) stands notes s c before then observed does = write_within v stands h notes s c before then observed does
  climb_turn (ClimbCase.Split v what there level separator q h t) stands notes s c before then observed does =
      let end = climbed.Unsplit (written.Done there (Some (hint.Post level separator))) in
      let then_post : know c ≡ know_approach (inserted key placing new) level separator (from_page (page_at new level)) = rw (t.0, t.1, t.2) at then in
      let none = from_holds (inserted key placing new) level separator (page_at new level) in
      let least : 0 < level = rw t.0 at q.least in
      then_instead know w p _ s (at_end end) c (ap (λ k. k.holds) then_post ∙ none.0) (ap (λ k. k.middle) then_post ∙ none.1)
      (λ u is. follows end separator level c then_post least u is (subst (λ z. HasSaid u.trail p (Some (record { op = write_op key (write_of placing); reply = z }))) (changed_inserts placing there is.sound.0) is.said) is.sound.1)
      (write_within v stands h notes s (at_end end) before refl observed does)
  climb_turn (ClimbCase.Unsplit v what r last h t) stands notes s c before then observed does = write_within v stands h notes s c before (rw t.1 at then) observed does
  climb_turn (ClimbCase.Posted q what u h t) stands notes s c before then observed does = post_within q stands h notes s c before (rw (t.0, t.1) at then) observed does
  climb_turn (ClimbCase.Higher q what separator u h t) stands notes s c before then observed does =
      let end = climbed.Posted q.level q.key (listed.Done (Some separator)) in
      let then_post : know c ≡ know_approach (inserted key placing new) (q.level + 1) separator (from_page (page_at new (q.level + 1))) = rw (t.0, t.1, t.2) at then in
      let none = from_holds (inserted key placing new) (q.level + 1) separator (page_at new (q.level + 1)) in
      then_instead know w p _ s (at_end end) c (ap (λ k. k.holds) then_post ∙ none.0) (ap (λ k. k.middle) then_post ∙ none.1)
      (λ v is. follows end separator (q.level + 1) c then_post (omega arith) v is is.said is.sound)
      (post_within q stands h notes s (at_end end) before refl observed does)
  climb_turn (ClimbCase.Finished q what r last h t) stands notes s c before then observed does = post_within q stands h notes s c before (rw t.1 at then) observed does
  climb_turn (ClimbCase.Ended r last t) stands notes s c before then observed does = end_turn know w g p c (climbed_said key placing r) (path_goes old) (LeavesClimb placing r) s before (rw t at then) does
