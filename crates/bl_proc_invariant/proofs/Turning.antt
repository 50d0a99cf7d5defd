-- Every turn of every process keeps a world good, and the world after it is given.
use Rattle.std.proofs.Common.{ℕ, ◌≡◌, None, [], ap, ◌∙◌, refl, subst}
use Rattle.bl_page.specs.declared.machine.Missed.{Missed}
use Rattle.bl_page.specs.Machine.{Name, State}
use Rattle.bl_page.specs.Machine.Act.{Miss}
use Rattle.bl_page.specs.declared.page.Page.{Page}
use Rattle.bl_claims.specs.Trails.{Mark}
use Rattle.bl_tree_worlds.proofs.Pushes.{HasSaid-silent}
use Rattle.bl_tree_worlds.specs.Worlds.{World, IsHeld, IsRelied, IsGood, silent}
use Rattle.bl_tree_worlds.proofs.Frames.{Each-map}
use Rattle.bl_proc_steps.specs.declared.acts.Seen.{Seen}
use Rattle.bl_proc.specs.declared.kinds.Proc.{Proc}
use Rattle.bl_proc.specs.declared.kinds.Proc.TheVariants.{Find, Write, Post, Part, Compress, Reclaim, Lower, InsertPost}
use Rattle.bl_proc.specs.Processes.{next_of, Takes}
use Rattle.bl_proc_invariant.specs.Turns.{event_of, IsObserved, IsShown, Does, Turned}
use Rattle.bl_proc_invariant.specs.Tables.{alone}
use Rattle.bl_proc_invariant.specs.Knowing.{Run, know_of, know, know_find, know_part, know_write, know_post, know_compress, compress_got, write_got, post_got, post_child, know_climb, climb_got, climb_child, end_of_proc, got_next, child_next, time_next, run_next}
use Rattle.bl_proc_invariant.proofs.Acts.{watched}
use Rattle.bl_proc_invariant.proofs.Finding.{find_turn}
use Rattle.bl_proc_invariant.proofs.Listing.{part_turn}
use Rattle.bl_proc_invariant.proofs.Writing.{write_turn}
use Rattle.bl_proc_invariant.proofs.Posting.{post_turn}
use Rattle.bl_proc_invariant.proofs.CompressTurn.{compress_turn}
use Rattle.bl_proc_invariant.proofs.Reclaiming.{reclaim_turn}
use Rattle.bl_proc_invariant.proofs.Lowering.{lower_turn}
use Rattle.bl_proc_invariant.proofs.Climbing.{climb_turn}
use Rattle.bl_proc_deterministic.proofs.KindCases.{write_case, post_case, compress_case, reclaim_case, lower_case, climb_case}

state_turn : (w : World Run) (p : Name) (got : ℕ → Page) (child time : ℕ) (old new : Proc) (b : Run) (what : Seen) (s : State Page) → IsGood know w → know (w.proc p) ≡ know_of got child time old → know b ≡ know_of (got_next got old what) (child_next child old) (time_next w.now time old) new → Takes old what new → IsObserved w.now w.size (next_of old) what → IsShown w.now p time (next_of old) what → Does w.now p (event_of (end_of_proc old) (next_of old) what) s → Turned know w p (event_of (end_of_proc old) (next_of old) what) s b
state_turn w p got child time (Find a) (Find c) b what s g before then t observed shown does =
    find_turn know w g p b a.key a.stage c.stage what s before (subst (λ k. know b ≡ know_find k c.stage) t.0 then) t.1 observed does
state_turn w p got child time (Write a) (Write c) b what s g before then t observed shown does =
    write_turn know w g p b [] a.key a.write (write_case a.key a.write a.stage what c.stage t.2) got s before (subst (λ k. know b ≡ know_write [] k a.write (write_got got a.stage what) c.stage) t.0 (subst (λ d. know b ≡ know_write [] c.key d (write_got got a.stage what) c.stage) t.1 then)) observed does
state_turn w p got child time (Post a) (Post c) b what s g before then t observed shown does =
    post_turn know w g p b alone a.level a.key a.least a.most (post_case a.level a.key a.stage what c.stage t.2) (λ r e. refl) got child s before (subst (λ l. know b ≡ know_post alone l a.key (post_got got a.stage what) (post_child child a.stage) c.stage) t.0 (subst (λ k. know b ≡ know_post alone c.level k (post_got got a.stage what) (post_child child a.stage) c.stage) t.1 then)) observed does
state_turn w p got child time (Part a) (Part c) b what s g before then t observed shown does =
    part_turn know w g p b a.from a.stage c.stage what s before (subst (λ k. know b ≡ know_part k c.stage) t.0 then) t.1 observed does
state_turn w p got child time (Reclaim a) (Reclaim c) b what s g before then t observed shown does =
    reclaim_turn know w g p b a.page time (reclaim_case a.stage what c.stage t.1) s before then shown does
state_turn w p got child time (Compress a) (Compress c) b what s g before then t observed shown does =
    compress_turn know w g p b a.level a.key a.least a.most (compress_case a.level a.key a.waits a.stage what c.stage t.3) got s before (subst (λ l. know b ≡ know_compress l a.key (compress_got got a.stage what) c.stage) t.0 (subst (λ k. know b ≡ know_compress c.level k (compress_got got a.stage what) c.stage) t.1 then)) observed does
state_turn w p got child time (Lower a) (Lower c) b what s g before then t observed shown does =
    lower_turn know w g p b (lower_case a.stage what c.stage t) got s before then observed does
state_turn w p got child time (InsertPost a) (InsertPost c) b what s g before then t observed shown does =
    climb_turn w g p a.key a.placing a.path c.path got child time (climb_case c.path a.stage what c.stage t.3) a.stands t.2 s b before (subst (λ k. know b ≡ know_climb k a.placing c.path (climb_got got a.stage what) (climb_child child a.stage) c.stage) t.0 (subst (λ v. know b ≡ know_climb c.key v c.path (climb_got got a.stage what) (climb_child child a.stage) c.stage) t.1 then)) observed does
state_turn w p got child time old new b what s g before then t observed shown does = absurd t

-- Process p, which is a, was told this of its next action, truly, and goes to that state: from a good world this leads to a
-- good world, in which p is in that state, and whose trail has one mark more.
pub turn : (w : World Run) (p : Name) (a : Run) (new : Proc) (what : Seen) (s : State Page) → w.proc p ≡ a → IsGood know w → Takes a.state what new → IsObserved w.now w.size (next_of a.state) what → IsShown w.now p a.time (next_of a.state) what → Does w.now p (event_of (end_of_proc a.state) (next_of a.state) what) s → Turned know w p (event_of (end_of_proc a.state) (next_of a.state) what) s (run_next w.now a what new)
turn w p a new what s is g t observed shown does = state_turn w p a.got a.child a.time a.state new (run_next w.now a what new) what s g (ap know is) refl t observed shown does

-- A turn that is not fit is a miss, and changes nothing.
pub idle_turn : (w : World Run) (p : Name) (what : Missed) (s : State Page) → IsGood know w → Does w.now p (Miss what) s → Turned know w p (Miss what) s (w.proc p)
idle_turn w p what s g does =
    let is = g.sure p in
    let m : Mark = silent p (Miss what) in
    watched know w g p (w.proc p) _ _ refl refl (Miss what) None None s tt tt does tt refl (λ x h. h) (λ it e. cc) (λ k. refl)
    (record {
      stage = is.stage;
      said = HasSaid-silent w.trail m p (know (w.proc p)).said refl is.said;
      holds = Each-map (IsHeld w p) _ (know (w.proc p)).holds (λ h i. (does.changes.1 h.at ∙ i.owner, i.status, i.sep, i.page)) is.holds;
      goes = is.goes;
      children = Each-map (IsRelied w p) _ (know (w.proc p)).children (λ c i. (does.changes.1 c.parent ∙ i.owner, i)) is.children;
      passed = is.passed;
      sound = is.sound;
    })
