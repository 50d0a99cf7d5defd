-- What each process has done, through every turn.
use Rattle.std.proofs.Common.{ℕ, ◌≡◌, ◌++◌, Option, Some, None, List, [], ◌∷◌, ap, sym, ◌∙◌, refl, subst, inl, inr}
use Rattle.bl_model.specs.declared.operation.Reply.{Reply}
use Rattle.bl_model.specs.declared.deciding.KeyWrite.{KeyWrite}
use Rattle.bl_page.specs.declared.page.Page.{Page}
use Rattle.bl_page.specs.declared.machine.Missed.{Missed}
use Rattle.bl_page.specs.Machine.{Name, State, Act}
use Rattle.bl_page.specs.Machine.Act.{Get, Miss}
use Rattle.bl_claims.specs.Trails.{Mark, Trail, Saw, marks_of}
use Rattle.bl_claims.specs.Meanings.{writes_in, writes_of}
use Rattle.bl_tree_worlds.proofs.Pushes.{name_cases, marks_of-own, marks_of-other}
use Rattle.bl_tree_worlds.specs.Worlds.{Goes, Stage, World}
use Rattle.bl_proc_steps.specs.declared.acts.Action.{Action}
use Rattle.bl_proc_steps.specs.declared.acts.Action.TheVariants as act
use Rattle.bl_proc_steps.specs.declared.acts.Seen.{Seen}
use Rattle.bl_proc_steps.specs.declared.acts.Seen.TheVariants as seen
use Rattle.bl_proc_steps.specs.declared.approach.Approach.TheVariants as way
use Rattle.bl_proc_steps.specs.declared.edit.Edit.TheVariants as edit
use Rattle.bl_proc_steps.specs.declared.growth.Growth.TheVariants as growth
use Rattle.bl_proc_writes.specs.declared.writing.WriteStage.{WriteStage}
use Rattle.bl_proc_writes.specs.declared.writing.WriteStage.TheVariants as write
use Rattle.bl_proc_writes.specs.declared.post.PostStage.{PostStage}
use Rattle.bl_proc_writes.specs.declared.post.PostStage.TheVariants as post
use Rattle.bl_proc_compress.specs.declared.compression.Compression.TheVariants.{LatchingLeft}
use Rattle.bl_proc_compress.specs.declared.compress.CompressStage.{CompressStage}
use Rattle.bl_proc_compress.specs.declared.compress.CompressStage.TheVariants as compress
use Rattle.bl_proc.specs.declared.lowering.LowerStage.{LowerStage}
use Rattle.bl_proc.specs.declared.lowering.LowerStage.TheVariants as lower
use Rattle.bl_proc_steps.specs.declared.lowering.Lowering.TheVariants.{Looking}
use Rattle.bl_proc.specs.declared.kinds.Proc.{Proc}
use Rattle.bl_proc.specs.declared.kinds.Proc.TheVariants.{Find, Write, Post, Part, Compress, Reclaim, Lower, InsertPost}
use Rattle.bl_proc.specs.Processes.{next_of, Takes}
use Rattle.bl_proc_writes.specs.declared.paths.Path.{Path}
use Rattle.bl_proc_writes.specs.declared.insert_post.ClimbStage.{ClimbStage}
use Rattle.bl_proc_writes.specs.declared.insert_post.ClimbStage.TheVariants as climb
use Rattle.bl_proc_writes.specs.Stands.{IsPosting, Stands}
use Rattle.bl_proc_invariant.proofs.ClimbingLogs.{climb_on, climb_stays}
use Rattle.bl_proc_invariant.specs.Turns.{event_of, IsObserved, Turned}
use Rattle.bl_proc_invariant.specs.Logs.{climb_log, proc_log, write_log, post_log, compress_log, lower_log, AllLogs}
use Rattle.bl_proc_invariant.specs.Tables.{Carried, alone}
use Rattle.bl_proc_invariant.specs.Knowing.{Run, know_of, know, know_write, path_goes, inserted, know_climb, know_post, know_compress, know_lower, end_of_proc, run_next}
use Rattle.bl_proc_invariant.proofs.Logging.{post_on, post_stays}
use Rattle.bl_proc_invariant.proofs.Doing.{compress_on, compress_stays}
use Rattle.bl_proc_invariant.proofs.LoweringLogs.{lower_on, lower_stays}
use Rattle.bl_proc_invariant.proofs.Looking.{looking_on, find_on, part_on}
use Rattle.bl_proc_invariant.proofs.Putting.{write_on, write_stays}
use Rattle.bl_proc_deterministic.proofs.KindCases.{find_case, part_case, write_case, post_case, compress_case, lower_case, climb_case}
use Rattle.bl_proc_writes.specs.declared.insert_post.Placing.{Placing}
use Rattle.bl_proc_writes.specs.Placings.{write_of}

-- a process that has not begun has nothing to tell
early_post : (carried : Carried) → (level key : ℕ) (got : ℕ → Page) (child : ℕ) (a : PostStage) → (know_post carried level key got child a).stage ≡ Stage.Early → (marks : Trail) → post_log level key a marks
early_post carried level key got child post.New e marks = tt
early_post carried level key got child (post.Coming way.Start) e marks = absurd (let f = e in cc)
early_post carried level key got child (post.Coming (way.Leaving x None)) e marks = absurd (let f = e in cc)
early_post carried level key got child (post.Growing growth.Latching) e marks = absurd (let f = e in cc)
early_post carried level key got child (post.Editing (edit.Putting x page)) e marks = absurd (let f = e in cc)
early_post carried level key got child old e marks = absurd (let f = e in cc)

early_compress : (level key : ℕ) (got : ℕ → Page) (a : CompressStage) → (know_compress level key got a).stage ≡ Stage.Early → (marks : Trail) → writes_of marks ≡ [] → compress_log level key a marks
early_compress level key got compress.New e marks none = none
early_compress level key got (compress.Coming way.Start) e marks none = absurd (let f = e in cc)
early_compress level key got (compress.Coming (way.Leaving x None)) e marks none = absurd (let f = e in cc)
early_compress level key got (compress.Compressing (LatchingLeft h)) e marks none = absurd (let f = e in cc)
early_compress level key got old e marks none = absurd (let f = e in cc)

-- a post within an insertion has begun
not_early : (carried : Carried) → (level key : ℕ) (got : ℕ → Page) (child : ℕ) (a : PostStage) → IsPosting a → (know_post carried level key got child a).stage ≡ Stage.Early → ⊥
not_early carried level key got child post.New h e = absurd h
not_early carried level key got child (post.Coming way.Start) h e = (let f = e in cc)
not_early carried level key got child (post.Coming (way.Leaving x None)) h e = (let f = e in cc)
not_early carried level key got child (post.Growing growth.Latching) h e = (let f = e in cc)
not_early carried level key got child (post.Editing (edit.Putting x page)) h e = (let f = e in cc)
not_early carried level key got child old h e = (let f = e in cc)

early_write : (goes : List Goes) → (key : ℕ) (does : KeyWrite) (got : ℕ → Page) (a : WriteStage) → (know_write goes key does got a).stage ≡ Stage.Early → (marks : Trail) → writes_of marks ≡ [] → write_log does a marks
early_write goes key does got write.New e marks none = none
early_write goes key does got (write.Coming way.Start) e marks none = absurd (let f = e in cc)
early_write goes key does got (write.Coming (way.Leaving x None)) e marks none = absurd (let f = e in cc)
early_write goes key does got (write.Editing noted (edit.Putting x page)) e marks none = absurd (let f = e in cc)
early_write goes key does got old e marks none = absurd (let f = e in cc)

early_lower : (got : ℕ → Page) (a : LowerStage) → (know_lower got a).stage ≡ Stage.Early → (marks : Trail) → writes_of marks ≡ [] → lower_log a marks
early_lower got lower.New e marks none = none
early_lower got (lower.Sinking Looking) e marks none = absurd (let f = e in cc)
early_lower got old e marks none = absurd (let f = e in cc)

early_climb : (key : ℕ) (placing : Placing) (path : Path) (got : ℕ → Page) (child : ℕ) (a : ClimbStage) → Stands key placing path a → (know_climb key placing path got child a).stage ≡ Stage.Early → (marks : Trail) → writes_of marks ≡ [] → climb_log placing a marks
early_climb key placing path got child (climb.Writing v) stands e marks none = early_write (path_goes path) key (write_of placing) got v.stage e marks none
early_climb key placing path got child (climb.Posting q) stands e marks none = absurd (not_early (inserted key placing path) q.level q.key got child q.stage stands e)
early_climb key placing path got child old stands e marks none = absurd (let f = e in cc)

early_state : (got : ℕ → Page) (child time : ℕ) (a : Proc) → (know_of got child time a).stage ≡ Stage.Early → (marks : Trail) → writes_of marks ≡ [] → proc_log a marks
early_state got child time (Find a) e marks none = none
early_state got child time (Write a) e marks none = early_write [] a.key a.write got a.stage e marks none
early_state got child time (Post a) e marks none = early_post alone a.level a.key got child a.stage e marks
early_state got child time (Part a) e marks none = none
early_state got child time (Compress a) e marks none = early_compress a.level a.key got a.stage e marks none
early_state got child time (Reclaim a) e marks none = tt
early_state got child time (Lower a) e marks none = early_lower got a.stage e marks none
early_state got child time (InsertPost a) e marks none = early_climb a.key a.placing a.path got child a.stage a.stands e marks none

pub early_log : (b : Run) → (know b).stage ≡ Stage.Early → (marks : Trail) → writes_of marks ≡ [] → proc_log b.state marks
early_log b e marks none = early_state b.got b.child b.time b.state e marks none

same_words : (c d : Page) → seen.Words c ≡ seen.Words d → c ≡ d
same_words c d e = cc

-- what a process was told of a page is what the event saw
pub saw_words : (reply : Option Reply) (s : State Page) (size : ℕ) (saw : Option Page) (action : Action) (what : Seen) → IsObserved s size action what → Saw s (event_of reply action what) saw → (y : ℕ) (d : Page) → event_of reply action what ≡ Get y → what ≡ seen.Words d → saw ≡ Some d
saw_words reply s size saw act.Begin (seen.Words c) observed is y d e f = absurd (let g = e in cc)
saw_words reply s size saw act.End (seen.Words c) observed is y d e f = absurd (let g = e in cc)
saw_words reply s size saw (act.Get x) (seen.Words c) observed is y d e f = is ∙ ap Some (sym observed ∙ same_words c d f)
saw_words reply s size saw (act.Put x page) (seen.Words c) observed is y d e f = absurd (let g = e in cc)
saw_words reply s size saw (act.Latch x) (seen.Words c) observed is y d e f = absurd (let g = e in cc)
saw_words reply s size saw act.Take (seen.Words c) observed is y d e f = absurd (let g = e in cc)
saw_words reply s size saw (act.Open x) (seen.Words c) observed is y d e f = absurd (let g = e in cc)
saw_words reply s size saw (act.Retire x) (seen.Words c) observed is y d e f = absurd (let g = e in cc)
saw_words reply s size saw (act.Look n) (seen.Words c) observed is y d e f = absurd (let g = e in cc)
saw_words reply s size saw (act.See x) (seen.Words c) observed is y d e f = absurd (let g = e in cc)
saw_words reply s size saw (act.Probe x) (seen.Words c) observed is y d e f = absurd (let g = e in cc)
saw_words reply s size saw (act.Release x) (seen.Words c) observed is y d e f = absurd (let g = e in cc)
saw_words reply s size saw old what observed is y d e f = absurd (let g = f in cc)

pub log_turn : (old new : Proc) (what : Seen) (marks : Trail) (m : Mark) → Takes old what new → m.event.act ≡ event_of (end_of_proc old) (next_of old) what → ((x : ℕ) (c : Page) → m.event.act ≡ Get x → what ≡ seen.Words c → m.saw ≡ Some c) → proc_log old marks → proc_log new (marks ++ m ∷ [])
log_turn (Post a) (Post c) what marks m t did saw h =
    subst (λ l. post_log l c.key c.stage (marks ++ m ∷ [])) (sym t.0) (subst (λ k. post_log a.level k c.stage (marks ++ m ∷ [])) (sym t.1) (post_on marks m a.level a.key a.least (post_case a.level a.key a.stage what c.stage t.2) did saw h))
log_turn (Write a) (Write c) what marks m t did saw h =
    subst (λ d. write_log d c.stage (marks ++ m ∷ [])) (sym t.1) (write_on marks m (write_case a.key a.write a.stage what c.stage t.2) did h)
log_turn (Reclaim a) (Reclaim c) what marks m t did saw h = tt
log_turn (Compress a) (Compress c) what marks m t did saw h =
    subst (λ l. compress_log l c.key c.stage (marks ++ m ∷ [])) (sym t.0) (subst (λ k. compress_log a.level k c.stage (marks ++ m ∷ [])) (sym t.1) (compress_on marks m a.level a.key a.least (compress_case a.level a.key a.waits a.stage what c.stage t.3) did saw h))
log_turn (Lower a) (Lower c) what marks m t did saw h = lower_on marks m (lower_case a.stage what c.stage t) did saw h
log_turn (Find a) (Find c) what marks m t did saw h = find_on marks m (find_case a.key a.stage what c.stage t.1) did h
log_turn (Part a) (Part c) what marks m t did saw h = part_on marks m (part_case a.from a.stage what c.stage t.1) did h
log_turn (InsertPost a) (InsertPost c) what marks m t did saw h =
    subst (λ v. climb_log v c.stage (marks ++ m ∷ [])) (sym t.1) (climb_on marks m a.key a.placing a.path c.path (climb_case c.path a.stage what c.stage t.3) a.stands did saw h)
log_turn old new what marks m t did saw h = absurd t

log_stays : {what : Missed} (old : Proc) (marks : Trail) (m : Mark) → m.event.act ≡ Miss what → proc_log old marks → proc_log old (marks ++ m ∷ [])
log_stays (Find a) marks m did h = looking_on marks m (ap writes_in did) h
log_stays (Write a) marks m did h = write_stays marks m (ap writes_in did) a.write a.stage h
log_stays (Part a) marks m did h = looking_on marks m (ap writes_in did) h
log_stays (Compress a) marks m did h = compress_stays marks m a.level a.key did a.stage h
log_stays (Reclaim a) marks m did h = tt
log_stays (Lower a) marks m did h = lower_stays marks m did a.stage h
log_stays (InsertPost a) marks m did h = climb_stays marks m (ap writes_in did) (λ x o. (let e = sym did ∙ o in cc)) a.placing a.stage h
log_stays (Post a) marks m did h = post_stays marks m a.level a.key a.least (ap writes_in did) (λ x o. (let e = sym did ∙ o in cc)) a.stage h

-- the logs of all processes after a turn of p
logs_after : (w : World Run) (p : Name) (a : Act Page Reply) (s : State Page) (b : Run) (t : Turned know w p a s b) → AllLogs w → ((marks : Trail) (m : Mark) → marks ≡ marks_of p w.trail → m ≡ record { event = record { process = p; act = a }; saw = t.saw; said = t.said } → proc_log b.state (marks ++ m ∷ [])) → AllLogs t.next
logs_after w p a s b t logs mine q =
    let m : Mark = record { event = record { process = p; act = a }; saw = t.saw; said = t.said } in
    elim (name_cases q p) [
      | inl e ↦
          let state : t.next.proc q ≡ b = ap t.next.proc e ∙ t.extends.proc.at in
          let trail : marks_of q t.next.trail ≡ marks_of p w.trail ++ m ∷ [] = ap (λ n. marks_of n t.next.trail) e ∙ (ap (marks_of p) t.extends.trail ∙ marks_of-own p w.trail m refl) in
          subst (λ r. proc_log r.state (marks_of q t.next.trail)) (sym state) (subst (proc_log b.state) (sym trail) (mine (marks_of p w.trail) m refl refl))
      | inr n ↦
          let trail : marks_of q t.next.trail ≡ marks_of q w.trail = ap (marks_of q) t.extends.trail ∙ marks_of-other q w.trail m (λ e. n (sym e)) in
          subst (λ r. proc_log r.state (marks_of q t.next.trail)) (sym (t.extends.proc.others q n)) (subst (proc_log (w.proc q).state) (sym trail) (logs q))
    ]

pub turn_logs : (w : World Run) (p : Name) (a : Run) (new : Proc) (what : Seen) (s : State Page) (did : Act Page Reply) → w.proc p ≡ a → AllLogs w → Takes a.state what new → IsObserved w.now w.size (next_of a.state) what → did ≡ event_of (end_of_proc a.state) (next_of a.state) what → (turned : Turned know w p did s (run_next w.now a what new)) → AllLogs turned.next
turn_logs w p a new what s did is logs t observed same turned =
    logs_after w p did s (run_next w.now a what new) turned logs (λ marks m here mark.
    let seen_it = subst (λ e. Saw w.now e turned.saw) same turned.extends.saw in
    log_turn a.state new what marks m t (ap (λ z. z.event.act) mark ∙ same)
    (λ x c e f. ap (λ z. z.saw) mark ∙ saw_words (end_of_proc a.state) w.now w.size turned.saw (next_of a.state) what observed seen_it x c (sym (ap (λ z. z.event.act) mark ∙ same) ∙ e) f)
    (subst (λ r. proc_log r.state marks) is (subst (proc_log (w.proc p).state) (sym here) (logs p))))

pub miss_logs : (w : World Run) (p : Name) (what : Missed) (s : State Page) → AllLogs w → (turned : Turned know w p (Miss what) s (w.proc p)) → AllLogs turned.next
miss_logs w p what s logs turned =
    logs_after w p (Miss what) s (w.proc p) turned logs (λ marks m here mark.
    log_stays (w.proc p).state marks m (ap (λ z. z.event.act) mark) (subst (proc_log (w.proc p).state) (sym here) (logs p)))
