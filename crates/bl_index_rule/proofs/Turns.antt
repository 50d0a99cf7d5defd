-- A turn of the process that a hand runs, told truly what its next action gave.
use Rattle.std.proofs.Common.{ℕ, ◌≡◌, ◌≢◌, ◌⊎◌, ◌≤◌, ◌+◌, true, Some, List, length, set, refl, sym, ap, ◌∙◌, subst, arith}
use Rattle.std.proofs.lemmas.Bool.{false≢true}
use mathlib.Core.Option.{some}
use lib.ListN.{get_elem?}
use Rattle.bl_page.specs.declared.page.Page.{Page}
use Rattle.bl_page.specs.Machine.{Name, State, Act}
use Rattle.bl_page.specs.Machine as machine
use Rattle.bl_tree_worlds.specs.Worlds.{World, MayGet, IsGood}
use Rattle.bl_proc_steps.specs.declared.acts.Action.{Action}
use Rattle.bl_proc_steps.specs.declared.acts.Seen.{Seen}
use Rattle.bl_proc_steps.specs.declared.acts.Seen.TheVariants as seen
use Rattle.bl_proc.specs.declared.kinds.Proc.{Proc}
use Rattle.bl_proc.specs.Processes.{next_of, Takes}
use Rattle.bl_claims.specs.Trails.{marks_of}
use Rattle.bl_proc_invariant.specs.Logs.{proc_log}
use Rattle.bl_proc_invariant.specs.Turns.{event_of, IsObserved, IsShown, Does, Turned}
use Rattle.bl_proc_invariant.specs.Knowing.{Run, know, end_of_proc, run_next}
use Rattle.bl_proc_invariant.proofs.Turning.{turn}
use Rattle.bl_proc_invariant.proofs.Middles.{KeepsLogs}
use Rattle.bl_proc_invariant.proofs.Logged.{saw_words}
use Rattle.bl_proc_bounds.specs.Paces.{AllKept}
use Rattle.bl_proc_bounds.proofs.Turns.{state_kept}
use Rattle.bl_proc_deterministic.specs.Courses.{GoesOn}
use Rattle.bl_one_moment.specs.Moments.{put_of, puts_at}
use Rattle.bl_store_rule.specs.Pages.{Owner, Stage, Idle, Running, Pages, Stands, HasVersion, observed}
use Rattle.bl_index_rule.specs.declared.known.PassState.{PassState}
use Rattle.bl_claims.specs.Seeing.{name}
use Rattle.bl_index_rule.specs.Simulation.{Shows, owner_in, IsAtStage, Simulates}
use Rattle.bl_index_rule.specs.Observed.{Notes, Steps, Goes}
use Rattle.bl_index_rule.proofs.Doings.{log_after}
use Rattle.bl_index_rule.proofs.Shown.{same_owner}
use Rattle.bl_index_rule.proofs.Logs.{next_logs}
use Rattle.bl_index_rule.proofs.Advance.{next_known, advance, next_notes, next_saw, next_near, next_own, next_stage}

-- the turn of a process of that state
pub turn_of : (w : World Run) (p : Name) (old : Proc) (what : Seen) (s : State Page) → IsGood know w → (w.proc p).state ≡ old → (c : GoesOn old what) → (a : Action) → next_of old ≡ a → IsObserved w.now w.size a what → IsShown w.now p (w.proc p).time a what → Does w.now p (event_of (end_of_proc old) a what) s
    → Turned know w p (event_of (end_of_proc old) a what) s (run_next w.now (w.proc p) what c.new)
turn_of w p old what s good is c a next observed shown does =
    let F : Proc → Type 0 = λ z. Takes z what c.new → (y : Action) → next_of z ≡ y → IsObserved w.now w.size y what → IsShown w.now p (w.proc p).time y what → Does w.now p (event_of (end_of_proc z) y what) s → Turned know w p (event_of (end_of_proc z) y what) s (run_next w.now (w.proc p) what c.new) in
    let G : Proc → Type 0 = λ z. (y : Action) → next_of z ≡ y → IsObserved w.now w.size y what → IsShown w.now p (w.proc p).time y what → Does w.now p (event_of (end_of_proc z) y what) s → Turned know w p (event_of (end_of_proc z) y what) s (run_next w.now (w.proc p) what c.new) in
    let here : F (w.proc p).state = λ takes y e. subst (λ (v : Action). IsObserved w.now w.size v what → IsShown w.now p (w.proc p).time v what → Does w.now p (event_of (end_of_proc (w.proc p).state) v what) s → Turned know w p (event_of (end_of_proc (w.proc p).state) v what) s (run_next w.now (w.proc p) what c.new)) e (λ t h d. turn w p (w.proc p) c.new what s refl good takes t h d) in
    (subst F is here) c.takes a next observed shown does

module _ (s : Pages PassState) (f : Simulates s) (n since : ℕ) (d : PassState) (at : Stands s n (Running since) d) where
  abbrev pub mine : Name
  mine = name n d.number

  pub standing : IsAtStage f.world n (Running since) d
  standing = (f.hands n (Running since) d at).stage

  pub is_named : (d.pass ≡ n) × (d.pages ≡ f.world.size)
  is_named = (f.hands n (Running since) d at).named standing.1

  module _ (what : Seen) (course : GoesOn d.state what) (a : Action) (next : next_of d.state ≡ a) (s1 : State Page) (said : IsObserved f.world.now f.world.size a what) (shown : IsShown f.world.now mine (f.world.proc mine).time a what) (does : Does f.world.now mine (event_of (end_of_proc d.state) a what) s1) where
    abbrev pub turned : Turned know f.world mine (event_of (end_of_proc d.state) a what) s1 (run_next f.world.now (f.world.proc mine) what course.new)
    turned = turn_of f.world mine d.state what s1 f.good standing.3 course a next said shown does

    -- each process has kept by then what it keeps
    pub then_kept : AllKept turned.next
    then_kept = state_kept f.world turned.next mine d.state (run_next f.world.now (f.world.proc mine) what course.new) what a _ refl standing.3 next turned.extends f.good turned.good standing.5 course.takes said f.kept

    -- what it has done by then
    pub then_log : proc_log course.new (marks_of mine turned.next.trail)
    then_log = log_after f.world mine d.state what course a s1 (run_next f.world.now (f.world.proc mine) what course.new) turned next said standing.5

    -- each process that runs has done so
    then_logs : KeepsLogs turned.next
    then_logs = next_logs s f n d.number (event_of (end_of_proc d.state) a what) s1 (run_next f.world.now (f.world.proc mine) what course.new) turned (λ z runs. then_log)

    abbrev pub then_known : PassState
    then_known = next_known s f n d.number (Running since) d at (event_of (end_of_proc d.state) a what) s1 (run_next f.world.now (f.world.proc mine) what course.new) turned true d.past

    pub then_goes : Goes what d then_known
    then_goes =
        let act = event_of (end_of_proc d.state) a what in
        let b = run_next f.world.now (f.world.proc mine) what course.new in
        let notes : Notes n d.number act d then_known = next_notes s f n d.number (Running since) d at act s1 b turned true d.past then_logs then_kept in
        let saw : (x : ℕ) (c : Page) → act ≡ Act.Get x → what ≡ seen.Words c → notes.last.saw ≡ Some c = λ x c e observed. next_saw s f n d.number (Running since) d at act s1 b turned true d.past then_logs then_kept ∙ saw_words (end_of_proc d.state) f.world.now f.world.size turned.saw a what said turned.extends.saw x c e observed in
        let named = subst (λ (z : ℕ). (k : Notes z d.number act d then_known) × ((x : ℕ) (c : Page) → act ≡ Act.Get x → what ≡ seen.Words c → k.last.saw ≡ Some c)) (sym is_named.0) (notes, saw) in
        let steps : Steps act d then_known = record {
          notes = named.0;
          runs = refl;
          pages = sym is_named.1;
          passes = sym (f.counts n (Running since) d at standing.1);
          past = refl;
          own = next_own s f n d.number (Running since) d at act s1 b turned true d.past standing.4;
          near = next_near s f n d.number (Running since) d at act s1 b turned true d.past;
        } in
        let both = subst (λ (y : Action). (k : Steps (event_of (end_of_proc d.state) y what) d then_known) × ((x : ℕ) (c : Page) → event_of (end_of_proc d.state) y what ≡ Act.Get x → what ≡ seen.Words c → k.notes.last.saw ≡ Some c)) (sym next) (steps, named.1) in
        record {
          steps = both.0;
          saw = both.1;
          course = course;
          state = refl;
        }

    -- the pages go on as the store's do, and the process runs on
    pub then_fits : (s2 : Pages PassState) → s2.hands ≡ s.hands → length s2.contents ≡ length s.contents → s1.clock ≤ s2.clock
        → ((q : Name) → s1.phase q ≡ f.world.now.phase q)
        → ((x : ℕ) (q : Name) → q ≢ mine → s1.owner x ≡ machine.Held q → f.world.now.owner x ≡ machine.Held q)
        → ((x : ℕ) (words : List ℕ) → get_elem? s2.contents x ≡ some words → Shows x words (s1.contents x))
        → ((x : ℕ) (o : Owner) → get_elem? s2.owners x ≡ some o → s1.owner x ≡ owner_in s.hands o)
        → ((x version : ℕ) → HasVersion s2 x version → version ≡ puts_at x f.world.trail + put_of x (event_of (end_of_proc d.state) a what))
        → ((x : ℕ) → event_of (end_of_proc d.state) a what ≡ Act.Get x → (x ≡ 0) ⊎ MayGet f.world mine x)
        → Simulates (observed s2 n (Running since) then_known)
    then_fits s2 hands size clock phases kept pages owners versions may =
        let act = event_of (end_of_proc d.state) a what in
        let b = run_next f.world.now (f.world.proc mine) what course.new in
        let set_is : set s2.hands n (Running since, then_known) ≡ set s.hands n (Running since, then_known) = ap (λ (z : List (Stage × PassState)). set z n (Running since, then_known)) hands in
        advance s f n d.number (Running since) d at act s1 b turned true d.past then_logs then_kept (observed s2 n (Running since) then_known) (Running since) set_is size (omega arith) clock (λ q ne. phases q) kept pages
        (λ x o e. owners x o e ∙ sym (ap (λ (z : List (Stage × PassState)). owner_in z o) set_is ∙ same_owner s.hands n (Running since, d) (Running since, then_known) o at refl))
        (next_stage s f n d.number (Running since) d at act s1 b turned true d.past since standing.2.0 standing.2.1 refl standing.1 (phases mine ∙ standing.2.2) standing.4 then_log)
        (λ z e. refl)
        (λ z e. (since, (let both : machine.Running standing.2.0 ≡ machine.Running z = sym (phases mine ∙ standing.2.2) ∙ e in let same : standing.2.0 ≡ z = cc in subst (λ (v : ℕ). since ≤ v) same standing.2.1), refl))
        versions
        may

-- a hand that knows that it runs a process
pub runs_on : (s : Pages PassState) (f : Simulates s) (n : ℕ) (st : Stage) (d : PassState) → Stands s n st d → d.runs ≡ true → (since : ℕ) × (st ≡ Running since)
runs_on s f n Idle d at runs = absurd (false≢true (sym (f.hands n Idle d at).stage.0 ∙ runs))
runs_on s f n (Running since) d at runs = (since, refl)
