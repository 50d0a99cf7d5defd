-- Each kind of turn on the lists of a world.
use Rattle.std.proofs.Common.{ℕ, ◌≡◌, ◌≢◌, ◌<◌, ◌++◌, zero, suc, Option, Some, None, List, [], ◌∷◌, length, get_or, slice_get, slice_set, true, arith, ap, sym, ◌∙◌, refl, subst, inl, inr}
use Rattle.std.proofs.lemmas.Bool.{cases_eq}
use Rattle.std.specs.Prelude.{option_map}
use Rattle.std.specs.Borrow.{Bor}
use Rattle.std.specs.Slice.{IsGetResult}
use Rattle.std.proofs.lemmas.Option.{slice_get_within, slice_get_past, get_or_from_slice_get}
use Rattle.std.proofs.lemmas.List.{length-set}
use Rattle.bl_page.specs.declared.page.Page.{Page}
use Rattle.bl_page.specs.declared.machine.Missed.{Missed}
use Rattle.bl_page.specs.Machine.{State, Act as MachineAct, Owner as MachineOwner}
use Rattle.bl_page.specs.Machine.Owner.{Held as MachineHeld, Retired as MachineRetired}
use Rattle.bl_page.specs.Machine.Phase.{Running, Ended}
use Rattle.bl_page.specs.Machine.Looked.{Page as OfPage}
use Rattle.bl_tree_worlds.proofs.After.{put_at, is_put_at, put_name, is_put_name}
use Rattle.bl_proc_steps.specs.declared.acts.Action.{Action}
use Rattle.bl_proc_steps.specs.declared.acts.Action.TheVariants as act
use Rattle.bl_proc_steps.specs.declared.acts.Seen.{Seen}
use Rattle.bl_proc_steps.specs.declared.acts.Seen.TheVariants as seen
use Rattle.bl_proc.specs.declared.reclaiming.Reclaim.{Reclaim}
use Rattle.bl_proc.specs.declared.kinds.Proc.{Proc}
use Rattle.bl_proc.specs.declared.kinds.Proc.TheVariants as proc
use Rattle.bl_proc.specs.Processes.{next_of, Takes}
use Rattle.bl_proc_invariant.specs.Turns.{event_of, IsObserved, IsShown, Does}
use Rattle.bl_proc_invariant.specs.Knowing.{end_of_proc, run_next}
use Rattle.bl_proc_bounds.proofs.Turns.{Paced, paced_turn, paced_idle}
use Rattle.bl_world.specs.declared.turns.Act.{Act}
use Rattle.bl_world.specs.declared.turns.Act.TheVariants as shown
use Rattle.bl_world.specs.declared.turns.Event.{Event}
use Rattle.bl_world.specs.declared.owners.Owner.{Owner}
use Rattle.bl_world.specs.declared.owners.Owner.TheVariants as own
use Rattle.bl_world.specs.Views.{name_of, owner_of, is_open, act_shown}
use Rattle.bl_world.specs.Retirements.{IsRetired, HasSeen}
use Rattle.bl_world.specs.Worlds.{IsReclaiming, HasWorld}
use Rattle.bl_world.proofs.Retired.{push_new}
use Rattle.bl_world.proofs.Looks.{IsOfTree, takes_tree}
use Rattle.bl_world.proofs.Reclaims.{reclaiming_on}
use Rattle.bl_world.proofs.Stands.{Grows, turned_lists}

pub set_here : {A : Type 0} (xs : List A) (n : ℕ) (v : A) → n < length xs → slice_get (slice_set xs n v) n ≡ Some v
set_here [] n v l = absurd (omega (arith, l))
set_here (x ∷ xs) zero v l = refl
set_here (x ∷ xs) (suc n) v l = set_here xs n v (omega (arith, l))

pub set_other : {A : Type 0} (xs : List A) (n i : ℕ) (v : A) → i ≢ n → slice_get (slice_set xs n v) i ≡ slice_get xs i
set_other [] n i v ne = refl
set_other (x ∷ xs) zero zero v ne = absurd (ne refl)
set_other (x ∷ xs) zero (suc i) v ne = refl
set_other (x ∷ xs) (suc n) zero v ne = refl
set_other (x ∷ xs) (suc n) (suc i) v ne = set_other xs n i v (λ e. ne (ap suc e))

some_same : {A : Type 0} (a b : A) → Some a ≡ Some b → a ≡ b
some_same a b e = cc

-- what stands at a place of a list that was changed at one place
pub set_cases : {A : Type 0} (Q : ℕ → A → Type 0) (xs : List A) (n : ℕ) (v : A) → n < length xs → Q n v → ((i : ℕ) (a : A) → i ≢ n → slice_get xs i ≡ Some a → Q i a) → (i : ℕ) (a : A) → slice_get (slice_set xs n v) i ≡ Some a → Q i a
set_cases Q xs n v l at rest i a is = elim (cases_eq i n) [
  | inl e ↦
      let here : slice_get (slice_set xs n v) i ≡ Some v = ap (slice_get (slice_set xs n v)) e ∙ set_here xs n v l in
      subst (Q i) (some_same v a (sym here ∙ is)) (subst (λ z. Q z v) (sym e) at)
  | inr ne ↦ rest i a ne (sym (set_other xs n i v ne) ∙ is)
]

-- what is told of a page that is open
pub open_there : (o : Option Owner) → is_open o ≡ true → o ≡ Some own.Open
open_there None e = absurd (cc e)
open_there (Some own.Released) e = absurd (cc e)
open_there (Some own.Open) e = refl
open_there (Some (own.Held number)) e = absurd (cc e)
open_there (Some (own.Retired place)) e = absurd (cc e)

module _ (pages : List Page) (owners : List Owner) (processes : List Proc) (events : List Event) (n : ℕ) (p0 p1 : Proc) (stood : slice_get processes n ≡ Some p0) where
  abbrev pub after_act : Act → List Event
  after_act act = events ++ record { process = suc n; act = act } ∷ []

  pub turned : (what : Seen) (action : Action) (h : HasWorld pages owners processes events) (s : State Page) → next_of p0 ≡ action → Takes p0 what p1 → IsObserved h.world.now h.world.size action what → IsShown h.world.now (name_of (suc n)) (h.world.proc (name_of (suc n))).time action what → Does h.world.now (name_of (suc n)) (event_of (end_of_proc p0) action what) s → Paced h.world (name_of (suc n)) (event_of (end_of_proc p0) action what) s (run_next h.world.now (h.world.proc (name_of (suc n))) what p1)
  turned what action h s next takes =
      let w = h.world in
      let p = name_of (suc n) in
      let time = (w.proc p).time in
      let is : (w.proc p).state ≡ p0 = h.runs n p0 stood in
      let by_state : (z : Proc) → (w.proc p).state ≡ z → Takes z what p1 → IsObserved w.now w.size (next_of z) what → IsShown w.now p time (next_of z) what → Does w.now p (event_of (end_of_proc z) (next_of z) what) s → Paced w p (event_of (end_of_proc z) (next_of z) what) s (run_next w.now (w.proc p) what p1) =
      λ z e. subst (λ z. Takes z what p1 → IsObserved w.now w.size (next_of z) what → IsShown w.now p time (next_of z) what → Does w.now p (event_of (end_of_proc z) (next_of z) what) s → Paced w p (event_of (end_of_proc z) (next_of z) what) s (run_next w.now (w.proc p) what p1)) e (λ t observed shown does. paced_turn w p (w.proc p) p1 what s refl h.good h.logs t observed shown does) in
      subst (λ a. IsObserved w.now w.size a what → IsShown w.now p time a what → Does w.now p (event_of (end_of_proc p0) a what) s → Paced w p (event_of (end_of_proc p0) a what) s (run_next w.now (w.proc p) what p1)) next (by_state p0 is takes)

  -- who stands there after it
  pub now_is : (p : Proc) → slice_get (slice_set processes n p1) n ≡ Some p → p1 ≡ p
  now_is p is = some_same p1 p (sym (set_here processes n p1 (slice_get_within processes n p0 stood)) ∙ is)

  -- what it does to the tree makes none of it that is to release a page
  none_new : {X : Type 0} (what : Seen) (action : Action) → next_of p0 ≡ action → IsOfTree action → Takes p0 what p1 → (q : Reclaim) → slice_get (slice_set processes n p1) n ≡ Some (proc.Reclaim q) → X
  none_new what action next tree takes q is = absurd (takes_tree p0 what q (subst IsOfTree (sym next) tree) (subst (Takes p0 what) (now_is (proc.Reclaim q) is) takes))

  -- the pages and owners are as they were
  pub stay : (what : Seen) (a : MachineAct Page _) (h : HasWorld pages owners processes events) (s : State Page) → s.contents ≡ h.world.now.contents → s.owner ≡ h.world.now.owner → s.clock ≡ suc h.world.now.clock → ((q : Reclaim) → slice_get (slice_set processes n p1) n ≡ Some (proc.Reclaim q) → (q.page < length pages) × IsReclaiming (after_act (act_shown a)) (suc n) q.page (run_next h.world.now (h.world.proc (name_of (suc n))) what p1).time q.stage) → ((x : ℕ) → act_shown a ≡ shown.Release x → (k : ℕ) × HasSeen events (suc n) x k (length events) × IsRetired events x k (length events)) → Paced h.world (name_of (suc n)) a s (run_next h.world.now (h.world.proc (name_of (suc n))) what p1) → Grows h pages owners (slice_set processes n p1) (after_act (act_shown a))
  stay what a h s contents owner on mine releases t =
      turned_lists pages pages owners owners processes (slice_set processes n p1) events n a s _ h (slice_get_within processes n p0 stood) refl refl (length-set processes n p1)
      (λ x c is. ap (λ f. f x) contents ∙ h.contents x c is)
      (λ x o is. ap (λ f. f x) owner ∙ h.owner x o is)
      now_is
      (λ i ne. set_other processes n i p1 ne) on mine releases t

  pub begins : next_of p0 ≡ act.Begin → Takes p0 seen.Done p1 → (h : HasWorld pages owners processes events) → Grows h pages owners (slice_set processes n p1) (after_act shown.Begin)
  begins next takes h =
      let now = h.world.now in
      let p = name_of (suc n) in
      let s : State Page = record now { phase = put_name p (Running now.clock) now.phase; clock = suc now.clock } in
      stay seen.Done _ h s refl refl refl (λ q is. none_new seen.Done act.Begin next tt takes q is) (λ x e. absurd cc)
      (turned seen.Done act.Begin h s next takes tt tt (record { changes = (λ x. refl, λ x. refl, (now.clock, omega arith, omega arith, is_put_name p (Running now.clock) now.phase)); on = omega arith }))

  pub ends : next_of p0 ≡ act.End → Takes p0 seen.Done p1 → (h : HasWorld pages owners processes events) → Grows h pages owners (slice_set processes n p1) (after_act shown.End)
  ends next takes h =
      let now = h.world.now in
      let p = name_of (suc n) in
      let s : State Page = record now { phase = put_name p Ended now.phase; clock = suc now.clock } in
      stay seen.Done _ h s refl refl refl (λ q is. none_new seen.Done act.End next tt takes q is) (λ x e. absurd cc)
      (turned seen.Done act.End h s next takes tt tt (record { changes = (λ x. refl, λ x. refl, is_put_name p Ended now.phase); on = omega arith }))

  pub gets : (x : ℕ) (c : Page) → slice_get pages x ≡ Some c → next_of p0 ≡ act.Get x → Takes p0 (seen.Words c) p1 → (h : HasWorld pages owners processes events) → Grows h pages owners (slice_set processes n p1) (after_act (shown.Get x))
  gets x c page next takes h =
      let s : State Page = record h.world.now { clock = suc h.world.now.clock } in
      stay (seen.Words c) _ h s refl refl refl (λ q is. none_new (seen.Words c) (act.Get x) next tt takes q is) (λ y e. absurd cc)
      (turned (seen.Words c) (act.Get x) h s next takes (sym (h.contents x c page)) tt (record { changes = (λ x. refl, λ x. refl, λ q. refl); on = omega arith }))

  pub probes : (x : ℕ) → next_of p0 ≡ act.Probe x → Takes p0 (seen.Probed (is_open (slice_get owners x))) p1 → (h : HasWorld pages owners processes events) → Grows h pages owners (slice_set processes n p1) (after_act (shown.See x))
  probes x next takes h =
      let s : State Page = record h.world.now { clock = suc h.world.now.clock } in
      let what = seen.Probed (is_open (slice_get owners x)) in
      stay what (MachineAct.Look (OfPage x)) h s refl refl refl (λ q is. none_new what (act.Probe x) next tt takes q is) (λ y e. absurd cc)
      (turned what (act.Probe x) h s next takes (λ e. h.owner x own.Open (open_there (slice_get owners x) e)) tt (record { changes = (λ x. refl, λ x. refl, λ q. refl); on = omega arith }))

  pub misses : (x : ℕ) → next_of p0 ≡ act.Latch x → Takes p0 seen.Missed p1 → (h : HasWorld pages owners processes events) → Grows h pages owners (slice_set processes n p1) (after_act shown.Miss)
  misses x next takes h =
      let s : State Page = record h.world.now { clock = suc h.world.now.clock } in
      stay seen.Missed _ h s refl refl refl (λ q is. none_new seen.Missed (act.Latch x) next tt takes q is) (λ y e. absurd cc)
      (turned seen.Missed (act.Latch x) h s next takes tt tt (record { changes = (λ x. refl, λ x. refl, λ q. refl); on = omega arith }))

  -- a page is put
  pub puts : (x : ℕ) (c : Page) → x < length pages → next_of p0 ≡ act.Put x c → Takes p0 seen.Done p1 → (h : HasWorld pages owners processes events) → Grows h (slice_set pages x c) owners (slice_set processes n p1) (after_act (shown.Put x))
  puts x c within next takes h =
      let now = h.world.now in
      let s : State Page = record now { contents = put_at x c now.contents; clock = suc now.clock } in
      let changed = is_put_at x c now.contents in
      turned_lists pages (slice_set pages x c) owners owners processes (slice_set processes n p1) events n _ s _ h (slice_get_within processes n p0 stood) (length-set pages x c) refl (length-set processes n p1)
      (set_cases (λ z d. s.contents z ≡ d) pages x c within changed.at (λ z d ne is. changed.others z ne ∙ h.contents z d is))
      (λ z o is. h.owner z o is)
      now_is
      (λ i ne. set_other processes n i p1 ne) refl (λ q is. none_new seen.Done (act.Put x c) next tt takes q is) (λ y e. absurd cc)
      (turned seen.Done (act.Put x c) h s next takes tt tt (record { changes = (changed, λ z. refl, λ q. refl); on = omega arith }))

  -- a page gets another owner
  pub owns : (what : Seen) (a : MachineAct Page _) (x : ℕ) (o : Owner) (h : HasWorld pages owners processes events) → x < length owners → ((q : Reclaim) → slice_get (slice_set processes n p1) n ≡ Some (proc.Reclaim q) → (q.page < length pages) × IsReclaiming (after_act (act_shown a)) (suc n) q.page (run_next h.world.now (h.world.proc (name_of (suc n))) what p1).time q.stage) → ((y : ℕ) → act_shown a ≡ shown.Release y → (k : ℕ) × HasSeen events (suc n) y k (length events) × IsRetired events y k (length events)) → Paced h.world (name_of (suc n)) a (record h.world.now { owner = put_at x (owner_of o) h.world.now.owner; clock = suc h.world.now.clock }) (run_next h.world.now (h.world.proc (name_of (suc n))) what p1) → Grows h pages (slice_set owners x o) (slice_set processes n p1) (after_act (act_shown a))
  owns what a x o h within mine releases t =
      let now = h.world.now in
      let s : State Page = record now { owner = put_at x (owner_of o) now.owner; clock = suc now.clock } in
      let changed = is_put_at x (owner_of o) now.owner in
      turned_lists pages pages owners (slice_set owners x o) processes (slice_set processes n p1) events n a s _ h (slice_get_within processes n p0 stood) refl (length-set owners x o) (length-set processes n p1)
      (λ z c is. h.contents z c is)
      (set_cases (λ z d. s.owner z ≡ owner_of d) owners x o within changed.at (λ z d ne is. changed.others z ne ∙ h.owner z d is))
      now_is
      (λ i ne. set_other processes n i p1 ne) refl mine releases t

  pub latches : (x : ℕ) → slice_get owners x ≡ Some own.Open → next_of p0 ≡ act.Latch x → Takes p0 seen.Done p1 → (h : HasWorld pages owners processes events) → Grows h pages (slice_set owners x (own.Held (suc n))) (slice_set processes n p1) (after_act (shown.Latch x))
  latches x free next takes h =
      let now = h.world.now in
      let s : State Page = record now { owner = put_at x (MachineHeld (name_of (suc n))) now.owner; clock = suc now.clock } in
      owns seen.Done _ x (own.Held (suc n)) h (slice_get_within owners x own.Open free) (λ q is. none_new seen.Done (act.Latch x) next tt takes q is) (λ y e. absurd cc)
      (turned seen.Done (act.Latch x) h s next takes (h.owner x own.Open free) tt (record { changes = (λ z. refl, is_put_at x (MachineHeld (name_of (suc n))) now.owner, λ q. refl); on = omega arith }))

  pub opens : (x : ℕ) → x < length owners → next_of p0 ≡ act.Open x → Takes p0 seen.Done p1 → (h : HasWorld pages owners processes events) → Grows h pages (slice_set owners x own.Open) (slice_set processes n p1) (after_act (shown.Open x))
  opens x within next takes h =
      let now = h.world.now in
      let s : State Page = record now { owner = put_at x MachineOwner.Open now.owner; clock = suc now.clock } in
      owns seen.Done _ x own.Open h within (λ q is. none_new seen.Done (act.Open x) next tt takes q is) (λ y e. absurd cc)
      (turned seen.Done (act.Open x) h s next takes tt tt (record { changes = (λ z. refl, is_put_at x MachineOwner.Open now.owner, λ q. refl); on = omega arith }))

  -- a page is retired since this event
  pub retires : (x : ℕ) → x < length owners → next_of p0 ≡ act.Retire x → Takes p0 seen.Done p1 → (h : HasWorld pages owners processes events) → Grows h pages (slice_set owners x (own.Retired (length events))) (slice_set processes n p1) (after_act (shown.Retire x))
  retires x within next takes h =
      let now = h.world.now in
      let time = length events in
      let clock : now.clock ≡ time = h.times.clock in
      let s : State Page = record now { owner = put_at x (MachineRetired time) now.owner; clock = suc now.clock } in
      owns seen.Done _ x (own.Retired time) h within (λ q is. none_new seen.Done (act.Retire x) next tt takes q is) (λ y e. absurd cc)
      (turned seen.Done (act.Retire x) h s next takes tt tt (record { changes = (time, omega (arith, clock), omega (arith, clock), (λ z. refl, is_put_at x (MachineRetired time) now.owner, λ q. refl)); on = omega arith }))

  pub takes_page : (x : ℕ) → slice_get owners x ≡ Some own.Released → x < length pages → next_of p0 ≡ act.Take → Takes p0 (seen.Took x) p1 → (h : HasWorld pages owners processes events) → Grows h pages (slice_set owners x (own.Held (suc n))) (slice_set processes n p1) (after_act (shown.Take x))
  takes_page x free within next takes h =
      let now = h.world.now in
      let s : State Page = record now { owner = put_at x (MachineHeld (name_of (suc n))) now.owner; clock = suc now.clock } in
      owns (seen.Took x) _ x (own.Held (suc n)) h (slice_get_within owners x own.Released free) (λ q is. none_new (seen.Took x) act.Take next tt takes q is) (λ y e. absurd cc)
      (turned (seen.Took x) act.Take h s next takes (h.owner x own.Released free, rw h.size within) tt (record { changes = (λ z. refl, is_put_at x (MachineHeld (name_of (suc n))) now.owner, λ q. refl); on = omega arith }))

  -- what it was about to reserve is refused
  pub refuses_take : next_of p0 ≡ act.Take → Takes p0 seen.Refused p1 → (h : HasWorld pages owners processes events) → Grows h pages owners (slice_set processes n p1) (after_act shown.Miss)
  refuses_take next takes h =
      let s : State Page = record h.world.now { clock = suc h.world.now.clock } in
      stay seen.Refused _ h s refl refl refl (λ q is. none_new seen.Refused act.Take next tt takes q is) (λ y e. absurd cc)
      (turned seen.Refused act.Take h s next takes tt tt (record { changes = (λ x. refl, λ x. refl, λ q. refl); on = omega arith }))

  pub refuses_put : (x : ℕ) (c : Page) → next_of p0 ≡ act.Put x c → Takes p0 seen.Refused p1 → (h : HasWorld pages owners processes events) → Grows h pages owners (slice_set processes n p1) (after_act shown.Miss)
  refuses_put x c next takes h =
      let s : State Page = record h.world.now { clock = suc h.world.now.clock } in
      stay seen.Refused _ h s refl refl refl (λ q is. none_new seen.Refused (act.Put x c) next tt takes q is) (λ y e. absurd cc)
      (turned seen.Refused (act.Put x c) h s next takes tt tt (record { changes = (λ x. refl, λ x. refl, λ q. refl); on = omega arith }))

same_some : (a b : Event) → Some a ≡ Some b → a ≡ b
same_some a b e = cc

miss_not_see : {x : ℕ} → shown.Miss ≡ shown.See x → ⊥
miss_not_see {x} e = cc

-- a turn that is not fit
pub idles : (what : Missed) (pages : List Page) (owners : List Owner) (processes : List Proc) (events : List Event) (n : ℕ) → n < length processes → (h : HasWorld pages owners processes events) → Grows h pages owners processes (events ++ record { process = suc n; act = shown.Miss } ∷ [])
idles what pages owners processes events n within h =
    let s : State Page = record h.world.now { clock = suc h.world.now.clock } in
    turned_lists pages pages owners owners processes processes events n _ s _ h within refl refl refl
    (λ x c is. h.contents x c is) (λ x o is. h.owner x o is) (λ p is. h.runs n p is) (λ i ne. refl) refl
    (λ q is. (h.inside n q is, reclaiming_on events _ (suc n) q.page (h.world.proc (name_of (suc n))).time q.stage (λ s. miss_not_see (ap (λ z. z.act) (same_some _ _ (sym (push_new events _) ∙ s)))) (h.reclaiming n q is)))
    (λ x e. absurd cc)
    (paced_idle h.world (name_of (suc n)) what s h.good h.logs (record { changes = (λ x. refl, λ x. refl, λ q. refl); on = omega arith }))

-- what stands at a place within a list
pub stands : {A : Type 0} (xs : List A) (n : ℕ) → n < length xs → (a : A) × (slice_get xs n ≡ Some a)
stands [] n l = absurd (omega (arith, l))
stands (x ∷ xs) zero l = (x, refl)
stands (x ∷ xs) (suc n) l = stands xs n (omega (arith, l))

-- what was read at a place stands there
pub read_at : {A : Type 0} (xs : List A) (i : ℕ) (v : A) → i < length xs → v ≡ get_or xs i v → slice_get xs i ≡ Some v
read_at xs i v l e = let s = stands xs i l in s.1 ∙ ap Some (sym (e ∙ get_or_from_slice_get xs i s.0 v s.1))

-- what was found at a place, if it is within the list
pub found_there : {A : Type 0} (xs : List A) (i : ℕ) (r : Option (Bor A)) → IsGetResult xs i i r → option_map (λ (x : Bor A). x.now) r ≡ slice_get xs i
found_there xs i None g = sym (slice_get_past xs i g.3)
found_there xs i (Some x) g = sym (read_at xs i x.now g.3.0 g.1)

-- who stands at a place is who was read there
pub stood_is : {A : Type 0} (xs : List A) (i : ℕ) (p v : A) → slice_get xs i ≡ Some p → v ≡ get_or xs i v → p ≡ v
stood_is xs i p v stood e = sym (e ∙ get_or_from_slice_get xs i p v stood)

pub none_left : {A : Type 0} (o : Option A) → ((x : A) → o ≡ Some x → ⊥) → o ≡ None
none_left None n = refl
none_left (Some x) n = absurd (n x refl)
