-- Each event of a running process, on pages: it keeps the rule, and the pass knows it.
use Rattle.std.proofs.Common.{ℕ, ◌≡◌, ◌≢◌, ◌⊎◌, ◌+◌, ◌<◌, ◌≤◌, Bool, true, false, List, length, set, slice_index, refl, sym, ap, ◌∙◌, subst, ⊎_elim, inl, inr, arith, zero, suc, ◌++◌, ◌∷◌, append_assoc}
use Rattle.std.proofs.Math.ListN.{length-set}
use mathlib.Core.Option.{some}
use Rattle.std.specs.Prelude.{Option as Optional}
use lib.ListN.{get_elem?}
use Rattle.atomic_table.proofs.Lists.{at_set}
use Rattle.bl_page.specs.declared.machine.Missed.TheVariants as missed
use Rattle.bl_model.specs.declared.operation.Reply.{Reply}
use Rattle.bl_page.specs.declared.page.Page.{Page}
use Rattle.bl_page.specs.Words.{words_of}
use Rattle.bl_page.specs.Pairs.{IsChild}
use Rattle.bl_page.specs.Machine.{Name, State, Act}
use Rattle.bl_page.specs.Machine.Looked.{Page as OfPage}
use Rattle.bl_page.specs.Machine as machine
use Rattle.bl_tree_worlds.specs.Worlds.{MayGet}
use Rattle.bl_tree_worlds.proofs.After.{put_at, is_put_at}
use Rattle.bl_tree_worlds.proofs.Descents.{anchor_not_released}
use Rattle.bl_proc_steps.specs.declared.acts.Action.{Action}
use Rattle.bl_proc_steps.specs.declared.acts.Action.TheVariants as act
use Rattle.bl_proc_steps.specs.declared.acts.Seen.{Seen}
use Rattle.bl_proc_steps.specs.declared.acts.Seen.TheVariants as seen
use Rattle.bl_proc.specs.Processes.{next_of}
use Rattle.bl_proc_invariant.specs.Turns.{event_of, IsObserved, IsShown, Does}
use Rattle.bl_proc_invariant.specs.Knowing.{know, end_of_proc, run_next}
use Rattle.bl_proc_invariant.proofs.Gets.{IsGot, got_next_is}
use Rattle.bl_proc_deterministic.specs.Courses.{GoesOn}
use Rattle.bl_layout.specs.declared.layout.Layout.{Layout}
use Rattle.bl_one_moment.specs.Moments.{HasFirmMoments, put_of, puts_at}
use Rattle.bl_one_moment.proofs.Counting.{one_put, other_put, puts_push, unput_by_count}
use Rattle.bl_store_rule.proofs.Lists.{index_there}
use Rattle.bl_store_rule.specs.Pages.{Owner, Released, Open, Held, Retired, Stage, Running, Pages, Stands, IsOrderly, IsPage, HasVersion, later, observed, owned, written, Gets, GetsAs, Implies, Puts, Takes, Latches, Misses, Probes, Opens, Retires, Refuses}
use Rattle.bl_index_rule.specs.declared.known.PassState.{PassState}
use Rattle.bl_claims.specs.Seeing.{first_map, BeginsFrom, name}
use Rattle.bl_claims.specs.Trails.{Trail}
use Rattle.bl_index_rule.specs.Simulation.{Shows, owner_in, Simulates}
use Rattle.bl_index_rule.specs.Observed.{HasFirmTrail, Goes, gets, gets_kept, is_unput, puts, opens, retires, takes, tries, probes, refuses}
use Rattle.bl_index_rule.proofs.Shown.{at_below, set_there, shows_words, got_words, is_held, is_released, held_by}
use Rattle.bl_index_rule.proofs.Stages.{turn_mark}
use Rattle.bl_index_rule.proofs.Turns.{standing, turned, then_known, then_goes, then_fits, runs_on}

-- what a hand's pass has seen is a beginning of what has happened
firm_trail : (s : Pages PassState) (f : Simulates s) (n : ℕ) (st : Stage) (d : PassState) → Stands s n st d → HasFirmTrail d
firm_trail s f n st d at =
    let h = f.hands n st d at in
    let same : f.image ≡ d.first = sym (f.firsts n st d at) in
    let seen : HasFirmMoments (first_map f.image) f.world.start d.trail = λ before after split. f.firm before (after ++ h.begins.0) (h.begins.1 ∙ (ap (λ (trail : Trail). trail ++ h.begins.0) split ∙ append_assoc before after h.begins.0)) in record {
      start = f.world.start;
      opening = subst (λ (image : List (Optional Page)). BeginsFrom image f.world.start) same f.opening;
      firm = subst (λ (image : List (Optional Page)). HasFirmMoments (first_map image) f.world.start d.trail) same seen;
    }

-- an event that puts no page
pub as_often : (s : Pages PassState) (f : Simulates s) (x version more : ℕ) → HasVersion s x version → more ≡ 0 → version ≡ puts_at x f.world.trail + more
as_often s f x version more e quiet = let was = f.versions x version e in omega arith

-- an event that leaves all pages and owners as they are
unmoved : (s : Pages PassState) (f : Simulates s) (n since : ℕ) (d : PassState) → Stands s n (Running since) d → (what : Seen) → GoesOn d.state what → (a : Action) → next_of d.state ≡ a → IsObserved f.world.now f.world.size a what → IsShown f.world.now (name n d.number) (f.world.proc (name n d.number)).time a what → Does f.world.now (name n d.number) (event_of (end_of_proc d.state) a what) f.world.now → ((x : ℕ) → put_of x (event_of (end_of_proc d.state) a what) ≡ 0) → ((x : ℕ) → event_of (end_of_proc d.state) a what ≡ Act.Get x → (x ≡ 0) ⊎ MayGet f.world (name n d.number) x) → (e : PassState) × Simulates (observed s n (Running since) e) × Goes what d e × ((x : ℕ) → puts_at x e.trail ≡ puts_at x f.world.trail)
unmoved s f n since d at what c a next said shown does quiet may = (
  then_known s f n since d at what c a next f.world.now said shown does,
  then_fits s f n since d at what c a next f.world.now said shown does s refl refl f.clock (λ q. refl) (λ x q ne e. e) f.pages f.owners (λ x version e. as_often s f x version (put_of x (event_of (end_of_proc d.state) a what)) e (quiet x)) may,
  then_goes s f n since d at what c a next f.world.now said shown does,
  λ x.
      let t = turned s f n since d at what c a next f.world.now said shown does in
      let none = quiet x in
      let more = puts_push x f.world.trail (turn_mark f.world f.good n d.number (event_of (end_of_proc d.state) a what) f.world.now (run_next f.world.now (f.world.proc (name n d.number)) what c.new) t) in
      ap (puts_at x) t.extends.trail ∙ omega (arith, none, more),
)

either_page : (y x : ℕ) → (y ≡ x) ⊎ (y ≢ x)
either_page zero zero = inl refl
either_page zero (suc x) = inr (λ e. omega arith)
either_page (suc y) zero = inr (λ e. omega arith)
either_page (suc y) (suc x) = ⊎_elim (λ e. inl (ap suc e)) (λ ne. inr (λ e. ne (omega arith))) (either_page y x)

-- page x gets another owner
module _ (owner : ℕ → machine.Owner) (x : ℕ) (o' : machine.Owner) where
  -- who does not get it holds what it held
  pub kept_owner : {q : Name} → o' ≢ machine.Held q → (y : ℕ) → put_at x o' owner y ≡ machine.Held q → owner y ≡ machine.Held q
  kept_owner {q} else y e =
      let put = is_put_at x o' owner in
      ⊎_elim
      (λ (z : y ≡ x). absurd (else (sym put.at ∙ (ap (put_at x o' owner) (sym z) ∙ e))))
      (λ (z : y ≢ x). sym (put.others y z) ∙ e)
      (either_page y x)

  -- the store shows that owner
  pub shown_owner : (owners : List Owner) (hands : List (Stage × PassState)) (o : Owner) → o' ≡ owner_in hands o → ((y : ℕ) (p : Owner) → get_elem? owners y ≡ some p → owner y ≡ owner_in hands p) → (y : ℕ) (p : Owner) → get_elem? (set owners x o) y ≡ some p → put_at x o' owner y ≡ owner_in hands p
  shown_owner owners hands o is shown y p e =
      let put = is_put_at x o' owner in
      ⊎_elim
      (λ (z : (y ≡ x) × (o ≡ p)). ap (put_at x o' owner) z.0 ∙ (put.at ∙ (is ∙ ap (owner_in hands) z.1)))
      (λ (z : (y ≢ x) × (get_elem? owners y ≡ some p)). put.others y z.0 ∙ shown y p z.1)
      (at_set owners x y o p e)

-- an event by which a page gets another owner, and the time may pass
moved_by : (s : Pages PassState) (f : Simulates s) (n since : ℕ) (d : PassState) → Stands s n (Running since) d → (what : Seen) → GoesOn d.state what → (a : Action) → next_of d.state ≡ a → (x : ℕ) (was o : Owner) → get_elem? s.owners x ≡ some was → (o' : machine.Owner) → o' ≡ owner_in s.hands o → ((q : Name) → q ≢ name n d.number → o' ≢ machine.Held q) → (time then : ℕ) → time ≤ then → IsObserved f.world.now f.world.size a what → IsShown f.world.now (name n d.number) (f.world.proc (name n d.number)).time a what
    → Does f.world.now (name n d.number) (event_of (end_of_proc d.state) a what) (record f.world.now { owner = put_at x o' f.world.now.owner; clock = time })
    → ((y : ℕ) → put_of y (event_of (end_of_proc d.state) a what) ≡ 0) → ((y : ℕ) → event_of (end_of_proc d.state) a what ≡ Act.Get y → (y ≡ 0) ⊎ MayGet f.world (name n d.number) y)
    → (e : PassState) × Simulates (observed (record (owned s x o) { clock = then }) n (Running since) e) × Goes what d e
moved_by s f n since d at what c a next x was o here o' is else time then le said shown does quiet may =
    let s1 : State Page = record f.world.now { owner = put_at x o' f.world.now.owner; clock = time } in (
      then_known s f n since d at what c a next s1 said shown does,
      then_fits s f n since d at what c a next s1 said shown does (record (owned s x o) { clock = then }) refl refl le (λ q. refl)
          (λ y q ne e. kept_owner f.world.now.owner x o' (else q ne) y e)
          f.pages
          (λ y p e. shown_owner f.world.now.owner x o' s.owners s.hands o is f.owners y p e)
          (λ y version e. as_often s f y version (put_of y (event_of (end_of_proc d.state) a what)) e (quiet y))
          may,
      then_goes s f n since d at what c a next s1 said shown does,
    )

moved : (s : Pages PassState) (f : Simulates s) (n since : ℕ) (d : PassState) → Stands s n (Running since) d → (what : Seen) → GoesOn d.state what → (a : Action) → next_of d.state ≡ a → (x : ℕ) (was o : Owner) → get_elem? s.owners x ≡ some was → (o' : machine.Owner) → o' ≡ owner_in s.hands o → ((q : Name) → q ≢ name n d.number → o' ≢ machine.Held q) → IsObserved f.world.now f.world.size a what → IsShown f.world.now (name n d.number) (f.world.proc (name n d.number)).time a what
    → Does f.world.now (name n d.number) (event_of (end_of_proc d.state) a what) (record f.world.now { owner = put_at x o' f.world.now.owner })
    → ((y : ℕ) → put_of y (event_of (end_of_proc d.state) a what) ≡ 0) → ((y : ℕ) → event_of (end_of_proc d.state) a what ≡ Act.Get y → (y ≡ 0) ⊎ MayGet f.world (name n d.number) y)
    → (e : PassState) × Simulates (observed (owned s x o) n (Running since) e) × Goes what d e
moved s f n since d at what c a next x was o here o' is else said shown does quiet may = moved_by s f n since d at what c a next x was o here o' is else f.world.now.clock s.clock f.clock said shown does quiet may

-- where the hand runs its process
pub running : (R : Stage → Type 0) (s : Pages PassState) (f : Simulates s) (n : ℕ) (st : Stage) (d : PassState) → d.runs ≡ true → Stands s n st d → ((since : ℕ) → Stands s n (Running since) d → R (Running since)) → R st
running R s f n st d runs at go =
    let r = runs_on s f n st d at runs in
    subst R (sym r.1) (go r.0 (subst (λ (z : Stage). Stands s n z d) r.1 at))

-- a put is one more of its page, and none of others
put_once : {l : Layout} (s : Pages PassState) (f : Simulates s) → IsOrderly l s → (x : ℕ) (c : Page) (y version : ℕ) → get_elem? (set s.versions x (slice_index s.versions x + 1)) y ≡ some version → x < length s.contents → version ≡ puts_at y f.world.trail + put_of y (Act.Put x c)
put_once s f o x c y version e low = ⊎_elim
    (λ (z : (y ≡ x) × (slice_index s.versions x + 1 ≡ version)).
    let all = o.contents in
    let counted = o.versions in
    let was : slice_index s.versions x ≡ puts_at x f.world.trail = f.versions x (slice_index s.versions x) (index_there s.versions x 0 (omega arith)) in
    let one : put_of x (Act.Put x c) ≡ 1 = one_put x (Act.Put x c) c refl in
    subst (λ (k : ℕ). version ≡ puts_at k f.world.trail + put_of k (Act.Put x c)) (sym z.0) (let now = z.1 in omega arith))
    (λ (z : (y ≢ x) × (get_elem? s.versions y ≡ some version)). as_often s f y version (put_of y (Act.Put x c)) z.1 (other_put x y c z.0))
    (at_set s.versions x y (slice_index s.versions x + 1) version e)

module _ (l : Layout) (n : ℕ) (d : PassState) (runs : d.runs ≡ true) where
  got_page : (x : ℕ) → next_of d.state ≡ act.Get x → ((c : Page) → GoesOn d.state (seen.Words c)) → (s : Pages PassState) (since : ℕ) (words : List ℕ) (owner : Owner) (f : Simulates s) → IsOrderly l s → Stands s n (Running since) d → IsPage s x words owner
      → (owner ≢ Released) × (e : PassState) × Simulates (observed s n (Running since) e) × gets d x owner words e × ((y : ℕ) → puts_at y e.trail ≡ puts_at y f.world.trail)
  got_page x next course s since words owner f o at page =
      let w = f.world in
      let p = name n d.number in
      let is = standing s f n since d at in
      let c = w.now.contents x in
      let next_is : next_of (w.proc p).state ≡ act.Get x = ap next_of is.3 ∙ next in
      let may : (x ≡ 0) ⊎ MayGet w p x = subst (IsGot w p) next_is (got_next_is w p f.good) in
      let words_are : words ≡ words_of c = got_words w p x words f.good may (f.pages x words page.0) in
      let does : Does w.now p (Act.Get x) w.now = record { changes = (λ z. refl, λ z. refl, λ q. refl); on = omega arith } in
      let t = turned s f n since d at (seen.Words c) (course c) (act.Get x) next w.now refl tt does in
      let can : ((b : ℕ) × (w.now.phase p ≡ machine.Running b)) × (w.now.owner x ≢ machine.Released) = t.extends.steps.enabled in
      let u = unmoved s f n since d at (seen.Words c) (course c) (act.Get x) next refl tt does (λ y. refl) (λ y e. (let both : ◌≡◌ {A = Act Page Reply} (Act.Get x) (Act.Get y) = e in let same : x ≡ y = cc in subst (λ (z : ℕ). (z ≡ 0) ⊎ MayGet w p z) same may)) in
      (λ e. can.1 (f.owners x owner page.1 ∙ is_released s.hands owner e), u.0, u.1, (c, words_are, u.2), u.3)

  pub gets_page : (x : ℕ) → next_of d.state ≡ act.Get x → ((c : Page) → GoesOn d.state (seen.Words c)) → Gets Simulates l n d x gets
  gets_page x next course s since words owner f o at page =
      let got = got_page x next course s since words owner f o at page in
      (got.0, got.1, got.2, got.3)

  -- the same, and it is told how often the page was put by then
  pub gets_kept_page : (x : ℕ) → next_of d.state ≡ act.Get x → ((c : Page) → GoesOn d.state (seen.Words c)) → GetsAs Simulates l n d x gets_kept
  gets_kept_page x next course s since version words owner f o at page counted =
      let got = got_page x next course s since words owner f o at page in
      (got.0, got.1, got.2, (got.3, f.versions x version counted ∙ sym (got.4 x), firm_trail (observed s n (Running since) got.1) got.2 n (Running since) got.1 (set_there s.hands n (Running since, d) (Running since, got.1) at)))

  pub puts_page : (x : ℕ) (new : List ℕ) (c : Page) → next_of d.state ≡ act.Put x c → new ≡ words_of c → GoesOn d.state seen.Done → Puts Simulates l n d x new puts
  puts_page x new c next is course s st words owner f o at page =
      running (λ sg. (owner ≡ Held n) × (e : PassState) × Simulates (observed (written s x new) n sg e) × puts d x owner words e) s f n st d runs at (λ since at'.
      let w = f.world in
      let p = name n d.number in
      let s1 : State Page = record w.now { contents = put_at x c w.now.contents } in
      let put = is_put_at x c w.now.contents in
      let does : Does w.now p (Act.Put x c) s1 = record { changes = (put, λ z. refl, λ q. refl); on = omega arith } in
      let t = turned s f n since d at' seen.Done course (act.Put x c) next s1 tt tt does in
      let can : w.now.owner x ≡ machine.Held p = t.extends.steps.enabled in (
        is_held s.hands n d.number owner (sym (f.owners x owner page.1) ∙ can),
        then_known s f n since d at' seen.Done course (act.Put x c) next s1 tt tt does,
        then_fits s f n since d at' seen.Done course (act.Put x c) next s1 tt tt does (written s x new) refl (length-set s.contents x new) f.clock (λ q. refl) (λ y q ne e. e)
            (λ y ws e. ⊎_elim
            (λ (z : (y ≡ x) × (new ≡ ws)). subst (λ (v : ℕ × List ℕ). Shows v.0 v.1 (s1.contents v.0)) (λ i. (sym z.0 i, z.1 i)) (subst (Shows x new) (sym put.at) (shows_words x new c is)))
            (λ (z : (y ≢ x) × (get_elem? s.contents y ≡ some ws)). subst (Shows y ws) (sym (put.others y z.0)) (f.pages y ws z.1))
            (at_set s.contents x y new ws e))
            f.owners
            (λ y version e. put_once s f o x c y version e (at_below s.contents x words page.0))
            (λ y e. absurd cc),
        then_goes s f n since d at' seen.Done course (act.Put x c) next s1 tt tt does,
      ))

  pub opens_page : (x : ℕ) → next_of d.state ≡ act.Open x → GoesOn d.state seen.Done → Opens Simulates l n d x opens
  opens_page x next course s st words owner f o at page =
      running (λ sg. (owner ≡ Held n) × (e : PassState) × Simulates (observed (owned s x Open) n sg e) × opens d x owner words e) s f n st d runs at (λ since at'.
      let w = f.world in
      let p = name n d.number in
      let does : Does w.now p (Act.Open x) (record w.now { owner = put_at x machine.Owner.Open w.now.owner }) = record { changes = (λ z. refl, is_put_at x machine.Owner.Open w.now.owner, λ q. refl); on = omega arith } in
      let t = turned s f n since d at' seen.Done course (act.Open x) next (record w.now { owner = put_at x machine.Owner.Open w.now.owner }) tt tt does in
      let can : w.now.owner x ≡ machine.Held p = t.extends.steps.enabled in
      let u = moved s f n since d at' seen.Done course (act.Open x) next x owner Open page.1 machine.Owner.Open refl (λ q ne e. let z : machine.Owner.Open ≡ machine.Held q = e in cc) tt tt does (λ y. refl) (λ y e. absurd cc) in
      (is_held s.hands n d.number owner (sym (f.owners x owner page.1) ∙ can), u.0, u.1, u.2))

  -- it is retired at the time of the store's clock, which the world's has not passed
  pub retires_page : (x : ℕ) → next_of d.state ≡ act.Retire x → GoesOn d.state seen.Done → Retires Simulates l n d x retires
  retires_page x next course s st words owner f o at page =
      running (λ sg. (owner ≡ Held n) × (e : PassState) × Simulates (observed (later (owned s x (Retired s.clock))) n sg e) × retires d s.clock e) s f n st d runs at (λ since at'.
      let w = f.world in
      let p = name n d.number in
      let s1 : State Page = record w.now { owner = put_at x (machine.Retired s.clock) w.now.owner; clock = s.clock + 1 } in
      let low : w.now.clock ≤ s.clock = f.clock in
      let does : Does w.now p (Act.Retire x) s1 = record {
        changes = (s.clock, low, omega arith, (λ z. refl, is_put_at x (machine.Retired s.clock) w.now.owner, λ q. refl));
        on = omega arith;
      } in
      let t = turned s f n since d at' seen.Done course (act.Retire x) next s1 tt tt does in
      let can : w.now.owner x ≡ machine.Held p = t.extends.steps.enabled in
      let u = moved_by s f n since d at' seen.Done course (act.Retire x) next x owner (Retired s.clock) page.1 (machine.Retired s.clock) refl (λ q ne e. let z : machine.Retired s.clock ≡ machine.Held q = e in cc) (s.clock + 1) (s.clock + 1) (omega arith) tt tt does (λ y. refl) (λ y e. absurd cc) in
      (is_held s.hands n d.number owner (sym (f.owners x owner page.1) ∙ can), u.0, u.1, u.2))

  pub latches_page : (x : ℕ) → next_of d.state ≡ act.Latch x → GoesOn d.state seen.Done → Latches Simulates l n d x tries
  latches_page x next course s st words f o at page =
      running (λ sg. (e : PassState) × Simulates (observed (owned s x (Held n)) n sg e) × tries d x Open words e) s f n st d runs at (λ since at'.
      let w = f.world in
      let p = name n d.number in
      let free : w.now.owner x ≡ machine.Owner.Open = f.owners x Open page.1 in
      let does : Does w.now p (Act.Latch x) (record w.now { owner = put_at x (machine.Held p) w.now.owner }) = record { changes = (λ z. refl, is_put_at x (machine.Held p) w.now.owner, λ q. refl); on = omega arith } in
      let u = moved s f n since d at' seen.Done course (act.Latch x) next x Open (Held n) page.1 (machine.Held p) (sym (held_by s.hands n (Running since, d) at')) (λ q ne e. let z : p ≡ q = cc in ne (sym z)) free tt does (λ y. refl) (λ y e. absurd cc) in
      (u.0, u.1, ((λ e. u.2), λ ne. absurd (ne refl))))

  -- what it is told of the page is true
  probed : (x : ℕ) (s : Pages PassState) (st : Stage) (f : Simulates s) → Stands s n st d → next_of d.state ≡ act.Probe x → (free : Bool) → GoesOn d.state (seen.Probed free) → (free ≡ true → f.world.now.owner x ≡ machine.Owner.Open) → (e : PassState) × Simulates (observed s n st e) × Goes (seen.Probed free) d e
  probed x s st f at next free course observed_it =
      running (λ sg. (e : PassState) × Simulates (observed s n sg e) × Goes (seen.Probed free) d e) s f n st d runs at (λ since at'.
      let w = f.world in
      let does : Does w.now (name n d.number) (Act.Look (OfPage x)) w.now = record { changes = (λ z. refl, λ z. refl, λ q. refl); on = omega arith } in
      let u = unmoved s f n since d at' (seen.Probed free) course (act.Probe x) next observed_it tt does (λ y. refl) (λ y e. absurd cc) in
      (u.0, u.1, u.2))

  pub probes_page : (x : ℕ) → next_of d.state ≡ act.Probe x → ((free : Bool) → GoesOn d.state (seen.Probed free)) → Probes Simulates l n d x probes
  probes_page x next course s st words Open f o at page =
      let u = probed x s st f at next true (course true) (λ e. f.owners x Open page.1) in
      (u.0, u.1, ((λ e. u.2), λ ne. absurd (ne refl)))
  probes_page x next course s st words Released f o at page =
      let u = probed x s st f at next false (course false) (λ e. absurd (cc e)) in
      (u.0, u.1, ((λ e. absurd (cc e)), λ ne. u.2))
  probes_page x next course s st words (Held q) f o at page =
      let u = probed x s st f at next false (course false) (λ e. absurd (cc e)) in
      (u.0, u.1, ((λ e. absurd (cc e)), λ ne. u.2))
  probes_page x next course s st words (Retired t) f o at page =
      let u = probed x s st f at next false (course false) (λ e. absurd (cc e)) in
      (u.0, u.1, ((λ e. absurd (cc e)), λ ne. u.2))

  pub misses_page : (x : ℕ) → next_of d.state ≡ act.Latch x → GoesOn d.state seen.Missed → Misses Simulates l n d x tries
  misses_page x next course s st words owner f o at page shut =
      running (λ sg. (e : PassState) × Simulates (observed s n sg e) × tries d x owner words e) s f n st d runs at (λ since at'.
      let w = f.world in
      let does : Does w.now (name n d.number) (Act.Miss (missed.Latch x)) w.now = record { changes = (λ z. refl, λ z. refl, λ q. refl); on = omega arith } in
      let u = unmoved s f n since d at' seen.Missed course (act.Latch x) next tt tt does (λ y. refl) (λ y e. absurd cc) in
      (u.0, u.1, ((λ e. absurd (shut e)), λ ne. u.2)))

  pub takes_page : (x : ℕ) → next_of d.state ≡ act.Take → ((y : ℕ) → IsChild y → GoesOn d.state (seen.Took y)) → Takes Simulates l n d x takes
  takes_page x next course s st words f o at page =
      running (λ sg. (e : PassState) × Simulates (observed (owned s x (Held n)) n sg e) × takes d x Released words e) s f n st d runs at (λ since at'.
      let w = f.world in
      let p = name n d.number in
      let free : w.now.owner x ≡ machine.Released = f.owners x Released page.1 in
      let low : 0 < x = above x free in
      let within : x < length s.contents = at_below s.contents x words page.0 in
      let wide = l.pages_within in
      let all = o.contents in
      let child : IsChild x = (low, omega arith) in
      let sized : x < w.size = rw f.size within in
      let does : Does w.now p (Act.Take x) (record w.now { owner = put_at x (machine.Held p) w.now.owner }) = record { changes = (λ z. refl, is_put_at x (machine.Held p) w.now.owner, λ q. refl); on = omega arith } in
      let u = moved s f n since d at' (seen.Took x) (course x child) act.Take next x Released (Held n) page.1 (machine.Held p) (sym (held_by s.hands n (Running since, d) at')) (λ q ne e. let z : p ≡ q = cc in ne (sym z)) (free, sized) tt does (λ y. refl) (λ y e. absurd cc) in
      (u.0, u.1, u.2))
    where
      above : (x : ℕ) → f.world.now.owner x ≡ machine.Released → 0 < x
      above zero e = absurd (anchor_not_released know f.world f.good e)
      above (suc x) e = omega arith

  pub refuses_take : next_of d.state ≡ act.Take → GoesOn d.state seen.Refused → Refuses Simulates l n d refuses
  refuses_take next course s st f o at =
      running (λ sg. (e : PassState) × Simulates (observed s n sg e) × refuses d s.clock e) s f n st d runs at (λ since at'.
      let w = f.world in
      let does : Does w.now (name n d.number) (Act.Miss missed.Reservation) w.now = record { changes = (λ z. refl, λ z. refl, λ q. refl); on = omega arith } in
      let u = unmoved s f n since d at' seen.Refused course act.Take next tt tt does (λ y. refl) (λ y e. absurd cc) in
      (u.0, u.1, u.2))

  pub refuses_put : (x : ℕ) (c : Page) → next_of d.state ≡ act.Put x c → GoesOn d.state seen.Refused → Refuses Simulates l n d refuses
  refuses_put x c next course s st f o at =
      running (λ sg. (e : PassState) × Simulates (observed s n sg e) × refuses d s.clock e) s f n st d runs at (λ since at'.
      let w = f.world in
      let does : Does w.now (name n d.number) (Act.Miss missed.Reservation) w.now = record { changes = (λ z. refl, λ z. refl, λ q. refl); on = omega arith } in
      let u = unmoved s f n since d at' seen.Refused course (act.Put x c) next tt tt does (λ y. refl) (λ y e. absurd cc) in
      (u.0, u.1, u.2))

-- A page that was put as often as at a get of it was not put since, in all that the hand's pass has seen.
pub unput : (l : Layout) (n : ℕ) (d : PassState) (x version : ℕ) → Implies Simulates l n d x version is_unput
unput l n d x version s st f o at counted before since get split was =
    let h = f.hands n st d at in
    let now : puts_at x ((before ++ get ∷ since) ++ h.begins.0) ≡ version = ap (λ (trail : Trail). puts_at x (trail ++ h.begins.0)) (sym split) ∙ (ap (puts_at x) (sym h.begins.1) ∙ sym (f.versions x version counted)) in
    unput_by_count x version before since h.begins.0 get was now
