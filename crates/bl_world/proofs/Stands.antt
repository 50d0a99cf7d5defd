-- One turn on the lists of a world.
use Rattle.std.proofs.Common.{ℕ, ◌≡◌, ◌≢◌, ◌<◌, ◌≤◌, ◌++◌, suc, Some, List, [], ◌∷◌, length, slice_get, arith, ap, sym, ◌∙◌, refl, inl, inr}
use Rattle.std.proofs.lemmas.Bool.{cases_eq}
use Rattle.bl_model.specs.Map.{empty}
use Rattle.bl_model.specs.declared.operation.Reply.{Reply}
use Rattle.bl_page.specs.declared.page.Page.{Page}
use Rattle.bl_page.specs.Machine.{Name, State, Act as MachineAct, Enabled, Changes}
use Rattle.bl_page.specs.Machine.Owner.{Released, Held}
use Rattle.bl_page.specs.Machine.Act.{Begin, End, Get, Put, Take, Latch, Retire, Look, Release, Miss}
use Rattle.bl_claims.specs.Trails.{Mark, Trail, events_of, marks_of}
use Rattle.bl_tree_worlds.proofs.Pushes.{marks_of-other}
use Rattle.bl_tree_worlds.proofs.States.{moments_on}
use Rattle.bl_proc.specs.declared.reclaiming.Reclaim.{Reclaim}
use Rattle.bl_proc.specs.declared.kinds.Proc.{Proc}
use Rattle.bl_proc.specs.declared.kinds.Proc.TheVariants as proc
use Rattle.bl_proc_invariant.specs.Knowing.{Run}
use Rattle.bl_proc_bounds.proofs.Turns.{Paced}
use Rattle.bl_world.specs.declared.turns.Act.{Act}
use Rattle.bl_world.specs.declared.turns.Act.TheVariants as shown
use Rattle.bl_world.specs.declared.turns.Event.{Event}
use Rattle.bl_world.specs.declared.owners.Owner.{Owner}
use Rattle.bl_world.specs.Views.{name_of, owner_of, act_shown, events_shown}
use Rattle.bl_world.specs.Retirements.{Stands, IsRetired, HasSeen}
use Rattle.bl_world.specs.Worlds.{IsReclaiming, HasWorld}
use Rattle.bl_world.proofs.Places.{push_cases}
use Rattle.bl_world.proofs.Retired.{push_new}
use Rattle.bl_world.proofs.Times.{times_on}
use Rattle.bl_world.proofs.Reclaims.{reclaiming_on, releases_on}
use Rattle.bl_world.proofs.Moments.{world_moment}

-- an event leaves all other processes where they stood
pub phase_others : (s s' : State Page) (p q : Name) (a : MachineAct Page Reply) → Changes s p a s' → q ≢ p → s'.phase q ≡ s.phase q
phase_others s s' p q Begin c n = c.2.3.others q n
phase_others s s' p q (End answer) c n = c.2.others q n
phase_others s s' p q (Get x) c n = c.2 q
phase_others s s' p q (Put x d) c n = c.2 q
phase_others s s' p q (Take x) c n = c.2 q
phase_others s s' p q (Latch x) c n = c.2 q
phase_others s s' p q (MachineAct.Open x) c n = c.2 q
phase_others s s' p q (Retire x) c n = c.3.2 q
phase_others s s' p q (Look it) c n = c.2 q
phase_others s s' p q (Release x) c n = c.2 q
phase_others s s' p q (Miss what) c n = c.2 q

pub shown_push : (trail : Trail) (m : Mark) → events_shown (events_of (trail ++ m ∷ [])) ≡ events_shown (events_of trail) ++ record { process = m.event.process.pass; act = act_shown m.event.act } ∷ []
shown_push [] m = refl
shown_push (x ∷ trail) m = ap (λ es. record { process = x.event.process.pass; act = act_shown x.event.act } ∷ es) (shown_push trail m)

pub name_differs : (a b : ℕ) → a ≢ b → name_of (suc a) ≢ name_of (suc b)
name_differs a b n e = n (let f : suc a ≡ suc b = ap (λ q. q.pass) e in omega arith)

-- the event of one process is not that of another
own_event : (events : List Event) (n i : ℕ) (act other : Act) → i ≢ n → Stands (events ++ record { process = suc n; act = act } ∷ []) (length events) (suc i) other → ⊥
own_event events n i act other ne s =
    let mine : Event = record { process = suc n; act = act } in
    let its : Event = record { process = suc i; act = other } in
    let e : Some mine ≡ Some its = sym (push_new events mine) ∙ s in
    let f : mine ≡ its = cc in
    let g : suc n ≡ suc i = ap (λ z. z.process) f in
    ne (omega (arith, g))

-- the pages that no list shows stay as they were
beyond : (s s' : State Page) (p : Name) (a : MachineAct Page Reply) (size : ℕ) → ((x : ℕ) → s.owner x ≡ Held p → x < size) → Enabled s p a → Changes s p a s' → (x : ℕ) → size ≤ x → s'.contents x ≡ s.contents x
beyond s s' p Begin size small enabled c x far = c.0 x
beyond s s' p (End answer) size small enabled c x far = c.0 x
beyond s s' p (Get y) size small enabled c x far = c.0 x
beyond s s' p (Put y d) size small enabled c x far = c.0.others x (λ e. (let l = small y enabled in omega (arith, e, l, far)))
beyond s s' p (Take y) size small enabled c x far = c.0 x
beyond s s' p (Latch y) size small enabled c x far = c.0 x
beyond s s' p (MachineAct.Open y) size small enabled c x far = c.0 x
beyond s s' p (Retire y) size small enabled c x far = c.3.0 x
beyond s s' p (Look it) size small enabled c x far = c.0 x
beyond s s' p (Release y) size small enabled c x far = c.0 x
beyond s s' p (Miss what) size small enabled c x far = c.0 x

-- a page that is held is one of the lists
held_small : {pages : List Page} {owners : List Owner} {processes : List Proc} {events : List Event} (h : HasWorld pages owners processes events) (x : ℕ) (p : Name) → h.world.now.owner x ≡ Held p → x < h.world.size
held_small h x p held = h.good.owned.small x (λ f. (let o : Released ≡ Held p = sym (h.good.owned.free x f) ∙ held in cc))

-- The lists after one event, how the trail goes on, and that no other page changes.
abbrev pub Grows : {pages : List Page} {owners : List Owner} {processes : List Proc} {events : List Event} → HasWorld pages owners processes events → List Page → List Owner → List Proc → List Event → Type 0
Grows h pages owners processes events =
    (after : HasWorld pages owners processes events) × ((more : Trail) × (after.world.trail ≡ h.world.trail ++ more))
    × ((x : ℕ) → h.world.size ≤ x → after.world.now.contents x ≡ h.world.now.contents x)

-- After one turn of process n the lists are those of the world after it.
pub turned_lists : (pages pages' : List Page) (owners owners' : List Owner) (processes processes' : List Proc) (events : List Event) (n : ℕ) (a : MachineAct Page Reply) (s : State Page) (b : Run) → (h : HasWorld pages owners processes events) → n < length processes → length pages' ≡ length pages → length owners' ≡ length owners → length processes' ≡ length processes → ((x : ℕ) (c : Page) → slice_get pages' x ≡ Some c → s.contents x ≡ c) → ((x : ℕ) (o : Owner) → slice_get owners' x ≡ Some o → s.owner x ≡ owner_of o) → ((p : Proc) → slice_get processes' n ≡ Some p → b.state ≡ p) → ((i : ℕ) → i ≢ n → slice_get processes' i ≡ slice_get processes i) → s.clock ≡ suc h.world.now.clock → ((q : Reclaim) → slice_get processes' n ≡ Some (proc.Reclaim q) → (q.page < length pages) × IsReclaiming (events ++ record { process = suc n; act = act_shown a } ∷ []) (suc n) q.page b.time q.stage) → ((x : ℕ) → act_shown a ≡ shown.Release x → (k : ℕ) × HasSeen events (suc n) x k (length events) × IsRetired events x k (length events)) → Paced h.world (name_of (suc n)) a s b → Grows h pages' owners' processes' (events ++ record { process = suc n; act = act_shown a } ∷ [])
turned_lists pages pages' owners owners' processes processes' events n a s b h here count pairs many contents owner new rest on mine releases t =
    let p = name_of (suc n) in
    let old = h.world in
    let next = t.turned.next in
    let e = t.turned.extends in (
      record {
        world = next;
        good = t.turned.good;
        logs = t.logs;
        kept = t.kept h.kept;
        opening = rw e.start h.opening;
        first = e.first ∙ h.first;
        size = e.size ∙ (h.size ∙ sym count);
        paired = pairs ∙ (h.paired ∙ sym count);
        contents = λ x c i. ap (λ z. z.contents x) t.turned.now ∙ contents x c i;
        owner = λ x o i. ap (λ z. z.owner x) t.turned.now ∙ owner x o i;
        runs = λ i c is. elim (cases_eq i n) [
          | inl eq ↦ ap (λ z. (next.proc (name_of (suc z))).state) eq ∙ (ap (λ r. r.state) e.proc.at ∙ new c (sym (ap (slice_get processes') eq) ∙ is))
          | inr ne ↦ ap (λ r. r.state) (e.proc.others (name_of (suc i)) (name_differs i n ne)) ∙ h.runs i c (sym (rest i ne) ∙ is)
        ];
        others = λ q unknown.
            let o = h.others q (λ i l. unknown i (rw many l)) in
            let ne : q ≢ p = unknown n (rw many here) in
            (phase_others old.now next.now p q a e.steps.changes ne ∙ o.0, rw (e.proc.others q ne) o.1, ap (marks_of q) e.trail ∙ (marks_of-other q old.trail _ (λ i. ne (sym i)) ∙ o.2));
        shown = ap (λ es. es ++ record { process = suc n; act = act_shown a } ∷ []) h.shown ∙ (sym (shown_push old.trail _) ∙ ap (λ t. events_shown (events_of t)) (sym e.trail));
        numbered = λ i k is. elim (push_cases old.trail _ i k (ap (λ t. slice_get t i) (sym e.trail) ∙ is)) [
          | inl is_old ↦ h.numbered i k is_old
          | inr is_new ↦ ap (λ z. z.event.process.number) is_new.1
        ];
        moments = moments_on empty old.start next.start old.trail next.trail _ e.start e.trail h.moments (world_moment next t.turned.good t.logs (e.first ∙ h.first));
        times = times_on old next events n a e.steps.enabled e.steps.changes (ap (λ z. z.clock) t.turned.now ∙ on) h.times;
        inside = λ i q is. elim (cases_eq i n) [
          | inl eq ↦ rw count (mine q (sym (ap (slice_get processes') eq) ∙ is)).0
          | inr ne ↦ rw count (h.inside i q (sym (rest i ne) ∙ is))
        ];
        reclaiming = λ i q is. elim (cases_eq i n) [
          | inl eq ↦ rw (eq, e.proc.at) (mine q (sym (ap (slice_get processes') eq) ∙ is)).1
          | inr ne ↦ rw (e.proc.others (name_of (suc i)) (name_differs i n ne)) (reclaiming_on events _ (suc i) q.page (old.proc (name_of (suc i))).time q.stage (λ s. own_event events n i (act_shown a) (shown.See q.page) ne s) (h.reclaiming i q (sym (rest i ne) ∙ is)))
        ];
        releases = releases_on events _ releases h.releases;
      },
      (_ ∷ [], e.trail),
      beyond old.now next.now p a old.size (λ x held. held_small h x p held) e.steps.enabled e.steps.changes,
    )
