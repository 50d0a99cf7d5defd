-- The turns of a process that is to release a page, on the lists of a world.
use Rattle.std.proofs.Common.{ℕ, ◌≡◌, ◌≢◌, ◌⊎◌, ◌-◌, ◌<◌, ◌≤◌, ◌↔◌, suc, Bool, true, false, IsTrue, Some, List, length, slice_get, slice_set, arith, ap, sym, ◌∙◌, refl, subst, inl, inr}
use Rattle.std.proofs.lemmas.Bool.{cases_eq, cases_lt, false≢true}
use Rattle.std.proofs.lemmas.Option.{slice_get_within}
use Rattle.bl_page.specs.declared.page.Page.{Page}
use Rattle.bl_page.specs.Machine.{Name, State, Owner as MachineOwner}
use Rattle.bl_page.specs.Machine.Owner.{Retired, Released as MachineReleased}
use Rattle.bl_page.specs.Machine.Phase.{Waiting, Running, Ended}
use Rattle.bl_tree_worlds.proofs.After.{put_at, is_put_at}
use Rattle.bl_proc_steps.specs.declared.acts.Action.{Action}
use Rattle.bl_proc_steps.specs.declared.acts.Action.TheVariants as act
use Rattle.bl_proc_steps.specs.declared.acts.Seen.{Seen}
use Rattle.bl_proc_steps.specs.declared.acts.Seen.TheVariants as seen
use Rattle.bl_proc.specs.declared.reclaiming.Reclaim.{Reclaim}
use Rattle.bl_proc.specs.declared.kinds.Proc.{Proc}
use Rattle.bl_proc.specs.declared.kinds.Proc.TheVariants as proc
use Rattle.bl_proc.specs.Reclaims.{reclaim_next_in, ReclaimTakes}
use Rattle.bl_proc.specs.Processes.{next_of, Takes}
use Rattle.bl_proc_invariant.specs.Knowing.{retired_since, reclaim_time, time_next, run_next}
use Rattle.bl_world.specs.declared.turns.Act.{Act}
use Rattle.bl_world.specs.declared.turns.Act.TheVariants as shown
use Rattle.bl_world.specs.declared.turns.Event.{Event}
use Rattle.bl_world.specs.declared.owners.Owner.{Owner}
use Rattle.bl_world.specs.declared.owners.Owner.TheVariants as own
use Rattle.bl_world.specs.Views.{name_of, owner_of, is_retired}
use Rattle.bl_world.specs.Turns.{IsToRelease}
use Rattle.bl_world.specs.Retirements.{Stands, IsRetired, HasSeen, Blocks, SawUnretired, SawBlocked, MissedRelease}
use Rattle.bl_world.specs.Worlds.{IsUnknown, IsReclaiming, HasWorld}
use Rattle.bl_world.proofs.Places.{push_length}
use Rattle.bl_world.proofs.Stands.{Grows}
use Rattle.bl_world.proofs.Retired.{act_at, push_new, push_agree, retired_same, blocks_same, seen_new, seen_one}
use Rattle.bl_world.proofs.Looks.{IsOfTree, reclaims}
use Rattle.bl_world.proofs.Reclaims.{old_seen, not_more, seen_more, after_see, after_look, after_release, after_miss}
use Rattle.bl_world.proofs.Arms.{after_act, turned, now_is, stay, owns, stands}

-- a name is that of a process that was started, or of none
pub named : (count : ℕ) (q : Name) → ((n : ℕ) × (n < count) × (q ≡ name_of (suc n))) ⊎ IsUnknown count q
named count q = elim (cases_eq q.number 0) [
  | inl zero_is ↦ elim (cases_lt 0 q.pass) [
    | inl some ↦ elim (cases_lt count q.pass) [
      | inl far ↦ inr (λ n l e. (let f = ap (λ z. z.pass) e in omega (arith, f, l, far)))
      | inr near ↦ inl (q.pass - 1, omega (arith, some, near), λ i. record { pass = (let p : q.pass ≡ suc (q.pass - 1) = omega (arith, some) in p) i; number = zero_is i })
    ]
    | inr none ↦ inr (λ n l e. (let f = ap (λ z. z.pass) e in omega (arith, f, none)))
  ]
  | inr other ↦ inr (λ n l e. other (ap (λ z. z.number) e))
]

-- what an owner tells

retired_time : (o : Owner) (m : MachineOwner) → m ≡ owner_of o → is_retired o ≡ true → (time : ℕ) × (m ≡ Retired time)
retired_time (own.Retired k) m is e = (k, is)
retired_time old m is e = absurd (false≢true e)

not_retired : (o : Owner) (k : ℕ) → is_retired o ≡ false → owner_of o ≡ Retired k → ⊥
not_retired own.Released k e is = cc
not_retired own.Open k e is = cc
not_retired (own.Held q) k e is = cc
not_retired (own.Retired j) k e is = false≢true (sym e)

retired_owner : (o : Owner) (k : ℕ) → owner_of o ≡ Retired k → o ≡ own.Retired k
retired_owner own.Released k is = absurd (let e : MachineReleased ≡ Retired k = is in cc)
retired_owner own.Open k is = absurd (let e : MachineOwner.Open ≡ Retired k = is in cc)
retired_owner (own.Held q) k is = absurd (let e : MachineOwner.Held (name_of q) ≡ Retired k = is in cc)
retired_owner (own.Retired j) k is = ap own.Retired (let e : Retired j ≡ Retired k = is in let f : j ≡ k = cc in f)

-- such a process goes on as one
takes_reclaim : (old : Reclaim) (what : Seen) (p : Proc) → Takes (proc.Reclaim old) what p → (new : Reclaim) × (p ≡ proc.Reclaim new) × ReclaimTakes old what new
takes_reclaim old what (proc.Reclaim new) t = (new, refl, t)
takes_reclaim old what new t = absurd t

-- what is known of such a process that goes on, before and after
record Goes (pages : List Page) (owners : List Owner) (processes : List Proc) (events : List Event) (n : ℕ) (p0 p1 : Proc) (action : Action) (what : Seen) (h : HasWorld pages owners processes events) : Type 0 where
  pub old : Reclaim
  pub new : Reclaim
  pub was : p0 ≡ proc.Reclaim old
  pub is : p1 ≡ proc.Reclaim new
  pub takes : ReclaimTakes old what new
  pub next : reclaim_next_in old.page old.stage ≡ action
  pub inside : new.page < length pages
  pub known : IsReclaiming events (suc n) old.page (h.world.proc (name_of (suc n))).time old.stage
  pub time : (run_next h.world.now (h.world.proc (name_of (suc n))) what p1).time ≡ reclaim_time h.world.now (h.world.proc (name_of (suc n))).time old.page old.stage

goes : (pages : List Page) (owners : List Owner) (processes : List Proc) (events : List Event) (n : ℕ) (p0 p1 : Proc) (action : Action) (what : Seen) (h : HasWorld pages owners processes events) → slice_get processes n ≡ Some p0 → next_of p0 ≡ action → (IsOfTree action → ⊥) → Takes p0 what p1 → Goes pages owners processes events n p0 p1 action what h
goes pages owners processes events n p0 p1 action what h stood next else_so takes =
    let old = reclaims p0 (λ tree. else_so (subst IsOfTree next tree)) in
    let new = takes_reclaim old.0 what p1 (subst (λ z. Takes z what p1) old.1 takes) in
    let here : slice_get processes n ≡ Some (proc.Reclaim old.0) = stood ∙ ap Some old.1 in
    let inside = h.inside n old.0 here in
    let same = new.2.0 in
    record {
      old = old.0;
      new = new.0;
      was = old.1;
      is = new.1;
      takes = new.2;
      next = subst (λ z. next_of z ≡ action) old.1 next;
      inside = omega (arith, same, inside);
      known = h.reclaiming n old.0 here;
      time = ap (time_next h.world.now (h.world.proc (name_of (suc n))).time) (h.runs n p0 stood ∙ old.1);
    }

module _ (pages : List Page) (owners : List Owner) (processes : List Proc) (events : List Event) (n : ℕ) (p0 p1 : Proc) (stood : slice_get processes n ≡ Some p0) where
  abbrev last : ℕ
  last = length events

  -- what is known of who stands there now
  mine : (act : Act) (action : Action) (what : Seen) (h : HasWorld pages owners processes events) (g : Goes pages owners processes events n p0 p1 action what h) (time : ℕ) → IsReclaiming (after_act pages owners processes events n p0 p1 stood act) (suc n) g.new.page time g.new.stage → (q : Reclaim) → slice_get (slice_set processes n p1) n ≡ Some (proc.Reclaim q) → (q.page < length pages) × IsReclaiming (after_act pages owners processes events n p0 p1 stood act) (suc n) q.page time q.stage
  mine act action what h g time is q stands =
      let e : g.new ≡ q = (let f : proc.Reclaim g.new ≡ proc.Reclaim q = sym g.is ∙ now_is pages owners processes events n p0 p1 stood (proc.Reclaim q) stands in cc) in
      subst (λ (z : Reclaim). (z.page < length pages) × IsReclaiming (after_act pages owners processes events n p0 p1 stood act) (suc n) z.page time z.stage) e (g.inside, is)

  -- since when the process has seen the page retired
  seen_time : (x k : ℕ) (action : Action) (what : Seen) (h : HasWorld pages owners processes events) (g : Goes pages owners processes events n p0 p1 action what h) → g.old.page ≡ x → HasSeen events (suc n) g.old.page (h.world.proc (name_of (suc n))).time last → HasSeen events (suc n) x k last → (h.world.proc (name_of (suc n))).time ≡ k
  seen_time x k action what h g page s t = seen_one events (suc n) x (h.world.proc (name_of (suc n))).time k last (subst (λ z. HasSeen events (suc n) z (h.world.proc (name_of (suc n))).time last) page s) t

  pub sees : (x : ℕ) (o : Owner) → slice_get owners x ≡ Some o → next_of p0 ≡ act.See x → Takes p0 (seen.Owner (is_retired o) (length processes) (suc n)) p1 → (h : HasWorld pages owners processes events) → Grows h pages owners (slice_set processes n p1) (after_act pages owners processes events n p0 p1 stood (shown.See x))
  sees x o there next takes h =
      let now = h.world.now in
      let what = seen.Owner (is_retired o) (length processes) (suc n) in
      let g = goes pages owners processes events n p0 p1 (act.See x) what h stood next (λ z. z) takes in
      let r = after_see g.old.page x (length processes) (suc n) (is_retired o) g.old.stage g.new.stage g.next g.takes.1 in
      let page : g.new.page ≡ x = g.takes.0 ∙ r.0 in
      let time0 = (h.world.proc (name_of (suc n))).time in
      let time = (run_next now (h.world.proc (name_of (suc n))) what p1).time in
      let e : Event = record { process = suc n; act = shown.See x } in
      let more = after_act pages owners processes events n p0 p1 stood (shown.See x) in
      let here : Stands more last (suc n) (shown.See x) = push_new events e in
      let is_owner : now.owner x ≡ owner_of o = h.owner x o there in
      let knows : IsReclaiming more (suc n) g.new.page time g.new.stage = elim r.2 [
        | inl hit ↦
            let kept = retired_time o (now.owner x) is_owner hit.0 in
            let when : time ≡ kept.0 = g.time ∙ (ap (λ z. reclaim_time now time0 g.old.page z) r.1 ∙ (ap (λ z. retired_since (now.owner z) time0) r.0 ∙ ap (λ z. retired_since z time0) kept.1)) in
            let was = h.times.retired x kept.0 kept.1 in
            let has : HasSeen more (suc n) x kept.0 (length more) = subst (HasSeen more (suc n) x kept.0) (sym (push_length events e)) (seen_new more last (suc n) x kept.0 here (retired_same events more last (push_agree events e last (omega arith)) x kept.0 was)) in
            hit.1 more (suc n) g.new.page time (subst (λ z. HasSeen more (suc n) z time (length more)) (sym page) (subst (λ z. HasSeen more (suc n) x z (length more)) (sym when) has))
        | inr else_so ↦
            let saw : SawUnretired more (suc n) x = (last, here, λ k. not_more events e x k last (omega arith) (λ r. not_retired o k else_so.0 (sym is_owner ∙ h.times.only x k r))) in
            else_so.1 more (suc n) g.new.page time (subst (SawUnretired more (suc n)) (sym page) saw)
      ] in
      let s : State Page = record now { clock = suc now.clock } in
      stay pages owners processes events n p0 p1 stood what _ h s refl refl refl (mine (shown.See x) (act.See x) what h g time knows) (λ y f. absurd cc)
      (turned pages owners processes events n p0 p1 stood what (act.See x) h s next takes tt
      (record {
        is_retired = retired_time o (now.owner x) is_owner;
        is_own = refl;
        among = λ q since runs. elim (named (length processes) q) [
          | inl started ↦ (suc started.0, omega arith, omega (arith, started.1), started.2)
          | inr far ↦ absurd (let f : Waiting ≡ Running since = sym (h.others q far).0 ∙ runs in cc)
        ];
      })
      (record { changes = (λ y. refl, λ y. refl, λ q. refl); on = omega arith }))

  pub looks : (x k q : ℕ) (blocks : Bool) → IsToRelease p0 x → HasSeen events (suc n) x k last → (IsTrue blocks ↔ Blocks events q k last) → next_of p0 ≡ act.Look q → Takes p0 (seen.Blocks blocks) p1 → (h : HasWorld pages owners processes events) → Grows h pages owners (slice_set processes n p1) (after_act pages owners processes events n p0 p1 stood (shown.Look q))
  looks x k q blocks of_page has truly next takes h =
      let now = h.world.now in
      let what = seen.Blocks blocks in
      let g = goes pages owners processes events n p0 p1 (act.Look q) what h stood next (λ z. z) takes in
      let r = after_look g.old.page q blocks g.old.stage g.new.stage g.next g.takes.1 in
      let page : g.old.page ≡ x = subst (λ z. IsToRelease z x) g.was of_page in
      let new_page : g.new.page ≡ x = g.takes.0 ∙ page in
      let time0 = (h.world.proc (name_of (suc n))).time in
      let time = (run_next now (h.world.proc (name_of (suc n))) what p1).time in
      let same : time0 ≡ k = seen_time x k (act.Look q) what h g page (r.1 events (suc n) g.old.page time0 g.known) has in
      let when : time ≡ k = g.time ∙ (r.0 now time0 ∙ same) in
      let e : Event = record { process = suc n; act = shown.Look q } in
      let more = after_act pages owners processes events n p0 p1 stood (shown.Look q) in
      let here : Stands more last (suc n) (shown.Look q) = push_new events e in
      let few : k ≤ last = (let a = has.before in let b = has.retired.before in omega (arith, a, b)) in
      let knows : IsReclaiming more (suc n) g.new.page time g.new.stage = elim r.2 [
        | inl else_so ↦
            let has_more : HasSeen more (suc n) x k (length more) = seen_more events e (suc n) x k (λ s. (let f : shown.Look q ≡ shown.See x = act_at more last e (suc n) (shown.See x) here s in cc)) has in
            else_so.1 more (suc n) g.new.page time (subst (λ z. HasSeen more (suc n) z time (length more)) (sym new_page) (subst (λ z. HasSeen more (suc n) x z (length more)) (sym when) has_more))
        | inr hit ↦
            let saw : SawBlocked more (suc n) x = (last, k, q, old_seen events e (suc n) x k last (omega arith) has, here, blocks_same events more last (push_agree events e last (omega arith)) q k few (truly.0 hit.0)) in
            hit.1 more (suc n) g.new.page time (subst (SawBlocked more (suc n)) (sym new_page) saw)
      ] in
      let s : State Page = record now { clock = suc now.clock } in
      stay pages owners processes events n p0 p1 stood what _ h s refl refl refl (mine (shown.Look q) (act.Look q) what h g time knows) (λ y f. absurd cc)
      (turned pages owners processes events n p0 p1 stood what (act.Look q) h s next takes tt
      (λ free since runs.
      let b = h.times.began q since runs in
      let going = h.times.going q (λ f. (let v : Running since ≡ Ended = sym runs ∙ f in cc)) in
      elim (cases_lt b.0 k) [
        | inl less ↦ absurd (false≢true (sym free ∙ truly.1 (record { place = b.0; before = less; begins = b.2; runs = λ j l. going j })))
        | inr more ↦ elim (cases_eq b.0 k) [
          | inl at ↦ absurd (let f : Stands events k q shown.Begin = subst (λ z. Stands events z q shown.Begin) at b.2 in let v : shown.Begin ≡ shown.Retire x = act_at events k (record { process = q; act = shown.Begin }) has.retired.by (shown.Retire x) f has.retired.retires in cc)
          | inr ne ↦ (let le = b.1 in omega (arith, same, more, ne, le))
        ]
      ])
      (record { changes = (λ y. refl, λ y. refl, λ q. refl); on = omega arith }))

  pub frees : (x k : ℕ) → HasSeen events (suc n) x k last → slice_get owners x ≡ Some (own.Retired k) → next_of p0 ≡ act.Release x → Takes p0 seen.Done p1 → (h : HasWorld pages owners processes events) → Grows h pages (slice_set owners x own.Released) (slice_set processes n p1) (after_act pages owners processes events n p0 p1 stood (shown.Release x))
  frees x k has there next takes h =
      let now = h.world.now in
      let g = goes pages owners processes events n p0 p1 (act.Release x) seen.Done h stood next (λ z. z) takes in
      let r = after_release g.old.page x g.old.stage g.new.stage g.next g.takes.1 in
      let new_page : g.new.page ≡ x = g.takes.0 ∙ r.0 in
      let time0 = (h.world.proc (name_of (suc n))).time in
      let time = (run_next now (h.world.proc (name_of (suc n))) seen.Done p1).time in
      let same : time0 ≡ k = seen_time x k (act.Release x) seen.Done h g r.0 (r.2 events (suc n) g.old.page time0 g.known) has in
      let e : Event = record { process = suc n; act = shown.Release x } in
      let more = after_act pages owners processes events n p0 p1 stood (shown.Release x) in
      let is_owner : now.owner x ≡ Retired k = h.owner x (own.Retired k) there in
      let knows : IsReclaiming more (suc n) g.new.page time g.new.stage = r.3 more (suc n) g.new.page time (last, subst (λ z. Stands more last (suc n) (shown.Release z)) (sym new_page) (push_new events e)) in
      let s : State Page = record now { owner = put_at x MachineReleased now.owner; clock = suc now.clock } in
      owns pages owners processes events n p0 p1 stood seen.Done _ x own.Released h (slice_get_within owners x (own.Retired k) there) (mine (shown.Release x) (act.Release x) seen.Done h g time knows)
      (λ y f. (let v : shown.Release x ≡ shown.Release y = f in let u : x ≡ y = cc in subst (λ z. (j : ℕ) × HasSeen events (suc n) z j last × IsRetired events z j last) u (k, has, h.times.retired x k is_owner)))
      (turned pages owners processes events n p0 p1 stood seen.Done (act.Release x) h s next takes tt (is_owner ∙ ap Retired (sym same)) (record { changes = (λ z. refl, is_put_at x MachineReleased now.owner, λ q. refl); on = omega arith }))

  pub keeps : (x : ℕ) → x < length owners → ((k : ℕ) → HasSeen events (suc n) x k last → slice_get owners x ≢ Some (own.Retired k)) → next_of p0 ≡ act.Release x → Takes p0 seen.Missed p1 → (h : HasWorld pages owners processes events) → Grows h pages owners (slice_set processes n p1) (after_act pages owners processes events n p0 p1 stood shown.Miss)
  keeps x within other next takes h =
      let now = h.world.now in
      let g = goes pages owners processes events n p0 p1 (act.Release x) seen.Missed h stood next (λ z. z) takes in
      let r = after_miss g.old.page x g.old.stage g.new.stage g.next g.takes.1 in
      let new_page : g.new.page ≡ x = g.takes.0 ∙ r.0 in
      let time0 = (h.world.proc (name_of (suc n))).time in
      let time = (run_next now (h.world.proc (name_of (suc n))) seen.Missed p1).time in
      let has : HasSeen events (suc n) x time0 last = subst (λ z. HasSeen events (suc n) z time0 last) r.0 (r.2 events (suc n) g.old.page time0 g.known) in
      let e : Event = record { process = suc n; act = shown.Miss } in
      let more = after_act pages owners processes events n p0 p1 stood shown.Miss in
      let there = stands owners x within in
      let missed : MissedRelease more (suc n) x = (
        last,
        time0,
        old_seen events e (suc n) x time0 last (omega arith) has,
        push_new events e,
        not_more events e x time0 last (omega arith) (λ was. other time0 has (there.1 ∙ ap Some (retired_owner there.0 time0 (sym (h.owner x there.0 there.1) ∙ h.times.only x time0 was)))),
      ) in
      let knows : IsReclaiming more (suc n) g.new.page time g.new.stage = r.3 more (suc n) g.new.page time (subst (MissedRelease more (suc n)) (sym new_page) missed) in
      let s : State Page = record now { clock = suc now.clock } in
      stay pages owners processes events n p0 p1 stood seen.Missed _ h s refl refl refl (mine shown.Miss (act.Release x) seen.Missed h g time knows) (λ y f. absurd cc)
      (turned pages owners processes events n p0 p1 stood seen.Missed (act.Release x) h s next takes tt tt (record { changes = (λ y. refl, λ y. refl, λ q. refl); on = omega arith }))
