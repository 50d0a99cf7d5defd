-- What a process knows that is to release a page, from one event to the next.
use Rattle.std.proofs.Common.{ℕ, ◌≡◌, ◌⊎◌, ◌≤◌, ◌++◌, Bool, true, false, List, [], ◌∷◌, length, arith, ap, sym, ◌∙◌, refl, subst, inl, inr}
use Rattle.std.proofs.lemmas.Option.{slice_get_within}
use Rattle.bl_page.specs.declared.page.Page.{Page}
use Rattle.bl_page.specs.Machine.{State}
use Rattle.bl_proc_steps.specs.declared.acts.Action.TheVariants as act
use Rattle.bl_proc_steps.specs.declared.acts.Seen.TheVariants as seen
use Rattle.bl_answers.specs.declared.answers.Reclaimed.{Reclaimed}
use Rattle.bl_answers.specs.declared.answers.Reclaimed.TheVariants as reclaimed
use Rattle.bl_proc.specs.declared.reclaiming.ReclaimStage.{ReclaimStage}
use Rattle.bl_proc.specs.declared.reclaiming.ReclaimStage.TheVariants.{Seeing, Looking, Releasing, Over}
use Rattle.bl_proc.specs.Reclaims.{reclaim_next_in, ReclaimGoes}
use Rattle.bl_proc_invariant.specs.Knowing.{reclaim_time}
use Rattle.bl_world.specs.declared.turns.Act.{Act}
use Rattle.bl_world.specs.declared.turns.Act.TheVariants as shown
use Rattle.bl_world.specs.declared.turns.Event.{Event}
use Rattle.bl_world.specs.Retirements.{Stands, IsRetired, HasSeen, SawUnretired, SawBlocked, MissedRelease, MeansReclaimed, ReleasesSeen}
use Rattle.bl_world.specs.Worlds.{IsReclaiming}
use Rattle.bl_world.proofs.Places.{push_length, push_cases}
use Rattle.bl_world.proofs.Retired.{push_old, push_agree, agree_back, retired_same, blocks_same, seen_same, seen_on}

module _ (events : List Event) (e : Event) where
  abbrev more : List Event
  more = events ++ e ∷ []

  pub old_stands : (i n : ℕ) (act : Act) → Stands events i n act → Stands more i n act
  old_stands i n act s = push_old events e i (slice_get_within events i _ s) ∙ s

  old_place : (i n : ℕ) (act : Act) → Stands events i n act → i ≤ length events
  old_place i n act s = (let l = slice_get_within events i _ s in omega (arith, l))

  pub old_seen : (n x k i : ℕ) → i ≤ length events → HasSeen events n x k i → HasSeen more n x k i
  old_seen n x k i le s = seen_same events more i (push_agree events e i le) n x k s

  pub not_more : (x k i : ℕ) → i ≤ length events → (¬ IsRetired events x k i) → ¬ IsRetired more x k i
  not_more x k i le else_so r = else_so (retired_same more events i (agree_back events more i (push_agree events e i le)) x k r)

  -- what an answer means stays true
  pub means_on : (n x : ℕ) (what : Reclaimed) → MeansReclaimed events n x what → MeansReclaimed more n x what
  means_on n x reclaimed.Released m = (m.0, old_stands m.0 n (shown.Release x) m.1)
  means_on n x reclaimed.Kept m = elim m [
    | inl s ↦ inl (s.0, old_stands s.0 n (shown.See x) s.1, λ k. not_more x k s.0 (old_place s.0 n (shown.See x) s.1) (s.2 k))
    | inr o ↦ inr (elim o [
      | inl s ↦
          let le = old_place s.0 n (shown.Look s.2) s.4 in
          let few : s.1 ≤ s.0 = (let a = s.3.before in let b = s.3.retired.before in omega (arith, a, b)) in
          inl (s.0, s.1, s.2, old_seen n x s.1 s.0 le s.3, old_stands s.0 n (shown.Look s.2) s.4, blocks_same events more s.0 (push_agree events e s.0 le) s.2 s.1 few s.5)
      | inr s ↦
          let le = old_place s.0 n shown.Miss s.3 in
          inr (s.0, s.1, old_seen n x s.1 s.0 le s.2, old_stands s.0 n shown.Miss s.3, not_more x s.1 s.0 le s.4)
    ])
  ]

  -- it has seen a page retired, and has not looked again
  pub seen_more : (n x k : ℕ) → (¬ Stands more (length events) n (shown.See x)) → HasSeen events n x k (length events) → HasSeen more n x k (length more)
  seen_more n x k else_so s = subst (HasSeen more n x k) (sym (push_length events e)) (seen_on more (length events) n x k else_so (old_seen n x k (length events) (omega arith) s))

  pub reclaiming_on : (n x k : ℕ) (stage : ReclaimStage) → (¬ Stands more (length events) n (shown.See x)) → IsReclaiming events n x k stage → IsReclaiming more n x k stage
  reclaiming_on n x k Seeing else_so s = tt
  reclaiming_on n x k (Looking r) else_so s = seen_more n x k else_so s
  reclaiming_on n x k Releasing else_so s = seen_more n x k else_so s
  reclaiming_on n x k (Over what) else_so s = means_on n x what s

  pub releases_on : ((x : ℕ) → e.act ≡ shown.Release x → (k : ℕ) × HasSeen events e.process x k (length events) × IsRetired events x k (length events)) → ReleasesSeen events → ReleasesSeen more
  releases_on new old i n x s = elim (push_cases events e i _ s) [
    | inl before ↦
        let o = old i n x before in
        let le = old_place i n (shown.Release x) before in
        (o.0, old_seen n x o.0 i le o.1, retired_same events more i (push_agree events e i le) x o.0 o.2)
    | inr now ↦
        let o = new x (sym (ap (λ z. z.act) now.1)) in
        let le : length events ≤ length events = omega arith in
        let same : e.process ≡ n = sym (ap (λ z. z.process) now.1) in
        let s = subst (λ z. HasSeen more z x o.0 (length events)) same (old_seen e.process x o.0 (length events) le o.1) in
        let r = retired_same events more (length events) (push_agree events e (length events) le) x o.0 o.2 in
        (o.0, subst (HasSeen more n x o.0) (sym now.0) s, subst (IsRetired more x o.0) (sym now.0) r)
  ]

-- What it was told, and what it knows then

pub after_see : (page x started own : ℕ) (retired : Bool) (stage new : ReclaimStage) → reclaim_next_in page stage ≡ act.See x → ReclaimGoes stage (seen.Owner retired started own) new → (page ≡ x) × (stage ≡ Seeing) × (((retired ≡ true) × ((es : List Event) (n y k : ℕ) → HasSeen es n y k (length es) → IsReclaiming es n y k new)) ⊎ ((retired ≡ false) × ((es : List Event) (n y k : ℕ) → SawUnretired es n y → IsReclaiming es n y k new)))
after_see page x started own true Seeing (Looking r) next t = ((let f : act.See page ≡ act.See x = next in cc), refl, inl (refl, λ es n y k s. s))
after_see page x started own true Seeing Releasing next t = ((let f : act.See page ≡ act.See x = next in cc), refl, inl (refl, λ es n y k s. s))
after_see page x started own false Seeing (Over what) next t = ((let f : act.See page ≡ act.See x = next in cc), refl, inr (refl, λ es n y k s. subst (MeansReclaimed es n y) (sym t) (inl s)))
after_see page x started own true Seeing Seeing next t = absurd t
after_see page x started own true Seeing (Over what) next t = absurd t
after_see page x started own false Seeing Seeing next t = absurd t
after_see page x started own false Seeing (Looking r) next t = absurd t
after_see page x started own false Seeing Releasing next t = absurd t
after_see page x started own retired (Looking r) new next t = absurd cc
after_see page x started own retired Releasing new next t = absurd cc
after_see page x started own retired (Over what) new next t = absurd cc

pub after_look : (page q : ℕ) (blocks : Bool) (stage new : ReclaimStage) → reclaim_next_in page stage ≡ act.Look q → ReclaimGoes stage (seen.Blocks blocks) new → ((now : State Page) (time : ℕ) → reclaim_time now time page stage ≡ time) × ((es : List Event) (n y k : ℕ) → IsReclaiming es n y k stage → HasSeen es n y k (length es)) × (((blocks ≡ false) × ((es : List Event) (n y k : ℕ) → HasSeen es n y k (length es) → IsReclaiming es n y k new)) ⊎ ((blocks ≡ true) × ((es : List Event) (n y k : ℕ) → SawBlocked es n y → IsReclaiming es n y k new)))
after_look page q false (Looking r) (Looking o) next t = (λ now time. refl, λ es n y k s. s, inl (refl, λ es n y k s. s))
after_look page q false (Looking r) Releasing next t = (λ now time. refl, λ es n y k s. s, inl (refl, λ es n y k s. s))
after_look page q true (Looking r) (Over what) next t = (λ now time. refl, λ es n y k s. s, inr (refl, λ es n y k s. subst (MeansReclaimed es n y) (sym t) (inr (inl s))))
after_look page q false (Looking r) Seeing next t = absurd t
after_look page q false (Looking r) (Over what) next t = absurd t
after_look page q true (Looking r) Seeing next t = absurd t
after_look page q true (Looking r) (Looking o) next t = absurd t
after_look page q true (Looking r) Releasing next t = absurd t
after_look page q blocks Seeing new next t = absurd cc
after_look page q blocks Releasing new next t = absurd cc
after_look page q blocks (Over what) new next t = absurd cc

pub after_release : (page x : ℕ) (stage new : ReclaimStage) → reclaim_next_in page stage ≡ act.Release x → ReclaimGoes stage seen.Done new → (page ≡ x) × ((now : State Page) (time : ℕ) → reclaim_time now time page stage ≡ time) × ((es : List Event) (n y k : ℕ) → IsReclaiming es n y k stage → HasSeen es n y k (length es)) × ((es : List Event) (n y k : ℕ) → (i : ℕ) × Stands es i n (shown.Release y) → IsReclaiming es n y k new)
after_release page x Releasing (Over what) next t = ((let f : act.Release page ≡ act.Release x = next in cc), λ now time. refl, λ es n y k s. s, λ es n y k s. subst (MeansReclaimed es n y) (sym t) s)
after_release page x Seeing new next t = absurd cc
after_release page x (Looking r) new next t = absurd cc
after_release page x old new next t = absurd t

pub after_miss : (page x : ℕ) (stage new : ReclaimStage) → reclaim_next_in page stage ≡ act.Release x → ReclaimGoes stage seen.Missed new → (page ≡ x) × ((now : State Page) (time : ℕ) → reclaim_time now time page stage ≡ time) × ((es : List Event) (n y k : ℕ) → IsReclaiming es n y k stage → HasSeen es n y k (length es)) × ((es : List Event) (n y k : ℕ) → MissedRelease es n y → IsReclaiming es n y k new)
after_miss page x Releasing (Over what) next t = ((let f : act.Release page ≡ act.Release x = next in cc), λ now time. refl, λ es n y k s. s, λ es n y k s. subst (MeansReclaimed es n y) (sym t) (inr (inr s)))
after_miss page x Seeing new next t = absurd cc
after_miss page x (Looking r) new next t = absurd cc
after_miss page x old new next t = absurd t
