-- A process begins, and ends: each keeps the rule, and the pass knows it.
use Rattle.std.proofs.Common.{ℕ, ◌≡◌, ◌≢◌, ◌+◌, ◌≤◌, ◌++◌, true, false, Option, Some, None, List, [], ◌∷◌, length, refl, sym, ap, ◌∙◌, subst, inl, inr, arith, append-nil, le_refl, zero, suc, set}
use mathlib.Core.Option.{some, some-injective}
use mathlib.Core.Option as lists
use lib.ListN.{get_elem?}
use Rattle.bl_model.specs.declared.operation.Entry.{Entry}
use Rattle.bl_model.specs.declared.operation.Reply.{Reply}
use Rattle.bl_page.specs.declared.page.Page.{Page}
use Rattle.bl_page.specs.declared.page.Page.TheVariants.{Anchor}
use Rattle.bl_page.specs.Machine.{Name, State, Act}
use Rattle.bl_page.specs.Machine as machine
use Rattle.bl_claims.specs.Trails.{Said, Mark, Trail, entries_at, marks_of, IsMarked}
use Rattle.bl_tree_worlds.proofs.Pushes.{name_cases, marks_of-own, SaysAt-last, DoesAt-last}
use Rattle.bl_tree_worlds.specs.Worlds.{World}
use Rattle.bl_claims.specs.Walks.{Each}
use Rattle.bl_tree_worlds.proofs.Frames.{Each-map}
use Rattle.bl_tree_worlds.proofs.After.{put_name, is_put_name}
use Rattle.bl_tree_worlds.specs.Blank.{IsBlank}
use Rattle.bl_proc_steps.specs.declared.acts.Action.TheVariants as act
use Rattle.bl_proc_steps.specs.declared.acts.Seen.TheVariants as seen
use Rattle.bl_proc.specs.declared.kinds.Proc.{Proc}
use Rattle.bl_proc.specs.declared.kinds.Proc.TheVariants as proc
use Rattle.bl_proc.specs.Processes.{next_of}
use Rattle.bl_proc_invariant.specs.Logs.{proc_log}
use Rattle.bl_proc_invariant.specs.Turns.{Does, Turned}
use Rattle.bl_proc_invariant.specs.Knowing.{Run, know, end_of_proc, run_next}
use Rattle.bl_proc_invariant.proofs.Instead.{with_proc}
use Rattle.bl_proc_invariant.proofs.Starting.{enters_good}
use Rattle.bl_proc_invariant.proofs.Logged.{early_log}
use Rattle.bl_proc_invariant.proofs.Middles.{KeepsLogs}
use Rattle.bl_proc_invariant.proofs.GivingUp.{given_up, give_up}
use Rattle.bl_proc_bounds.specs.Latches.{IsTidy}
use Rattle.bl_claims.specs.Meanings.{writes_in, writes_of, RaisesOnly}
use Rattle.bl_tree_worlds.proofs.Meant.{wrote_still}
use Rattle.bl_proc_invariant.proofs.Looking.{looking_on}
use Rattle.bl_proc_bounds.specs.Paces.{AllKept}
use Rattle.bl_proc_bounds.proofs.Turns.{state_kept}
use Rattle.bl_proc_bounds.proofs.Latching.{tidy_same}
use Rattle.bl_proc_bounds.proofs.Kept.{left_kept, enter_kept}
use Rattle.bl_proc_deterministic.specs.Courses.{GoesOn}
use Rattle.bl_layout.specs.declared.layout.Layout.{Layout}
use Rattle.bl_store_rule.specs.Pages.{Held, Stage, Idle, Running, Pages, Stands, IsOrderly, HoldsNone, observed, Begins as BeginsIn, Ends, Relays}
use Rattle.bl_index_rule.specs.declared.known.PassState.{PassState}
use Rattle.bl_claims.specs.Seeing.{own, name}
use Rattle.bl_index_rule.specs.Simulation.{owner_in, IsAtStage, IsHand, Simulates}
use Rattle.bl_index_rule.specs.Observed.{MayGiveUp, Leaves, IsUnborn, Notes, Finishes, begins, ends, relays, gives_up}
use Rattle.bl_index_rule.proofs.Entries.{own-mine}
use Rattle.bl_index_rule.proofs.Marks.{each_append, no_marks}
use Rattle.bl_index_rule.proofs.Stages.{pass_of, number_of, turn_mark}
use Rattle.bl_index_rule.proofs.Doings.{log_after}
use Rattle.std.proofs.Math.ListN.{length-set}
use Rattle.bl_index_rule.proofs.Shown.{set_there, same_owner, other_owner, held_by}
use Rattle.bl_index_rule.proofs.Logs.{next_logs}
use Rattle.bl_index_rule.proofs.Advance.{next_known, advance, next_notes, next_near, next_own, next_stage}
use Rattle.bl_index_rule.proofs.Turns.{turn_of, standing, is_named, turned, then_log, then_kept}

-- Before a process begins, it stands in the world as one that has done nothing.
module _ (s : Pages PassState) (f : Simulates s) (n : ℕ) (d : PassState) (at : Stands s n Idle d) (b : Run) (blank : IsBlank (know b)) where
  abbrev next_name : Name
  next_name = name n (d.number + 1)

  abbrev entered_world : World Run
  entered_world = with_proc f.world next_name b

  kept_proc : (q : Name) → q ≢ next_name → entered_world.proc q ≡ f.world.proc q
  kept_proc q ne = (is_put_name next_name b f.world.proc).others q ne

  later_in : (k j : ℕ) → (f.world.now.phase (name k j) ≡ machine.Waiting) × IsBlank (know (f.world.proc (name k j))) → (f.world.now.phase (name k j) ≡ machine.Waiting) × IsBlank (know (entered_world.proc (name k j)))
  later_in k j h = (
    h.0,
    elim (name_cases (name k j) next_name) [
      | inl e ↦ subst (λ (r : Run). IsBlank (know r)) (sym (ap entered_world.proc e ∙ (is_put_name next_name b f.world.proc).at)) blank
      | inr ne ↦ subst (λ (r : Run). IsBlank (know r)) (sym (kept_proc (name k j) ne)) h.1
    ],
  )

  stage_in : (k : ℕ) (st : Stage) (e : PassState) → Stands s k st e → name k e.number ≢ next_name → IsAtStage f.world k st e → IsAtStage entered_world k st e
  stage_in k Idle e at_k ne h = h
  stage_in k (Running since) e at_k ne h =
      let same = kept_proc (name k e.number) ne in
      (h.0, h.1, h.2, ap (λ (r : Run). r.state) same ∙ h.3, h.4 ∙ ap (λ (r : Run). e.past ++ entries_at (name k e.number) (know r).said) (sym same), h.5)

  -- the process to come is none that a hand runs
  not_now : (k : ℕ) (st : Stage) (e : PassState) → Stands s k st e → IsHand f.world k st e → name k e.number ≢ next_name
  not_now k st e at_k h same = (
      let hands = f.hands n Idle d at in
      let here : k ≡ n = pass_of (name k e.number) next_name same in
      let there : ◌≡◌ {A = lists.Option (Stage × PassState)} (some (st, e)) (some (Idle, d)) = sym at_k ∙ (ap (λ (z : ℕ). get_elem? s.hands z) here ∙ at) in
      let one : ◌≡◌ {A = Stage × PassState} (st, e) (Idle, d) = some-injective {A = Stage × PassState} (st, e) (Idle, d) there in
      let count : e.number ≡ d.number = ap (λ (z : Stage × PassState). z.1.number) one in
      let more : e.number ≡ d.number + 1 = number_of (name k e.number) next_name same in
      omega arith)

  -- it has done nothing
  none_yet : marks_of next_name f.world.trail ≡ []
  none_yet =
      let h = f.hands n Idle d at in
      no_marks next_name f.world.trail (subst (Each (λ (m : Mark). m.event.process ≢ next_name)) (sym h.begins.1) (each_append _ d.trail h.begins.0
      (Each-map _ _ d.trail (λ (m : Mark) (up : m.event.process.pass ≡ n → m.event.process.number ≤ d.number) (e : m.event.process ≡ next_name). (let few = up (pass_of _ _ e) in let is : m.event.process.number ≡ d.number + 1 = number_of _ _ e in absurd (omega arith))) h.counted)
      (Each-map _ _ h.begins.0 (λ (m : Mark) (ne : m.event.process.pass ≢ n) (e : m.event.process ≡ next_name). ne (pass_of _ _ e)) h.begins.2)))

  pub entered : Simulates s
  entered = record {
    world = entered_world;
    good = (let h = (f.hands n Idle d at).later (d.number + 1) (omega arith) in enters_good f.world next_name b f.good h.0 h.1 blank);
    kept = enter_kept f.world next_name b none_yet blank.stage f.kept;
    image = f.image;
    opening = f.opening;
    first = f.first;
    moments = f.moments;
    size = f.size;
    clock = f.clock;
    pages = f.pages;
    owners = f.owners;
    hands = λ k st e at_k. let h = f.hands k st e at_k in record {
      named = h.named;
      stage = stage_in k st e at_k (not_now k st e at_k h) h.stage;
      later = λ j l. later_in k j (h.later j l);
      begins = h.begins;
      counted = h.counted;
      mine = h.mine;
    };
    within = f.within;
    counts = f.counts;
    firsts = f.firsts;
    busy = f.busy;
    versions = f.versions;
    firm = f.firm;
  }

-- the anchor of a tree whose one page is page 1
abbrev pub first_anchor : Page
first_anchor = Anchor (record { leftmost = record { items = 1 ∷ [] }; some = omega arith; few = omega arith; pages = ((omega arith, omega arith), tt) })

-- a process that is to begin, in the world that has got nothing yet
abbrev pub fresh_run : Proc → Run
fresh_run process = record { state = process; got = λ x. first_anchor; child = 0; time = 0 }

-- it begins now, and counts for the store from that time on, or from an earlier one
begins_from : (l : Layout) (n : ℕ) (d : PassState) (process : Proc) → next_of process ≡ act.Begin → IsUnborn process → GoesOn process seen.Done → (s : Pages PassState) → Simulates s → length s.contents ≡ l.pages → length s.hands ≡ l.passes → Stands s n Idle d → (from : ℕ) → from ≤ s.clock
    → (e : PassState) × Simulates (observed s n (Running from) e) × begins n l.pages l.passes process d s.clock e
unfolding entered
begins_from l n d process next unborn course s g many among at from le =
    let b = fresh_run process in
    let blank : IsBlank (know b) = unborn b refl in
    let f = entered s g n d at b blank in
    let w = f.world in
    let m = d.number + 1 in
    let p = name n m in
    let s1 : State Page = record w.now { phase = put_name p (machine.Running s.clock) w.now.phase; clock = s.clock } in
    let phase = is_put_name p (machine.Running s.clock) w.now.phase in
    let here : w.proc p ≡ b = (is_put_name p b g.world.proc).at in
    let does : Does w.now p Act.Begin s1 = record { changes = (λ x. refl, λ x. refl, (s.clock, g.clock, omega arith, phase)); on = g.clock } in
    let t : Turned know w p Act.Begin s1 (run_next w.now (w.proc p) seen.Done course.new) = turn_of w p process seen.Done s1 f.good (ap (λ (r : Run). r.state) here) course act.Begin next tt tt does in
    let b' = run_next w.now (w.proc p) seen.Done course.new in
    let h = g.hands n Idle d at in
    let early : proc_log process (marks_of p w.trail) = early_log b blank.stage (marks_of p w.trail) (ap writes_of (none_yet s g n d at b blank)) in
    let kept : AllKept t.next = state_kept w t.next p process b' seen.Done act.Begin _ refl (ap (λ (r : Run). r.state) here) next t.extends f.good t.good early course.takes tt f.kept in
    let log : proc_log course.new (marks_of p t.next.trail) = log_after w p process seen.Done course act.Begin s1 b' t next tt early in
    let past : List Entry = own n d.trail in
    let silent : entries_at p (know (w.proc p)).said ≡ [] = ap (entries_at p) (ap (λ (r : Run). (know r).said) here ∙ blank.said) in
    let was : own n w.trail ≡ past ++ entries_at p (know (w.proc p)).said = h.mine ∙ (sym (append-nil past) ∙ ap (λ (z : List Entry). past ++ z) (sym silent)) in
    let e : PassState = next_known s f n m Idle d at Act.Begin s1 b' t true past in
    let logs : KeepsLogs t.next = next_logs s f n m Act.Begin s1 b' t (λ z runs. log) in
    let notes : Notes n m Act.Begin d e = next_notes s f n m Idle d at Act.Begin s1 b' t true past logs kept in (
      e,
      advance s f n m Idle d at Act.Begin s1 b' t true past logs kept (observed s n (Running from) e) (Running from) refl refl (omega arith) (omega arith)
          (λ q ne. phase.others q ne) (λ x q ne z. z) g.pages
          (λ x own_ z. g.owners x own_ z ∙ sym (other_owner s.hands n (Running from, e) own_ (λ is. h.stage.1 x (g.owners x own_ z ∙ (ap (owner_in s.hands) is ∙ held_by s.hands n (Idle, d) at)))))
          (next_stage s f n m Idle d at Act.Begin s1 b' t true past from s.clock le refl (λ z. omega arith) phase.at was log)
          (λ z i. absurd (let both : Idle ≡ Running z = i in cc))
          (λ z i. (from, (let both : machine.Running s.clock ≡ machine.Running z = sym phase.at ∙ i in let same : s.clock ≡ z = cc in subst (λ (v : ℕ). from ≤ v) same le), refl))
          (λ x version z. let was = g.versions x version z in omega arith)
          (λ x e. absurd cc),
      record {
        notes = notes;
        runs = refl;
        pages = g.size ∙ many;
        passes = among;
        past = refl;
        fresh = h.counted;
        own = next_own s f n m Idle d at Act.Begin s1 b' t true past was;
        near = next_near s f n m Idle d at Act.Begin s1 b' t true past;
        course = course;
        state = refl;
      },
    )

pub begins_process : (l : Layout) (n : ℕ) (d : PassState) (process : Proc) → next_of process ≡ act.Begin → IsUnborn process → GoesOn process seen.Done → BeginsIn Simulates l n d (begins n l.pages l.passes process)
begins_process l n d process next unborn course s g o at = begins_from l n d process next unborn course s g o.contents o.hands at s.clock (le_refl s.clock)

-- nothing is said at an end
end_silent : (trail : Trail) (m : Mark) (answer : Option Reply) → m.event.act ≡ Act.End answer → IsMarked (trail ++ m ∷ []) → (s : Option Said) → m.said ≡ s → s ≡ None
end_silent trail m answer is marked None e = refl
end_silent trail m answer is marked (Some said) e = (
    let point = marked.points (length trail) m.event.process said (SaysAt-last trail m e) in
    let here = DoesAt-last trail m in
    absurd (point.not_ended (length trail) answer (omega arith) (record { mark = here.mark; is = here.is; event = here.event ∙ (λ i. record { process = m.event.process; act = is i }) })))

module _ (l : Layout) (n : ℕ) (d : PassState) (s : Pages PassState) (since : ℕ) (f : Simulates s) (o : IsOrderly l s) (at : Stands s n (Running since) d) (answer : Option Reply) (b : Run)
    (t : Turned know f.world (name n d.number) (Act.End answer) (record f.world.now { phase = put_name (name n d.number) machine.Ended f.world.now.phase }) b) where
  pub finishes : AllKept t.next → HoldsNone s n × (e : PassState) × Simulates (observed s n Idle e) × Finishes answer d e × (e.trail ≡ t.next.trail) × (e.state ≡ b.state)
  finishes all_kept =
      let w = f.world in
      let p = name n d.number in
      let s1 : State Page = record w.now { phase = put_name p machine.Ended w.now.phase } in
      let phase = is_put_name p machine.Ended w.now.phase in
      let can : ((c : ℕ) × (w.now.phase p ≡ machine.Running c)) × ((x : ℕ) → w.now.owner x ≢ machine.Held p) = t.extends.steps.enabled in
      let h = f.hands n (Running since) d at in
      let named = is_named s f n since d at in
      let e : PassState = next_known s f n d.number (Running since) d at (Act.End answer) s1 b t false d.past in
      let logs : KeepsLogs t.next = next_logs s f n d.number (Act.End answer) s1 b t (λ z runs. absurd (let both : machine.Ended ≡ machine.Running z = sym phase.at ∙ (ap (λ (y : State Page). y.phase p) (sym t.now) ∙ runs) in cc)) in
      let notes : Notes n d.number (Act.End answer) d e = next_notes s f n d.number (Running since) d at (Act.End answer) s1 b t false d.past logs all_kept in
      let mk = turn_mark w f.good n d.number (Act.End answer) s1 b t in
      let silent : t.said ≡ None = end_silent w.trail mk answer refl (subst IsMarked t.extends.trail t.good.recorded.marked) t.said refl in
      let kept : own n e.trail ≡ own n d.trail = ap (own n) t.extends.trail ∙ (own-mine n w.trail mk refl ∙ (ap (λ (z : Option Said). own n w.trail ++ entries_at p z) silent ∙ (append-nil (own n w.trail) ∙ h.mine))) in (
        λ x z. can.1 x (f.owners x (Held n) z ∙ held_by s.hands n (Running since, d) at),
        e,
        advance s f n d.number (Running since) d at (Act.End answer) s1 b t false d.past logs all_kept (observed s n Idle e) Idle refl refl (omega arith) f.clock
            (λ q ne. phase.others q ne) (λ x q ne z. z) f.pages
            (λ x own_ z. f.owners x own_ z ∙ sym (same_owner s.hands n (Running since, d) (Idle, e) own_ at refl))
            (refl, λ x z. can.1 x (ap (λ (y : State Page). y.owner x) (sym t.now) ∙ z))
            (λ z i. refl)
            (λ z i. absurd (let both : machine.Ended ≡ machine.Running z = sym phase.at ∙ i in cc))
            (λ x version z. let was = f.versions x version z in omega arith)
            (λ x e. absurd cc),
        record {
          notes = subst (λ (z : ℕ). Notes z d.number (Act.End answer) d e) (sym named.0) notes;
          runs = refl;
          pages = sym named.1;
          passes = sym (f.counts n (Running since) d at (standing s f n since d at).1);
          own = subst (λ (z : ℕ). own z e.trail ≡ own z d.trail) (sym named.0) kept;
        },
        refl,
        refl,
      )

pub ends_process : (l : Layout) (n : ℕ) (d : PassState) → next_of d.state ≡ act.End → GoesOn d.state seen.Done → Ends Simulates l n d ends
ends_process l n d next course s since f o at =
    let w = f.world in
    let p = name n d.number in
    let s1 : State Page = record w.now { phase = put_name p machine.Ended w.now.phase } in
    let does : Does w.now p (Act.End (end_of_proc d.state)) s1 = record { changes = (λ x. refl, λ x. refl, is_put_name p machine.Ended w.now.phase); on = omega arith } in
    let z = finishes l n d s since f o at (end_of_proc d.state) _ (turned s f n since d at seen.Done course act.End next s1 tt tt does) (then_kept s f n since d at seen.Done course act.End next s1 tt tt does) in
    let named = is_named s f n since d at in
    let log = then_log s f n since d at seen.Done course act.End next s1 tt tt does in (
      z.0,
      z.1,
      z.2,
      (z.3, record { course = course; state = z.5; log = subst (proc_log course.new) (λ i. marks_of (name (sym named.0 i) d.number) (sym z.4 i)) log }),
    )

set_twice : {A : Type 0} (l : List A) (i : ℕ) (a b : A) → set (set l i a) i b ≡ set l i b
set_twice [] i a b = refl
set_twice (x ∷ xs) zero a b = refl
set_twice (x ∷ xs) (suc i) a b = ap (λ z. x ∷ z) (set_twice xs i a b)

-- a process ends, and the next one begins, which for the store counts from where the first one did
pub relays_process : (l : Layout) (n : ℕ) (d : PassState) (process : Proc) → next_of d.state ≡ act.End → GoesOn d.state seen.Done → next_of process ≡ act.Begin → IsUnborn process → GoesOn process seen.Done → Relays Simulates l n d (relays n l.pages l.passes process)
relays_process l n d process ended done next unborn course s since f o at =
    let e = ends_process l n d ended done s since f o at in
    let rests : Pages PassState = observed s n Idle e.1 in
    let b = begins_from l n e.1 process next unborn course rests e.2 o.contents (length-set s.hands n (Idle, e.1) ∙ o.hands) (set_there s.hands n (Running since, d) (Idle, e.1) at) since (o.begun n since d at) in
    (e.0, b.0, subst (λ (hands : List (Stage × PassState)). Simulates (record s { hands = hands })) (set_twice s.hands n (Idle, e.1) (Running since, b.0)) b.1, (e.1, e.3, b.2))

end_latches : (x : ℕ) → ◌≢◌ {A = Act Page Reply} (Act.End None) (Act.Latch x)
end_latches x e = cc

-- it leaves no more by an event that writes nothing
leaves_on : (a : Proc) (marks : Trail) (m : Mark) → writes_in m.event.act ≡ [] → Leaves a marks → Leaves a (marks ++ m ∷ [])
leaves_on (proc.Find a) marks m quiet h = looking_on marks m quiet h
leaves_on (proc.Write a) marks m quiet h = looking_on marks m quiet h
leaves_on (proc.Post a) marks m quiet h = wrote_still marks m (RaisesOnly a.level) quiet h
leaves_on (proc.Part a) marks m quiet h = looking_on marks m quiet h
leaves_on (proc.Compress a) marks m quiet h = looking_on marks m quiet h
leaves_on (proc.Reclaim a) marks m quiet h = looking_on marks m quiet h
leaves_on (proc.Lower a) marks m quiet h = looking_on marks m quiet h
leaves_on (proc.InsertPost a) marks m quiet h = looking_on marks m quiet h

pub gives_up_process : (l : Layout) (n : ℕ) (d : PassState) → MayGiveUp d.state → Ends Simulates l n d gives_up
gives_up_process l n d may s since f o at =
    let w = f.world in
    let p = name n d.number in
    let is = (standing s f n since d at).3 in
    let r = w.proc p in
    let s1 : State Page = record w.now { phase = put_name p machine.Ended w.now.phase } in
    let does : Does w.now p (Act.End None) s1 = record { changes = (λ x. refl, λ x. refl, is_put_name p machine.Ended w.now.phase); on = omega arith } in
    let t : Turned know w p (Act.End None) s1 (given_up r) = give_up w p s1 f.good (may.busy r is) (may.silent r is) (may.empty r is) (may.no_middle r is) does in
    let named = is_named s f n since d at in
    let z = finishes l n d s since f o at None _ t (left_kept w t.next _ (given_up r) t.extends f.good t.good refl (may.busy r is) end_latches f.kept) in
    let mk = turn_mark w f.good n d.number (Act.End None) s1 (given_up r) t in
    let tidy : IsTidy d.state (marks_of p w.trail ++ mk ∷ []) = tidy_same w p d.state mk f.good f.kept.owned f.kept.tidy is end_latches in
    let left : Leaves d.state (marks_of p w.trail ++ mk ∷ []) = leaves_on d.state (marks_of p w.trail) mk refl (may.leaves (marks_of p w.trail) (standing s f n since d at).5) in
    let marks : marks_of p z.1.trail ≡ marks_of p w.trail ++ mk ∷ [] = ap (marks_of p) (z.4 ∙ t.extends.trail) ∙ marks_of-own p w.trail mk refl in
    let mine : (Is : Trail → Type 0) → Is (marks_of p w.trail ++ mk ∷ []) → Is (marks_of (name d.pass d.number) z.1.trail) = λ Is h. subst (λ (q : Name). Is (marks_of q z.1.trail)) (λ i. name (sym named.0 i) d.number) (subst Is (sym marks) h) in
    (z.0, z.1, z.2, record { finishes = z.3; tidy = mine (IsTidy d.state) tidy; leaves = mine (Leaves d.state) left })
