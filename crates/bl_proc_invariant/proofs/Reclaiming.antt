-- Every turn of a release keeps a world good. It watches, and in the end it may release the page: then each process that runs
-- began after the page was retired, since the process has looked at all that had been started when it saw the page retired.
use Rattle.std.proofs.Common.{ℕ, ◌≡◌, ◌≢◌, ◌<◌, ◌≤◌, true, Option, Some, None, arith, ap, sym, ◌∙◌, refl, inl, inr}
use Rattle.std.proofs.lemmas.Bool.{cases_eq, cases_lt}
use Rattle.bl_model.specs.declared.operation.Reply.{Reply}
use Rattle.bl_page.specs.declared.page.Page.{Page}
use Rattle.bl_page.specs.declared.machine.Missed.TheVariants as missed
use Rattle.bl_page.specs.Machine.{Name, State, Act, Enabled}
use Rattle.bl_page.specs.Machine.Act.{Look, Release, Miss}
use Rattle.bl_page.specs.Machine.Looked.{Process, Page as OfPage}
use Rattle.bl_page.specs.Machine.Owner.{Retired}
use Rattle.bl_page.specs.Machine.Phase.{Waiting, Running}
use Rattle.bl_tree.specs.Trees.Status.{Free}
use Rattle.bl_claims.specs.Trails.{Mark, Saw}
use Rattle.bl_tree_worlds.proofs.Pushes.{HasSaid-silent, name_cases}
use Rattle.bl_tree_worlds.specs.Worlds.{Passed, IsAhead, Stage, Know, World, IsPassed, IsSure, IsGood, silent}
use Rattle.bl_tree_worlds.proofs.After.{after, Extends-after, put_at, is_put_at}
use Rattle.bl_tree_worlds.proofs.Outside.{Releases-keeps}
use Rattle.bl_tree_worlds.proofs.Watches.{IsWatch}
use Rattle.bl_proc_steps.specs.declared.acts.Seen.{Seen}
use Rattle.bl_proc.specs.declared.reclaiming.Round.{Round}
use Rattle.bl_proc.specs.declared.reclaiming.ReclaimStage.{ReclaimStage}
use Rattle.bl_proc.specs.declared.reclaiming.ReclaimStage.TheVariants.{Seeing, Looking, Releasing, Over}
use Rattle.bl_proc.specs.Reclaims.{reclaim_next_in, GoesPast}
use Rattle.bl_proc_invariant.specs.Turns.{numbered, event_of, IsOwnerShown, IsShown, Does, Turned}
use Rattle.bl_proc_invariant.specs.Tables.{idle}
use Rattle.bl_proc_invariant.specs.Knowing.{looks, round, all, know_reclaim, retired_since, reclaim_time}
use Rattle.bl_proc_invariant.proofs.Acts.{watched}
use Rattle.bl_proc_deterministic.proofs.KindCases.{ReclaimCase}

-- what is known of the others in that state
abbrev known : ℕ → ReclaimStage → Passed
known time Seeing = all time
known time (Looking r) = round time r
known time Releasing = all time
known time (Over what) = all time

-- a process that was started behind that one, and is not the one that looks, is still ahead
pub ahead_of : (time last started own : ℕ) (new : ReclaimStage) → GoesPast last started own new → (q : Name) → q.number ≡ 0 → last < q.pass → q.pass ≤ started → q.pass ≢ own → IsAhead (known time new) q
ahead_of time last started own (Looking r) f q zero behind within other = (
  zero,
  elim (cases_lt q.pass r.next) [ inl less ↦ absurd (other (f.first q.pass behind less)) | inr more ↦ more ],
  omega (arith, f.same_started, within),
  λ e. other (e ∙ f.same_own),
)
ahead_of time last started own Releasing f q zero behind within other = absurd (other (f q.pass behind within))
ahead_of time last started own Seeing f q zero behind within other = absurd f
ahead_of time last started own (Over what) f q zero behind within other = absurd f

name_is : (q : Name) (number : ℕ) → q.pass ≡ number → q.number ≡ 0 → q ≡ numbered number
name_is q number e z = λ i. record { pass = e i; number = z i }

abbrev watcher : Option Passed → Know
watcher passed = record (idle Stage.Early) { passed = passed }

module _ {P : Type 0} (know : P → Know) (w : World P) (g : IsGood know w) (p : Name) (b : P) (page : ℕ) where
  watch_turn : (old new : Option Passed) (act : Act Page Reply) (s : State Page) → IsWatch act → Enabled w.now p act → Saw w.now act None → Does w.now p act s → know (w.proc p) ≡ watcher old → know b ≡ watcher new → IsPassed w new → Turned know w p act s b
  watch_turn old new act s watch can saw does before then passed =
      let is : IsSure w p (watcher old) = rw before at (g.sure p) in
      let m : Mark = silent p act in
      watched know w g p b _ _ before then act None None s watch can does saw refl (λ x h. h) (λ it e. cc) (λ k. refl)
      (record { stage = is.stage; said = HasSaid-silent w.trail m p None refl is.said; holds = tt; goes = tt; children = tt; passed = passed; sound = tt })

  -- it saw the page retired
  first_round : (time started own : ℕ) (passed : Passed) → ((q : Name) → q.number ≡ 0 → 0 < q.pass → q.pass ≤ started → q.pass ≢ own → IsAhead passed q) → passed.time ≡ retired_since (w.now.owner page) time → w.now.phase p ≡ Waiting → IsOwnerShown w.now p page true started own → IsPassed w (Some passed)
  first_round time started own passed ahead same waits shown =
      let kept = shown.is_retired refl in
      let when : passed.time ≡ kept.0 = same ∙ ap (λ o. retired_since o time) kept.1 in
      let before = (g.owned.retired page kept.0 kept.1).1 in (
        omega (arith, when, before),
        λ q since among runs. absurd (
            let n = shown.among q since runs in
            let pass : q.pass ≡ n.0 = ap (λ z. z.pass) n.3 in
            among (ahead q (ap (λ z. z.number) n.3) (omega (arith, pass, n.1)) (omega (arith, pass, n.2)) (λ e.
            let own_name : q ≡ p = n.3 ∙ (ap numbered (sym pass ∙ e) ∙ sym shown.is_own) in
            let f : Waiting ≡ Running since = sym waits ∙ (ap w.now.phase (sym own_name) ∙ runs) in
            cc))),
      )

  -- a process did not block
  next_round : (time : ℕ) (r : Round) (passed : Passed) → ((q : Name) → q.number ≡ 0 → r.next < q.pass → q.pass ≤ r.started → q.pass ≢ r.own → IsAhead passed q) → passed.time ≡ time → ((since : ℕ) → w.now.phase (numbered r.next) ≡ Running since → time < since) → IsPassed w (Some (round time r)) → IsPassed w (Some passed)
  next_round time r passed ahead same free before = (
    omega (arith, same, before.0),
    λ q since among runs.
        let later : time < since = elim (name_cases q (numbered r.next)) [
          | inl e ↦ free since (ap w.now.phase (sym e) ∙ runs)
          | inr n ↦ before.1 q since (λ a. among (ahead q a.0 (elim (cases_eq q.pass r.next) [ inl e ↦ absurd (n (name_is q r.next e a.0)) | inr ne ↦ (let le = a.1 in omega arith) ]) a.2 a.3)) runs
        ] in
        omega (arith, same, later),
  )

  release_turn : (time : ℕ) (s : State Page) → know (w.proc p) ≡ looks (all time) → know b ≡ idle Stage.Early → w.now.owner page ≡ Retired time → Does w.now p (Release page) s → Turned know w p (Release page) s b
  release_turn time s before then retired does =
      let is : IsSure w p (looks (all time)) = rw before at (g.sure p) in
      let next : World P = after w s (silent p (Release page)) b (put_at page Free w.status) w.sep w.map in
      let extends = Extends-after w s (silent p (Release page)) b (put_at page Free w.status) w.sep w.map (record { enabled = (time, retired, λ q since runs. is.passed.1 q since (λ a. (let low = a.1 in let high = a.2 in omega arith)) runs); changes = does.changes; on = does.on }) tt in
      record {
        next = next;
        saw = None;
        said = None;
        extends = extends;
        now = refl;
        good = Releases-keeps know w next p page b (record {
          extends = extends;
          status = is_put_at page Free w.status;
          sep = refl;
          map = refl;
          middle = rw (before, then) refl;
          places = λ y h. rw then (rw before at h);
          own = rw then (record {
            stage = does.changes.2 p ∙ is.stage;
            said = HasSaid-silent w.trail (silent p (Release page)) p None refl is.said;
            holds = tt;
            goes = tt;
            children = tt;
            passed = tt;
            sound = tt;
          });
        }) g;
      }

  pub reclaim_turn : (time : ℕ) {a a' : ReclaimStage} {what : Seen} → ReclaimCase a what a' → (s : State Page) → know (w.proc p) ≡ know_reclaim time a → know b ≡ know_reclaim (reclaim_time w.now time page a) a' → IsShown w.now p time (reclaim_next_in page a) what → Does w.now p (event_of None (reclaim_next_in page a) what) s → Turned know w p (event_of None (reclaim_next_in page a) what) s b
  reclaim_turn time (ReclaimCase.First started own r t) s before then shown does =
      let is : IsSure w p (idle Stage.Early) = rw before at (g.sure p) in
      watch_turn None _ (Look (OfPage page)) s tt tt tt does before then (first_round time started own _ (ahead_of (retired_since (w.now.owner page) time) 0 started own (Looking r) t) refl is.stage shown)
  reclaim_turn time (ReclaimCase.NoneThere started own t) s before then shown does =
      let is : IsSure w p (idle Stage.Early) = rw before at (g.sure p) in
      watch_turn None _ (Look (OfPage page)) s tt tt tt does before then (first_round time started own _ (ahead_of (retired_since (w.now.owner page) time) 0 started own Releasing t) refl is.stage shown)
  reclaim_turn time (ReclaimCase.NotRetired started own k t) s before then shown does =
      watch_turn None None (Look (OfPage page)) s tt tt tt does before then tt
  reclaim_turn time (ReclaimCase.Further r n t) s before then shown does =
      let is : IsSure w p (looks (round time r)) = rw before at (g.sure p) in
      watch_turn _ _ (Look (Process (numbered r.next))) s tt tt tt does before then (next_round time r _ (ahead_of time r.next r.started r.own (Looking n) t) refl (shown refl) is.passed)
  reclaim_turn time (ReclaimCase.NoMore r t) s before then shown does =
      let is : IsSure w p (looks (round time r)) = rw before at (g.sure p) in
      watch_turn _ _ (Look (Process (numbered r.next))) s tt tt tt does before then (next_round time r _ (ahead_of time r.next r.started r.own Releasing t) refl (shown refl) is.passed)
  reclaim_turn time (ReclaimCase.Blocked r k t) s before then shown does =
      watch_turn _ None (Look (Process (numbered r.next))) s tt tt tt does before then tt
  reclaim_turn time (ReclaimCase.Done k t) s before then shown does = release_turn time s before then shown does
  reclaim_turn time (ReclaimCase.Missed k t) s before then shown does =
      watch_turn _ None (Miss (missed.Release page)) s tt tt tt does before then tt
