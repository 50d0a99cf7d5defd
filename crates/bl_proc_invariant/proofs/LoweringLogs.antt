-- What a lowering has done is what its states say, and so its answer means what it says.
use Rattle.std.proofs.Common.{ℕ, ◌≡◌, ◌≤◌, ◌++◌, Some, None, List, [], ◌∷◌, ap, sym, ◌∙◌, refl, subst, inl, inr, arith}
use Rattle.bl_model.specs.declared.operation.Reply.{Reply}
use Rattle.bl_page.specs.declared.page.Page.{Page}
use Rattle.bl_page.specs.declared.page.Anchor.{Anchor as AnchorPage}
use Rattle.bl_page.specs.declared.machine.Missed.{Missed}
use Rattle.bl_page.specs.Machine.{Name, Act}
use Rattle.bl_page.specs.Machine.Act.{Get, Put, Latch, Retire, Miss}
use Rattle.bl_page.specs.Nodes.{roots_of}
use Rattle.bl_claims.specs.Trails.{Mark, Trail, marks_of}
use Rattle.bl_claims.specs.Meanings.{HasGot, writes_in, Unwritten}
use Rattle.bl_tree_worlds.specs.Worlds.{World}
use Rattle.bl_tree_worlds.proofs.Meant.{unwritten_now, none_written, unwritten_on, got_on, got_last}
use Rattle.bl_proc_steps.specs.declared.acts.Seen.{Seen}
use Rattle.bl_proc_steps.specs.declared.acts.Seen.TheVariants as seen
use Rattle.bl_answers.specs.declared.answers.Lowered.{Lowered}
use Rattle.bl_answers.specs.declared.answers.Lowered.TheVariants as lowered
use Rattle.bl_proc_steps.specs.declared.lowering.Summit.{Summit}
use Rattle.bl_proc_steps.specs.declared.lowering.Sinking.{Sinking}
use Rattle.bl_answers.specs.declared.answers.Answer.{Answer}
use Rattle.bl_answers.specs.declared.answers.Answer.TheVariants as answer
use Rattle.bl_proc_steps.specs.declared.lowering.Lowering.{Lowering}
use Rattle.bl_proc_steps.specs.declared.lowering.Lowering.TheVariants.{Looking, LatchingAnchor, LatchedAnchor, LatchingTop, LatchedTop, PuttingAnchor, PuttingDead, Retiring, OpeningTop, OpeningAnchor}
use Rattle.bl_proc.specs.declared.lowering.Lower.{Lower}
use Rattle.bl_proc.specs.declared.lowering.LowerStage.{LowerStage}
use Rattle.bl_proc.specs.declared.lowering.LowerStage.TheVariants as lower
use Rattle.bl_proc.specs.declared.kinds.Proc.TheVariants as proc
use Rattle.bl_proc.specs.Lowers.{lower_next_in, lower_answer_in}
use Rattle.bl_proc_steps.specs.declared.lowering.Sank.TheVariants.{On, Over}
use Rattle.bl_page.specs.Tops.{top_of}
use Rattle.bl_proc_steps.specs.Lowerings.{lowering_next}
use Rattle.bl_claims.specs.Squeezed.{acts_in}
use Rattle.bl_claims.specs.Lowered.{AtTop, to_top, to_sunk, HasLowered, MeansLowered}
use Rattle.bl_proc_invariant.specs.Turns.{event_of}
use Rattle.bl_proc_invariant.specs.LoweringLog.{AtSummit, IsToLowerBy, lowering_log}
use Rattle.bl_proc_invariant.specs.Logs.{proc_log, lower_log, AllLogs}
use Rattle.bl_proc_invariant.specs.Knowing.{Run}
use Rattle.bl_proc_invariant.proofs.Doing.{since_now, since_on, since_unwritten, once_on, once_now}
use Rattle.bl_proc_deterministic.proofs.Lowerings.{LoweringCase, lowering_case}
use Rattle.bl_proc_deterministic.proofs.KindCases.{LowerCase}

module _ (ms : Trail) (m : Mark) where
  abbrev more : Trail
  more = ms ++ m ∷ []

  top_on : {anchor : AnchorPage} {top : Page} {acts : List (Act Page Reply)} (new : List (Act Page Reply)) → acts_in m.event.act ≡ new → AtTop ms anchor top acts → AtTop more anchor top (acts ++ new)
  top_on new did h = record { since = since_on ms m new did h.since; got = got_on h.since.during m h.got; tall = h.tall; got_top = got_on h.since.during m h.got_top }

  sinking_on : {s : Sinking} {acts : List (Act Page Reply)} (new : List (Act Page Reply)) → acts_in m.event.act ≡ new → IsToLowerBy ms s acts → IsToLowerBy more s (acts ++ new)
  sinking_on new did h = record { anchor = h.anchor; is = record { top = h.is.top; at = top_on new did h.is.at; is = h.is.is; sole = h.is.sole }; sinks = h.sinks }

  summit_on : {t : Summit} {acts : List (Act Page Reply)} (new : List (Act Page Reply)) → acts_in m.event.act ≡ new → AtSummit ms t acts → AtSummit more t (acts ++ new)
  summit_on new did h = record { since = since_on ms m new did h.since; got = got_on h.since.during m h.got; top = h.top }

  -- the top page was got just now
  top_got : (t : Summit) (c : Page) → m.event.act ≡ Get t.top → m.saw ≡ Some c → AtSummit ms t (Get 0 ∷ Latch t.top ∷ []) → AtTop more t.anchor c (to_top t.top)
  top_got t c did saw h = record {
    since = since_on ms m (Get t.top ∷ []) (ap acts_in did) h.since;
    got = got_on h.since.during m h.got;
    tall = t.tall;
    got_top = subst (λ z. HasGot (h.since.during ++ m ∷ []) z c) h.top (got_last h.since.during m did saw);
  }

  -- all that was to be put has been put, and the page retired
  sunk : (s : Sinking) → IsToLowerBy more s (to_sunk s.top s.anchor s.dead) → HasLowered more
  sunk s h = record { x = s.top; anchor = h.anchor; lower = s.anchor; dead = s.dead; is = h.is; lower_is = h.sinks.0; dead_is = h.sinks.1 }

  lowered_on : (what : Lowered) → writes_in m.event.act ≡ [] → MeansLowered what ms → MeansLowered what more
  lowered_on lowered.Lowered put h = once_on ms m put h
  lowered_on lowered.Needed put h = once_on ms m put h
  lowered_on lowered.NoRoom put h = once_on ms m put h

  -- an anchor of one level was got just now
  one_got : (c : Page) → Unwritten ms → m.event.act ≡ Get 0 → m.saw ≡ Some c → (roots_of c).levels ≤ 1 → MeansLowered lowered.Needed more
  one_got c first did saw one = once_now ms m (inl (record { first = unwritten_on ms m (ap writes_in did) first; anchor = c; got = got_last ms m did saw; few = λ a e. subst (λ (z : Page). (roots_of z).levels ≤ 1) e one }))

  pub lowering_on : {l new : Lowering} {what : Seen} → LoweringCase l what (On new) → m.event.act ≡ event_of None (lowering_next l) what → ((x : ℕ) (c : Page) → m.event.act ≡ Get x → what ≡ seen.Words c → m.saw ≡ Some c) → lowering_log l ms → lowering_log new more
  lowering_on (LoweringCase.SawMore c new t) did saw h = subst (λ z. lowering_log z more) (sym t.0) (unwritten_on ms m (ap writes_in did) h)
  lowering_on (LoweringCase.Latched new t) did saw h = subst (λ z. lowering_log z more) (sym t) (since_now ms m 0 did h)
  lowering_on (LoweringCase.Missed new t) did saw h = subst (λ z. lowering_log z more) (sym t) (unwritten_on ms m (ap writes_in did) h)
  lowering_on (LoweringCase.IsTall c t k) did saw h = record {
    since = since_on ms m (Get 0 ∷ []) (ap acts_in did) h;
    got = subst (λ z. HasGot (h.during ++ m ∷ []) 0 z) k.0 (got_last h.during m did (saw 0 c did refl));
    top = k.1 ∙ ap (λ z. top_of (roots_of z)) k.0;
  }
  lowering_on (LoweringCase.IsLow c what k) did saw h = subst (λ z. MeansLowered z more) (sym k.0) (one_got c (since_unwritten refl h) did (saw 0 c did refl) k.1)
  lowering_on (LoweringCase.LatchedUpper t new k) did saw h = subst (λ z. lowering_log z more) (sym k) (summit_on (Latch t.top ∷ []) (ap acts_in did) h)
  lowering_on (LoweringCase.MissedUpper t new k) did saw h = subst (λ z. lowering_log z more) (sym k) (summit_on [] (ap acts_in did) h)
  lowering_on (LoweringCase.IsSpare t c s k) did saw h = record {
    anchor = t.anchor;
    is = record {
      top = c;
      at = subst (λ z. AtTop more t.anchor c (to_top z)) (sym k.0) (top_got t c did (saw t.top c did refl) h);
      is = k.0 ∙ h.top;
      sole = k.1;
    };
    sinks = k.2;
  }
  lowering_on (LoweringCase.IsNeeded t c x what k) did saw h = subst (λ z. MeansLowered z more) (sym k.1) (once_now ms m (inr (record { anchor = t.anchor; top = c; at = subst (λ z. AtTop more t.anchor c (to_top z)) h.top (top_got t c did (saw t.top c did refl) h); need = k.2 })))
  lowering_on (LoweringCase.PutAnchor s new k) did saw h = subst (λ z. lowering_log z more) (sym k) (sinking_on (Put 0 s.anchor ∷ []) (ap acts_in did) h)
  lowering_on (LoweringCase.Refused s new k) did saw h = subst (λ z. lowering_log z more) (sym k) (once_now ms m (record { until = ms; mark = m; split = refl; refused = did; x = s.top; anchor = h.anchor; is = h.is }))
  lowering_on (LoweringCase.PutDead s new k) did saw h = subst (λ z. lowering_log z more) (sym k) (s, refl, sinking_on (Put s.top s.dead ∷ []) (ap acts_in did) h)
  lowering_on (LoweringCase.Retired x new k) did saw h = subst (λ z. lowering_log z more) (sym k) (once_now ms m (sunk h.0 (sinking_on (Retire h.0.top ∷ []) (ap acts_in did ∙ ap (λ z. Retire z ∷ []) h.1) h.2)))
  lowering_on (LoweringCase.OpenedTop x what new k) did saw h = subst (λ z. lowering_log z more) (sym k) (lowered_on what (ap writes_in did) h)

  -- what it answers means what it says
  pub lowering_over : {l : Lowering} {what : Seen} {end : Lowered} → LoweringCase l what (Over end) → m.event.act ≡ event_of None (lowering_next l) what → ((x : ℕ) (c : Page) → m.event.act ≡ Get x → what ≡ seen.Words c → m.saw ≡ Some c) → lowering_log l ms → MeansLowered end more
  lowering_over (LoweringCase.SawOne c end t) did saw h = subst (λ z. MeansLowered z more) (sym t.0) (one_got c h did (saw 0 c did refl) (let e = t.1 in omega arith))
  lowering_over (LoweringCase.OpenedAnchor end last t) did saw h = subst (λ z. MeansLowered z more) (sym t) (lowered_on end (ap writes_in did) h)

  pub lower_on : {a b : LowerStage} {what : Seen} → LowerCase a what b → m.event.act ≡ event_of None (lower_next_in a) what → ((x : ℕ) (c : Page) → m.event.act ≡ Get x → what ≡ seen.Words c → m.saw ≡ Some c) → lower_log a ms → lower_log b more
  lower_on (LowerCase.Began l t) did saw h = subst (λ z. lowering_log z more) (sym t) (unwritten_now ms m did h)
  lower_on (LowerCase.Sank l what k t) did saw h = lowering_on (lowering_case l what _ t) did saw h
  lower_on (LowerCase.Finished l what r t) did saw h = lowering_over (lowering_case l what _ t) did saw h
  lower_on (LowerCase.Ended r last t) did saw h = subst (λ z. MeansLowered z more) (sym t) (lowered_on r (ap writes_in did) h)

  -- a miss that is of no turn of its own changes nothing
  module _ {what : Missed} (did : m.event.act ≡ Miss what) where
    lowering_stays : (l : Lowering) → lowering_log l ms → lowering_log l more
    lowering_stays Looking h = unwritten_on ms m (ap writes_in did) h
    lowering_stays LatchingAnchor h = unwritten_on ms m (ap writes_in did) h
    lowering_stays LatchedAnchor h = since_on ms m [] (ap acts_in did) h
    lowering_stays (LatchingTop t) h = summit_on [] (ap acts_in did) h
    lowering_stays (LatchedTop t) h = summit_on [] (ap acts_in did) h
    lowering_stays (PuttingAnchor s) h = sinking_on [] (ap acts_in did) h
    lowering_stays (PuttingDead s) h = sinking_on [] (ap acts_in did) h
    lowering_stays (Retiring x) h = (h.0, h.1, sinking_on [] (ap acts_in did) h.2)
    lowering_stays (OpeningTop x r) h = lowered_on r (ap writes_in did) h
    lowering_stays (OpeningAnchor r) h = lowered_on r (ap writes_in did) h

    pub lower_stays : (a : LowerStage) → lower_log a ms → lower_log a more
    lower_stays lower.New h = none_written ms m (ap writes_in did) h
    lower_stays (lower.Sinking l) h = lowering_stays l h
    lower_stays (lower.Ending r) h = lowered_on r (ap writes_in did) h
    lower_stays (lower.Over r) h = lowered_on r (ap writes_in did) h

-- An answered lowering tells what its answer means.
same_lowered : (p q : Lowered) → answer.Lower p ≡ answer.Lower q → p ≡ q
same_lowered p q e = cc

some_answer : (a b : Answer) → Some a ≡ Some b → a ≡ b
some_answer a b e = cc

pub stage_means : (stage : LowerStage) (what : Lowered) (marks : Trail) → lower_answer_in stage ≡ Some (answer.Lower what) → lower_log stage marks → MeansLowered what marks
stage_means (lower.Over r) what marks e log = subst (λ z. MeansLowered z marks) (same_lowered r what (some_answer _ _ e)) log
stage_means old what marks e log = absurd (let f = e in cc)

-- In every world whose processes have done what they tell, what a lowering has answered means what it says.
pub lower_means : (w : World Run) (n : Name) (a : Lower) (what : Lowered) → AllLogs w → (w.proc n).state ≡ proc.Lower a → lower_answer_in a.stage ≡ Some (answer.Lower what) → MeansLowered what (marks_of n w.trail)
lower_means w n a what logs is e = stage_means a.stage what (marks_of n w.trail) e (subst (λ s. proc_log s (marks_of n w.trail)) is (logs n))
