-- The account of a world.
use Rattle.std.proofs.Common.{ℕ, ◌≡◌, ◌+◌, suc, Option, Some, None, List, length, slice_get, arith, ap, sym, ◌∙◌, subst, inl, inr}
use mathlib.Core.Logic.{∥∥₁_map}
use Rattle.std.proofs.Math.Logic.{∥∥₁_elim}
use Rattle.bl_model.specs.History.{IsLegalFrom}
use Rattle.bl_page.specs.Machine.{Name}
use Rattle.bl_page.specs.Machine.Act.{End}
use Rattle.bl_page.specs.Machine.Phase.{Waiting, Ended}
use Rattle.bl_claims.specs.Trails.{Said, marks_of, history_of, SaysAt, DoesAt, HasSaid}
use Rattle.bl_claims.specs.Moments.{snapshot_of, HasLaws}
use Rattle.bl_tree_worlds.specs.Worlds.{IsStage, World as ModelWorld, IsSure, IsGood}
use Rattle.bl_answers.specs.declared.answers.Answer.{Answer}
use Rattle.bl_answers.specs.declared.answers.Answer.TheVariants as answer
use Rattle.bl_answers.specs.declared.answers.Hint.{Hint}
use Rattle.bl_answers.specs.declared.answers.Posted.{Posted}
use Rattle.bl_proc_writes.specs.declared.post.Post.{Post}
use Rattle.bl_answers.specs.declared.answers.Squeezed.{Squeezed}
use Rattle.bl_answers.specs.declared.answers.Lowered.{Lowered}
use Rattle.bl_proc.specs.declared.lowering.Lower.{Lower}
use Rattle.bl_proc_writes.specs.declared.insert_post.InsertPost.{InsertPost}
use Rattle.bl_proc_compress.specs.declared.compress.Compress.{Compress}
use Rattle.bl_answers.specs.declared.answers.Reclaimed.{Reclaimed}
use Rattle.bl_proc.specs.declared.reclaiming.ReclaimStage.{ReclaimStage}
use Rattle.bl_proc.specs.declared.reclaiming.ReclaimStage.TheVariants as reclaim
use Rattle.bl_proc.specs.Reclaims.{reclaim_answer_in}
use Rattle.bl_proc.specs.declared.kinds.Proc.TheVariants as proc
use Rattle.bl_proc.specs.declared.kinds.Proc.{Proc}
use Rattle.bl_proc.specs.Processes.{answer_of}
use Rattle.bl_proc_invariant.specs.Knowing.{Run, know_of, know}
use Rattle.bl_claims.specs.Answers.{MeansPosted}
use Rattle.bl_claims.specs.Squeezed.{MeansSqueezed}
use Rattle.bl_claims.specs.Lowered.{MeansLowered}
use Rattle.bl_claims.specs.Climbed.{MeansClimbed}
use Rattle.bl_proc_invariant.proofs.Answered.{post_means}
use Rattle.bl_proc_invariant.proofs.Beside.{beside_means}
use Rattle.bl_proc_invariant.specs.Beside.{MeansBeside}
use Rattle.bl_proc_invariant.specs.Logs.{proc_log}
use Rattle.bl_proc_invariant.proofs.CompressAnswers.{compress_means}
use Rattle.bl_proc_invariant.proofs.LoweringLogs.{lower_means}
use Rattle.bl_proc_invariant.proofs.ClimbingAnswers.{climb_means}
use Rattle.bl_proc_invariant.proofs.Starting.{run_laws}
use Rattle.bl_claims.specs.Bounds.{IsWithinBound}
use Rattle.bl_proc_bounds.specs.Searches.{IsSearch}
use Rattle.bl_proc_bounds.specs.Latches.{IsTidy}
use Rattle.bl_proc_bounds.proofs.Bounded.{search_within}
use Rattle.bl_world.specs.Views.{View, name_of}
use Rattle.bl_world.specs.WorldSteps.{Way}
use Rattle.bl_world.specs.Retirements.{MeansReclaimed}
use Rattle.bl_world.specs.declared.turns.Event.{Event}
use Rattle.bl_world.specs.Accounts.{op_of, HasEnd, Replies, IsOwn, Account, Continues}
use Rattle.bl_world.specs.Worlds.{IsReclaiming, IsWorld}
use Rattle.bl_world.specs.Lone.{IsLoneWalk, HasWalk}
use Rattle.bl_world.proofs.Arms.{stands}
use Rattle.bl_world.proofs.ReclaimArms.{named}
use Rattle.bl_world.proofs.Moments.{world_map}
use Rattle.bl_world.proofs.Orders.{ordered, ended_in, none_released}
use Rattle.bl_world.proofs.Entries.{said_op, answered_said, climb_answered, answered_late}
use Rattle.bl_proc_deterministic.proofs.RefusedAnswers.{answers_refused}
use Rattle.bl_world.proofs.Ways.{events_count, first_refused}
use Rattle.bl_world.proofs.Keeping.{Has, GrowsTo}

one_more : (n : ℕ) → n + 1 ≡ suc n
one_more n = omega arith

-- what a process means that has released a page, or kept it
over_means : (es : List Event) (n x k : ℕ) (stage : ReclaimStage) (a : Reclaimed) → reclaim_answer_in stage ≡ Some (answer.Reclaim a) → IsReclaiming es n x k stage → MeansReclaimed es n x a
over_means es n x k (reclaim.Over what) a e is = (let f : Some (answer.Reclaim what) ≡ Some (answer.Reclaim a) = e in let g : what ≡ a = cc in subst (MeansReclaimed es n x) g is)
over_means es n x k old a e is = absurd cc

-- two operations of one process are one
same_said : (w : ModelWorld Run) (q : Name) (said : Option Said) (i : ℕ) (s : Said) → IsGood know w → HasSaid w.trail q said → SaysAt w.trail i q s → said ≡ Some s
same_said w q None i s g has says = absurd (has i s says)
same_said w q (Some t) i s g has says =
    let e = g.recorded.marked.once has.0 i q t s has.1 says in
    let a = has.1.is in
    let b : slice_get w.trail has.0 ≡ Some says.mark = ap (slice_get w.trail) e ∙ says.is in
    let m : has.1.mark ≡ says.mark = (let f : Some has.1.mark ≡ Some says.mark = sym a ∙ b in cc) in
    sym has.1.says ∙ (ap (λ z. z.said) m ∙ says.says)

module _ (v : View) (h : Has v) where
  -- what a process that was started knows, by its state
  sure_of : (n : ℕ) (p : Proc) → slice_get v.processes n ≡ Some p → IsSure h.world (name_of (suc n)) (know_of (h.world.proc (name_of (suc n))).got (h.world.proc (name_of (suc n))).child (h.world.proc (name_of (suc n))).time p)
  sure_of n p stood = subst (λ z. IsSure h.world (name_of (suc n)) (know_of (h.world.proc (name_of (suc n))).got (h.world.proc (name_of (suc n))).child (h.world.proc (name_of (suc n))).time z)) (h.runs n p stood) (h.good.sure (name_of (suc n)))

  own : (i : ℕ) (q : Name) (said : Said) → SaysAt h.world.trail i q said → IsOwn v q said
  own i q said says = elim (named (length v.processes) q) [
    | inl known ↦
        let n = known.0 in
        let p = stands v.processes n known.1 in
        let r = h.world.proc (name_of (suc n)) in
        let here : SaysAt h.world.trail i (name_of (suc n)) said = rw known.2 at says in
        let is = same_said h.world (name_of (suc n)) (know_of r.got r.child r.time p.0).said i said h.good (sure_of n p.0 p.1).said here in
        record { place = n; process = p.0; name = known.2 ∙ ap name_of (sym (one_more n)); stood = p.1; op = said_op r.got r.child r.time p.0 said is }
    | inr far ↦
        let none : (know (h.world.proc q)).said ≡ None = (h.others q far).1.said in
        let is = same_said h.world q (know (h.world.proc q)).said i said h.good (h.good.sure q).said says in
        absurd (let f : None ≡ Some said = sym none ∙ is in cc)
  ]

  answers : (n : ℕ) (p : Proc) (reply : _) (hint : Option Hint) → slice_get v.processes n ≡ Some p → answer_of p ≡ Some (answer.Op reply hint) → Replies h.world.trail (name_of (n + 1)) (op_of p) reply
  answers n p reply hint stood e =
      let r = h.world.proc (name_of (suc n)) in
      let a = answered_said r.got r.child r.time p reply hint e in
      let has : HasSaid h.world.trail (name_of (suc n)) (Some a.it) = subst (HasSaid h.world.trail (name_of (suc n))) a.is (sure_of n p stood).said in
      rw (one_more n) (record { place = has.0; said = a.it; says = has.1; op = said_op r.got r.child r.time p a.it a.is; reply = a.reply_is })

  ended : (n : ℕ) (p : Proc) (a : Answer) → slice_get v.processes n ≡ Some p → HasEnd p → answer_of p ≡ Some a → (i : ℕ) × ((reply : Option _) × DoesAt h.world.trail i (name_of (n + 1)) (End reply))
  ended n p a stood ends e =
      let r = h.world.proc (name_of (suc n)) in
      let late : h.world.now.phase (name_of (suc n)) ≡ Ended = subst (λ z. IsStage z (h.world.now.phase (name_of (suc n)))) (answered_late r.got r.child r.time p a ends e) (sure_of n p stood).stage in
      let began = h.opening.waiting (name_of (suc n)) in
      rw (one_more n) (ended_in h.world.start h.world.now h.world.trail (name_of (suc n)) (λ f. (let g : Waiting ≡ Ended = sym began ∙ f in cc)) h.good.recorded.leads late)

  posted : (n : ℕ) (p : Post) (a : Posted) (hint : Option Hint) → slice_get v.processes n ≡ Some (proc.Post p) → answer_of (proc.Post p) ≡ Some (answer.Post a hint) → MeansPosted p.level p.key a hint (marks_of (name_of (n + 1)) h.world.trail)
  posted n p a hint stood e = subst (λ k. MeansPosted p.level p.key a hint (marks_of (name_of k) h.world.trail)) (sym (one_more n)) (post_means h.world (name_of (suc n)) p a hint h.logs (h.runs n (proc.Post p) stood) e)

  beside : (n : ℕ) (p : Proc) (reply : _) (hint : Option Hint) → slice_get v.processes n ≡ Some p → answer_of p ≡ Some (answer.Op reply hint) → MeansBeside p reply hint (marks_of (name_of (n + 1)) h.world.trail)
  beside n p reply hint stood e =
      let log : proc_log p (marks_of (name_of (suc n)) h.world.trail) = subst (λ z. proc_log z (marks_of (name_of (suc n)) h.world.trail)) (h.runs n p stood) (h.logs (name_of (suc n))) in
      subst (λ k. MeansBeside p reply hint (marks_of (name_of k) h.world.trail)) (sym (one_more n)) (beside_means p reply hint (marks_of (name_of (suc n)) h.world.trail) e log)

  squeezed : (n : ℕ) (p : Compress) (a : Squeezed) (hint : Option Hint) → slice_get v.processes n ≡ Some (proc.Compress p) → answer_of (proc.Compress p) ≡ Some (answer.Compress a hint) → MeansSqueezed p.level p.key a hint (marks_of (name_of (n + 1)) h.world.trail)
  squeezed n p a hint stood e = subst (λ k. MeansSqueezed p.level p.key a hint (marks_of (name_of k) h.world.trail)) (sym (one_more n)) (compress_means h.world (name_of (suc n)) p a hint h.logs (h.runs n (proc.Compress p) stood) e)

  lowered : (n : ℕ) (p : Lower) (a : Lowered) → slice_get v.processes n ≡ Some (proc.Lower p) → answer_of (proc.Lower p) ≡ Some (answer.Lower a) → MeansLowered a (marks_of (name_of (n + 1)) h.world.trail)
  lowered n p a stood e = subst (λ k. MeansLowered a (marks_of (name_of k) h.world.trail)) (sym (one_more n)) (lower_means h.world (name_of (suc n)) p a h.logs (h.runs n (proc.Lower p) stood) e)

  climbed : (n : ℕ) (p : InsertPost) (reply : _) (last : Option Posted) (left : Option Hint) → slice_get v.processes n ≡ Some (proc.InsertPost p) → answer_of (proc.InsertPost p) ≡ Some (answer.InsertPost reply last left)
      → Replies h.world.trail (name_of (n + 1)) (op_of (proc.InsertPost p)) reply × MeansClimbed reply last left (marks_of (name_of (n + 1)) h.world.trail)
  climbed n p reply last left stood e =
      let r = h.world.proc (name_of (suc n)) in
      let a = climb_answered p.key p.placing p.path r.got r.child p.stage reply last left e in
      let has : HasSaid h.world.trail (name_of (suc n)) (Some a.it) = subst (HasSaid h.world.trail (name_of (suc n))) a.is (sure_of n (proc.InsertPost p) stood).said in (
        rw (one_more n) (record { place = has.0; said = a.it; says = has.1; op = said_op r.got r.child r.time (proc.InsertPost p) a.it a.is; reply = a.reply_is }),
        subst (λ k. MeansClimbed reply last left (marks_of (name_of k) h.world.trail)) (sym (one_more n)) (climb_means h.world (name_of (suc n)) p reply last left h.logs (h.runs n (proc.InsertPost p) stood) e),
      )

  bounded : (n : ℕ) (p : Proc) → slice_get v.processes n ≡ Some p → IsSearch p → IsWithinBound (length v.pages) (name_of (n + 1)) h.world.trail
  bounded n p stood search =
      let name = name_of (suc n) in
      let within = search_within h.world name h.good h.kept.paced (subst IsSearch (sym (h.runs n p stood)) search) in
      subst (λ k. IsWithinBound (length v.pages) (name_of k) h.world.trail) (sym (one_more n)) (subst (λ k. IsWithinBound k name h.world.trail) h.size within)

  latches : (n : ℕ) (p : Proc) → slice_get v.processes n ≡ Some p → IsTidy p (marks_of (name_of (n + 1)) h.world.trail)
  latches n p stood =
      let name = name_of (suc n) in
      let tidy : IsTidy p (marks_of name h.world.trail) = subst (λ z. IsTidy z (marks_of name h.world.trail)) (h.runs n p stood) (h.kept.tidy name) in
      subst (λ k. IsTidy p (marks_of (name_of k) h.world.trail)) (sym (one_more n)) tidy

  pub account : Way v → Account v
  account way =
      let w = h.world in
      let r = h.good.recorded in
      record {
        way = way;
        count = λ way. events_count way.opened v way.world_steps way.led ∙ (let e : length way.opened.events ≡ 0 = ap length way.opening.events in omega (arith, e));
        trail = w.trail;
        shown = h.shown;
        start = w.start;
        opening = h.opening;
        now = w.now;
        leads = r.leads;
        numbered = h.numbered;
        unreleased = none_released w.start w.now w.trail r.leads;
        contents = h.contents;
        owner = h.owner;
        laws = subst (λ f. HasLaws (snapshot_of w.now w.trail) f) (world_map w h.good h.first) (run_laws w h.good (λ p since runs. h.logs p));
        moments = h.moments;
        marked = r.marked;
        legal = subst (λ m. IsLegalFrom m (history_of w.trail)) h.first r.legal;
        ordered = ordered w.start w.now w.trail r.leads r.marked;
        own = own;
        answers = answers;
        posted = posted;
        beside = beside;
        squeezed = squeezed;
        lowered = lowered;
        climbed = climbed;
        ended = λ n p a stood ends e. (let x = ended n p a stood ends e in (x.0, x.1.0, x.1.1));
        reclaimed = λ n p a stood e. rw (one_more n) (over_means v.events (suc n) p.page (w.proc (name_of (suc n))).time p.stage a e (h.reclaiming n p stood));
        releases = h.releases;
        bounded = bounded;
        latches = latches;
        refused = λ way n p a stood e no. first_refused way.size way.opened v way.world_steps n way.opening way.led (record { process = p; stood = stood; refused = answers_refused p a e no });
      }

-- the account of a world that is there, and its going on
pub has_account : (v : View) → IsWorld v → ∥ Way v ∥₁ → ∥ Account v ∥₁
has_account v h way = ∥∥₁_elim h squash₁ (λ h. ∥∥₁_map way (account v h))

pub continues : (v v' : View) → IsWorld v → ∥ Way v ∥₁ → ((h : Has v) → GrowsTo h v') → (Way v → Way v') → ∥ Continues v v' ∥₁
unfolding account
continues v v' h way grows on = ∥∥₁_elim h squash₁ (λ h. ∥∥₁_map way (λ way.
    (let g = grows h in
    record { before = account v h way; after = account v' g.0 (on way); more = g.1.0; goes_on = g.1.1 })))

-- the lone walk of a key, as the account tells it
pub lone : (v : View) (key leaf gets : ℕ) → ∥ HasWalk v key leaf gets ∥₁ → ∥ Way v ∥₁ → ∥ IsLoneWalk v key leaf gets ∥₁
unfolding account
lone v key leaf gets h way = ∥∥₁_elim h squash₁ (λ h. ∥∥₁_map way (λ way. (record { account = account v h.has way; walk = h.walk; ends = h.ends; count = h.count })))
