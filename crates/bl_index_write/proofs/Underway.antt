-- A post that has given up stands so, and can go on.
use Rattle.std.proofs.Common.{ℕ, ◌≡◌, ◌≢◌, ◌<◌, ◌≤◌, Option, Some, Result, Ok, Err, IfOk, IfErr, inl, inr, refl, sym, ap, subst}
use Rattle.std.proofs.Props.{props}
use Rattle.bl_page.specs.declared.page.Page.{Page}
use Rattle.bl_proc_steps.specs.declared.acts.Action.{Action}
use Rattle.bl_proc_steps.specs.declared.acts.Action.TheVariants as act
use Rattle.bl_proc_steps.specs.declared.acts.Seen.TheVariants as seen
use Rattle.bl_proc_steps.specs.declared.approach.Approach.{Approach}
use Rattle.bl_proc_steps.specs.declared.approach.Approach.TheVariants as way
use Rattle.bl_proc_steps.specs.declared.approach.Approached.TheVariants as came
use Rattle.bl_proc_steps.specs.Approaches.{Enters}
use Rattle.bl_page.specs.Nodes.{Roots, roots_of}
use Rattle.bl_proc_writes.specs.declared.post.Post.{Post}
use Rattle.bl_proc_writes.specs.declared.post.PostStage.{PostStage}
use Rattle.bl_proc_writes.specs.declared.post.PostStage.TheVariants as post
use Rattle.bl_proc_writes.specs.Levels.{IsBelowTop, IsBelowTop-prop}
use Rattle.bl_proc_writes.specs.Posts.{post_next_in}
use Rattle.bl_proc.specs.declared.kinds.Proc.{Proc}
use Rattle.bl_proc.specs.declared.kinds.Proc.TheVariants as proc
use Rattle.bl_proc.specs.Processes.{Takes}
use Rattle.bl_proc_deterministic.proofs.Following.{not_begin_way}
use Rattle.bl_proc_deterministic.proofs.KindCases.{PostCase, post_case}
use Rattle.bl_proc_deterministic.proofs.WayCases.{ApproachCase, approach_case}
use Rattle.bl_proc_deterministic.proofs.PostsFollowing.{post_follows}
use Rattle.bl_proc_deterministic.proofs.Retirements.{post_none}
use Rattle.bl_proc_deterministic.proofs.RefusedTurns.{takes_refused, takes_puts}
use Rattle.bl_proc_deterministic.specs.Frames.{work_of}
use Rattle.bl_proc_deterministic.specs.Retirements.{RetiresAfter}
use Rattle.bl_answers.specs.declared.answers.Hint.{Hint}
use Rattle.bl_answers.specs.declared.answers.Posted.{Posted}
use Rattle.bl_answers.specs.declared.answers.Posted.TheVariants as posted
use Rattle.atomic_table.specs.declared.shared.Seat.{Seat}
use Rattle.bl_store_rule.specs.declared.view.View.{View}
use Rattle.bl_store.specs.declared.store.Hand.{Hand}
use Rattle.bl_store.specs.Hands.{known, HasNoStock}
use Rattle.bl_index_rule.specs.declared.known.PassState.{PassState}
use Rattle.bl_index_events.specs.declared.tree.Tree.{Tree}
use Rattle.bl_index_events.specs.Runs.{IsSameProcess, IsSince, Rests, Runs}
use Rattle.bl_index_events.specs.Rooms.{LacksPost}
use Rattle.bl_index_events.proofs.Rooms.{words_not_refused}
use Rattle.bl_index_write.specs.declared.targets.Posting.{Posting}
use Rattle.bl_index_write.proofs.PostEnds.{posted_first}
use Rattle.bl_index_descend.specs.Events.{HoldsNone}
use Rattle.bl_index_write.specs.Events.{HasPosted, IsOutside, IsPostOver, IsPostUnderway, posting}

-- the post that a process is, if it is one
abbrev pub post_in : Proc → Post → Post
post_in (proc.Post p) other = p
post_in kind other = other

-- it does not matter why a post may stand so
pub post_is : (j : Posting) (s : PostStage) (l : 0 < j.level) (m : j.level ≤ 12) (b below : IsBelowTop j.level s) → proc.Post (record { level = j.level; key = j.key; stage = s; least = l; most = m; below = b }) ≡ posting j s below
post_is j s l m b below =
    let least : IsProp (0 < j.level) = hlevel props in
    let most : IsProp (j.level ≤ 12) = hlevel props in
    λ i. proc.Post (record { level = j.level; key = j.key; stage = s; least = least l j.least i; most = most m j.most i; below = IsBelowTop-prop j.level s b below i })

-- a post retires nothing
not_retire : (s : PostStage) (x : ℕ) → post_next_in s ≢ act.Retire x
not_retire s x e = subst (λ (z : Action). RetiresAfter (act.Get 0) seen.Done z) e (post_none (act.Get 0) seen.Done s)

-- who has got the anchor on its way holds no page
enters_none : (level : ℕ) (roots : Roots) (a : Approach) → Enters level roots a → HoldsNone a
enters_none level roots way.Start t = tt
enters_none level roots (way.At x) t = tt
enters_none level roots (way.Latching x) t = tt
enters_none level roots (way.Latched x) t = t
enters_none level roots (way.Leaving x to) t = t

way_outside : {level key : ℕ} {b : Approach} {c : Page} → ApproachCase level key way.Start (seen.Words c) (came.On b) → HoldsNone b
way_outside {level} (ApproachCase.Entered c b t) = enters_none level (roots_of c) b t

anchor_outside : {level key : ℕ} {c : Page} {b : PostStage} → PostCase level key (post.Coming way.Start) (seen.Words c) b → IsOutside b
anchor_outside (PostCase.NoLevel c t) = tt
anchor_outside (PostCase.Tallest c t) = tt
anchor_outside (PostCase.ToGrow c t) = tt
anchor_outside {level} {key} (PostCase.Came a what b t) = way_outside (approach_case level key a what (came.On b) t)

module _ (tree : Tree) (hand : Hand PassState) (j : Posting) (p : Post) (empty : HasNoStock hand.seat) where
  -- on its way to its parent
  pub underway_on_way : (a : Approach) → HoldsNone a → proc.Post p ≡ posting j (post.Coming a) tt → Runs tree hand (posting j (post.Coming a) tt) → IsPostUnderway tree hand j.level j.key p
  underway_on_way a none is runs =
      let q : Post = record { level = j.level; key = j.key; stage = post.Coming a; least = j.least; most = j.most; below = tt } in
      let same : p ≡ q = ap (λ (z : Proc). post_in z p) is in
      subst (λ (z : Post). IsPostUnderway tree hand j.level j.key z) (sym same) (record {
        level_is = refl;
        key_is = refl;
        runs = runs;
        going = (refl, not_begin_way a);
        reserved = (refl, empty, not_retire (post.Coming a));
        free = ((λ r. r), (λ r. r));
        outside = none;
      })

  -- where it has got the anchor of a tree that has no such level
  pub underway_looked : (c : Page) → Takes (posting j (post.Coming way.Start) tt) (seen.Words c) (proc.Post p) → Runs tree hand (proc.Post p) → IsPostUnderway tree hand j.level j.key p
  underway_looked c takes runs =
      let old : Post = record { level = j.level; key = j.key; stage = post.Coming way.Start; least = j.least; most = j.most; below = tt } in
      let follows = post_follows old p (seen.Words c) takes in
      record {
        level_is = takes.0;
        key_is = takes.1;
        runs = runs;
        going = (follows.running (λ e. cc), follows.begun);
        reserved = (follows.frames, empty, not_retire p.stage);
        free = ((λ r. elim (takes_refused (proc.Post old) (seen.Words c) (proc.Post p) takes r) [ inl was ↦ was | inr observed ↦ words_not_refused _ observed ]), λ r. takes_puts (proc.Post old) (seen.Words c) (proc.Post p) takes r);
        outside = anchor_outside (post_case j.level j.key (post.Coming way.Start) (seen.Words c) p.stage takes.2);
      }

abbrev H : Type 0
H = Seat (Unit {0}) (View PassState)

-- what became of a post that has come to its parent, from its begin on
module _ (j : Posting) (pass : ℕ) (old d : PassState) (since : IsSince pass old d) where
  pub ended_within : (h : H) (r : Result (Posted × Option Hint) Post) → IfOk r (λ said. IsPostOver j d h said.0 said.1)
      → IfOk r (λ said. Rests h × HasNoStock h × ((first : Proc) × (work_of first ≡ Some (j.level, j.key)) × HasPosted pass old (known h) first said.0 said.1))
  ended_within h (Ok said) over = (over.rests, over.empty, posted_first j _ _ _ _ _ (over.is_posted pass old since))
  ended_within h (Err p) over = tt

pub underway_within : (level key pass : ℕ) (old d : PassState) (since : IsSince pass old d) (tree : Tree) (hand : Hand PassState) (r : Result (Posted × Option Hint) Post) → IfErr r (λ p. IsPostUnderway tree hand level key p × IsSameProcess d (known hand.seat))
    → IfErr r (λ p. IsPostUnderway tree hand level key p × IsSince pass old (known hand.seat))
underway_within level key pass old d since tree hand (Ok said) on = tt
underway_within level key pass old d since tree hand (Err p) on = (on.0, on.1 pass old since)

pub lacks_within : (j : Posting) (d : PassState) (h : H) (r : Result (Posted × Option Hint) Post) → IfOk r (λ said. IsPostOver j d h said.0 said.1) → IfOk r (λ said. said.0 ≡ posted.NoRoom → LacksPost j.level j.key h)
lacks_within j d h (Ok said) over = over.no_room
lacks_within j d h (Err p) over = tt
