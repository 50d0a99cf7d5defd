-- A process begins, and ends, by what it knows.
use Rattle.std.proofs.Common.{ℕ, ◌≡◌, ◌<◌, Option, Some, None, List, sym, ◌∙◌, refl}
use Rattle.bl_model.specs.declared.operation.Reply.{Reply}
use Rattle.bl_page.specs.Machine.{Name, State}
use Rattle.bl_page.specs.Machine.Act.{Begin, End}
use Rattle.bl_page.specs.Machine.Phase.{Waiting, Running}
use Rattle.bl_page.specs.Nodes.{unbounded}
use Rattle.bl_claims.specs.Trails.{Said, Answered, HasSaid}
use Rattle.bl_tree_worlds.proofs.Pushes.{HasSaid-silent}
use Rattle.bl_tree_worlds.specs.Worlds.{Goes, Stage, Know, World, IsGoes, IsSure, IsGood, silent}
use Rattle.bl_tree_worlds.proofs.Frames.{Each-map}
use Rattle.bl_proc_invariant.specs.Turns.{Does, Turned}
use Rattle.bl_proc_invariant.specs.Tables.{idle, Carried, carrying}
use Rattle.bl_proc_invariant.specs.Knowing.{early, ending, late}
use Rattle.bl_proc_invariant.proofs.Acts.{began, finished}

-- what was said at the point is what is answered at the end
abbrev pub reply_said : Option Said → Option Reply
reply_said (Some said) = Some said.reply
reply_said None = None

pub observed_said : {P : Type 0} (w : World P) (p : Name) (said : Option Said) → HasSaid w.trail p said → Answered w.trail p (reply_said said)
observed_said w p (Some said) h = (h.0, said, h.1, refl)
observed_said w p None h = h

module _ {P : Type 0} (know : P → Know) (w : World P) (g : IsGood know w) (p : Name) (b : P) where
  -- who has not begun may go nowhere yet
  pub start_turn : (carried : Carried) (S : Type 0) (s : State _) → know (w.proc p) ≡ record (idle Stage.Early) { said = carried.said; goes = carried.goes; sound = S } → know b ≡ record (carrying carried) { sound = S } → Does w.now p Begin s → Turned know w p Begin s b
  start_turn carried S s before then does =
      let is : IsSure w p (record (idle Stage.Early) { said = carried.said; goes = carried.goes; sound = S }) = rw before at (g.sure p) in
      began know w g p b _ _ before then s is.stage does refl (λ x h. h)
      (record {
        stage = (does.changes.2.0, does.changes.2.3.at);
        said = HasSaid-silent w.trail (silent p Begin) p carried.said refl is.said;
        holds = tt;
        goes = Each-map (IsGoes w p) _ carried.goes (λ k o. absurd (let e : Waiting ≡ Running o.may.since = sym is.stage ∙ o.may.runs in cc)) is.goes;
        children = tt;
        passed = tt;
        sound = is.sound;
      })

  pub begin_turn : (carried : Carried) (key : ℕ) (s : State _) → know (w.proc p) ≡ record (early key) { said = carried.said; goes = carried.goes } → know b ≡ record (carrying carried) { sound = key < unbounded } → Does w.now p Begin s → Turned know w p Begin s b
  begin_turn carried key s before then does = start_turn carried (key < unbounded) s before then does

  pub end_turn : (said : Option Said) (goes : List Goes) (S : Type 0) (s : State _) → know (w.proc p) ≡ record (ending said) { goes = goes; sound = S } → know b ≡ late said → Does w.now p (End (reply_said said)) s → Turned know w p (End (reply_said said)) s b
  end_turn said goes S s before then does =
      let is : IsSure w p (record (ending said) { goes = goes; sound = S }) = rw before at (g.sure p) in
      finished know w g p b _ _ before then (reply_said said) s (is.stage, λ x o. rw before at (g.owned.held x p o)) does (observed_said w p said is.said) refl (λ x h. h)
      (record {
        stage = does.changes.2.at;
        said = HasSaid-silent w.trail (silent p (End (reply_said said))) p said refl is.said;
        holds = tt;
        goes = tt;
        children = tt;
        passed = tt;
        sound = tt;
      })
