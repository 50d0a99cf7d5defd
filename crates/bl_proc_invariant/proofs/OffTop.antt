-- A lowering that is to latch the top page opens the anchor, which it holds, and looks again.
use Rattle.std.proofs.Common.{ℕ, ◌≡◌, ◌++◌, Some, [], ◌∷◌, refl, ap, subst}
use Rattle.bl_page.specs.declared.page.Page.{Page}
use Rattle.bl_page.specs.Machine.{Name, State, Act}
use Rattle.bl_claims.specs.Trails.{Mark, Trail}
use Rattle.bl_claims.specs.Meanings.{writes_in}
use Rattle.bl_answers.specs.declared.answers.Lowered.TheVariants.{Needed}
use Rattle.bl_proc_steps.specs.declared.lowering.Summit.{Summit}
use Rattle.bl_proc_steps.specs.declared.lowering.Lowering.TheVariants.{LatchingTop, OpeningAnchor}
use Rattle.bl_tree_worlds.specs.Worlds.{Know, World, HoldsPage, IsSure, IsGood}
use Rattle.bl_tree_worlds.proofs.After.{is_put_name}
use Rattle.bl_tree_worlds.proofs.Meant.{unwritten_on}
use Rattle.bl_proc.specs.declared.lowering.LowerStage.TheVariants.{Sinking}
use Rattle.bl_proc.specs.declared.kinds.Proc.TheVariants as proc
use Rattle.bl_proc_invariant.specs.Turns.{Does, Turned}
use Rattle.bl_proc_invariant.specs.Logs.{proc_log}
use Rattle.bl_proc_invariant.specs.Lowering.{know_lowering}
use Rattle.bl_proc_invariant.specs.Knowing.{Run, know_of, know}
use Rattle.bl_proc_invariant.specs.Walks.{looking, at_summit}
use Rattle.bl_proc_invariant.proofs.Doing.{since_unwritten}
use Rattle.bl_proc_invariant.proofs.Instead.{with_proc, instead_held, turned_instead}
use Rattle.bl_proc_invariant.proofs.Lowering.{open_turn}

abbrev pub looking_run : Run → Run
looking_run r = record { state = looking; got = r.got; child = r.child; time = r.time }

-- the same where the top level is needed: it knows of the anchor that it holds it
abbrev opening_run : Run → Run
opening_run r = record { state = proc.Lower (record { stage = Sinking (OpeningAnchor Needed) }); got = r.got; child = r.child; time = r.time }

opening_sure : (w : World Run) (p : Name) (got : ℕ → Page) (t : Summit) → IsSure w p (know_lowering got (LatchingTop t)) → IsSure w p (know_lowering got (OpeningAnchor Needed))
opening_sure w p got t is = record {
  stage = is.stage;
  said = is.said;
  holds = (record { owner = is.holds.0.owner; status = is.holds.0.status; sep = tt; page = tt }, tt);
  goes = tt;
  children = tt;
  passed = tt;
  sound = tt;
}

pub off_top : (w : World Run) (p : Name) (s : State Page) (t : Summit) → IsGood know w → (w.proc p).state ≡ at_summit t → Does w.now p (Act.Open 0) s → Turned know w p (Act.Open 0) s (looking_run (w.proc p))
off_top w p s t g is does =
    let r = w.proc p in
    let known : know r ≡ know_lowering r.got (LatchingTop t) = ap (know_of r.got r.child r.time) is in
    let good = instead_held know w p (opening_run r) g
    (λ x h. subst (λ (k : Know). HoldsPage k.holds x) known h)
    (λ m e h. absurd (let none = subst (λ (k : Know). k.middle ≡ Some m) known e in cc))
    (opening_sure w p r.got t (subst (IsSure w p) known (g.sure p))) in
    let before : know ((with_proc w p (opening_run r)).proc p) ≡ know_lowering r.got (OpeningAnchor Needed) = ap know (is_put_name p (opening_run r) w.proc).at in
    turned_instead know w p (Act.Open 0) s (opening_run r) (looking_run r) (open_turn know (with_proc w p (opening_run r)) good p (looking_run r) r.got Needed s before refl does)

-- it has written nothing
pub off_top_log : (t : Summit) (marks : Trail) (m : Mark) → m.event.act ≡ Act.Open 0 → proc_log (at_summit t) marks → proc_log looking (marks ++ m ∷ [])
off_top_log t marks m did log = unwritten_on marks m (ap writes_in did) (since_unwritten refl log.since)
