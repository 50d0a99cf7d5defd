-- A post gives up its walk to the child: it knows and holds no more than before, and may stand so at any time.
use Rattle.std.proofs.Common.{ℕ, ◌≡◌, None, Some, ap, ◌∙◌, subst}
use Rattle.bl_page.specs.declared.page.Page.{Page}
use Rattle.bl_page.specs.Machine.{Name}
use Rattle.bl_claims.specs.Trails.{Trail}
use Rattle.bl_proc_steps.specs.declared.approach.Approach.TheVariants as way
use Rattle.bl_tree_worlds.specs.Worlds.{Know, World, HoldsPage, IsSure, IsGood}
use Rattle.bl_proc_writes.specs.declared.walking.Walk.{Walk}
use Rattle.bl_proc_writes.specs.declared.post.Post.{Post}
use Rattle.bl_proc_writes.specs.declared.post.PostStage.{PostStage}
use Rattle.bl_proc_writes.specs.declared.post.PostStage.TheVariants.{Walking}
use Rattle.bl_proc.specs.declared.kinds.Proc.TheVariants as proc
use Rattle.bl_proc_invariant.specs.Logs.{post_log, proc_log}
use Rattle.bl_proc_invariant.specs.Tables.{alone, know_approach}
use Rattle.bl_proc_invariant.specs.Knowing.{Run, know_of, know, know_post}
use Rattle.bl_proc_invariant.specs.Walks.{off_walk}
use Rattle.bl_proc_invariant.proofs.Holdings.{held_raised}
use Rattle.bl_proc_invariant.proofs.Instead.{with_proc, instead_held}

abbrev pub off_run : Run → Post → Walk → Run
off_run r a v = record { state = proc.Post (off_walk a v); got = r.got; child = r.child; time = r.time }

off_sure : (w : World Run) (p : Name) (level key : ℕ) (got : ℕ → Page) (child : ℕ) (v : Walk) → IsSure w p (know_post alone level key got child (Walking v)) → IsSure w p (know_approach alone level key (way.Leaving v.at None))
off_sure w p level key got child v is = record {
  stage = is.stage;
  said = is.said;
  holds = (record { owner = is.holds.0.owner; status = is.holds.0.status; sep = tt; page = tt }, tt);
  goes = is.goes.1;
  children = tt;
  passed = tt;
  sound = is.sound.0;
}

module _ (w : World Run) (p : Name) (a : Post) (v : Walk) (is : (w.proc p).state ≡ proc.Post a) (walks : a.stage ≡ Walking v) where
  off_known : know (w.proc p) ≡ know_post alone a.level a.key (w.proc p).got (w.proc p).child (Walking v)
  off_known = ap (know_of (w.proc p).got (w.proc p).child (w.proc p).time) is ∙ ap (know_post alone a.level a.key (w.proc p).got (w.proc p).child) walks

  pub off_good : IsGood know w → IsGood know (with_proc w p (off_run (w.proc p) a v))
  off_good g = instead_held know w p (off_run (w.proc p) a v) g
      (λ x h. subst (λ (k : Know). HoldsPage k.holds x) off_known h)
      (λ m e h. absurd (let none = subst (λ (k : Know). k.middle ≡ Some m) off_known e in cc))
      (off_sure w p a.level a.key (w.proc p).got (w.proc p).child v (subst (IsSure w p) off_known (g.sure p)))

-- what it has done is what it had done as it held its parent
pub off_log : (a : Post) (v : Walk) (marks : Trail) → a.stage ≡ Walking v → proc_log (proc.Post a) marks → proc_log (proc.Post (off_walk a v)) marks
off_log a v marks walks log = held_raised (subst (λ (s : PostStage). post_log a.level a.key s marks) walks log).0.holding
