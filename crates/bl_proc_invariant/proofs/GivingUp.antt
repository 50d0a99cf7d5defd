-- A process that holds nothing and has said nothing may end at once, and answers nothing.
use Rattle.std.proofs.Common.{ℕ, ◌≡◌, None, [], refl, arith}
use Rattle.bl_page.specs.Machine.{Name, State}
use Rattle.bl_page.specs.Machine.Act.{End}
use Rattle.bl_page.specs.declared.page.Page.{Page}
use Rattle.bl_tree_worlds.proofs.Pushes.{HasSaid-silent}
use Rattle.bl_tree_worlds.specs.Worlds.{Stage, World, IsGood, silent}
use Rattle.bl_answers.specs.declared.answers.Lowered.TheVariants.{Needed}
use Rattle.bl_proc_compress.specs.declared.compress.CompressReply.TheVariants.{Alone}
use Rattle.bl_proc_compress.specs.declared.compress.CompressStage.TheVariants as compress
use Rattle.bl_proc.specs.declared.lowering.LowerStage.TheVariants as lower
use Rattle.bl_proc.specs.declared.kinds.Proc.{Proc}
use Rattle.bl_proc.specs.declared.kinds.Proc.TheVariants as proc
use Rattle.bl_proc_writes.specs.declared.post.PostStage.TheVariants as post
use Rattle.bl_proc_writes.specs.declared.post.PostReply.TheVariants.{Stale}
use Rattle.bl_proc_invariant.specs.Turns.{Does, Turned}
use Rattle.bl_proc_invariant.specs.Knowing.{Run, know_of, know, late}
use Rattle.bl_proc_invariant.proofs.Acts.{finished}

-- What stands for it then: a process that is over and has said nothing. A compression and a lowering stay what they are, since they may have
-- held a page as they latched another one.
abbrev pub left_over : Proc
left_over = proc.Post (record { level = 1; key = 0; stage = post.Over Stale; least = omega arith; most = omega arith; below = tt })

abbrev pub left_of : Proc → Proc
left_of (proc.Find p) = left_over
left_of (proc.Write p) = left_over
left_of (proc.Post p) = left_over
left_of (proc.Part p) = left_over
left_of (proc.Compress p) = proc.Compress (record { level = p.level; key = p.key; waits = p.waits; stage = compress.Over Alone; least = p.least; most = p.most })
left_of (proc.Reclaim p) = left_over
left_of (proc.Lower p) = proc.Lower (record { stage = lower.Over Needed })
left_of (proc.InsertPost p) = left_over

abbrev pub given_up : Run → Run
given_up r = record { state = left_of r.state; got = r.got; child = r.child; time = r.time }

left_known : (got : ℕ → Page) (child time : ℕ) (a : Proc) → know_of got child time (left_of a) ≡ late None
left_known got child time (proc.Find p) = refl
left_known got child time (proc.Write p) = refl
left_known got child time (proc.Post p) = refl
left_known got child time (proc.Part p) = refl
left_known got child time (proc.Compress p) = refl
left_known got child time (proc.Reclaim p) = refl
left_known got child time (proc.Lower p) = refl
left_known got child time (proc.InsertPost p) = refl

pub give_up : (w : World Run) (p : Name) (s : State Page) → IsGood know w → (know (w.proc p)).stage ≡ Stage.Busy → (know (w.proc p)).said ≡ None → (know (w.proc p)).holds ≡ [] → (know (w.proc p)).middle ≡ None → Does w.now p (End None) s → Turned know w p (End None) s (given_up (w.proc p))
give_up w p s g busy none empty middle does =
    let is = g.sure p in
    let r = w.proc p in
    finished know w g p (given_up r) (know r) (late None) refl (left_known r.got r.child r.time r.state) None s
    (rw busy at is.stage, λ x o. rw empty at (g.owned.held x p o))
    does (rw none at is.said) (rw middle refl) (λ x h. rw empty at h)
    (record {
      stage = does.changes.2.at;
      said = HasSaid-silent w.trail (silent p (End None)) p None refl (rw none at is.said);
      holds = tt;
      goes = tt;
      children = tt;
      passed = tt;
      sound = tt;
    })
