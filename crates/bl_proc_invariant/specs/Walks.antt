-- Processes that hold one page, have not put it, and open it without having done what they hold it for: a post gives up its walk to the
-- child, and a lowering the latch of the top page.
use Rattle.std.specs.Prelude.{◌≡◌, ℕ, None}
use Rattle.bl_proc_steps.specs.declared.approach.Approach.TheVariants.{Leaving}
use Rattle.bl_proc_steps.specs.declared.lowering.Summit.{Summit}
use Rattle.bl_proc_steps.specs.declared.lowering.Lowering.TheVariants.{Looking, LatchingTop}
use Rattle.bl_proc_writes.specs.declared.walking.Walk.{Walk}
use Rattle.bl_proc_writes.specs.declared.post.Post.{Post}
use Rattle.bl_proc_writes.specs.declared.post.PostStage.TheVariants.{Coming, Walking}
use Rattle.bl_proc.specs.declared.lowering.LowerStage.TheVariants.{Sinking}
use Rattle.bl_proc.specs.declared.kinds.Proc.{Proc}
use Rattle.bl_proc.specs.declared.kinds.Proc.TheVariants as proc

-- the same post, which is to open its parent and to begin its way again
abbrev pub off_walk : Post → Walk → Post
off_walk p w = record { level = p.level; key = p.key; stage = Coming (Leaving w.at None); least = p.least; most = p.most; below = tt }

-- The process is a post on its walk from page x, and is this one where it has given that up.
pub record LeavesWalk (old new : Proc) (x : ℕ) : Type 0 where
  pub post : Post
  pub walk : Walk
  pub is : old ≡ proc.Post post
  pub walks : post.stage ≡ Walking walk
  pub at : walk.at ≡ x
  pub then : new ≡ proc.Post (off_walk post walk)

-- a lowering that is to look at the anchor, and one that holds it and is to latch the top page
abbrev pub looking : Proc
looking = proc.Lower (record { stage = Sinking Looking })

abbrev pub at_summit : Summit → Proc
at_summit t = proc.Lower (record { stage = Sinking (LatchingTop t) })
