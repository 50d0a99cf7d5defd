-- What the states of a process say that began as it should: each turn keeps it.
use Rattle.std.proofs.Common.{ℕ, ◌≡◌, true, sym, ◌∙◌, refl, subst}
use Rattle.bl_page.specs.declared.page.Page.{Page}
use Rattle.bl_page.specs.Machine.{Name}
use Rattle.bl_tree_worlds.specs.Worlds.{World, IsGood}
use Rattle.bl_proc_steps.specs.declared.acts.Seen.{Seen}
use Rattle.bl_proc_writes.specs.declared.post.PostStage.{PostStage}
use Rattle.bl_proc_writes.specs.declared.paths.Path.{Path}
use Rattle.bl_proc_writes.specs.declared.insert_post.ClimbStage.{ClimbStage}
use Rattle.bl_proc_compress.specs.Compresses.{CompressGoes}
use Rattle.bl_proc.specs.declared.kinds.Proc.{Proc}
use Rattle.bl_proc.specs.declared.kinds.Proc.TheVariants as proc
use Rattle.bl_proc.specs.Processes.{next_of, Takes}
use Rattle.bl_proc_deterministic.proofs.KindCases.{PostCase, post_case, compress_case, ClimbCase, climb_case}
use Rattle.bl_proc_deterministic.proofs.KindCases.PostCase.{Began as PostBegan, NoLevel as PostNoLevel, Tallest as PostTallest, ToGrow as PostToGrow, Came as PostCame, Listed as PostListed, ToWalk as PostToWalk, Grew as PostGrew, Grown as PostGrown, NoRoom as PostNoRoom, Walked as PostWalked, Entered as PostEntered, Stale as PostStale, Lost as PostLost, Edited as PostEdited, Finished as PostFinished, Opened as PostOpened, Ended as PostEnded}
use Rattle.bl_proc_deterministic.proofs.KindCases.ClimbCase.{Wrote as ClimbWrote, Split as ClimbSplit, Unsplit as ClimbUnsplit, Posted as ClimbPosted, Higher as ClimbHigher, Finished as ClimbFinished, Ended as ClimbEnded}
use Rattle.bl_proc_invariant.specs.Turns.{IsObserved}
use Rattle.bl_proc_invariant.specs.Knowing.{Run, know_of, know}
use Rattle.bl_proc_ends.specs.Left.{IsStaying, IsClimbing, IsMeant}
use Rattle.bl_proc_ends.proofs.CompressionEnds.{compress_found}

pub post_kept : {level key : ℕ} {a b : PostStage} {what : Seen} → PostCase level key a what b → IsStaying b
post_kept (PostBegan a e) = tt
post_kept (PostNoLevel c t) = tt
post_kept (PostTallest c t) = tt
post_kept (PostToGrow c t) = tt
post_kept (PostCame a what b t) = tt
post_kept (PostListed x parent y l t) = tt
post_kept (PostToWalk x parent v l t) = tt
post_kept (PostGrew g what h t) = tt
post_kept (PostGrown g what a t) = tt
post_kept (PostNoRoom g what r t) = tt
post_kept (PostWalked w c v t) = tt
post_kept (PostEntered w c d t) = tt
post_kept (PostStale w c x t) = tt
post_kept (PostLost w c a t) = tt
post_kept (PostEdited c what d t) = tt
post_kept (PostFinished c what r t) = tt
post_kept (PostOpened x r last e) = tt
post_kept (PostEnded r last e) = tt

pub climb_kept : {path : Path} {a b : ClimbStage} {what : Seen} → ClimbCase path a what b → IsClimbing b
climb_kept (ClimbWrote v what u h k) = tt
climb_kept (ClimbSplit v what there level separator q h from) = subst IsStaying (sym from.2) tt
climb_kept (ClimbUnsplit v what r last h k) = tt
climb_kept (ClimbPosted u what q h k) = post_kept h
climb_kept (ClimbHigher u what separator q h from) = subst IsStaying (sym from.2) tt
climb_kept (ClimbFinished u what r last h k) = tt
climb_kept (ClimbEnded r last e) = tt

module _ (w : World Run) (g : IsGood know w) (p : Name) (got : ℕ → Page) (child time : ℕ) where
  pub by_kind : (old new : Proc) (what : Seen) → Takes old what new → know (w.proc p) ≡ know_of got child time old → IsObserved w.now w.size (next_of old) what → IsMeant old → IsMeant new
  by_kind (proc.Find a) (proc.Find b) what t is observed m = tt
  by_kind (proc.Part a) (proc.Part b) what t is observed m = tt
  by_kind (proc.Write a) (proc.Write b) what t is observed m = tt
  by_kind (proc.Post a) (proc.Post b) what t is observed m = post_kept (post_case a.level a.key a.stage what b.stage t.2)
  by_kind (proc.Compress a) (proc.Compress b) what t is observed m =
      let goes : CompressGoes a.level a.key true a.stage what b.stage = subst (λ z. CompressGoes a.level a.key z a.stage what b.stage) m.0 t.3 in
      (t.2 ∙ m.0, compress_found w g p a.level a.key got (compress_case a.level a.key true a.stage what b.stage goes) is observed m.1)
  by_kind (proc.Reclaim a) (proc.Reclaim b) what t is observed m = m
  by_kind (proc.Lower a) (proc.Lower b) what t is observed m = tt
  by_kind (proc.InsertPost a) (proc.InsertPost b) what t is observed m = climb_kept (climb_case b.path a.stage what b.stage t.3)
  by_kind old new what t is observed m = absurd t

pub meant : (w next : World Run) (p : Name) (what : Seen) → IsGood know w → Takes (w.proc p).state what (next.proc p).state → IsObserved w.now w.size (next_of (w.proc p).state) what → IsMeant (w.proc p).state → IsMeant (next.proc p).state
meant w next p what g t observed m = (let a = w.proc p in by_kind w g p a.got a.child a.time a.state (next.proc p).state what t refl observed m)
