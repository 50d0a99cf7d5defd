-- What a process does next is possible: the pages that it gets are not released, and those that it puts, opens or retires are
-- its own.
use Rattle.std.proofs.Common.{ℕ, ◌≡◌, ◌≢◌, ◌-◌, None, Some, List, [], ap, sym, ◌∙◌, subst, arith}
use Rattle.bl_tree.specs.Trees.{is_live, IsLive}
use Rattle.bl_page.specs.Nodes.{roots_of}
use Rattle.bl_page.specs.Tops.{top_of}
use Rattle.std.proofs.lemmas.Bool.{false≢true}
use Rattle.bl_model.specs.declared.deciding.KeyWrite.{KeyWrite}
use Rattle.bl_page.specs.declared.page.Page.{Page}
use Rattle.bl_page.specs.Machine.{Name}
use Rattle.bl_page.specs.Machine.Owner.{Released, Held}
use Rattle.bl_tree.specs.Trees.Status.{Free}
use Rattle.bl_tree_worlds.specs.Worlds.{Goes, Know, World, was_in, MayGet, IsSure, IsGood}
use Rattle.bl_tree_worlds.proofs.Steady.{free_not}
use Rattle.bl_tree_worlds.proofs.Descents.{not_released, anchor_not_released}
use Rattle.bl_proc_steps.specs.declared.acts.Action.{Action}
use Rattle.bl_proc_steps.specs.declared.acts.Action.TheVariants as act
use Rattle.bl_proc_steps.specs.declared.approach.Approach.{Approach}
use Rattle.bl_proc_steps.specs.declared.approach.Approach.TheVariants as way
use Rattle.bl_proc_steps.specs.declared.edit.Edit.{Edit}
use Rattle.bl_proc_steps.specs.declared.edit.Edit.TheVariants as edit
use Rattle.bl_proc_steps.specs.declared.growth.Growth.{Growth}
use Rattle.bl_proc_steps.specs.declared.growth.Growth.TheVariants as growth
use Rattle.bl_proc.specs.declared.searching.FindStage.{FindStage}
use Rattle.bl_proc.specs.declared.searching.FindStage.TheVariants as find
use Rattle.bl_proc.specs.declared.parts.PartStage.{PartStage}
use Rattle.bl_proc.specs.declared.parts.PartStart.{PartStart}
use Rattle.bl_proc.specs.declared.parts.PartStage.TheVariants as part
use Rattle.bl_proc_writes.specs.declared.writing.WriteStage.{WriteStage}
use Rattle.bl_proc_writes.specs.declared.writing.WriteStage.TheVariants as write
use Rattle.bl_proc_writes.specs.declared.post.PostStage.{PostStage}
use Rattle.bl_proc_writes.specs.declared.post.PostStage.TheVariants as post
use Rattle.bl_proc.specs.declared.reclaiming.ReclaimStage.{ReclaimStage}
use Rattle.bl_proc.specs.declared.lowering.LowerStage.{LowerStage}
use Rattle.bl_proc.specs.declared.lowering.LowerStage.TheVariants as lower
use Rattle.bl_proc_steps.specs.declared.lowering.Lowering.{Lowering}
use Rattle.bl_proc_steps.specs.declared.lowering.Lowering.TheVariants as lowering
use Rattle.bl_proc_writes.specs.declared.paths.Path.{Path}
use Rattle.bl_proc_writes.specs.declared.insert_post.ClimbStage.{ClimbStage}
use Rattle.bl_proc_writes.specs.declared.insert_post.ClimbStage.TheVariants as climb
use Rattle.bl_proc_writes.specs.InsertPosts.{climb_next_in}
use Rattle.bl_proc_invariant.specs.Lowering.{know_lowering}
use Rattle.bl_proc.specs.declared.reclaiming.ReclaimStage.TheVariants as reclaim
use Rattle.bl_proc_compress.specs.declared.compression.Compression.{Compression}
use Rattle.bl_proc_compress.specs.declared.compression.Compression.TheVariants.{LatchingLeft, LatchedLeft, LatchingRight, LatchedRight, PuttingFirst, PuttingParent, PuttingLast, Retiring, OpeningRight, OpeningLeft, OpeningParent}
use Rattle.bl_proc_compress.specs.declared.compress.CompressStage.{CompressStage}
use Rattle.bl_proc_compress.specs.declared.compress.CompressStage.TheVariants as compress
use Rattle.bl_proc.specs.declared.kinds.Proc.{Proc}
use Rattle.bl_proc.specs.declared.kinds.Proc.TheVariants.{Find, Write, Post, Part, Compress, Reclaim, Lower, InsertPost}
use Rattle.bl_proc_steps.specs.Approaches.{approach_next}
use Rattle.bl_proc_steps.specs.Edits.{edit_next}
use Rattle.bl_proc_compress.specs.Compressions.{put_of, other, compression_next}
use Rattle.bl_rearrange.specs.declared.sides.Side.{Side}
use Rattle.bl_rearrange.specs.declared.sides.Side.TheVariants as side
use Rattle.bl_proc_compress.specs.declared.compression.Puts.{Puts}
use Rattle.bl_proc_steps.specs.Growths.{growth_next}
use Rattle.bl_proc.specs.Searches.{find_next_in}
use Rattle.bl_proc.specs.Parts.{part_next_in}
use Rattle.bl_proc_writes.specs.Writes.{write_next_in}
use Rattle.bl_proc_writes.specs.Posts.{post_next_in}
use Rattle.bl_proc_compress.specs.Compresses.{compress_next_in}
use Rattle.bl_proc.specs.Reclaims.{reclaim_next_in}
use Rattle.bl_proc.specs.Lowers.{lower_next_in}
use Rattle.bl_proc_steps.specs.Lowerings.{lowering_next}
use Rattle.bl_proc.specs.Processes.{next_of}
use Rattle.bl_proc_invariant.specs.Compressing.{know_compression}
use Rattle.bl_proc_invariant.specs.Tables.{Carried, unsaid, alone, Aim, know_approach, know_edit}
use Rattle.bl_proc_invariant.specs.Knowing.{know_growth, know_find, know_part, know_write, path_goes, inserted, know_climb, know_post, know_compress, know_reclaim, know_lower, know_of, Run, know}
use Rattle.bl_proc_invariant.proofs.Descending.{descent_there}
use Rattle.bl_proc_writes.specs.declared.insert_post.Placing.{Placing}
use Rattle.bl_proc_writes.specs.Placings.{write_of}

abbrev pub IsNear : {P : Type 0} → World P → Name → Action → Type 0
IsNear w p (act.Get x) = w.now.owner x ≢ Released
IsNear w p (act.Put x c) = w.now.owner x ≡ Held p
IsNear w p (act.Latch x) = w.status x ≢ Free
IsNear w p (act.Open x) = w.now.owner x ≡ Held p
IsNear w p (act.Retire x) = w.now.owner x ≡ Held p
IsNear w p action = Unit {0}

module _ {P : Type 0} (know : P → Know) (w : World P) (g : IsGood know w) (p : Name) where
  not_free : (x : ℕ) → MayGet w p x → w.status x ≢ Free
  not_free x may e = false≢true (sym free_not ∙ (ap was_in (sym e) ∙ may.was))

  anchor_not_free : w.status 0 ≢ Free
  anchor_not_free e = (let a = g.tree.anchored in cc)

  approach_near : (carried : Carried) → (level key : ℕ) (a : Approach) → IsSure w p (know_approach carried level key a) → IsNear w p (approach_next a)
  approach_near carried level key way.Start is = anchor_not_released know w g
  approach_near carried level key (way.At x) is = not_released know w g p x is.goes.0.may
  approach_near carried level key (way.Latching x) is = not_free x is.goes.0.may
  approach_near carried level key (way.Latched x) is = not_released know w g p x is.goes.0.may
  approach_near carried level key (way.Leaving x None) is = is.holds.0.owner
  approach_near carried level key (way.Leaving x (Some y)) is = is.holds.0.owner

  edit_near : (aim : Aim) (got : ℕ → Page) (c : Edit) → IsSure w p (know_edit aim got c) → IsNear w p (edit_next c)
  edit_near aim got (edit.Putting x page) is = is.holds.0.owner
  edit_near aim got (edit.Taking full) is = tt
  edit_near aim got (edit.PuttingNew t) is = is.holds.1.0.owner
  edit_near aim got (edit.PuttingOld t) is = is.holds.0.owner
  edit_near aim got (edit.OpeningNew x y s) is = is.holds.1.0.owner
  edit_near aim got (edit.Opening x o) is = is.holds.0.owner

  growth_near : (carried : Carried) → (level key : ℕ) (got : ℕ → Page) (a : Growth) → IsSure w p (know_growth carried level key got a) → IsNear w p (growth_next a)
  growth_near carried level key got growth.Latching is = anchor_not_free
  growth_near carried level key got growth.Latched is = anchor_not_released know w g
  growth_near carried level key got (growth.Taking r) is = tt
  growth_near carried level key got (growth.PuttingTop r) is = is.holds.1.0.owner
  growth_near carried level key got (growth.PuttingAnchor r) is = is.holds.0.owner
  growth_near carried level key got (growth.OpeningTop x) is = is.holds.1.0.owner
  growth_near carried level key got growth.OpeningGrown is = is.holds.0.owner
  growth_near carried level key got growth.OpeningRefused is = is.holds.0.owner

  find_near : (key : ℕ) (a : FindStage) → IsSure w p (know_find key a) → IsNear w p (find_next_in a)
  find_near key find.New is = tt
  find_near key (find.Near x) is = tt
  find_near key (find.Probing x) is = tt
  find_near key (find.Descending d) is = descent_there know w g p key d is
  find_near key (find.Ending v) is = tt
  find_near key (find.Over v) is = tt

  part_near : (from : PartStart) (a : PartStage) → IsSure w p (know_part from a) → IsNear w p (part_next_in a)
  part_near from part.New is = tt
  part_near from (part.Near x) is = tt
  part_near from (part.Probing x) is = tt
  part_near from (part.Descending d) is = descent_there know w g p from.key d is
  part_near from (part.Ending r) is = tt
  part_near from (part.Over r) is = tt

  write_near : (goes : List Goes) → (key : ℕ) (does : KeyWrite) (got : ℕ → Page) (a : WriteStage) → IsSure w p (know_write goes key does got a) → IsNear w p (write_next_in a)
  write_near goes key does got write.New is = tt
  write_near goes key does got (write.Coming a) is = approach_near (unsaid goes) 0 key a is
  write_near goes key does got (write.Keeping x there) is = is.holds.0.owner
  write_near goes key does got (write.Editing noted c) is = edit_near _ got c is
  write_near goes key does got (write.Ending r) is = tt
  write_near goes key does got (write.Over r) is = tt

  post_near : (carried : Carried) → (level key : ℕ) (got : ℕ → Page) (child : ℕ) (a : PostStage) → IsSure w p (know_post carried level key got child a) → IsNear w p (post_next_in a)
  post_near carried level key got child post.New is = tt
  post_near carried level key got child (post.Coming a) is = approach_near carried level key a is
  post_near carried level key got child (post.Growing h) is = growth_near carried level key got h is
  post_near carried level key got child (post.Walking v) is = not_released know w g p v.child is.goes.0.may
  post_near carried level key got child (post.Editing c) is = edit_near _ got c is
  post_near carried level key got child (post.Staying x r) is = is.holds.0.owner
  post_near carried level key got child (post.Ending r) is = tt
  post_near carried level key got child (post.Over r) is = tt

  put_near : (u : Puts) (sd : Side) → w.now.owner u.at.left ≡ Held p → w.now.owner u.at.right ≡ Held p → IsNear w p (put_of sd u)
  put_near u side.Left left right = left
  put_near u side.Right left right = right

  compression_near : (level key : ℕ) (got : ℕ → Page) (c : Compression) → IsSure w p (know_compression level key got c) → IsNear w p (compression_next c)
  compression_near level key got (LatchingLeft f) is = not_free f.at.left is.goes.0.may
  compression_near level key got (LatchedLeft f) is = not_released know w g p f.at.left is.goes.0.may
  compression_near level key got (LatchingRight f c) is = not_free f.at.right is.goes.0.may
  compression_near level key got (LatchedRight f c) is = not_released know w g p f.at.right is.goes.0.may
  compression_near level key got (PuttingFirst u) is = put_near u u.gains is.holds.1.0.owner is.holds.1.1.0.owner
  compression_near level key got (PuttingParent u) is = is.holds.0.owner
  compression_near level key got (PuttingLast u) is = put_near u (other u.gains) is.holds.1.0.owner is.holds.1.1.0.owner
  compression_near level key got (Retiring t f) is = is.holds.1.1.0.owner
  compression_near level key got (OpeningRight t f) is = is.holds.1.1.0.owner
  compression_near level key got (OpeningLeft t f) is = is.holds.1.0.owner
  compression_near level key got (OpeningParent x f) is = is.holds.0.owner

  compress_near : (level key : ℕ) (got : ℕ → Page) (a : CompressStage) → IsSure w p (know_compress level key got a) → IsNear w p (compress_next_in a)
  compress_near level key got compress.New is = tt
  compress_near level key got (compress.Coming a) is = approach_near alone level key a is
  compress_near level key got (compress.Compressing c) is = compression_near level key got c is
  compress_near level key got (compress.Staying x) is = is.holds.0.owner
  compress_near level key got (compress.Ending r) is = tt
  compress_near level key got (compress.Over r) is = tt

  reclaim_near : (page time : ℕ) (a : ReclaimStage) → IsSure w p (know_reclaim time a) → IsNear w p (reclaim_next_in page a)
  reclaim_near page time reclaim.Seeing is = tt
  reclaim_near page time (reclaim.Looking r) is = tt
  reclaim_near page time reclaim.Releasing is = tt
  reclaim_near page time (reclaim.Over what) is = tt

  -- the leftmost page of the top level
  top_not_free : (x : ℕ) → x ≡ top_of (roots_of (w.now.contents 0)) → w.status x ≢ Free
  unfolding is_live
  top_not_free x e free =
      let o = g.tree.leftmost ((roots_of (w.now.contents 0)).levels - 1) (let some = g.tree.some_level in omega arith) in
      false≢true (subst IsLive (ap w.status (sym e) ∙ free) o.alive)

  lowering_near : (got : ℕ → Page) (l : Lowering) → IsSure w p (know_lowering got l) → IsNear w p (lowering_next l)
  lowering_near got lowering.Looking is = anchor_not_released know w g
  lowering_near got lowering.LatchingAnchor is = anchor_not_free
  lowering_near got lowering.LatchedAnchor is = anchor_not_released know w g
  lowering_near got (lowering.LatchingTop t) is = top_not_free t.top (is.sound ∙ ap (λ z. top_of (roots_of z)) (sym is.holds.0.page))
  lowering_near got (lowering.LatchedTop t) is = λ e. (let o = sym is.holds.1.0.owner ∙ e in cc)
  lowering_near got (lowering.PuttingAnchor s) is = is.holds.0.owner
  lowering_near got (lowering.PuttingDead s) is = is.holds.1.0.owner
  lowering_near got (lowering.Retiring x) is = is.holds.1.0.owner
  lowering_near got (lowering.OpeningTop x what) is = is.holds.1.0.owner
  lowering_near got (lowering.OpeningAnchor what) is = is.holds.0.owner

  lower_near : (got : ℕ → Page) (a : LowerStage) → IsSure w p (know_lower got a) → IsNear w p (lower_next_in a)
  lower_near got lower.New is = tt
  lower_near got (lower.Sinking l) is = lowering_near got l is
  lower_near got (lower.Ending r) is = tt
  lower_near got (lower.Over r) is = tt

  climb_near : (key : ℕ) (placing : Placing) (path : Path) (got : ℕ → Page) (child : ℕ) (a : ClimbStage) → IsSure w p (know_climb key placing path got child a) → IsNear w p (climb_next_in a)
  climb_near key placing path got child (climb.Writing v) is = write_near (path_goes path) key (write_of placing) got v.stage is
  climb_near key placing path got child (climb.Posting q) is = post_near (inserted key placing path) q.level q.key got child q.stage is
  climb_near key placing path got child (climb.Ending r) is = tt
  climb_near key placing path got child (climb.Over r) is = tt

  of_near : (got : ℕ → Page) (child time : ℕ) (state : Proc) → IsSure w p (know_of got child time state) → IsNear w p (next_of state)
  of_near got child time (Find a) is = find_near a.key a.stage is
  of_near got child time (Write a) is = write_near [] a.key a.write got a.stage is
  of_near got child time (Post a) is = post_near alone a.level a.key got child a.stage is
  of_near got child time (Part a) is = part_near a.from a.stage is
  of_near got child time (Compress a) is = compress_near a.level a.key got a.stage is
  of_near got child time (Reclaim a) is = reclaim_near a.page time a.stage is
  of_near got child time (Lower a) is = lower_near got a.stage is
  of_near got child time (InsertPost a) is = climb_near a.key a.placing a.path got child a.stage is

pub near : (w : World Run) (p : Name) → IsGood know w → IsNear w p (next_of (w.proc p).state)
near w p g = of_near know w g p (w.proc p).got (w.proc p).child (w.proc p).time (w.proc p).state (g.sure p)
