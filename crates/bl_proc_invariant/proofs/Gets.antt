-- What a process gets next is page 0, or a page that is or was of the tree and that it may still get. So it is no page that
-- was never put.
use Rattle.std.proofs.Common.{ℕ, ◌≡◌, ◌⊎◌, ◌∙◌, None, Some, List, [], ap, sym, inl, inr, refl}
use Rattle.bl_model.specs.declared.deciding.KeyWrite.{KeyWrite}
use Rattle.bl_page.specs.declared.page.Page.{Page}
use Rattle.bl_page.specs.Machine.{Name}
use Rattle.bl_tree_worlds.specs.Worlds.{Goes, Stage, World, was_in, IsStage, MayGet, IsHeld, IsSure, IsGood}
use Rattle.bl_proc_steps.specs.declared.acts.Action.{Action}
use Rattle.bl_proc_steps.specs.declared.acts.Action.TheVariants as act
use Rattle.bl_proc_steps.specs.declared.descent.Descent.{Descent}
use Rattle.bl_proc_steps.specs.declared.descent.Descent.TheVariants as descent
use Rattle.bl_proc_steps.specs.declared.approach.Approach.{Approach}
use Rattle.bl_proc_steps.specs.declared.approach.Approach.TheVariants as way
use Rattle.bl_proc_steps.specs.declared.edit.Edit.{Edit}
use Rattle.bl_proc_steps.specs.declared.edit.Edit.TheVariants as edit
use Rattle.bl_proc_steps.specs.declared.growth.Growth.{Growth}
use Rattle.bl_proc_steps.specs.declared.growth.Growth.TheVariants as growth
use Rattle.bl_proc.specs.declared.searching.FindStage.{FindStage}
use Rattle.bl_proc.specs.declared.searching.FindStage.TheVariants as find
use Rattle.bl_proc.specs.declared.parts.PartStage.{PartStage}
use Rattle.bl_proc.specs.declared.parts.PartStart.{PartStart}
use Rattle.bl_proc.specs.declared.parts.PartStage.TheVariants as part
use Rattle.bl_proc_writes.specs.declared.writing.WriteStage.{WriteStage}
use Rattle.bl_proc_writes.specs.declared.writing.WriteStage.TheVariants as write
use Rattle.bl_proc_writes.specs.declared.post.PostStage.{PostStage}
use Rattle.bl_proc_writes.specs.declared.post.PostStage.TheVariants as post
use Rattle.bl_proc.specs.declared.reclaiming.ReclaimStage.{ReclaimStage}
use Rattle.bl_proc.specs.declared.lowering.LowerStage.{LowerStage}
use Rattle.bl_proc.specs.declared.lowering.LowerStage.TheVariants as lower
use Rattle.bl_proc_steps.specs.declared.lowering.Lowering.{Lowering}
use Rattle.bl_proc_steps.specs.declared.lowering.Lowering.TheVariants as lowering
use Rattle.bl_proc_writes.specs.declared.paths.Path.{Path}
use Rattle.bl_proc_writes.specs.declared.insert_post.ClimbStage.{ClimbStage}
use Rattle.bl_proc_writes.specs.declared.insert_post.ClimbStage.TheVariants as climb
use Rattle.bl_proc_writes.specs.InsertPosts.{climb_next_in}
use Rattle.bl_proc_invariant.specs.Lowering.{know_lowering}
use Rattle.bl_proc.specs.declared.reclaiming.ReclaimStage.TheVariants as reclaim
use Rattle.bl_proc_compress.specs.declared.compression.Compression.{Compression}
use Rattle.bl_proc_compress.specs.declared.compression.Compression.TheVariants.{LatchingLeft, LatchedLeft, LatchingRight, LatchedRight, PuttingFirst, PuttingParent, PuttingLast, Retiring, OpeningRight, OpeningLeft, OpeningParent}
use Rattle.bl_proc_compress.specs.declared.compress.CompressStage.{CompressStage}
use Rattle.bl_proc_compress.specs.declared.compress.CompressStage.TheVariants as compress
use Rattle.bl_proc.specs.declared.kinds.Proc.{Proc}
use Rattle.bl_proc.specs.declared.kinds.Proc.TheVariants.{Find, Write, Post, Part, Compress, Reclaim, Lower, InsertPost}
use Rattle.bl_proc_steps.specs.Descents.{descent_next}
use Rattle.bl_proc_steps.specs.Approaches.{approach_next}
use Rattle.bl_proc_steps.specs.Edits.{edit_next}
use Rattle.bl_proc_compress.specs.Compressions.{put_of, other, compression_next}
use Rattle.bl_rearrange.specs.declared.sides.Side.{Side}
use Rattle.bl_rearrange.specs.declared.sides.Side.TheVariants as side
use Rattle.bl_proc_compress.specs.declared.compression.Puts.{Puts}
use Rattle.bl_proc_steps.specs.Growths.{growth_next}
use Rattle.bl_proc.specs.Searches.{find_next_in}
use Rattle.bl_proc.specs.Parts.{part_next_in}
use Rattle.bl_proc_writes.specs.Writes.{write_next_in}
use Rattle.bl_proc_writes.specs.Posts.{post_next_in}
use Rattle.bl_proc_compress.specs.Compresses.{compress_next_in}
use Rattle.bl_proc.specs.Reclaims.{reclaim_next_in}
use Rattle.bl_proc.specs.Lowers.{lower_next_in}
use Rattle.bl_proc_steps.specs.Lowerings.{lowering_next}
use Rattle.bl_proc.specs.Processes.{next_of}
use Rattle.bl_proc_invariant.specs.Compressing.{know_compression}
use Rattle.bl_proc_invariant.specs.Tables.{Carried, unsaid, alone, Aim, holds_live, know_descent, know_approach, know_edit}
use Rattle.bl_proc_invariant.specs.Knowing.{know_growth, know_find, know_part, know_write, path_goes, inserted, know_climb, know_post, know_compress, know_reclaim, know_lower, know_of, Run, know}
use Rattle.bl_proc_writes.specs.declared.insert_post.Placing.{Placing}
use Rattle.bl_proc_writes.specs.Placings.{write_of}

-- page 0, or one that it may get
abbrev pub IsGot : {P : Type 0} → World P → Name → Action → Type 0
IsGot w p (act.Get x) = (x ≡ 0) ⊎ MayGet w p x
IsGot w p action = Unit {0}

module _ {P : Type 0} (w : World P) (p : Name) where
  approach_got : (carried : Carried) → (level key : ℕ) (a : Approach) → IsSure w p (know_approach carried level key a) → IsGot w p (approach_next a)
  approach_got carried level key way.Start is = inl refl
  approach_got carried level key (way.At x) is = inr is.goes.0.may
  approach_got carried level key (way.Latching x) is = tt
  approach_got carried level key (way.Latched x) is = inr is.goes.0.may
  approach_got carried level key (way.Leaving x None) is = tt
  approach_got carried level key (way.Leaving x (Some y)) is = tt

  edit_got : (aim : Aim) (got : ℕ → Page) (c : Edit) → IsSure w p (know_edit aim got c) → IsGot w p (edit_next c)
  edit_got aim got (edit.Putting x page) is = tt
  edit_got aim got (edit.Taking full) is = tt
  edit_got aim got (edit.PuttingNew t) is = tt
  edit_got aim got (edit.PuttingOld t) is = tt
  edit_got aim got (edit.OpeningNew x y s) is = tt
  edit_got aim got (edit.Opening x o) is = tt

  growth_got : (carried : Carried) → (level key : ℕ) (got : ℕ → Page) (a : Growth) → IsSure w p (know_growth carried level key got a) → IsGot w p (growth_next a)
  growth_got carried level key got growth.Latching is = tt
  growth_got carried level key got growth.Latched is = inl refl
  growth_got carried level key got (growth.Taking r) is = tt
  growth_got carried level key got (growth.PuttingTop r) is = tt
  growth_got carried level key got (growth.PuttingAnchor r) is = tt
  growth_got carried level key got (growth.OpeningTop x) is = tt
  growth_got carried level key got growth.OpeningGrown is = tt
  growth_got carried level key got growth.OpeningRefused is = tt

  descent_got : (key : ℕ) (d : Descent) → IsSure w p (know_descent key d) → IsGot w p (descent_next d)
  descent_got key descent.AtAnchor is = inl refl
  descent_got key (descent.At x) is = inr is.goes.0.may

  find_got : (key : ℕ) (a : FindStage) → IsSure w p (know_find key a) → IsGot w p (find_next_in a)
  find_got key find.New is = tt
  find_got key (find.Near x) is = tt
  find_got key (find.Probing x) is = tt
  find_got key (find.Descending d) is = descent_got key d is
  find_got key (find.Ending v) is = tt
  find_got key (find.Over v) is = tt

  part_got : (from : PartStart) (a : PartStage) → IsSure w p (know_part from a) → IsGot w p (part_next_in a)
  part_got from part.New is = tt
  part_got from (part.Near x) is = tt
  part_got from (part.Probing x) is = tt
  part_got from (part.Descending d) is = descent_got from.key d is
  part_got from (part.Ending r) is = tt
  part_got from (part.Over r) is = tt

  write_got : (goes : List Goes) → (key : ℕ) (does : KeyWrite) (got : ℕ → Page) (a : WriteStage) → IsSure w p (know_write goes key does got a) → IsGot w p (write_next_in a)
  write_got goes key does got write.New is = tt
  write_got goes key does got (write.Coming a) is = approach_got (unsaid goes) 0 key a is
  write_got goes key does got (write.Keeping x there) is = tt
  write_got goes key does got (write.Editing noted c) is = edit_got _ got c is
  write_got goes key does got (write.Ending r) is = tt
  write_got goes key does got (write.Over r) is = tt

  post_got : (carried : Carried) → (level key : ℕ) (got : ℕ → Page) (child : ℕ) (a : PostStage) → IsSure w p (know_post carried level key got child a) → IsGot w p (post_next_in a)
  post_got carried level key got child post.New is = tt
  post_got carried level key got child (post.Coming a) is = approach_got carried level key a is
  post_got carried level key got child (post.Growing h) is = growth_got carried level key got h is
  post_got carried level key got child (post.Walking v) is = inr is.goes.0.may
  post_got carried level key got child (post.Editing c) is = edit_got _ got c is
  post_got carried level key got child (post.Staying x r) is = tt
  post_got carried level key got child (post.Ending r) is = tt
  post_got carried level key got child (post.Over r) is = tt

  put_got : (u : Puts) (sd : Side) → IsGot w p (put_of sd u)
  put_got u side.Left = tt
  put_got u side.Right = tt

  compression_gets : (level key : ℕ) (got : ℕ → Page) (c : Compression) → IsSure w p (know_compression level key got c) → IsGot w p (compression_next c)
  compression_gets level key got (LatchingLeft f) is = tt
  compression_gets level key got (LatchedLeft f) is = inr is.goes.0.may
  compression_gets level key got (LatchingRight f c) is = tt
  compression_gets level key got (LatchedRight f c) is = inr is.goes.0.may
  compression_gets level key got (PuttingFirst u) is = put_got u u.gains
  compression_gets level key got (PuttingParent u) is = tt
  compression_gets level key got (PuttingLast u) is = put_got u (other u.gains)
  compression_gets level key got (Retiring t f) is = tt
  compression_gets level key got (OpeningRight t f) is = tt
  compression_gets level key got (OpeningLeft t f) is = tt
  compression_gets level key got (OpeningParent x f) is = tt

  compress_got : (level key : ℕ) (got : ℕ → Page) (a : CompressStage) → IsSure w p (know_compress level key got a) → IsGot w p (compress_next_in a)
  compress_got level key got compress.New is = tt
  compress_got level key got (compress.Coming a) is = approach_got alone level key a is
  compress_got level key got (compress.Compressing c) is = compression_gets level key got c is
  compress_got level key got (compress.Staying x) is = tt
  compress_got level key got (compress.Ending r) is = tt
  compress_got level key got (compress.Over r) is = tt

  reclaim_got : (page time : ℕ) (a : ReclaimStage) → IsSure w p (know_reclaim time a) → IsGot w p (reclaim_next_in page a)
  reclaim_got page time reclaim.Seeing is = tt
  reclaim_got page time (reclaim.Looking r) is = tt
  reclaim_got page time reclaim.Releasing is = tt
  reclaim_got page time (reclaim.Over what) is = tt

  -- a page that it holds may be got
  held_may : (x : ℕ) → IsStage Stage.Busy (w.now.phase p) → IsHeld w p (holds_live x) → MayGet w p x
  unfolding was_in
  held_may x busy h = record { since = busy.0; runs = busy.1; was = ap was_in h.status; kept = λ time e. (let o = sym h.owner ∙ e in cc) }

  lowering_gets : (got : ℕ → Page) (l : Lowering) → IsSure w p (know_lowering got l) → IsGot w p (lowering_next l)
  lowering_gets got lowering.Looking is = inl refl
  lowering_gets got lowering.LatchingAnchor is = tt
  lowering_gets got lowering.LatchedAnchor is = inl refl
  lowering_gets got (lowering.LatchingTop t) is = tt
  lowering_gets got (lowering.LatchedTop t) is = inr (held_may t.top is.stage is.holds.1.0)
  lowering_gets got (lowering.PuttingAnchor s) is = tt
  lowering_gets got (lowering.PuttingDead s) is = tt
  lowering_gets got (lowering.Retiring x) is = tt
  lowering_gets got (lowering.OpeningTop x what) is = tt
  lowering_gets got (lowering.OpeningAnchor what) is = tt

  lower_gets : (got : ℕ → Page) (a : LowerStage) → IsSure w p (know_lower got a) → IsGot w p (lower_next_in a)
  lower_gets got lower.New is = tt
  lower_gets got (lower.Sinking l) is = lowering_gets got l is
  lower_gets got (lower.Ending r) is = tt
  lower_gets got (lower.Over r) is = tt

  climb_got : (key : ℕ) (placing : Placing) (path : Path) (got : ℕ → Page) (child : ℕ) (a : ClimbStage) → IsSure w p (know_climb key placing path got child a) → IsGot w p (climb_next_in a)
  climb_got key placing path got child (climb.Writing v) is = write_got (path_goes path) key (write_of placing) got v.stage is
  climb_got key placing path got child (climb.Posting q) is = post_got (inserted key placing path) q.level q.key got child q.stage is
  climb_got key placing path got child (climb.Ending r) is = tt
  climb_got key placing path got child (climb.Over r) is = tt

  of_got : (got : ℕ → Page) (child time : ℕ) (state : Proc) → IsSure w p (know_of got child time state) → IsGot w p (next_of state)
  of_got got child time (Find a) is = find_got a.key a.stage is
  of_got got child time (Write a) is = write_got [] a.key a.write got a.stage is
  of_got got child time (Post a) is = post_got alone a.level a.key got child a.stage is
  of_got got child time (Part a) is = part_got a.from a.stage is
  of_got got child time (Compress a) is = compress_got a.level a.key got a.stage is
  of_got got child time (Reclaim a) is = reclaim_got a.page time a.stage is
  of_got got child time (Lower a) is = lower_gets got a.stage is
  of_got got child time (InsertPost a) is = climb_got a.key a.placing a.path got child a.stage is

pub got_next_is : (w : World Run) (p : Name) → IsGood know w → IsGot w p (next_of (w.proc p).state)
got_next_is w p g = of_got w p (w.proc p).got (w.proc p).child (w.proc p).time (w.proc p).state (g.sure p)
