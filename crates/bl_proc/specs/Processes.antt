-- A process of any kind does what its kind does.
use Rattle.std.specs.Prelude.{◌≡◌, ℕ, Option, true}
use Rattle.bl_model.specs.declared.deciding.KeyWrite.{KeyWrite}
use Rattle.bl_proc_steps.specs.declared.acts.Action.{Action}
use Rattle.bl_proc_steps.specs.declared.acts.Seen.{Seen}
use Rattle.bl_answers.specs.declared.answers.Answer.{Answer}
use Rattle.bl_proc.specs.declared.kinds.Proc.{Proc}
use Rattle.bl_proc.specs.declared.kinds.Proc.TheVariants.{Find, Write, Post, Part, Compress, Reclaim, Lower, InsertPost}
use Rattle.bl_proc.specs.declared.searching.FindStage.TheVariants as find
use Rattle.bl_proc_writes.specs.declared.writing.WriteStage.TheVariants as write_stage
use Rattle.bl_proc_writes.specs.declared.post.PostStage.TheVariants as post
use Rattle.bl_proc.specs.declared.parts.PartStage.TheVariants as part
use Rattle.bl_proc.specs.declared.parts.PartStart.{PartStart}
use Rattle.bl_proc.specs.declared.reclaiming.ReclaimStage.TheVariants as reclaim
use Rattle.bl_proc.specs.declared.lowering.LowerStage.TheVariants as lower
use Rattle.bl_proc.specs.Searches.{find_next, find_needs, find_answer, FindTakes}
use Rattle.bl_proc_writes.specs.Writes.{write_next_of, write_needs_of, write_answer_of, WriteTakes}
use Rattle.bl_proc_writes.specs.Posts.{post_next, post_needs, post_answer, PostTakes}
use Rattle.bl_proc_compress.specs.declared.compress.CompressStage.TheVariants as compress
use Rattle.bl_proc_compress.specs.Compresses.{compress_next, compress_needs, compress_answer, CompressTakes}
use Rattle.bl_proc.specs.Parts.{part_next, part_needs, part_answer, PartTakes}
use Rattle.bl_proc.specs.Reclaims.{reclaim_next, reclaim_needs, reclaim_answer, ReclaimTakes}
use Rattle.bl_proc.specs.Lowers.{lower_next, lower_needs, lower_answer, LowerTakes}
use Rattle.bl_proc_writes.specs.declared.insert_post.Placing.{Placing}
use Rattle.bl_proc_writes.specs.Paths.{IsBlank}
use Rattle.bl_proc_writes.specs.InsertPosts.{IsToBegin, climb_next, climb_needs, climb_answer, ClimbTakes}

abbrev pub next_of : Proc → Action
next_of (Find p) = find_next p
next_of (Write p) = write_next_of p
next_of (Post p) = post_next p
next_of (Part p) = part_next p
next_of (Compress p) = compress_next p
next_of (Reclaim p) = reclaim_next p
next_of (Lower p) = lower_next p
next_of (InsertPost p) = climb_next p

-- pages and frames
abbrev pub needs_of : Proc → Option (ℕ × ℕ)
needs_of (Find p) = find_needs p
needs_of (Write p) = write_needs_of p
needs_of (Post p) = post_needs p
needs_of (Part p) = part_needs p
needs_of (Compress p) = compress_needs p
needs_of (Reclaim p) = reclaim_needs p
needs_of (Lower p) = lower_needs p
needs_of (InsertPost p) = climb_needs p

abbrev pub answer_of : Proc → Option Answer
answer_of (Find p) = find_answer p
answer_of (Write p) = write_answer_of p
answer_of (Post p) = post_answer p
answer_of (Part p) = part_answer p
answer_of (Compress p) = compress_answer p
answer_of (Reclaim p) = reclaim_answer p
answer_of (Lower p) = lower_answer p
answer_of (InsertPost p) = climb_answer p

abbrev pub Takes : Proc → Seen → Proc → Type 0
Takes (Find old) what (Find new) = FindTakes old what new
Takes (Write old) what (Write new) = WriteTakes old what new
Takes (Post old) what (Post new) = PostTakes old what new
Takes (Part old) what (Part new) = PartTakes old what new
Takes (Compress old) what (Compress new) = CompressTakes old what new
Takes (Reclaim old) what (Reclaim new) = ReclaimTakes old what new
Takes (Lower old) what (Lower new) = LowerTakes old what new
Takes (InsertPost old) what (InsertPost new) = ClimbTakes old what new
Takes old what new = ⊥

-- Processes that are to begin.

abbrev pub IsFind : ℕ → Proc → Type 0
IsFind key (Find p) = (p.key ≡ key) × (p.stage ≡ find.New)
IsFind key p = ⊥

abbrev pub IsWrite : ℕ → KeyWrite → Proc → Type 0
IsWrite key write (Write p) = (p.key ≡ key) × (p.write ≡ write) × (p.stage ≡ write_stage.New)
IsWrite key write p = ⊥

abbrev pub IsPost : ℕ → ℕ → Proc → Type 0
IsPost level key (Post p) = (p.level ≡ level) × (p.key ≡ key) × (p.stage ≡ post.New)
IsPost level key p = ⊥

abbrev pub IsPart : PartStart → Proc → Type 0
IsPart from (Part p) = (p.from ≡ from) × (p.stage ≡ part.New)
IsPart from p = ⊥

-- It waits for the children.
abbrev pub IsCompress : ℕ → ℕ → Proc → Type 0
IsCompress level key (Compress p) = (p.level ≡ level) × (p.key ≡ key) × (p.waits ≡ true) × (p.stage ≡ compress.New)
IsCompress level key p = ⊥

-- It is to look at the page's owner.
abbrev pub IsReclaim : ℕ → Proc → Type 0
IsReclaim page (Reclaim p) = (p.page ≡ page) × (p.stage ≡ reclaim.Seeing)
IsReclaim page p = ⊥

abbrev pub IsLower : Proc → Type 0
IsLower (Lower p) = p.stage ≡ lower.New
IsLower p = ⊥

-- It has noted no page.
abbrev pub IsInsertPost : ℕ → Placing → Proc → Type 0
IsInsertPost key placing (InsertPost p) = (p.key ≡ key) × (p.placing ≡ placing) × IsBlank p.path × IsToBegin p.stage
IsInsertPost key placing p = ⊥
