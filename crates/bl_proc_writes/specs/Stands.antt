-- Where a write that posts stands: its write is of its key, and neither its write nor its post is to end. (Where one is, it is
-- further already.) No page is noted before it begins.
use Rattle.std.specs.Prelude.{◌≡◌, ℕ}
use Rattle.std.proofs.Props.{props}
use Rattle.bl_proc_writes.specs.declared.paths.Path.{Path}
use Rattle.bl_proc_writes.specs.Paths.{IsBlank}
use Rattle.bl_proc_writes.specs.Placings.{write_of}
use Rattle.bl_proc_writes.specs.declared.insert_post.Placing.{Placing}
use Rattle.bl_proc_writes.specs.declared.post.PostStage.{PostStage}
use Rattle.bl_proc_writes.specs.declared.post.PostStage.TheVariants as post
use Rattle.bl_proc_writes.specs.declared.writing.Write.{Write}
use Rattle.bl_proc_writes.specs.declared.writing.WriteStage.{WriteStage}
use Rattle.bl_proc_writes.specs.declared.writing.WriteStage.TheVariants as write
use Rattle.bl_proc_writes.specs.declared.insert_post.ClimbStage.{ClimbStage}
use Rattle.bl_proc_writes.specs.declared.insert_post.ClimbStage.TheVariants.{Writing, Posting, Ending, Over}

abbrev pub IsWriting : WriteStage → Type 0
IsWriting write.New = Unit {0}
IsWriting (write.Coming a) = Unit {0}
IsWriting (write.Keeping x there) = Unit {0}
IsWriting (write.Editing noted c) = Unit {0}
IsWriting (write.Ending r) = ⊥
IsWriting (write.Over r) = ⊥

abbrev pub IsPosting : PostStage → Type 0
IsPosting post.New = ⊥
IsPosting (post.Coming a) = Unit {0}
IsPosting (post.Growing g) = Unit {0}
IsPosting (post.Walking w) = Unit {0}
IsPosting (post.Editing c) = Unit {0}
IsPosting (post.Staying x r) = Unit {0}
IsPosting (post.Ending r) = ⊥
IsPosting (post.Over r) = ⊥

-- it has not ended
abbrev pub IsClimbing : ClimbStage → Type 0
IsClimbing (Writing w) = IsWriting w.stage
IsClimbing (Posting p) = IsPosting p.stage
IsClimbing (Ending r) = Unit {0}
IsClimbing (Over r) = ⊥

abbrev pub BeginsBlank : Path → WriteStage → Type 0
BeginsBlank path write.New = IsBlank path
BeginsBlank path (write.Coming a) = Unit {0}
BeginsBlank path (write.Keeping x there) = Unit {0}
BeginsBlank path (write.Editing noted c) = Unit {0}
BeginsBlank path (write.Ending r) = Unit {0}
BeginsBlank path (write.Over r) = Unit {0}

abbrev pub Stands : ℕ → Placing → Path → ClimbStage → Type 0
Stands key placing path (Writing w) = (w.key ≡ key) × (w.write ≡ write_of placing) × IsWriting w.stage × BeginsBlank path w.stage
Stands key placing path (Posting p) = IsPosting p.stage
Stands key placing path (Ending r) = Unit {0}
Stands key placing path (Over r) = Unit {0}

is_writing-prop : (stage : WriteStage) → IsProp (IsWriting stage)
is_writing-prop write.New = hlevel props
is_writing-prop (write.Coming a) = hlevel props
is_writing-prop (write.Keeping x there) = hlevel props
is_writing-prop (write.Editing noted c) = hlevel props
is_writing-prop (write.Ending r) = hlevel props
is_writing-prop (write.Over r) = hlevel props

is_posting-prop : (stage : PostStage) → IsProp (IsPosting stage)
is_posting-prop post.New = hlevel props
is_posting-prop (post.Coming a) = hlevel props
is_posting-prop (post.Growing g) = hlevel props
is_posting-prop (post.Walking w) = hlevel props
is_posting-prop (post.Editing c) = hlevel props
is_posting-prop (post.Staying x r) = hlevel props
is_posting-prop (post.Ending r) = hlevel props
is_posting-prop (post.Over r) = hlevel props

begins_blank-prop : (path : Path) (stage : WriteStage) → IsProp (BeginsBlank path stage)
begins_blank-prop path write.New = hlevel props
begins_blank-prop path (write.Coming a) = hlevel props
begins_blank-prop path (write.Keeping x there) = hlevel props
begins_blank-prop path (write.Editing noted c) = hlevel props
begins_blank-prop path (write.Ending r) = hlevel props
begins_blank-prop path (write.Over r) = hlevel props

writes-prop : (key : ℕ) (placing : Placing) (path : Path) (w : Write) → IsProp ((w.key ≡ key) × (w.write ≡ write_of placing) × IsWriting w.stage × BeginsBlank path w.stage)
writes-prop key placing path w = hlevel (is_writing-prop w.stage, begins_blank-prop path w.stage, props)

-- such a fact has one proof at most
pub Stands-prop : (key : ℕ) (placing : Placing) (path : Path) (stage : ClimbStage) → IsProp (Stands key placing path stage)
Stands-prop key placing path (Writing w) = writes-prop key placing path w
Stands-prop key placing path (Posting p) = is_posting-prop p.stage
Stands-prop key placing path (Ending r) = hlevel props
Stands-prop key placing path (Over r) = hlevel props
