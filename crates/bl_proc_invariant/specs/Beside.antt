-- What the hint beside a reply means, by the kind of process.
use Rattle.std.specs.Prelude.{◌≡◌, Option, None, []}
use Rattle.bl_model.specs.declared.operation.Reply.{Reply}
use Rattle.bl_claims.specs.Trails.{Trail}
use Rattle.bl_answers.specs.declared.answers.Hint.{Hint}
use Rattle.bl_proc.specs.declared.kinds.Proc.{Proc}
use Rattle.bl_proc.specs.declared.kinds.Proc.TheVariants as proc
use Rattle.bl_claims.specs.Meanings.{writes_of}
use Rattle.bl_claims.specs.Hinted.{MeansWritten}

-- Beside a reply of any kind of process. Searches and parts give no hint, and have written nothing.
abbrev pub MeansBeside : Proc → Reply → Option Hint → Trail → Type 0
MeansBeside (proc.Find p) reply hint marks = (writes_of marks ≡ []) × (hint ≡ None)
MeansBeside (proc.Write p) reply hint marks = MeansWritten reply hint marks
MeansBeside (proc.Post p) reply hint marks = Unit {0}
MeansBeside (proc.Part p) reply hint marks = (writes_of marks ≡ []) × (hint ≡ None)
MeansBeside (proc.Compress p) reply hint marks = Unit {0}
MeansBeside (proc.Reclaim p) reply hint marks = Unit {0}
MeansBeside (proc.Lower p) reply hint marks = Unit {0}
MeansBeside (proc.InsertPost p) reply hint marks = Unit {0}
