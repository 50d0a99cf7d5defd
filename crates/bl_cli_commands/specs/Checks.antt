-- What the command `check` says of the bytes that it read, and why it ends early.
use Rattle.std.specs.Prelude.{◌≡◌, ◌⊎◌, ℕ, Bool, true, false, List, ◌++◌, length, codes, decimal, Option, IfSome}
use Rattle.std.specs.Io.KnownBytes.{Consumes, IsAtEnd, Keeps}
use Rattle.bl_page.specs.declared.page.Page.{Page}
use Rattle.bl_image.specs.Images.{IsImage}
use Rattle.bl_model.specs.Stream.{StartsOut}
use Rattle.bl_check.specs.declared.report.Report.{Report}
use Rattle.bl_check.specs.Faults.{Breaks}
use Rattle.bl_check.specs.Reports.{IsReport}
use Rattle.bl_check.specs.Rules.{AreSound}
use Rattle.bl_cli_commands.specs.declared.fault.CommandFault.{CommandFault}
use Rattle.bl_cli_commands.specs.declared.fault.CommandFault.TheVariants.{Read, Write, Memory, Script, Unsound, Lost}

-- the line of a sound image
abbrev pub report_text : Report → List ℕ
report_text r = (codes "ok rows " ++ (decimal r.rows ++ (codes " leaves " ++ (decimal r.leaves ++ (codes " inners " ++ decimal r.inners)))))
    ++ (codes " levels " ++ (decimal r.levels ++ (codes " unposted " ++ (decimal r.unposted ++ (codes " thin " ++ (decimal r.thin ++ codes "\n"))))))

-- the line of a broken rule
abbrev pub fault_text : ℕ → ℕ → List ℕ
fault_text rule page = codes "fault C" ++ (decimal rule ++ (codes " page " ++ (decimal page ++ codes "\n")))

-- The line tells whether the bytes are a sound image: it has the image's numbers, or the first rule that is broken.
abbrev pub IsVerdict : Bool → List ℕ → List ℕ → Type 0
IsVerdict true bytes line = (report : Report) × (pages : List (Option Page)) × IsImage pages bytes × AreSound pages × IsReport report pages × (line ≡ report_text report)
IsVerdict false bytes line = (rule : ℕ) × (page : ℕ) × Breaks bytes rule page × (line ≡ fault_text rule page)

-- a reader was read to its end, and gave these bytes
abbrev pub ReadsAll : Option (List ℕ) → Option (List ℕ) → List ℕ → Type 0
ReadsAll old new bytes = Consumes old new bytes × IsAtEnd new

-- the bytes have the number that was told, if one was
abbrev pub HasLength : Option ℕ → List ℕ → Type 0
HasLength observed bytes = IfSome observed (λ count. count ≡ length bytes)

-- Why bytes cannot be read whole: the reader has failed, or it gave another number of bytes than was told.
abbrev pub CannotRead : Option ℕ → Option (List ℕ) → Option (List ℕ) → Type 0 → Type 0
CannotRead observed old new failed = failed ⊎ ((bytes : List ℕ) × ReadsAll old new bytes × ¬ HasLength observed bytes)

-- A failed read comes only from what cannot be read, and a failed write only from a writer that has failed.
abbrev pub ComesFrom : CommandFault → Type 0 → Type 0 → Type 0
ComesFrom Read cannot_read writer_failed = cannot_read
ComesFrom Write cannot_read writer_failed = writer_failed
ComesFrom Memory cannot_read writer_failed = Unit {0}
-- a check reads no script, gives no image, and serves nothing
ComesFrom (Script line) cannot_read writer_failed = ⊥
ComesFrom (Unsound rule page) cannot_read writer_failed = ⊥
ComesFrom (Lost number) cannot_read writer_failed = ⊥

-- No image was loaded: what the reader gives cannot be read whole; or its bytes break this rule at this page, as a check says.
abbrev pub CannotLoad : CommandFault → Option ℕ → Option (List ℕ) → Option (List ℕ) → Type 0 → Type 0
CannotLoad Read length old new reader_failed = CannotRead length old new reader_failed
CannotLoad (Unsound rule page) length old new reader_failed = (bytes : List ℕ) × ReadsAll old new bytes × HasLength length bytes × Breaks bytes rule page
CannotLoad Memory length old new reader_failed = Unit {0}
-- loading writes nothing, reads no script and serves nothing
CannotLoad Write length old new reader_failed = ⊥
CannotLoad (Script line) length old new reader_failed = ⊥
CannotLoad (Lost number) length old new reader_failed = ⊥

-- Nothing was written but, where the writer failed, a beginning of the line.
abbrev pub Leaves : CommandFault → Option (List ℕ) → Option (List ℕ) → List ℕ → Type 0
Leaves Read old new line = Keeps old new
Leaves Write old new line = StartsOut old new line
Leaves Memory old new line = Keeps old new
Leaves (Script number) old new line = ⊥
Leaves (Unsound rule page) old new line = ⊥
Leaves (Lost number) old new line = ⊥
