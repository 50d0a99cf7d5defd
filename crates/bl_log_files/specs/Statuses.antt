-- How the program ends where a command on a log has failed.
use Rattle.std.specs.Prelude.{ℕ}
use Rattle.bl_row_lines.specs.declared.reading.RowsFault.TheVariants as rows
use Rattle.bl_log_files.specs.declared.fault.LogError.{LogError}
use Rattle.bl_log_files.specs.declared.fault.LogError.TheVariants.{Memory, Write, Rows, Log}

-- 4 where memory was refused, and 3 else
abbrev pub status_of : LogError → ℕ
status_of Memory = 4
status_of Write = 3
status_of (Rows rows.Memory) = 4
status_of (Rows other) = 3
status_of (Log why) = 3
