-- The exit status of a dump that failed.
use Rattle.std.specs.Prelude.{ℕ}
use Rattle.bl_cli_streams.specs.declared.dump.DumpFault.{DumpFault}
use Rattle.bl_cli_streams.specs.declared.dump.DumpFault.TheVariants as dump

-- 4 where there was no memory, 3 where the image did not come to stand in its file, or may not stay there
abbrev pub status_of_dump : DumpFault → ℕ
status_of_dump dump.Memory = 4
status_of_dump (dump.Refuse path) = 3
status_of_dump (dump.Make path) = 3
status_of_dump (dump.Fill path) = 3
status_of_dump (dump.Rename path) = 3
status_of_dump (dump.Sync path) = 3
