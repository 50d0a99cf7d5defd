-- How a command ends: what its fault is, and the exit status for it.
use Rattle.std.specs.Prelude.{◌≡◌, ◌≢◌, ℕ}
use Rattle.std.specs.IoError.{error_kind}
use Rattle.std.specs.declared.io.Error.{Error}
use Rattle.std.specs.declared.io.ErrorKind.TheVariants.{OutOfMemory}
use Rattle.bl_serve_lines.specs.declared.serving.ServeFault.{ServeFault}
use Rattle.bl_serve_lines.specs.declared.serving.ServeFault.TheVariants as serving
use Rattle.bl_replay_script.specs.declared.reading.ScriptFault.{ScriptFault}
use Rattle.bl_replay_script.specs.declared.reading.ScriptFault.TheVariants as script
use Rattle.bl_replay.specs.declared.fault.ReplayFault.{ReplayFault}
use Rattle.bl_replay.specs.declared.fault.ReplayFault.TheVariants as replaying
use Rattle.bl_row_lines.specs.declared.writing.PrintFault.{PrintFault}
use Rattle.bl_row_lines.specs.declared.writing.PrintFault.TheVariants as printing
use Rattle.bl_cli_commands.specs.declared.fault.CommandFault.{CommandFault}
use Rattle.bl_cli_commands.specs.declared.fault.CommandFault.TheVariants as command

-- 1 where an image was not sound, 3 where reading or writing failed or a script was bad, 4 where there was no memory, 5 where a
-- request was lost
abbrev pub status_of : CommandFault → ℕ
status_of command.Read = 3
status_of command.Write = 3
status_of command.Memory = 4
status_of (command.Script line) = 3
status_of (command.Unsound rule page) = 1
status_of (command.Lost number) = 5

-- a command fails as its serving did
abbrev pub fault_of : ServeFault → CommandFault
fault_of serving.Read = command.Read
fault_of serving.Write = command.Write
fault_of serving.Memory = command.Memory
fault_of (serving.Lost number) = command.Lost number

-- a command fails as its script or the carrying out of it did
abbrev pub fault_of_script : ScriptFault → CommandFault
fault_of_script (script.Line line) = command.Script line
fault_of_script script.Read = command.Read
fault_of_script script.Memory = command.Memory

abbrev pub fault_of_replay : ReplayFault → CommandFault
fault_of_replay replaying.Write = command.Write
fault_of_replay replaying.Memory = command.Memory

abbrev pub fault_of_print : PrintFault → CommandFault
fault_of_print printing.Write = command.Write
fault_of_print printing.Memory = command.Memory

-- an error of the system is want of memory where it says so, and else a failed read
abbrev pub IsFaultOf : Error → CommandFault → Type 0
IsFaultOf error fault = (error_kind error ≡ OutOfMemory → fault ≡ command.Memory) × (error_kind error ≢ OutOfMemory → fault ≡ command.Read)
