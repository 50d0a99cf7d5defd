-- The limits of the command line's options.
use Rattle.std.specs.Prelude.{◌≤◌, ◌^◌}
use Rattle.bl_serve_lines.specs.Options.{AreWithin}
use Rattle.bl_cli_options.specs.declared.command.Loading.{Loading}
use Rattle.bl_cli_options.specs.declared.command.Invocation.{Invocation}
use Rattle.bl_cli_options.specs.declared.command.Invocation.TheVariants.{Serve, Dump, Load, Rows, Check, Draw, Replay, Log, Nothing}

-- 4 to 2^28 pages, and 1 to 14 pairs a page
abbrev pub IsImageOf : Loading → Type 0
IsImageOf loading = (4 ≤ loading.pages) × (loading.pages ≤ 2 ^ 28) × (1 ≤ loading.fill) × (loading.fill ≤ 14)

-- what is asked for, with its options within their limits
abbrev pub IsWithinLimits : Invocation → Type 0
IsWithinLimits (Serve server) = AreWithin server.options
IsWithinLimits (Dump server file) = AreWithin server.options
IsWithinLimits (Load loading file) = IsImageOf loading
IsWithinLimits (Rows file) = Unit {0}
IsWithinLimits (Check file) = Unit {0}
IsWithinLimits (Draw file svg) = Unit {0}
IsWithinLimits (Replay file with_pages) = Unit {0}
IsWithinLimits (Log action folder) = Unit {0}
IsWithinLimits Nothing = Unit {0}
