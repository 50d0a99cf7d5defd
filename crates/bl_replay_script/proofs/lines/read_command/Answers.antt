use Rattle.bl_replay_script.proofs.Endings.{no_command}
use Rattle.bl_replay_script.specs.Scripts.BeginsBadly.{NoLine}
use Rattle.bl_replay_script.proofs.lines.read_command.Goals as goal

pub returns-in-None : goal.returns-in-None
returns-in-None g c = let e = rw c.in-Ok-Line.field-0-is at c.in-Ok-Line.ensures in
    (e.0, e.1, no_command _ _ _ _ _ _ _ _ e.2.0 e.2.1 c.as_slice.ensures.value c.in-None.ensures)

pub returns-in-Ok-NoLine : goal.returns-in-Ok-NoLine
returns-in-Ok-NoLine g c = let e = rw c.in-Ok-NoLine.field-0-is at c.in-Ok-NoLine.ensures in (e.0, e.1, (NoLine e.2.0, e.2.1))
