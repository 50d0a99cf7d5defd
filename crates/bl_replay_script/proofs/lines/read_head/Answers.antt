use Rattle.bl_model.specs.declared.stream.Failed.{Failed}
use Rattle.bl_replay_script.proofs.Endings.{head_given}
use Rattle.bl_replay_script.specs.Scripts.BeginsBadly.{NoLine}
use Rattle.bl_replay_script.proofs.lines.read_head.Goals as goal

pub returns-in-Ok-Line : goal.returns-in-Ok-Line
returns-in-Ok-Line g c = let e = rw c.in-Ok-Line.field-0-is at c.in-Ok-Line.ensures in
    (e.0, e.1, head_given Failed _ _ _ _ _ _ c.head_of.result e.2.0 e.2.1 c.as_slice.ensures.value c.head_of.ensures)

pub returns-in-Ok-NoLine : goal.returns-in-Ok-NoLine
returns-in-Ok-NoLine g c = let e = rw c.in-Ok-NoLine.field-0-is at c.in-Ok-NoLine.ensures in (e.0, e.1, NoLine e.2.0)
