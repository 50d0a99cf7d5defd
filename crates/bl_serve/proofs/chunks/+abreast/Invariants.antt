use Rattle.std.proofs.Common.{length}
use Rattle.bl_serve.proofs.chunks.+abreast.Given as goal

abbrev pub decreases-join_mut+arg3 : goal.decreases-join_mut+arg3
decreases-join_mut+arg3 g l = length l.handles.now.items

abbrev pub decreases-work_abreast : goal.decreases-work_abreast
decreases-work_abreast g l = length l.handles.now.items
