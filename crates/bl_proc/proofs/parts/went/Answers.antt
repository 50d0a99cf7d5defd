use Rattle.bl_proc_steps.proofs.Descents.{here_leads}
use Rattle.bl_proc.proofs.parts.went.Goals as goal

pub part_of-requires : goal.part_of-requires
part_of-requires c = here_leads _ _ _ c.in-Here.ensures
