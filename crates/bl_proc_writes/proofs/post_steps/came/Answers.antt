use Rattle.std.proofs.Common.{refl}
use Rattle.bl_page.specs.declared.page.Page.TheVariants.{Inner}
use Rattle.bl_proc_steps.specs.declared.approach.Came.TheVariants.{NoLevel, On, ToParent}
use Rattle.bl_proc_steps.proofs.Ways.{here_leads}
use Rattle.bl_proc_writes.proofs.post_steps.came.Goals as goal

pub arrived-requires : goal.arrived-requires
arrived-requires c = (here_leads c.args.level c.args.key c.args.approach c.args.seen c.in-ToParent.at (Inner c.in-ToParent.parent) c.in-ToParent.ensures).1

pub returns-in-NoLevel : goal.returns-in-NoLevel
returns-in-NoLevel c = (NoLevel c.in-NoLevel.levels, c.in-NoLevel.ensures, c.lacked.ensures)

pub returns-in-On : goal.returns-in-On
returns-in-On c = (On c.in-On.approach, c.in-On.ensures, refl)

pub returns-in-ToParent : goal.returns-in-ToParent
returns-in-ToParent c = (ToParent c.in-ToParent.at c.in-ToParent.parent, c.in-ToParent.ensures, c.arrived.ensures)
