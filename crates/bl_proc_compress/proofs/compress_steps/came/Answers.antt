use Rattle.std.proofs.Common.{refl}
use Rattle.bl_page.specs.declared.page.Page.TheVariants.{Inner}
use Rattle.bl_proc_steps.specs.declared.approach.Came.TheVariants.{NoLevel, On, ToParent}
use Rattle.bl_proc_steps.proofs.Ways.{here_leads}
use Rattle.bl_proc_compress.proofs.compress_steps.came.Goals as goal

pub arrived-requires : goal.arrived-requires
arrived-requires c = (here_leads c.args.level c.args.key c.args.approach c.args.seen c.in-ToParent.at (Inner c.in-ToParent.parent) c.in-ToParent.ensures).1

pub returns-in-NoLevel : goal.returns-in-NoLevel
returns-in-NoLevel c = λ waits. (NoLevel c.in-NoLevel.field-0, c.in-NoLevel.ensures, refl)

pub returns-in-On : goal.returns-in-On
returns-in-On c = λ waits. (On c.in-On.approach, c.in-On.ensures, refl)

pub returns-in-ToParent : goal.returns-in-ToParent
returns-in-ToParent c = λ waits. (ToParent c.in-ToParent.at c.in-ToParent.parent, c.in-ToParent.ensures, c.arrived.ensures)
