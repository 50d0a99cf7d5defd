use Rattle.std.proofs.Common.{refl, subst, sym}
use Rattle.bl_proc_writes.specs.Writes.{WriteGoes}
use Rattle.bl_proc_writes.proofs.Arrivals.{write_arrives}
use Rattle.bl_proc_writes.proofs.writing.Write.came.Goals as goal

pub returns-in-Here : goal.returns-in-Here
returns-in-Here c =
    let p = c.args.self.now in
    let new = c.arrived-self.result in
    (refl, refl, subst (λ stage. WriteGoes p.key p.write stage c.args.seen new) (sym c.requires.stage) (write_arrives p.key p.write c.args.approach c.args.seen c.in-Here.at c.in-Here.page new c.in-Here.ensures c.arrived-self.ensures))
