use Rattle.std.proofs.Common.{◌∙◌}
use Rattle.bl_index_events.specs.Answered.{WritesNothing}
use Rattle.bl_index.proofs.Taken.{same_pass, of_inside}
use Rattle.bl_index.proofs.Attempts.{undone_told, write_alone, write_refused, write_told}
use Rattle.bl_index.specs.contracts.index.Pass as view
use Rattle.bl_index.proofs.index.Index.try_write.Goals as goal

pub returns-clause-writes : goal.returns-clause-writes
returns-clause-writes c =
    let own = of_inside c.self.view_is c.pass.view_is c.requires in rw (← c.self.view_is, ← c.pass.view_is) (write_told _ _ _ _ c.args.key c.args.write own.2 c.try_write.result c.try_write.ensures.wrote)

pub returns-clause-no_room : goal.returns-clause-no_room
returns-clause-no_room c =
    let own = of_inside c.self.view_is c.pass.view_is c.requires in rw (← c.pass.view_is) (
    write_refused _ (view.the_view c.pass.inside) c.try_write.new.hand c.args.key c.args.write own.2 c.try_write.result c.try_write.ensures.wrote c.try_write.ensures.no_room)

pub returns-clause-alone : goal.returns-clause-alone
returns-clause-alone c =
    let own = of_inside c.self.view_is c.pass.view_is c.requires in rw (← c.self.view_is, ← c.pass.view_is) (
    let e = c.try_write.ensures in
    write_alone c.self.inside.tree (view.the_view c.pass.inside) c.try_write.new.hand.seat own e.same e.rests.within c.args.key c.args.write c.try_write.result
    (write_told _ _ _ _ c.args.key c.args.write own.2 c.try_write.result e.wrote))

pub returns-clause-undone : goal.returns-clause-undone
returns-clause-undone c = let own = of_inside c.self.view_is c.pass.view_is c.requires in rw (← c.self.view_is, ← c.pass.view_is) (undone_told WritesNothing _ _ _ _ own.2 c.try_write.result c.try_write.ensures.undone)

pub returns-clause-same : goal.returns-clause-same
returns-clause-same c = rw (← c.pass.view_is) (same_pass c.pass.inside.hand c.try_write.new.hand c.try_write.ensures.same c.try_write.ensures.first)

pub invariant_of-pass-inside : goal.invariant_of-pass-inside
invariant_of-pass-inside c = let e = c.try_write.ensures in (e.rests.idle, (e.empty, (e.rests.within, (e.rests.over, (∣ e.seen ∣₁, tt)))))
