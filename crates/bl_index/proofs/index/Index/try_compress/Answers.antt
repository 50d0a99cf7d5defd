use Rattle.std.proofs.Common.{◌∙◌}
use Rattle.bl_index_events.specs.Answered.{WritesNothing}
use Rattle.bl_index.proofs.Taken.{same_pass, of_inside}
use Rattle.bl_index.proofs.Attempts.{compress_told, undone_told}
use Rattle.bl_index.proofs.index.Index.try_compress.Goals as goal

pub returns-clause-compresses : goal.returns-clause-compresses
returns-clause-compresses c =
    let own = of_inside c.self.view_is c.pass.view_is c.requires.own in rw (← c.self.view_is, ← c.pass.view_is) (compress_told _ _ _ _ _ _ _ _ own.2 c.level.ensures.named c.key.ensures c.try_compress.result c.try_compress.ensures.compressed)

pub returns-clause-no_room : goal.returns-clause-no_room
returns-clause-no_room c = c.try_compress.ensures.no_room

pub returns-clause-undone : goal.returns-clause-undone
returns-clause-undone c = let own = of_inside c.self.view_is c.pass.view_is c.requires.own in rw (← c.self.view_is, ← c.pass.view_is) (undone_told WritesNothing _ _ _ _ own.2 c.try_compress.result c.try_compress.ensures.undone)

pub returns-clause-same : goal.returns-clause-same
returns-clause-same c = rw (← c.pass.view_is) (same_pass c.pass.inside.hand c.try_compress.new.hand c.try_compress.ensures.same c.try_compress.ensures.first)

pub invariant_of-pass-inside : goal.invariant_of-pass-inside
invariant_of-pass-inside c = let e = c.try_compress.ensures in (e.rests.idle, (e.empty, (e.rests.within, (e.rests.over, (∣ e.seen ∣₁, tt)))))
