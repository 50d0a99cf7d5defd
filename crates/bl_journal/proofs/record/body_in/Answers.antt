use Rattle.std.proofs.Common.{arith}
use Rattle.bl_journal.proofs.Told.{reads}
use Rattle.bl_journal.proofs.record.body_in.Goals as goal

pub returns : goal.returns
returns c =
    let e = c.if-from-complement_of.false in
    let k = c.complement_of.ensures in
    let f = c.from.ensures in
    let f2 = c.from-2.ensures in
    reads c.args.salt c.args.words.now (omega arith) (omega arith) (omega arith) (omega arith) (omega arith)
