use Rattle.std.proofs.Common.{refl}
use Rattle.bl_map_log.specs.declared.handle.NotingHandle.{NotingHandle}
use Rattle.bl_map_log.proofs.Seen.{meets}
use Rattle.bl_map_log.proofs.meeting.meet.Goals as goal

pub returns : goal.returns
returns c =
    let e = c.meet.ensures in
    let one : NotingHandle = record { handle = c.meet.new.self; changes = c.args.one.now.changes } in
    let two : NotingHandle = record { handle = c.meet.new.other; changes = c.args.two.now.changes } in
    let r = meets c.args.one.now c.args.two.now one two c.requires e.same.0 e.same.1 e.met e.keeps.0 e.keeps.1 (record { came = refl; went = refl }) (record { came = refl; went = refl }) in record {
      one = r.0;
      two = r.1;
      same = e.met.same;
    }
