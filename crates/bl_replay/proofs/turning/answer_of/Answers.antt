use Rattle.std.proofs.Common.{◌≡◌, ◌+◌, ◌-◌, arith}
use Rattle.bl_world.proofs.Arms.{stands}
use Rattle.bl_replay.proofs.turning.answer_of.Goals as goal

pub returns : goal.returns
returns c =
    let n = c.args.number in
    let counts : n ≡ (n - 1) + 1 = omega (arith, c.requires.0) in
    let s = stands c.args.world.now.processes (n - 1) (omega (arith, c.requires.0, c.requires.1)) in
    record { place = n - 1; counts = counts; process = s.0; stood = s.1; answer = c.answer.ensures.started (n - 1) s.0 counts s.1 }
