use Rattle.std.proofs.Common.{◌≡◌, rules}
use Rattle.bl_outside.specs.declared.tape.Scene.{Scene}
use Rattle.bl_outside.proofs.tape.remember.Goals as goal

pub returns-clause-ok : goal.returns-clause-ok
returns-clause-ok c =
    let scene : Scene = record { printed = c.in_ok-to_vec.field-0; log = c.in_ok-to_vec-2.field-0 } in
    let printed : c.in_ok-to_vec.field-0.items ≡ c.args.printed.now = search rules in
    let log : c.in_ok-to_vec-2.field-0.items ≡ c.args.log.now = search rules in
    (scene, printed, log, c.in_ok-push.ensures.items)
