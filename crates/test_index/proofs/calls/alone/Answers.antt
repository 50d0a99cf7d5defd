use Rattle.bl_index.proofs.Taken.{last_pass}
use Rattle.test_index.proofs.calls.alone.Goals as goal

pub returns-in_ok-pass-in-Ok : goal.returns-in_ok-pass-in-Ok
returns-in_ok-pass-in-Ok c = last_pass _ c.in-Ok.index _ _ c.in_ok-pass-in-Ok.pass c.in-Ok.ensures.ok c.in_ok-pass-in-Ok.ensures.items
