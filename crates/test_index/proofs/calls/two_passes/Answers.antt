use Rattle.bl_index.proofs.Taken.{last_pass, next_pass}
use Rattle.test_index.proofs.calls.two_passes.Goals as goal

pub returns-in_ok-one-in-Ok : goal.returns-in_ok-one-in-Ok
returns-in_ok-one-in-Ok c = (
  next_pass _ c.in-Ok.index _ _ _ c.in_ok-one-in-Ok.one c.in_ok-two-in-Ok.two c.in-Ok.ensures.ok c.in_ok-two-in-Ok.ensures.items c.in_ok-one-in-Ok.ensures.items,
  last_pass _ c.in-Ok.index _ _ c.in_ok-two-in-Ok.two c.in-Ok.ensures.ok c.in_ok-two-in-Ok.ensures.items,
)
