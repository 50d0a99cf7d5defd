use Rattle.bl_world.proofs.Laying.{laid}
use Rattle.bl_world.proofs.opening.opening.Goals as goal

pub returns : goal.returns
returns c = rw (c.new.ensures.items, c.new-2.ensures.items) (laid c.args.count c.in_ok-pages.pages.items c.in_ok-owners.owners.items c.anchor.result c.requires.least c.in_ok-pages.ensures c.in_ok-owners.ensures c.anchor.ensures)
