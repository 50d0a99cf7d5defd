use Rattle.bl_image.proofs.Wholes.{image_is, within_is}
use Rattle.bl_image.proofs.reading.pages_in.Goals as goal

pub returns-in-Ok-clause-ok : goal.returns-in-Ok-clause-ok
returns-in-Ok-clause-ok c = image_is _ c.in-Ok.pages.items c.args.bytes.now c.args.head.count c.args.head.stored c.requires c.in_ok-stored.ensures.ok c.in-Ok.ensures

pub returns-in-Ok-clause-within : goal.returns-in-Ok-clause-within
returns-in-Ok-clause-within c = within_is _ c.in-Ok.pages.items c.args.bytes.now c.args.head.count c.args.head.stored c.requires c.in_ok-stored.ensures.ok c.in-Ok.ensures
