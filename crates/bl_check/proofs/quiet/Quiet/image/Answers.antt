use Rattle.bl_check.proofs.Rising.{settled}
use Rattle.bl_check.proofs.quiet.Quiet.image.Goals as goal

pub returns-clause-sound : goal.returns-clause-sound
returns-clause-sound c = settled c.args.self.now.image.pages.items c.args.self.now.sound
