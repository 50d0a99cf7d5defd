use Rattle.bl_serve_lines.proofs.Cuts.{passed_over}
use Rattle.bl_serve_lines.proofs.source.Source.pass_over.Goals as goal

pub returns : goal.returns
returns c = passed_over c.self.inside.bytes.items _ c.self.inside.from c.self.inside.upto c.args.count c.self.invariant.1 c.self.view_is c.requires
