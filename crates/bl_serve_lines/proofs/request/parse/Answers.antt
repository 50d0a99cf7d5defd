use Rattle.bl_serve_lines.proofs.Long.{long_none}
use Rattle.bl_serve_lines.proofs.request.parse.Goals as goal

-- a line with a meaning is short
pub returns-clause-long : goal.returns-clause-long
returns-clause-long c long = long_none _ _ c.spelled.ensures long
