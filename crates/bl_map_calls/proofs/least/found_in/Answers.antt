use Rattle.std.proofs.Common.{◌∙◌, sym, ap}
use Rattle.bl_model.specs.Parts.{rows_of}
use Rattle.bl_map_calls.proofs.least.found_in.Goals as goal

pub returns-in-Some : goal.returns-in-Some
returns-in-Some c = (c.in-Some.field-0-1.now, ap rows_of c.in-Rows.is ∙ (sym c.deref.ensures.0 ∙ c.in-Some.ensures.cases.0))
