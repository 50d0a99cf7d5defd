use Rattle.std.proofs.Common.{[], refl, sym, ◌∙◌}
use Rattle.bl_index_read.proofs.Orders.{not_past, before_so}
use Rattle.bl_index.proofs.PartByPart.{ends_at_once}
use Rattle.bl_index.proofs.index.Index.scan_with.Goals as goal

pub returns-then-not-is_before-clause-tells : goal.returns-then-not-is_before-clause-tells
returns-then-not-is_before-clause-tells g c = record {
  rows = [];
  taken = refl;
  ended = ends_at_once _ _ _ _ c.args.direction c.args.from c.args.to _ (sym c.is_before.ensures ∙ c.if-not-is_before.true);
  stopped = tt;
}

pub scan-requires-clause-before : goal.scan-requires-clause-before
scan-requires-clause-before g c = before_so c.args.direction c.args.to c.args.from (sym c.is_before.ensures ∙ c.if-not-is_before.false)

pub returns-in-Ok-clause-nothing : goal.returns-in-Ok-clause-nothing
returns-in-Ok-clause-nothing g c = λ over. absurd (not_past c.args.direction c.args.to c.args.from (sym c.is_before.ensures ∙ c.if-not-is_before.false) over)

pub returns-in-Err-OutOfTurns-clause-nothing : goal.returns-in-Err-OutOfTurns-clause-nothing
returns-in-Err-OutOfTurns-clause-nothing g c = λ over. absurd (not_past c.args.direction c.args.to c.args.from (sym c.is_before.ensures ∙ c.if-not-is_before.false) over)
