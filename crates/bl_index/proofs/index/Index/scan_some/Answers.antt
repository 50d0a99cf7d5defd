use Rattle.std.proofs.Common.{refl, sym, ◌∙◌, arith}
use Rattle.bl_index_read.proofs.Orders.{past, before_so}
use Rattle.bl_index.proofs.SomeByPart.{none_wanted}
use Rattle.bl_index.proofs.index.Index.scan_some.Goals as goal

pub returns-then-not-is_before-clause-scans : goal.returns-then-not-is_before-clause-scans
returns-then-not-is_before-clause-scans c = none_wanted _ _ _ _ c.args.direction c.args.from c.args.to _ _ _ _ _ (past c.args.direction c.args.to c.args.from (sym c.is_before.ensures ∙ c.if-not-is_before.true)) tt

pub some-scanned-requires-clause-before : goal.some-scanned-requires-clause-before
some-scanned-requires-clause-before c = before_so c.args.direction c.args.to c.args.from (sym c.is_before.ensures ∙ c.if-not-is_before.false)

pub returns-then-limits-eq0-clause-scans : goal.returns-then-limits-eq0-clause-scans
returns-then-limits-eq0-clause-scans c = none_wanted _ _ _ _ c.args.direction c.args.from c.args.to _ _ _ _ _ (refl, before_so c.args.direction c.args.to c.args.from (sym c.is_before.ensures ∙ c.if-not-is_before.false)) (omega (arith, c.if-limits-eq0.true))
