use Rattle.std.proofs.Common.{[], sym, ◌∙◌, append-nil}
use Rattle.bl_index_read.proofs.Orders.{not_past, before_so}
use Rattle.bl_index.proofs.PartByPart.{ends_at_once}
use Rattle.bl_index.proofs.index.Index.scan_toward.Goals as goal

pub returns-then-not-is_before-clause-scans : goal.returns-then-not-is_before-clause-scans
returns-then-not-is_before-clause-scans c = record {
  rows = [];
  taken = sym (append-nil _);
  ended = ends_at_once _ _ _ _ c.args.direction c.args.from c.args.to _ (sym c.is_before.ensures ∙ c.if-not-is_before.true);
  stopped = tt;
}

pub scan-scanned-requires-clause-before : goal.scan-scanned-requires-clause-before
scan-scanned-requires-clause-before c = before_so c.args.direction c.args.to c.args.from (sym c.is_before.ensures ∙ c.if-not-is_before.false)

pub returns-clause-nothing : goal.returns-clause-nothing
returns-clause-nothing c = λ over. absurd (not_past c.args.direction c.args.to c.args.from (sym c.is_before.ensures ∙ c.if-not-is_before.false) over)
