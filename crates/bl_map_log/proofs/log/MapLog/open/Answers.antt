use Rattle.std.proofs.Common.{ℕ, List, sym, subst}
use Rattle.bl_model.specs.Map.{SameMap}
use Rattle.bl_model.specs.Rows.{map_of}
use Rattle.bl_journal.specs.Logs.{IsLogOf}
use Rattle.bl_map_log.proofs.Opened.{begins_so}
use Rattle.bl_map_log.proofs.log.MapLog.open.Goals as goal

pub returns-in-Ok-load-clause-keeps : goal.returns-in-Ok-load-clause-keeps
returns-in-Ok-load-clause-keeps g c = λ modelled m log. (
  c.over-journal.ensures.keeps (c.read.ensures.same modelled) (c.in-Ok.ensures.durable modelled) m (subst (λ (z : List ℕ). IsLogOf z m) (sym (c.read.ensures.seen modelled)) log),
  begins_so m c.as_slice.result.now c.args.pages c.args.fill c.args.seats c.in-Ok-load.map c.in-Ok-load.seats.items
      (subst (λ (z : List (ℕ × ℕ)). SameMap m (map_of z)) (sym c.as_slice.ensures.value) (c.rows_are_map.ensures c.in-Ok.rows.items m c.in-Ok.ensures.rises (c.in-Ok.ensures.left modelled m log)))
      c.in-Ok-load.ensures.ok,
)
