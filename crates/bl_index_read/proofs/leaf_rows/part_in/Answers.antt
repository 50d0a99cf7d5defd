use Rattle.std.proofs.Common.{ap, ◌∙◌, sym, subst}
use Rattle.bl_model.specs.Map.{ListsPairs}
use Rattle.bl_proc.specs.declared.parts.Direction.{Direction}
use Rattle.bl_proc.specs.declared.parts.PartRows.{PartRows}
use Rattle.bl_proc.specs.Parts.{IsPartToward}
use Rattle.bl_proc_routes.proofs.Spellings.{tree_lists}
use Rattle.std.proofs.Common.{ℕ, Option, ◌≤◌, reverse}
use Rattle.bl_index_read.proofs.Picked.{listed_rows}
use Rattle.bl_index_read.proofs.leaf_rows.part_in.Goals as goal

pub returns-in-Up-clause-part : goal.returns-in-Up-clause-part
returns-in-Up-clause-part g c = λ page tree e.
    let shown = g.W.Words.shown c.args.source.now in
    let read : PartRows = record { rows = c.rows_in-rows.result; next = c.next_in-next.result } in
    subst (λ (d : Direction). IsPartToward d page c.args.from read) (sym c.in-Up.is) (record {
      rows = listed_rows page (shown c.args.hand.now) c.args.from tree e c.rows_in-rows.result.items c.rows_in-rows.ensures.rows;
      next = c.next_in-next.ensures.next page tree (ap shown c.rows_in-rows.ensures.same ∙ e);
    })

pub returns-in-Down-clause-part : goal.returns-in-Down-clause-part
returns-in-Down-clause-part g c = λ page tree e.
    let shown = g.W.Words.shown c.args.source.now in
    let read : PartRows = record { rows = c.rows_down_in-rows.result; next = c.next_below_in-next.result } in
    subst (λ (d : Direction). IsPartToward d page c.args.from read) (sym c.in-Down.is) (record {
      rows = subst (λ (look : ℕ → Option ℕ). ListsPairs look (λ key. key ≤ c.args.from) (reverse c.rows_down_in-rows.result.items)) (tree_lists page (shown c.args.hand.now) tree e) c.rows_down_in-rows.ensures.rows;
      next = c.next_below_in-next.ensures.next page tree (ap shown c.rows_down_in-rows.ensures.same ∙ e);
    })
