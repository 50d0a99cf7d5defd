use Rattle.std.proofs.Common.{◌≡◌, ℕ, ◌+◌, ◌-◌, ◌<◌, ◌≤◌, List, [], ◌∷◌, ◌++◌, length, refl, ap, sym, subst, length-append, arith}
use Rattle.bl_model.specs.Rows.{key_at, HasRisingKeys}
use Rattle.bl_serve_lines.proofs.Known.{consumes_next}
use Rattle.bl_row_lines.specs.RowLines.{rows_text, IsAbove, BeginsBelow}
use Rattle.bl_row_lines.proofs.More.{rise_more, row_consumed, stops}
use Rattle.bl_row_lines.proofs.reading.read_rows.Goals as goal

pub returns-then-not-is_above : goal.returns-then-not-is_above
returns-then-not-is_above g c = let i = c.loop-number.invariant in let e = rw c.in-Ok-Row.field-0-is at c.in-Ok-Row.ensures in
    let rows = c.loop-number.rows.items in
    let key = c.in-Ok-Row.key in
    let below = subst (λ (r : List (ℕ × ℕ)). (0 < length r) × (key ≤ key_at r (length r - 1))) c.as_slice.ensures.value c.if-not-is_above.ensures in (
      rows_text rows ++ (c.loop-number.source ++ e.0),
      consumes_next _ _ _ (rows_text rows) c.loop-number.source e.0 _ i.consumed e.1 refl,
      stops rows (rows_text rows) _ c.loop-number.number BeginsBelow refl i.rising i.number ((key, c.in-Ok-Row.value), c.read_row.new.source, e.2, below.0, below.1),
    )

pub returns-in-Err-add : goal.returns-in-Err-add
returns-in-Err-add g c = let i = c.loop-number.invariant in let e = rw c.in-Ok-Row.field-0-is at c.in-Ok-Row.ensures in
    (rows_text c.loop-number.rows.items ++ (c.loop-number.source ++ e.0), consumes_next _ _ _ (rows_text c.loop-number.rows.items) c.loop-number.source e.0 _ i.consumed e.1 refl, tt)

pub returns-in-Ok-Bad : goal.returns-in-Ok-Bad
returns-in-Ok-Bad g c = let i = c.loop-number.invariant in let e = rw c.in-Ok-Bad.field-0-is at c.in-Ok-Bad.ensures in
    let rows = c.loop-number.rows.items in (
      rows_text rows ++ (c.loop-number.source ++ e.0),
      consumes_next _ _ _ (rows_text rows) c.loop-number.source e.0 _ i.consumed e.1 refl,
      stops rows (rows_text rows) _ c.loop-number.number _ refl i.rising i.number e.2,
    )

pub returns-in-Err : goal.returns-in-Err
returns-in-Err g c = let i = c.loop-number.invariant in let e = c.in-Err.ensures in
    (rows_text c.loop-number.rows.items ++ (c.loop-number.source ++ e.0), consumes_next _ _ _ (rows_text c.loop-number.rows.items) c.loop-number.source e.0 _ i.consumed e.1 refl, e.2)

pub loop-number-preserved : goal.loop-number-preserved
loop-number-preserved g c = let i = c.loop-number.invariant in let e = rw c.in-Ok-Row.field-0-is at c.in-Ok-Row.ensures in
    let rows = c.loop-number.rows.items in
    let row : ℕ × ℕ = (c.in-Ok-Row.key, c.in-Ok-Row.value) in
    let items : c.add.new.rows.items ≡ rows ++ row ∷ [] = c.in-Ok.ensures in
    let above = subst (IsAbove c.in-Ok-Row.key) c.as_slice.ensures.value c.if-not-is_above.ensures in
    let size = length-append rows (row ∷ []) in
    record {
      consumed = row_consumed _ _ _ rows c.add.new.rows.items row c.loop-number.source e.0 c.read_row.new.source items i.consumed e.1 e.2;
      rising = subst HasRisingKeys (sym items) (rise_more rows row i.rising above);
      number = omega (arith, i.number, size, ap length items);
    }
