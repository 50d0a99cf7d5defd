use Rattle.std.proofs.Common.{◌≤◌, subst, reverse}
use Rattle.bl_model.specs.Map.{ListsPairs}
use Rattle.bl_model.specs.Rows.{map_of}
use Rattle.bl_proc.proofs.parts.part_of.Goals as goal

pub returns-in-Leaf-Up : goal.returns-in-Leaf-Up
returns-in-Leaf-Up c = rw (c.in-Leaf-Up.is-0, c.in-Leaf-Up.is-1) (record { rows = subst (λ rows. ListsPairs (map_of rows) (λ key. c.args.from.key ≤ key) c.rows_from.result.items) c.as_slice.ensures.value c.rows_from.ensures; next = c.next_after.ensures })

pub returns-in-Leaf-Down : goal.returns-in-Leaf-Down
returns-in-Leaf-Down c = rw (c.in-Leaf-Down.is-0, c.in-Leaf-Down.is-1) (record { rows = subst (λ rows. ListsPairs (map_of rows) (λ key. key ≤ c.args.from.key) (reverse c.rows_down.result.items)) c.as_slice-in-Leaf-Down.ensures.value c.rows_down.ensures; next = c.next_below.ensures })
