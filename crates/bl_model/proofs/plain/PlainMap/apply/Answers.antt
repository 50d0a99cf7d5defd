use Rattle.std.proofs.Common.{subst, ◌∙◌}
use Rattle.bl_model.specs.Rows.{HasRisingKeys}
use Rattle.bl_model.proofs.Places.{map_of-gap, rising-insert}
use Rattle.bl_model.proofs.Parts.{IsPlaceOf, place_at, place_gap}
use Rattle.bl_model.proofs.Steps.{step_found, step_absent, step_present, step_inserted, step_deleted, step_gone, step_part, fills_part, begins_tail, OnErr_any}
use Rattle.bl_model.proofs.Falling.{IsCountTo, count_at, count_gap, step_part_down, fills_part_down, begins_head}
use Rattle.bl_model.proofs.plain.PlainMap.apply.Goals as goal
use Rattle.bl_model.proofs.plain.PlainMap.apply.Goals.{in-Ok, in-Err, in-Ok-search-3, in-Err-search-3, in-Ok-search-4, in-Err-search-4}

-- memory fails only where a row is added
pub returns-in_err-insert-in-Err-search-clause-memory : goal.returns-in_err-insert-in-Err-search-clause-memory
returns-in_err-insert-in-Err-search-clause-memory c = OnErr_any c.from_residual.result (rw c.in-Insert.is (map_of-gap _ _ _ c.in-Err-search.ensures.absent))

pub invariant_of-self-in-Err-search : goal.invariant_of-self-in-Err-search
invariant_of-self-in-Err-search c = rw c.in_ok-insert-in-Err-search.ensures.items (rising-insert _ _ _ (rw c.self-in-Insert.view_is c.in-Err-search.ensures.absent) _ c.self-in-Insert.invariant)

pub returns-after-search-clause-step : goal.returns-after-search-clause-step
returns-after-search-clause-step c = elim c.match-search.branch [
  | in-Ok w ↦ rw (w.result-is, c.in-Find.is, ← c.self.view_is) (step_found _ c.self.invariant _ _ (rw c.self.view_is w.in-Ok.ensures.found) _ w.index.ensures)
  | in-Err w ↦ rw (w.result-is, c.in-Find.is) (step_absent _ _ _ w.in-Err.ensures.absent)
]

pub returns-in-Ok-search-clause-step : goal.returns-in-Ok-search-clause-step
returns-in-Ok-search-clause-step c = rw (c.in-Insert.is, ← c.self-in-Insert.view_is) (step_present _ c.self-in-Insert.invariant _ _ (rw c.self-in-Insert.view_is c.in-Ok-search.ensures.found) _ c.index-in-Ok-search.ensures _)

pub returns-in_ok-insert-in-Err-search-clause-step : goal.returns-in_ok-insert-in-Err-search-clause-step
returns-in_ok-insert-in-Err-search-clause-step c = rw (c.in-Insert.is, ← c.self-in-Insert.view_is) (step_inserted _ _ _ (rw c.self-in-Insert.view_is c.in-Err-search.ensures.absent) _ _ c.in_ok-insert-in-Err-search.ensures.items)

pub returns-in-Ok-search-2-clause-step : goal.returns-in-Ok-search-2-clause-step
returns-in-Ok-search-2-clause-step c = rw (c.in-Delete.is, ← c.self-in-Delete.view_is) (step_deleted _ c.self-in-Delete.invariant _ _ (rw c.self-in-Delete.view_is c.in-Ok-search-2.ensures.found) _ c.remove.ensures.value _ c.remove.ensures.items)

pub returns-in-Err-search-2-clause-step : goal.returns-in-Err-search-2-clause-step
returns-in-Err-search-2-clause-step c = rw c.in-Delete.is (step_gone _ _ _ c.in-Err-search-2.ensures.absent)

-- both answers of the search give the place where the part begins
pub returns-after-search-4-clause-step : goal.returns-after-search-4-clause-step
returns-after-search-4-clause-step c =
    let rows : HasRisingKeys c.args.self.now = subst HasRisingKeys c.self-in-Part.view_is c.self-in-Part.invariant in
    let place : IsPlaceOf c.args.self.now c.in-Part.from c.match-search-4.place = elim c.match-search-4.branch [
      | in-Ok-search-3 w ↦ rw w.place-is (place_at _ _ _ rows w.in-Ok-search-3.ensures.found)
      | in-Err-search-3 w ↦ rw w.place-is (place_gap _ _ _ w.in-Err-search-3.ensures.absent)
    ] in
    rw c.in-Part.is (step_part _ rows _ _ place _ (begins_tail _ _ _ _ (c.deref.ensures.value ∙ c.self-in-Part.view_is) c.part.ensures))

pub returns-after-search-4-clause-part : goal.returns-after-search-4-clause-part
returns-after-search-4-clause-part c =
    let rows : HasRisingKeys c.args.self.now = subst HasRisingKeys c.self-in-Part.view_is c.self-in-Part.invariant in
    let place : IsPlaceOf c.args.self.now c.in-Part.from c.match-search-4.place = elim c.match-search-4.branch [
      | in-Ok-search-3 w ↦ rw w.place-is (place_at _ _ _ rows w.in-Ok-search-3.ensures.found)
      | in-Err-search-3 w ↦ rw w.place-is (place_gap _ _ _ w.in-Err-search-3.ensures.absent)
    ] in
    fills_part _ rows _ _ place _ (begins_tail _ _ _ _ (c.deref.ensures.value ∙ c.self-in-Part.view_is) c.part.ensures)

-- and how many rows there are up to it
pub returns-after-search-5-clause-step : goal.returns-after-search-5-clause-step
returns-after-search-5-clause-step c =
    let rows : HasRisingKeys c.args.self.now = subst HasRisingKeys c.self-in-PartDown.view_is c.self-in-PartDown.invariant in
    let count : IsCountTo c.args.self.now c.in-PartDown.from c.match-search-5.count = elim c.match-search-5.branch [
      | in-Ok-search-4 w ↦ rw w.count-is (count_at _ _ _ rows w.in-Ok-search-4.ensures.found)
      | in-Err-search-4 w ↦ rw w.count-is (count_gap _ _ _ w.in-Err-search-4.ensures.absent)
    ] in
    rw c.in-PartDown.is (step_part_down _ rows _ _ count _ (begins_head _ _ _ _ (c.deref-in-PartDown.ensures.value ∙ c.self-in-PartDown.view_is) c.part_down.ensures))

pub returns-after-search-5-clause-part : goal.returns-after-search-5-clause-part
returns-after-search-5-clause-part c =
    let rows : HasRisingKeys c.args.self.now = subst HasRisingKeys c.self-in-PartDown.view_is c.self-in-PartDown.invariant in
    let count : IsCountTo c.args.self.now c.in-PartDown.from c.match-search-5.count = elim c.match-search-5.branch [
      | in-Ok-search-4 w ↦ rw w.count-is (count_at _ _ _ rows w.in-Ok-search-4.ensures.found)
      | in-Err-search-4 w ↦ rw w.count-is (count_gap _ _ _ w.in-Err-search-4.ensures.absent)
    ] in
    fills_part_down _ rows _ _ count _ (begins_head _ _ _ _ (c.deref-in-PartDown.ensures.value ∙ c.self-in-PartDown.view_is) c.part_down.ensures)
