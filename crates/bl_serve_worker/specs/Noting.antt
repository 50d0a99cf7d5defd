-- What a worker notes of the rows that its writes change.
use Rattle.std.specs.Prelude.{◌≡◌, ℕ, ◌++◌, true, false}
use Rattle.bl_model.specs.declared.operation.Op.{Op}
use Rattle.bl_model.specs.declared.operation.Reply.{Reply}
use Rattle.bl_changes.specs.declared.changes.Changes.{Changes}
use Rattle.bl_changes.specs.Changes.{came_of, went_of, all_came, all_went}
use Rattle.bl_claims.specs.Trails.{Trail}
use Rattle.bl_claims.specs.Seeing.{own}
use Rattle.bl_map.specs.declared.handle.Handle.{Handle}
use Rattle.bl_map.specs.Handles.{number_of_seat, seen_by}
use Rattle.bl_serve_worker.specs.declared.aside.Aside.{Aside}

-- These rows came and went by the own entries of the pass since it had seen the first trail.
pub record HasNoted (pass : ℕ) (base now : Trail) (changes : Changes) : Type 0 where
  pub came : all_came (own pass now) ≡ all_came (own pass base) ++ changes.came.items
  pub went : all_went (own pass now) ≡ all_went (own pass base) ++ changes.went.items

-- A write that was answered so was noted behind the others, if writes are noted and there was memory for all of them.
pub record NotesWrite (op : Op) (reply : Reply) (old new : Aside) : Type 0 where
  pub keeps : new.keeps ≡ old.keeps
  pub ever : new.failed ≡ false → old.failed ≡ false
  pub came : new.failed ≡ false → old.keeps ≡ true → new.changes.came.items ≡ old.changes.came.items ++ came_of op reply
  pub went : new.failed ≡ false → old.keeps ≡ true → new.changes.went.items ≡ old.changes.went.items ++ went_of op reply

-- What was noted of the handle's entries since any moment is noted with what it has done now, if writes are noted and there was memory.
pub record Notes (old : Handle) (aside : Aside) (new : Handle) (more : Aside) : Type 0 where
  pub keeps : more.keeps ≡ aside.keeps
  pub ever : more.failed ≡ false → aside.failed ≡ false
  pub still : more.failed ≡ false → aside.keeps ≡ true → (base : Trail) → HasNoted (number_of_seat old) base (seen_by old) aside.changes
      → HasNoted (number_of_seat new) base (seen_by new) more.changes
