use Rattle.std.proofs.Common.{ℕ, Option, Vec, Global, subst}
use Rattle.std.specs.Prelude.{IfSome}
use Rattle.bl_journal.specs.Rows.{AreLeft}
use Rattle.bl_journal.proofs.reading.rows_told.Goals as goal

pub returns-in-Some-clause-left : goal.returns-in-Some-clause-left
returns-in-Some-clause-left c = (
  c.in_ok-told.told.came.items,
  c.in_ok-told.told.went.items,
  c.in_ok-told.ensures.tells,
  subst (λ (found : Option (Vec (ℕ × ℕ) Global)). IfSome found (λ v. AreLeft c.in_ok-told.told.came.items c.in_ok-told.told.went.items v.items)) c.in-Some.is c.in_ok-rows.ensures.left,
)
