use Rattle.std.proofs.Common.{◌++◌, ℕ, List, Option, Vec, Global, ap, ◌∙◌, subst}
use Rattle.std.specs.Prelude.{IfSome}
use Rattle.bl_journal.specs.Rows.{AreLeft}
use Rattle.bl_journal.proofs.Bodies.{left_with}
use Rattle.bl_journal.proofs.journal.changed_rows.Goals as goal

pub returns-in-Some : goal.returns-in-Some
returns-in-Some c = λ old new left leads.
    let all : List (ℕ × ℕ) = c.extend_from_slice.new.self.items in
    let gone : List (ℕ × ℕ) = c.extend_from_slice-2.new.self.items in
    let are : AreLeft all gone c.in-Some.after.items =
    subst (λ (found : Option (Vec (ℕ × ℕ) Global)). IfSome found (λ v. AreLeft all gone v.items)) c.in-Some.is c.in_ok-after.ensures.left in
    let are_all : AreLeft (c.args.rows.items ++ c.args.came.now) gone c.in-Some.after.items = subst (λ (l : List (ℕ × ℕ)). AreLeft l gone c.in-Some.after.items) c.in_ok-extend_from_slice.ensures.items are in
    let are_gone : AreLeft (c.args.rows.items ++ c.args.came.now) c.args.went.now c.in-Some.after.items =
    subst (λ (l : List (ℕ × ℕ)). AreLeft (c.args.rows.items ++ c.args.came.now) l c.in-Some.after.items)
    (c.in_ok-extend_from_slice-2.ensures.items ∙ ap (λ (l : List (ℕ × ℕ)). l ++ c.args.went.now) c.new-gone.ensures.items) are_all in
    left_with c.args.rows.items c.args.came.now c.args.went.now c.in-Some.after.items old new left leads are_gone
