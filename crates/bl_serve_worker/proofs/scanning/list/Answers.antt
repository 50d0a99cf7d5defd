use Rattle.std.proofs.Common.{List, ℕ, ◌++◌, ap, ◌∙◌, codes}
use Rattle.bl_serve_worker.proofs.Lines.{listed_line}
use Rattle.bl_serve_worker.proofs.scanning.list.Goals as goal

pub returns-clause-answers : goal.returns-clause-answers
returns-clause-answers g c = listed_line c.args.handle.now c.write_rows.new.handle c.args.number c.args.asked _ _ _ _ c.requires
    (c.in_ok-extend_from_slice.ensures.items ∙ ap (λ (z : List ℕ). z ++ codes " rows") c.in_ok-push_number.ensures)
    c.in_ok-push.ensures.items (rw c.scan.ensures at c.in_ok-write_rows.ensures.writes)
