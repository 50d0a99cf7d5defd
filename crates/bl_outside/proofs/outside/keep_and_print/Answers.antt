use Rattle.std.proofs.Common.{ℕ, List, sym, subst}
use Rattle.bl_journal.specs.Rows.{Leads}
use Rattle.bl_outside.specs.Crashes.{KeepsFirst}
use Rattle.bl_outside.proofs.Finding.{finds_less, finds_then, keeps_first, prints_then}
use Rattle.bl_outside.proofs.outside.keep_and_print.Goals as goal

-- nothing was printed
pub returns-in_err-keep-clause-any_moment : goal.returns-in_err-keep-clause-any_moment
returns-in_err-keep-clause-any_moment g c = λ modelled old new held leads'.
    let leads : Leads c.as_slice.result.now c.as_slice-2.result.now old new = subst (λ (z : List (ℕ × ℕ) × List (ℕ × ℕ)). Leads z.0 z.1 old new) (λ i. (sym c.as_slice.ensures.value i, sym c.as_slice-2.ensures.value i)) leads' in
    finds_less g.O.Outside.moment g.O.Outside.finds c.args.outside.now c.keep.new.self _ (KeepsFirst (g.O.Outside.printed c.args.outside.now) c.args.text.now old new)
    (c.keep.ensures.any_moment modelled old new held leads) (keeps_first (g.O.Outside.printed c.args.outside.now) c.args.text.now old new)

pub returns-clause-any_moment : goal.returns-clause-any_moment
returns-clause-any_moment g c = λ modelled old new held leads'.
    let leads : Leads c.as_slice.result.now c.as_slice-2.result.now old new = subst (λ (z : List (ℕ × ℕ) × List (ℕ × ℕ)). Leads z.0 z.1 old new) (λ i. (sym c.as_slice.ensures.value i, sym c.as_slice-2.ensures.value i)) leads' in
    finds_then g.O.Outside.moment g.O.Outside.finds c.args.outside.now c.keep.new.self c.print.new.self (KeepsFirst (g.O.Outside.printed c.args.outside.now) c.args.text.now old new)
    (finds_less g.O.Outside.moment g.O.Outside.finds c.args.outside.now c.keep.new.self _ (KeepsFirst (g.O.Outside.printed c.args.outside.now) c.args.text.now old new)
    (c.keep.ensures.any_moment modelled old new held leads) (keeps_first (g.O.Outside.printed c.args.outside.now) c.args.text.now old new))
    (finds_less g.O.Outside.moment g.O.Outside.finds c.keep.new.self c.print.new.self _ (KeepsFirst (g.O.Outside.printed c.args.outside.now) c.args.text.now old new)
    (c.print.ensures.any_moment (c.keep.ensures.modelled.0 modelled) new (c.in_ok-keep.ensures.kept modelled old new held leads))
    (λ told left. prints_then (g.O.Outside.printed c.args.outside.now) (g.O.Outside.printed c.keep.new.self) c.args.text.now old new told left c.keep.ensures.printed))
