use Rattle.std.proofs.Common.{ℕ, ap, sym, ◌∙◌, arith, ⊎_elim}
use Rattle.std.specs.Prelude.{slice_index}
use Rattle.std.proofs.lemmas.Bool.{cases_eq}
use Rattle.bl_serve.specs.Joining.{times}
use Rattle.bl_serve.proofs.joining.lost_line.Goals as goal

pub loop-place-preserved : goal.loop-place-preserved
loop-place-preserved c = λ i low. ⊎_elim
    (λ e. ap (λ (k : ℕ). times (slice_index c.args.deals.now k) c.args.outputs.now) e ∙ (sym c.count_of.ensures ∙ c.if-count_of-ne1.false))
    (λ other. c.loop-place.invariant i (omega (arith, low, other)))
    (cases_eq i c.loop-place.place)
