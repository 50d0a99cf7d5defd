use Rattle.std.proofs.Common.{inl, inr, arith, ◌∙◌, subst}
use Rattle.std.proofs.lemmas.Bool.{cases_eq}
use Rattle.bl_store.specs.declared.store.Hand.{Hand}
use Rattle.bl_index_rule.specs.declared.known.PassState.{PassState}
use Rattle.bl_index_range.specs.Gathering.{IsUnput}
use Rattle.bl_index_range.proofs.Looks.{unput_here}
use Rattle.bl_index_range.proofs.ranging.first_put.Goals as goal

pub loop-place-preserved : goal.loop-place-preserved
loop-place-preserved c =
    let inv = c.loop-place.invariant in
    record {
      same = c.is_unput.ensures.same ∙ inv.same;
      unput = λ k d lt. elim (cases_eq k c.loop-place.place) [
        | inl is ↦ unput_here c.args.hand.now.seat c.args.kept.now c.loop-place.place k d _ is c.loop-place-test.true (rw inv.same at (c.is_unput.ensures.unput c.if-not-is_unput.false))
        | inr ne ↦ inv.unput k d (omega (arith, lt, ne))
      ];
    }
