-- All that a pass has seen was done by the passes of its layout.
use Rattle.std.proofs.Common.{ℕ, ◌≡◌, Option, inl, inr, sym, ap, ◌∙◌, subst}
use Rattle.atomic_table.specs.declared.shared.Seat.{Seat}
use Rattle.bl_layout.specs.declared.layout.Layout.{Layout}
use Rattle.bl_model.specs.declared.operation.Reply.{Reply}
use Rattle.bl_store_rule.specs.declared.view.View.{View}
use Rattle.bl_store.specs.Hands.{known}
use Rattle.bl_index_rule.specs.declared.known.PassState.{PassState}
use Rattle.bl_claims.specs.Seeing.{AreWithin}
use Rattle.bl_index_rule.specs.Observed.{Finishes, sweeps}
use Rattle.bl_index_events.specs.Runs.{IsWithin}

pub ends_within : (l : Layout) (h h' : Seat (Unit {0}) (View PassState)) (answer : Option Reply) → h.me.0.layout ≡ l → h'.me.0.layout ≡ h.me.0.layout → (known h).passes ≡ l.passes → Finishes answer (known h) (known h') → IsWithin h'
ends_within l h h' answer own same passes observed =
    let is : (known h').passes ≡ h'.me.0.layout.passes = observed.passes ∙ (passes ∙ ap (λ (z : Layout). z.passes) (sym (same ∙ own))) in
    subst (λ (z : ℕ). AreWithin z (known h').trail) is observed.notes.within

pub sweep_within : (l : Layout) (h h' : Seat (Unit {0}) (View PassState)) (pass count among released : ℕ) → h.me.0.layout ≡ l → h'.me.0.layout ≡ h.me.0.layout → l.passes ≡ among → IsWithin h → sweeps pass count among (known h) released (known h') → IsWithin h'
sweep_within l h h' pass count among released own same passes was (inl is) = subst (λ (z : Layout × PassState). AreWithin z.0.passes z.1.trail) (λ i. (sym same i, sym is.0 i)) was
sweep_within l h h' pass count among released own same passes was (inr t) = subst (λ (z : ℕ). AreWithin z (known h').trail) (sym (ap (λ (z : Layout). z.passes) (same ∙ own) ∙ passes)) t.within
