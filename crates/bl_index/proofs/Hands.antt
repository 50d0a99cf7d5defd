-- Pages and hands of a new index, one after another.
use Rattle.std.proofs.Common.{ℕ, zero, suc, ◌≡◌, ◌⊎◌, ◌+◌, ◌<◌, ◌++◌, Option, List, [], ◌∷◌, length, refl, sym, ap, ◌∙◌, subst, inl, inr, ⊎_elim, arith}
use Rattle.std.specs.Prelude.{slice_index_or, remove}
use Rattle.std.proofs.lemmas.List.{length-append}
use mathlib.Core.Option.{some, some-injective, some-ne-none}
use lib.ListN.{get_elem?}
use Rattle.atomic_table.specs.Seated.{TableId}
use Rattle.bl_layout.specs.declared.layout.Layout.{Layout}
use Rattle.bl_page.specs.declared.page.Page.{Page}
use Rattle.bl_store.specs.declared.store.Hand.{Hand}
use Rattle.bl_index_rule.specs.declared.known.PassState.{PassState}
use Rattle.bl_index.specs.declared.index.Pass.{Pass}
use Rattle.bl_index.specs.Opened.{IsFirst, AreFirst, IsNewHand, AreNew, ArePasses}

at_push : {A : Type 0} (l : List A) (a b : A) (j : ℕ) → get_elem? (l ++ a ∷ []) j ≡ some b → (get_elem? l j ≡ some b) ⊎ ((j ≡ length l) × (a ≡ b))
at_push [] a b zero e = inr (refl, some-injective a b e)
at_push [] a b (suc j) e = absurd (some-ne-none b (sym e))
at_push (x ∷ xs) a b zero e = inl e
at_push (x ∷ xs) a b (suc j) e = ⊎_elim (λ t. inl t) (λ t. inr (ap suc t.0, t.1)) (at_push xs a b j e)

pub firsts_push : (many : ℕ) (contents new : List (List ℕ)) (words : List ℕ) → AreFirst many contents → IsFirst many words → new ≡ contents ++ words ∷ [] → AreFirst (many + 1) new
firsts_push many contents new words f is e = record {
  count = ap length e ∙ (length-append contents (words ∷ []) ∙ ap (λ (k : ℕ). k + 1) f.count);
  each = λ x ws at. ⊎_elim
      (λ (t : get_elem? contents x ≡ some ws). f.each x ws t)
      (λ (t : (x ≡ length contents) × (words ≡ ws)). subst (λ (z : ℕ × List ℕ). IsFirst z.0 z.1) (λ i. ((sym f.count ∙ sym t.0) i, t.1 i)) is)
      (at_push contents words ws x (ap (λ (z : List (List ℕ)). get_elem? z x) (sym e) ∙ at));
}

module _ (table : TableId) (layout : Layout) (first : List (Option Page)) where
  pub rest_new : (least : ℕ) (hands : List (Hand PassState)) → AreNew table layout first least hands → AreNew table layout first (least + 1) (remove hands 0)
  rest_new least [] new j hand at = absurd (some-ne-none hand (sym at))
  rest_new least (h ∷ hands) new j hand at = (let is = new (suc j) hand at in let same : least + suc j ≡ least + 1 + j = omega arith in subst (λ (z : ℕ). IsNewHand table layout first z hand) same is)

  pub first_new : (least : ℕ) (hands : List (Hand PassState)) (hand : Hand PassState) → 0 < length hands → AreNew table layout first least hands → hand ≡ slice_index_or hands 0 hand → IsNewHand table layout first least hand
  first_new least [] hand many new e = absurd (omega arith)
  first_new least (h ∷ hands) hand many new e = (let is = new 0 h refl in let same : least + 0 ≡ least = omega arith in subst (λ (z : ℕ × Hand PassState). IsNewHand table layout first z.0 z.1) (λ i. (same i, sym e i)) is)

  pub passes_push : (many : ℕ) (passes new : List Pass) (pass : Pass) → ArePasses table layout first many passes → IsNewHand table layout first many pass.hand → new ≡ passes ++ pass ∷ [] → ArePasses table layout first (many + 1) new
  passes_push many passes new pass f is e = record {
    count = ap length e ∙ (length-append passes (pass ∷ []) ∙ ap (λ (k : ℕ). k + 1) f.count);
    each = λ n p at. ⊎_elim
        (λ (t : get_elem? passes n ≡ some p). f.each n p t)
        (λ (t : (n ≡ length passes) × (pass ≡ p)). subst (λ (z : ℕ × Pass). IsNewHand table layout first z.0 z.1.hand) (λ i. ((sym f.count ∙ sym t.0) i, t.1 i)) is)
        (at_push passes pass p n (ap (λ (z : List Pass). get_elem? z n) (sym e) ∙ at));
  }
