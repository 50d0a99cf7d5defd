-- An outside in memory goes on.
use Rattle.std.proofs.Common.{◌≡◌, ℕ, zero, suc, ◌+◌, ◌<◌, ◌≤◌, List, [], ◌∷◌, ◌++◌, length, refl, sym, ◌∙◌, ap, subst, arith, length-append, inl, inr}
use Rattle.std.specs.Prelude.{Option, Some}
use Rattle.std.proofs.lemmas.Bool.{cases_eq}
use Rattle.bl_outside.specs.Crashes.{FindsOnly}
use Rattle.bl_outside.specs.declared.tape.Scene.{Scene}
use Rattle.bl_outside.specs.declared.tape.Tape.{Tape}
use Rattle.bl_outside.specs.Tapes.{found_at, finds_in}

-- before the last scene
before_last : (past : List Scene) (s : Scene) (printed log : List ℕ) (t : ℕ) → t < length past → (printed' log' : List ℕ) → found_at (past ++ s ∷ []) printed log t ≡ found_at past printed' log' t
before_last [] s printed log t lt printed' log' = absurd (omega arith)
before_last (p ∷ past) s printed log zero lt printed' log' = refl
before_last (p ∷ past) s printed log (suc t) lt printed' log' = before_last past s printed log t (omega arith) printed' log'

-- where the last scene stands
at_last : (past : List Scene) (s : Scene) (printed log : List ℕ) (t : ℕ) → t ≡ length past → found_at (past ++ s ∷ []) printed log t ≡ (s.printed.items, s.log.items)
at_last [] s printed log zero is = refl
at_last [] s printed log (suc t) is = absurd (omega arith)
at_last (p ∷ past) s printed log zero is = absurd (omega arith)
at_last (p ∷ past) s printed log (suc t) is = at_last past s printed log t (omega arith)

-- behind all
at_end : (past : List Scene) (printed log : List ℕ) (t : ℕ) → length past ≤ t → found_at past printed log t ≡ (printed, log)
at_end [] printed log t le = refl
at_end (s ∷ past) printed log zero le = absurd (omega arith)
at_end (s ∷ past) printed log (suc t) le = at_end past printed log t (omega arith)

abbrev moment : Tape → ℕ
moment tape = length tape.past.items

-- what is found is P, where what stands there is
found : (past : List Scene) (printed log printed' log' : List ℕ) (t : ℕ) (P : Option (List ℕ) → List ℕ → Type 0) (told : Option (List ℕ)) (left : List ℕ) → P (Some printed') log' → found_at past printed log t ≡ (printed', log')
    → (told ≡ Some (found_at past printed log t).0) → (left ≡ (found_at past printed log t).1) → P told left
found past printed log printed' log' t P told left p is a b =
    subst (λ (z : Option (List ℕ) × List ℕ). P z.0 z.1) (λ i. (sym (a ∙ ap (λ (z : List ℕ × List ℕ). Some z.0) is) i, sym (b ∙ ap (λ (z : List ℕ × List ℕ). z.1) is) i)) p

-- nothing was done
pub stays : (old new : Tape) (P : Option (List ℕ) → List ℕ → Type 0) → new.past.items ≡ old.past.items → new.printed.items ≡ old.printed.items → new.log.items ≡ old.log.items → P (Some old.printed.items) old.log.items → FindsOnly moment finds_in old new P
stays old new P past printed log p = record {
  later = (let e = ap length past in omega (arith, e));
  each = λ t told left from upto f. found new.past.items new.printed.items new.log.items old.printed.items old.log.items t P told left p
      (at_end new.past.items new.printed.items new.log.items t (let e = ap length past in omega (arith, e, from)) ∙ (λ i. (printed i, log i))) f.0 f.1;
  past = λ t told left before f.
      let same : found_at new.past.items new.printed.items new.log.items t ≡ found_at old.past.items old.printed.items old.log.items t = λ i. found_at (past i) (printed i) (log i) t in
      (f.0 ∙ ap (λ (z : List ℕ × List ℕ). Some z.0) same, f.1 ∙ ap (λ (z : List ℕ × List ℕ). z.1) same);
}

-- one call was done
pub turns : (old new : Tape) (s : Scene) (P : Option (List ℕ) → List ℕ → Type 0) → new.past.items ≡ old.past.items ++ s ∷ [] → s.printed.items ≡ old.printed.items → s.log.items ≡ old.log.items → P (Some old.printed.items) old.log.items → P (Some new.printed.items) new.log.items
    → FindsOnly moment finds_in old new P
turns old new s P past printed log p q =
    let long : length new.past.items ≡ length old.past.items + 1 = (let e = ap length past in let a = length-append old.past.items (s ∷ []) in let one : length (s ∷ []) ≡ 1 = refl in omega (arith, e, a, one)) in record {
      later = omega (arith, long);
      each = λ t told left from upto f. elim (cases_eq t (length old.past.items)) [
        | inl here ↦ found new.past.items new.printed.items new.log.items old.printed.items old.log.items t P told left p
            (ap (λ (z : List Scene). found_at z new.printed.items new.log.items t) past ∙ (at_last old.past.items s new.printed.items new.log.items t here ∙ (λ i. (printed i, log i)))) f.0 f.1
        | inr after ↦ found new.past.items new.printed.items new.log.items new.printed.items new.log.items t P told left q
            (at_end new.past.items new.printed.items new.log.items t (omega (arith, long, from, after))) f.0 f.1
      ];
      past = λ t told left before f.
          let same : found_at new.past.items new.printed.items new.log.items t ≡ found_at old.past.items old.printed.items old.log.items t
          = ap (λ (z : List Scene). found_at z new.printed.items new.log.items t) past ∙ before_last old.past.items s new.printed.items new.log.items t before old.printed.items old.log.items in
          (f.0 ∙ ap (λ (z : List ℕ × List ℕ). Some z.0) same, f.1 ∙ ap (λ (z : List ℕ × List ℕ). z.1) same);
    }
