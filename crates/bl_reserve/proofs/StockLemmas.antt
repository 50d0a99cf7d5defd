-- What a stock holds, and what was seen taken, after one step.
use Rattle.std.proofs.Common.{◌≡◌, ℕ, zero, suc, ◌+◌, ◌-◌, ◌<◌, ◌≤◌, List, [], ◌∷◌, length, get_or, set, sym, refl, ap, ◌∙◌, subst, inl, inr, arith, add-one, get_or-set_other, get_or-set_same}
use mathlib.Core.Logic.{dite}
use native.Mathlib.Decide.{ℕ_discrete}
use Rattle.std.proofs.lemmas.Grind.{get_or-set_at}
use Rattle.bl_store_rule.specs.Observed.{draft}
use Rattle.bl_store.specs.Hands.{Has, drafts}

drafts_set : (fs : List ℕ) (n m x : ℕ) → n ≤ m → drafts (set fs m x) n ≡ drafts fs n
drafts_set fs zero m x low = refl
drafts_set fs (suc n) m x low = let here : get_or (set fs m x) n 0 ≡ get_or fs n 0 = get_or-set_other fs m n x 0 (λ e. omega arith) in let rest = drafts_set fs n m x (omega arith) in λ i. draft (here i) [] ∷ rest i

drafts_suc : (fs : List ℕ) (n x : ℕ) → n < length fs → drafts (set fs n x) (suc n) ≡ draft x [] ∷ drafts fs n
drafts_suc fs n x low = let here : get_or (set fs n x) n 0 ≡ x = get_or-set_same fs n x 0 low in let rest = drafts_set fs n n x (omega arith) in λ i. draft (here i) [] ∷ rest i

-- one more frame
pub drafts_push : (fs : List ℕ) (n x : ℕ) → n < length fs → drafts (set fs n x) (n + 1) ≡ draft x [] ∷ drafts fs n
drafts_push fs n x low = ap (drafts (set fs n x)) (add-one n) ∙ drafts_suc fs n x low

pub within_push : (fs : List ℕ) (n x total : ℕ) → n < length fs → x < total → ((k : ℕ) → k < n → get_or fs k 0 < total) → (k : ℕ) → k < n + 1 → get_or (set fs n x) k 0 < total
within_push fs n x total low small each k less = dite (ℕ_discrete k n)
    (λ e. subst (λ (z : ℕ). z < total) (sym (get_or-set_at fs n k x 0 e low)) small)
    (λ ne. subst (λ (z : ℕ). z < total) (sym (get_or-set_other fs n k x 0 ne)) (each k (omega arith)))

-- what was seen taken, after a step that saw nothing or one word more
pub has_same : (seen seen' : List ℕ) (i j : ℕ) → seen' ≡ seen → i ≡ j → Has seen i → Has seen' j
has_same seen seen' i j same e = subst (λ (z : List ℕ × ℕ). Has z.0 z.1) (λ k. (sym same k, e k))

pub has_more : (seen seen' : List ℕ) (w i j : ℕ) → seen' ≡ w ∷ seen → i ≡ j → Has seen i → Has seen' j
has_more seen seen' w i j more e is = has_same (w ∷ seen) seen' i j more e (inr is)

pub has_new : (seen seen' : List ℕ) (w i : ℕ) → seen' ≡ w ∷ seen → w ≡ i → Has seen' i
has_new seen seen' w i more e = has_same (w ∷ seen) seen' w i more e (inl refl)
