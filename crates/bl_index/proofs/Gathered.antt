-- All passes of an index, one after another, and their hands.
use Rattle.std.proofs.Common.{ℕ, zero, suc, ◌≡◌, ◌≢◌, ◌+◌, ◌<◌, ◌≤◌, ◌++◌, List, [], ◌∷◌, All, length, get_or, refl, sym, ap, ◌∙◌, subst, inl, inr, arith}
use Rattle.std.proofs.lemmas.Bool.{cases_eq, cases_lt}
use Rattle.std.proofs.lemmas.List.{length-append}
use mathlib.Core.Option.{some, some-injective}
use lib.ListN.{get_elem?}
use Rattle.atomic_table.proofs.Lists.{at_longer, at_last}
use Rattle.bl_index_rule.proofs.Shown.{at_below}
use Rattle.bl_store.specs.declared.store.Hand.{Hand}
use Rattle.bl_index_rule.specs.declared.known.PassState.{PassState}
use Rattle.bl_index.specs.declared.index.Pass.{Pass}
use Rattle.bl_index.specs.Calls.{number_of}
use Rattle.bl_index.specs.Closed.{HasPass, IsHandOf, IsAmong}

pub there : {A : Type 0} (l : List A) (i : ℕ) → i < length l → (a : A) × (get_elem? l i ≡ some a)
there [] i lt = absurd (omega arith)
there (x ∷ xs) zero lt = (x, refl)
there (x ∷ xs) (suc i) lt = there xs i (omega arith)

-- what is listed at two places is listed once
pub one_there : {A : Type 0} (l : List A) (i : ℕ) (a b : A) → get_elem? l i ≡ some a → get_elem? l i ≡ some b → a ≡ b
one_there l i a b e f = some-injective a b (sym e ∙ f)

pub all_there : {A : Type 0} (P : A → Type 0) (l : List A) (i : ℕ) (a : A) → All P l → get_elem? l i ≡ some a → P a
all_there P l i a all at = subst P (one_there l i (get_or l i a) a (index_there l i a (at_below l i a at)) at) (all i a (at_below l i a at))
  where
    index_there : {A : Type 0} (l : List A) (i : ℕ) (a : A) → i < length l → get_elem? l i ≡ some (get_or l i a)
    index_there [] i a lt = absurd (omega arith)
    index_there (x ∷ xs) zero a lt = refl
    index_there (x ∷ xs) (suc i) a lt = index_there xs i a (omega arith)

-- what each place has, all have
pub all_of : {A : Type 0} (P : A → Type 0) (l : List A) → ((k : ℕ) (a : A) → get_elem? l k ≡ some a → P a) → All P l
all_of P l h = λ k d lt. h k (get_or l k d) (at_get l k d lt)
  where
    at_get : {A : Type 0} (l : List A) (i : ℕ) (d : A) → i < length l → get_elem? l i ≡ some (get_or l i d)
    at_get [] i d lt = absurd (omega arith)
    at_get (x ∷ xs) zero d lt = refl
    at_get (x ∷ xs) (suc i) d lt = at_get xs i d (omega arith)

pub item_at : {A : Type 0} (l : List A) (i : ℕ) (a : A) → i < length l → a ≡ get_or l i a → get_elem? l i ≡ some a
item_at [] i a lt is = absurd (omega arith)
item_at (x ∷ xs) zero a lt is = ap some (sym is)
item_at (x ∷ xs) (suc i) a lt is = item_at xs i a (omega arith) is

-- none up to there has that number, and this one has not
pub none_more : (passes : List Pass) (i number : ℕ) (pass : Pass) → get_elem? passes i ≡ some pass → number_of pass ≢ number → ((k : ℕ) (p : Pass) → k < i → get_elem? passes k ≡ some p → number_of p ≢ number) → (k : ℕ) (p : Pass) → k < i + 1 → get_elem? passes k ≡ some p → number_of p ≢ number
none_more passes i number pass at other none k p lt at_k = elim (cases_eq k i) [
  | inl same ↦ subst (λ (z : Pass). number_of z ≢ number) (one_there passes i pass p at (subst (λ (z : ℕ). get_elem? passes z ≡ some p) same at_k)) other
  | inr ne ↦ none k p (omega (arith, lt, ne)) at_k
]

pub not_there : (passes : List Pass) (i number : ℕ) → length passes ≤ i → ((k : ℕ) (p : Pass) → k < i → get_elem? passes k ≡ some p → number_of p ≢ number) → ¬ HasPass passes number
not_there passes i number past none has = none has.place has.pass (let low = at_below passes has.place has.pass has.at in omega (arith, low, past)) has.at has.numbered

-- numbers below one more
pub all_more : (passes : List Pass) (i : ℕ) → HasPass passes i → ((n : ℕ) → n < i → HasPass passes n) → (n : ℕ) → n < i + 1 → HasPass passes n
all_more passes i has old n lt = elim (cases_eq n i) [
  | inl same ↦ subst (HasPass passes) (sym same) has
  | inr ne ↦ old n (omega (arith, lt, ne))
]

-- ---- the last pass goes, and its hand is one more

module _ (all rest : List Pass) (last : Pass) where
  pub rest_there : (passes : List Pass) → passes ≡ rest ++ last ∷ [] → ((k : ℕ) (p : Pass) → get_elem? passes k ≡ some p → get_elem? all k ≡ some p) → (k : ℕ) (p : Pass) → get_elem? rest k ≡ some p → get_elem? all k ≡ some p
  rest_there passes is there k p at = there k p (ap (λ (z : List Pass). get_elem? z k) is ∙ at_longer rest (last ∷ []) k p at)

  pub last_there : (passes : List Pass) → passes ≡ rest ++ last ∷ [] → ((k : ℕ) (p : Pass) → get_elem? passes k ≡ some p → get_elem? all k ≡ some p) → get_elem? all (length rest) ≡ some last
  last_there passes is there = there (length rest) last (ap (λ (z : List Pass). get_elem? z (length rest)) is ∙ at_last rest last (length rest) refl)

  among_more : (hands new : List (Hand PassState)) (hand : Hand PassState) → new ≡ hands ++ last.hand ∷ [] → IsAmong hands hand → IsAmong new hand
  among_more hands new hand is a = (a.0, ap (λ (z : List (Hand PassState)). get_elem? z a.0) is ∙ at_longer hands (last.hand ∷ []) a.0 hand a.1)

  pub taken_more : (passes : List Pass) (hands new : List (Hand PassState)) → passes ≡ rest ++ last ∷ [] → new ≡ hands ++ last.hand ∷ [] → get_elem? all (length rest) ≡ some last → ((k : ℕ) (p : Pass) → length passes ≤ k → get_elem? all k ≡ some p → IsAmong hands p.hand) → (k : ℕ) (p : Pass) → length rest ≤ k → get_elem? all k ≡ some p → IsAmong new p.hand
  taken_more passes hands new is pushed here old k p low at = elim (cases_eq k (length rest)) [
    | inl same ↦ subst (λ (z : Pass). IsAmong new z.hand) (one_there all (length rest) last p here (subst (λ (z : ℕ). get_elem? all z ≡ some p) same at))
        (length hands, ap (λ (z : List (Hand PassState)). get_elem? z (length hands)) pushed ∙ at_last hands last.hand (length hands) refl)
    | inr ne ↦ among_more hands new p.hand pushed (old k p (let long : length passes ≡ length rest + 1 = ap length is ∙ length-append rest (last ∷ []) in omega (arith, low, ne, long)) at)
  ]

  pub only_more : (hands new : List (Hand PassState)) → new ≡ hands ++ last.hand ∷ [] → get_elem? all (length rest) ≡ some last → ((k : ℕ) (hand : Hand PassState) → get_elem? hands k ≡ some hand → IsHandOf all hand) → (k : ℕ) (hand : Hand PassState) → get_elem? new k ≡ some hand → IsHandOf all hand
  only_more hands new pushed here old k hand at =
      let at' : get_elem? (hands ++ last.hand ∷ []) k ≡ some hand = ap (λ (z : List (Hand PassState)). get_elem? z k) (sym pushed) ∙ at in
      let low = at_below (hands ++ last.hand ∷ []) k hand at' in let long = length-append hands (last.hand ∷ []) in
      elim (cases_lt k (length hands)) [
        | inl lt ↦ old k hand (before hands k lt at')
        | inr ge ↦
            let same : k ≡ length hands = omega (arith, low, long, ge) in
            record { place = length rest; pass = last; at = here; is = one_there (hands ++ last.hand ∷ []) k last.hand hand (ap (λ (z : ℕ). get_elem? (hands ++ last.hand ∷ []) z) same ∙ at_last hands last.hand (length hands) refl) at' }
      ]
    where
      before : (l : List (Hand PassState)) (j : ℕ) → j < length l → get_elem? (l ++ last.hand ∷ []) j ≡ some hand → get_elem? l j ≡ some hand
      before [] j lt e = absurd (omega arith)
      before (x ∷ xs) zero lt e = e
      before (x ∷ xs) (suc j) lt e = before xs j (omega arith) e
