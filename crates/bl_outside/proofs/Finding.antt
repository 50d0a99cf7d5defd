-- What a crash finds, from call to call.
use Rattle.std.proofs.Common.{◌≡◌, ◌⊎◌, inl, inr, ℕ, List, [], ◌++◌, refl, sym, ap, ◌∙◌, subst, append-nil, arith}
use Rattle.std.specs.Prelude.{Option, Some, None}
use Rattle.std.specs.Io.KnownBytes.{Appends, Keeps}
use Rattle.std.proofs.lemmas.Bool.{cases_lt}
use Rattle.bl_model.specs.Stream.{StartsOut}
use Rattle.bl_journal.specs.Logs.{IsLogOf}
use Rattle.bl_outside.specs.Crashes.{FindsOnly, KeepsFirst}

-- ---- what was printed

kept_appends : (a b c : Option (List ℕ)) (text : List ℕ) → Keeps a b → Appends b c text → Appends a c text
kept_appends None b c text same more = tt
kept_appends (Some x) None c text same more = absurd same
kept_appends (Some x) (Some y) None text same more = absurd more
kept_appends (Some x) (Some y) (Some z) text same more = more ∙ ap (λ (l : List ℕ). l ++ text) same

appends_none : (a b : Option (List ℕ)) → Keeps a b → Appends a b []
appends_none None b same = tt
appends_none (Some x) None same = absurd same
appends_none (Some x) (Some y) same = same ∙ sym (append-nil x)

pub starts_then : (a b c : Option (List ℕ)) (text : List ℕ) → Keeps a b → StartsOut b c text → StartsOut a c text
starts_then a b c text same s = (s.0, s.1, s.2, kept_appends a b c s.0 same s.3)

pub starts_none : (a b : Option (List ℕ)) (text : List ℕ) → Keeps a b → StartsOut a b text
starts_none a b text same = ([], text, refl, appends_none a b same)

-- ---- from call to call

module _ {O : Type 0} (moment : O → ℕ) (finds : O → ℕ → Option (List ℕ) → List ℕ → Type 0) where
  -- before the first call
  pub finds_first : (old : O) (P : Option (List ℕ) → List ℕ → Type 0) → ((told : Option (List ℕ)) (left : List ℕ) → finds old (moment old) told left → P told left) → FindsOnly moment finds old old P
  finds_first old P here = record {
    later = omega arith;
    each = λ t told left from upto found. here told left (subst (λ (n : ℕ). finds old n told left) (let e : t ≡ moment old = omega (arith, from, upto) in e) found);
    past = λ t told left before found. found;
  }

  -- less is said
  pub finds_less : (old new : O) (P Q : Option (List ℕ) → List ℕ → Type 0) → FindsOnly moment finds old new P → ((told : Option (List ℕ)) (left : List ℕ) → P told left → Q told left) → FindsOnly moment finds old new Q
  finds_less old new P Q run less = record { later = run.later; each = λ t told left from upto found. less told left (run.each t told left from upto found); past = run.past }

  -- one run after another
  pub finds_then : (old mid new : O) (P : Option (List ℕ) → List ℕ → Type 0) → FindsOnly moment finds old mid P → FindsOnly moment finds mid new P → FindsOnly moment finds old new P
  finds_then old mid new P one other = record {
    later = omega (arith, one.later, other.later);
    each = λ t told left from upto found. elim (cases_lt t (moment mid)) [
      | inl before ↦ one.each t told left from (omega (arith, before)) (other.past t told left before found)
      | inr since ↦ other.each t told left since upto found
    ];
    past = λ t told left before found. one.past t told left before (other.past t told left (omega (arith, before, one.later)) found);
  }

-- ---- changes are kept, and then a text is printed

-- the changes were not kept, or not whole
pub keeps_first : (before : Option (List ℕ)) (text : List ℕ) (old new : ℕ → Option ℕ) (told : Option (List ℕ)) (left : List ℕ) → Keeps before told × (IsLogOf left old ⊎ IsLogOf left new) → KeepsFirst before text old new told left
keeps_first before text old new told left (same, inl was) = inl (same, was)
keeps_first before text old new told left (same, inr is) = inr (starts_none before told text same, is)

-- they were, and the text is printed
pub prints_then : (before mid : Option (List ℕ)) (text : List ℕ) (old new : ℕ → Option ℕ) (told : Option (List ℕ)) (left : List ℕ) → Keeps before mid → StartsOut mid told text × IsLogOf left new → KeepsFirst before text old new told left
prints_then before mid text old new told left same (starts, is) = inr (starts_then before mid told text same starts, is)
