-- What words tell, that are records and something behind them.
use Rattle.std.proofs.Common.{◌≡◌, ◌⊎◌, inl, inr, ℕ, zero, suc, ◌+◌, List, [], ◌∷◌, ◌++◌, length, refl, sym, ◌∙◌, ap, subst, arith, append_assoc}
use Rattle.std.specs.List.{sum}
use Rattle.std.specs.Prelude.{replicate}
use Rattle.std.proofs.lemmas.Bool.{cases_eq}
use Rattle.std.proofs.lemmas.List.{append-nil}
use Rattle.bl_journal.specs.Records.{Begins, Tells}
use Rattle.bl_journal.specs.Logs.{Spells}
use Rattle.bl_journal.proofs.Spelling.{AreAtMost}
use Rattle.bl_journal.proofs.Torn.{same_where_sum, torn_is_whole}

-- zeros begin with no record
pub no_zeros : (salt n : ℕ) → Tells salt (replicate n 0) []
no_zeros salt zero body rest begins = absurd (cc begins.words_are)
no_zeros salt (suc n) body rest begins = let same : 0 ≡ 4 + length body = cc begins.words_are in absurd (omega arith)

-- what a crash has left of a record is none, or it is whole
pub torn_tells : (salt : ℕ) (body words some zeros : List ℕ) → Begins salt words body [] → AreAtMost some words → Tells salt (some ++ zeros) [] ⊎ (some ≡ words)
torn_tells salt body words some zeros record_is each = elim (cases_eq (sum some) (sum words)) [
  | inl same ↦ inr (same_where_sum some words each same)
  | inr other ↦ inl (λ body' rest' begins. absurd (other (ap sum (torn_is_whole salt body words some zeros body' rest' record_is each begins))))
]

pub begins_more : (salt : ℕ) (words body rest tail : List ℕ) → Begins salt words body rest → Begins salt (words ++ tail) body (rest ++ tail)
begins_more salt words body rest tail begins = record {
  low = begins.low;
  high = begins.high;
  words_are = ap (λ (l : List ℕ). l ++ tail) begins.words_are ∙ ap (λ (l : List ℕ). (4 + length body) ∷ begins.low ∷ begins.high ∷ salt ∷ l) (append_assoc body rest tail);
  some = begins.some;
  completes = begins.completes;
}

-- records, and behind them what tells others
pub spells_then_tells : (salt : ℕ) (bodies others : List (List ℕ)) (front tail : List ℕ) → Spells salt front bodies → Tells salt tail others
    → Tells salt (front ++ tail) (bodies ++ others)
spells_then_tells salt [] others front tail spells tells = subst (λ (l : List ℕ). Tells salt (l ++ tail) others) (sym spells) tells
spells_then_tells salt (body ∷ bodies) others front tail spells tells =
    (spells.0 ++ tail, begins_more salt front body spells.0 tail spells.1, spells_then_tells salt bodies others spells.0 tail spells.2 tells)

-- one record more
pub spells_push : (salt : ℕ) (bodies : List (List ℕ)) (front words body : List ℕ) → Spells salt front bodies → Begins salt words body []
    → Spells salt (front ++ words) (bodies ++ body ∷ [])
spells_push salt [] front words body spells record_is = subst (λ (l : List ℕ). Spells salt (l ++ words) (body ∷ [])) (sym spells) ([], record_is, refl)
spells_push salt (b ∷ bodies) front words body spells record_is =
    (spells.0 ++ words, begins_more salt front b spells.0 words spells.1, spells_push salt bodies spells.0 words body spells.2 record_is)

-- records, and zeros behind them
pub at_rest : (salt : ℕ) (bodies : List (List ℕ)) (front : List ℕ) (zeros : ℕ) → Spells salt front bodies → Tells salt (front ++ replicate zeros 0) bodies
at_rest salt bodies front zeros spells =
    subst (λ (bs : List (List ℕ)). Tells salt (front ++ replicate zeros 0) bs) (append-nil bodies)
    (spells_then_tells salt bodies [] front (replicate zeros 0) spells (no_zeros salt zeros))
