-- An outside in memory, and what it has been.
use Rattle.std.specs.Prelude.{◌≡◌, ℕ, zero, suc, List, [], ◌∷◌, length, Option, Some, refl}
use Rattle.std.specs.Io.KnownBytes.{Keeps}
use Rattle.std.proofs.Common.{sym, ap, subst, ◌∙◌}
use Rattle.bl_journal.specs.Logs.{IsLogOf}
use Rattle.bl_outside.specs.declared.tape.Scene.{Scene}
use Rattle.bl_outside.specs.declared.tape.Tape.{Tape}

-- the bytes of its log
abbrev pub log_of : Tape → List ℕ
log_of tape = tape.log.items

-- what was printed
abbrev pub printed_of : Tape → List ℕ
printed_of tape = tape.printed.items

-- what it was before each of its calls
abbrev pub past_of : Tape → List Scene
past_of tape = tape.past.items

-- what was printed and what the log was at the moment of that number, or are now
abbrev pub found_at : List Scene → List ℕ → List ℕ → ℕ → List ℕ × List ℕ
found_at [] printed log t = (printed, log)
found_at (s ∷ past) printed log zero = (s.printed.items, s.log.items)
found_at (s ∷ past) printed log (suc t) = found_at past printed log t

-- a crash at that moment finds that
abbrev pub finds_in : Tape → ℕ → Option (List ℕ) → List ℕ → Type 0
finds_in tape t told left =
    (told ≡ Some (found_at tape.past.items tape.printed.items tape.log.items t).0) × (left ≡ (found_at tape.past.items tape.printed.items tape.log.items t).1)

pub at_now : (past : List Scene) (printed log : List ℕ) → found_at past printed log (length past) ≡ (printed, log)
at_now [] printed log = refl
at_now (s ∷ past) printed log = at_now past printed log

-- a crash now finds what is there
pub found_now : (tape : Tape) (m : ℕ → Option ℕ) (told : Option (List ℕ)) (left : List ℕ) → IsLogOf tape.log.items m → finds_in tape (length tape.past.items) told left
    → Keeps (Some tape.printed.items) told × IsLogOf left m
found_now tape m told left held found =
    let is = at_now tape.past.items tape.printed.items tape.log.items in (
      subst (λ (z : Option (List ℕ)). Keeps (Some tape.printed.items) z) (sym (found.0 ∙ ap (λ (z : List ℕ × List ℕ). Some z.0) is)) refl,
      subst (λ (z : List ℕ). IsLogOf z m) (sym (found.1 ∙ ap (λ (z : List ℕ × List ℕ). z.1) is)) held,
    )
