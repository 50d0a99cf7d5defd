-- A journal that keeps a map.
use Rattle.std.proofs.Common.{ℕ, List, Option, sym, subst}
use Rattle.bl_journal.specs.Files.{Only}
use Rattle.bl_journal.specs.Logs.{IsLogOf, HasRoom, KeepsMap}
use Rattle.bl_journal.specs.declared.journal.Journal.{Journal}
use Rattle.bl_journal.proofs.Filling.{log_of_room}

module _ {D : Type 0} (seen : D → List ℕ) (moment : D → ℕ) (leaves : D → ℕ → List ℕ → Type 0) where
  pub leaves_log : (m : ℕ → Option ℕ) (journal : Journal D) → KeepsMap seen moment leaves m journal → (c : List ℕ) → leaves journal.device (moment journal.device) c → IsLogOf c m
  leaves_log m journal keeps c left = subst (λ (l : List ℕ). IsLogOf l m) (sym (keeps.durable c left)) keeps.log

  pub keeps_room : (m : ℕ → Option ℕ) (journal : Journal D) → HasRoom (seen journal.device) journal.salt journal.end journal.size m
      → Only (seen journal.device) (leaves journal.device (moment journal.device)) → KeepsMap seen moment leaves m journal
  keeps_room m journal r only = record { log = log_of_room (seen journal.device) journal.salt journal.end journal.size m r; durable = only; room = λ some. r }
