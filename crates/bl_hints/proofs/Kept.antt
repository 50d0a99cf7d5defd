-- A queue whose hints all have a property, and of which no pass knows anything.
use Rattle.std.specs.Prelude.{ℕ, List, ⊤}
use Rattle.std.specs.List.{All}
use Rattle.std.proofs.lemmas.List.Elements.{All-head, All-tail}
use Rattle.bl_answers.specs.declared.answers.Hint.{Hint}
use Rattle.crossbeam_queue.specs.Fifo.{Pops}

pub pops : (P : Hint → Type 0) (pass : ℕ) (v : ⊤) → Pops (λ items (views : List ⊤). All P items) pass v (λ x w. P x)
pops P pass v x items views all at = (tt, All-tail P x items all, All-head P x items all)
