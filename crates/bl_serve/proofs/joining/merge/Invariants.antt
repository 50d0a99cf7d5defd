use Rattle.std.proofs.Common.{◌≡◌, ◌++◌, ℕ, List, length, take}
use Rattle.std.specs.Prelude.{All}
use Rattle.bl_serve_worker.specs.Answering.{joined_text}
use Rattle.bl_serve.specs.Joining.{IsOutputOf}
use Rattle.bl_serve.proofs.Merging.{Joins}
use Rattle.bl_serve.proofs.joining.merge.Given as goal

abbrev pub invariant-loop-place : goal.invariant-loop-place
invariant-loop-place l = record {
  joins : Joins l.deals l.outputs l.joined.items l.place;
  text : (texts : List (List ℕ)) → length texts ≡ length l.deals → All (IsOutputOf l.deals texts) l.outputs → l.text.items ≡ l.fn.text.items ++ joined_text (take l.place texts);
}
