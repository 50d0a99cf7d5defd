-- A deletion that is stopped.
use Rattle.std.specs.Prelude.{ℕ}
use Rattle.bl_model.specs.declared.deciding.KeyWrite.TheVariants.{Delete}
use Rattle.bl_proc_steps.specs.declared.approach.Approach.TheVariants.{Latched}
use Rattle.bl_proc_writes.specs.declared.writing.WriteStage.TheVariants.{Coming}
use Rattle.bl_store.specs.declared.store.Glance.{Glance}
use Rattle.bl_store.specs.declared.store.Hand.{Hand}
use Rattle.bl_store.specs.Hands.{known, read_words, HasNoStock, ReadsFrom}
use Rattle.bl_index_rule.specs.declared.known.PassState.{PassState}
use Rattle.bl_index_events.specs.declared.tree.Tree.{Tree}
use Rattle.bl_index_events.specs.Runs.{Runs}
use Rattle.bl_index_descend.specs.Events.{IsThere}
use Rattle.bl_index_write.specs.Events.{writing}

-- The hand runs a deletion of that key, which holds page at and got it last, as its leaf.
pub record IsHeld (tree : Tree) (hand : Hand PassState) (key at : ℕ) (glance : Glance) : Type 0 where
  pub runs : Runs tree hand (known hand.seat).state
  pub empty : HasNoStock hand.seat
  pub reads : ReadsFrom hand.seat glance
  pub there : IsThere 0 key (writing key Delete (Coming (Latched at))) (read_words hand.seat) (known hand.seat)
