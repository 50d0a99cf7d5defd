-- Parts behind one another.
use Rattle.std.specs.Prelude.{◌≡◌, ℕ}
use Rattle.bl_proc_steps.specs.declared.descent.Descent.{Descent}
use Rattle.bl_proc.specs.declared.parts.Direction.{Direction}
use Rattle.bl_store.specs.Hands.{known}
use Rattle.bl_store.specs.declared.store.Hand.{Hand}
use Rattle.bl_index_rule.specs.declared.known.PassState.{PassState}
use Rattle.bl_index_events.specs.declared.tree.Tree.{Tree}
use Rattle.bl_index_events.specs.Runs.{Rests}
use Rattle.bl_index_read.specs.declared.leaf_rows.Behind.{Behind}
use Rattle.bl_index_read.specs.declared.leaf_rows.Behind.TheVariants.{Part, Nothing}
use Rattle.bl_index_read.specs.declared.sought.Sought.TheVariants.{Rows}
use Rattle.bl_index_read.specs.LeafWays.{HasSetOff}

-- The part at a leaf has ended, and the pass knew that then: the next one has set off, or the pass rests.
abbrev pub StandsBehind : Tree → Hand PassState → ℕ → Direction → Behind → Descent → PassState → Type 0
StandsBehind tree hand pass direction (Part from near) way ended = HasSetOff tree hand pass (Rows direction) from way ended
StandsBehind tree hand pass direction Nothing way ended = Rests hand.seat × (known hand.seat ≡ ended)
