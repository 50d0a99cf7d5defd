-- What a sweep leaves behind at its hand.
use Rattle.std.specs.Prelude.{◌≡◌, ◌+◌, ◌-◌, ◌^◌, min}
use Rattle.bl_store.specs.declared.store.Hand.{Hand}

module _ {D : Type 0} where
  -- no frame that the hand has retired came after its last sweep
  abbrev pub IsAllSwept : Hand D → Type 0
  IsAllSwept hand = hand.unswept ≡ 0

  -- It has swept once more, counted as far as the counter goes, and has retired no frame since.
  abbrev pub HasSweptOnce : Hand D → Hand D → Type 0
  HasSweptOnce old new = (new.sweeps ≡ min (old.sweeps + 1) (2 ^ 64 - 1)) × IsAllSwept new
