-- Processes that search.
use Rattle.bl_proc.specs.declared.kinds.Proc.{Proc}
use Rattle.bl_proc.specs.declared.kinds.Proc.TheVariants as proc
use Rattle.bl_proc_bounds.specs.Paces.{Place, place_of}
use Rattle.bl_proc_bounds.specs.Paces.Place.{Nowhere, Before, Trying, Going, After}

-- a search for a key, or a part
abbrev pub IsSearch : Proc → Type 0
IsSearch (proc.Find p) = Unit {0}
IsSearch (proc.Write p) = ⊥
IsSearch (proc.Post p) = ⊥
IsSearch (proc.Part p) = Unit {0}
IsSearch (proc.Compress p) = ⊥
IsSearch (proc.Reclaim p) = ⊥
IsSearch (proc.Lower p) = ⊥
IsSearch (proc.InsertPost p) = ⊥

abbrev pub IsGoing : Place → Type 0
IsGoing Nowhere = ⊥
IsGoing Before = ⊥
IsGoing (Trying x) = Unit {0}
IsGoing (Going d) = Unit {0}
IsGoing After = ⊥

-- one that is to get a page next
abbrev pub IsUnderWay : Proc → Type 0
IsUnderWay p = IsGoing (place_of p)
