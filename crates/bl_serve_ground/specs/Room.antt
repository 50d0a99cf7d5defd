-- An index that has room for insertions.
use Rattle.std.specs.Prelude.{◌≡◌, ◌+◌, ◌-◌, ◌/◌, ◌≤◌, ℕ, min, true}
use Rattle.bl_index.specs.declared.index.Index.{Index}
use Rattle.bl_index.specs.Calls.{pages_of}
use Rattle.bl_serve_ground.specs.declared.ground.Ground.{Ground}
use Rattle.bl_serve_ground.specs.declared.ground.Ground.TheVariants.{Lent, Own}
use Rattle.bl_serve_ground.specs.declared.ground.Limits.{Limits}
use Rattle.bl_serve_ground.specs.declared.sizing.Load.{Load}
use Rattle.bl_serve_ground.specs.declared.spare.Spare.{Spare}

-- So many leaves more there are at most behind so many insertions among so many deletions, where so many pages are used: each leaf may be full, and one
-- that was split is full again behind seven insertions at the earliest. Where deletions merge leaves meanwhile, their pages may be free again only later.
abbrev pub splits : ℕ → ℕ → ℕ → ℕ
splits insertions deletions used = min insertions (used + insertions / 7 + deletions / 7)

-- As they are counted, as many pages are free as leaves may be split; or there are as many pages as there may be; or memory for more was refused.
pub data HasRoomFor (load : Load) (limits : Limits) (index : Index) (spare : Spare) : Type 0 where
  Free : splits load.insertions load.deletions (pages_of index - spare.free) ≤ spare.free → HasRoomFor load limits index spare
  Most : limits.most ≤ pages_of index → HasRoomFor load limits index spare
  Refused : spare.is_refused ≡ true → HasRoomFor load limits index spare

-- an index of the server's own has room for such lines
abbrev pub IsReady : Load → Ground → Spare → Type 0
IsReady load (Lent index) spare = Unit {0}
IsReady load (Own index limits) spare = HasRoomFor load limits index spare
