-- One ordered map: what an operation may answer, and the map after it.
use Rattle.std.specs.Prelude.{◌≡◌, ◌≢◌, ℕ, ◌≤◌, ◌<◌, ◌↔◌, List, reverse, Contains, Option, None, Some, IsSome, if◌then◌else◌, ◌==◌}
use Rattle.bl_model.specs.declared.operation.Op.{Op}
use Rattle.bl_model.specs.declared.operation.Op.TheVariants.{Find, Insert, Put, Delete, Change, Part, PartDown}
use Rattle.bl_model.specs.declared.operation.Next.{Next}
use Rattle.bl_model.specs.declared.operation.Next.TheVariants.{More, End}
use Rattle.bl_model.specs.declared.operation.Reply.{Reply}
use Rattle.bl_model.specs.declared.operation.Reply.TheVariants.{Found, Absent, Inserted, Present, Replaced, Deleted, Changed, Differs, Rows, NoRoom}
use Rattle.bl_model.specs.Rows.{HasRisingKeys}

-- a map: the value at each key that it has
abbrev pub Map : Type 0
Map = ℕ → Option ℕ

-- the map with no key
abbrev pub empty : Map
empty key = None

-- m with the value at the key, in place of what it has there
abbrev pub with_pair : Map → ℕ → ℕ → Map
with_pair m key value j = if j == key then Some value else m j

-- m with nothing at the key
abbrev pub without_key : Map → ℕ → Map
without_key m key j = if j == key then None else m j

-- The two maps agree at every key; the same of what there is for each page or process.
abbrev pub SameMap : {X A : Type 0} → (X → A) → (X → A) → Type 0
SameMap m n = (key : _) → n key ≡ m key

-- The rows are the pairs of m whose keys are taken, in rising order of the keys.
pub record ListsPairs (m : Map) (Takes : ℕ → Type 0) (rows : List (ℕ × ℕ)) : Type 0 where
  pub rising : HasRisingKeys rows
  pub pairs : (key value : ℕ) → Contains rows (key, value) ↔ ((m key ≡ Some value) × Takes key)

-- A part of m from a key on: the pairs up to the key where the next part begins, which is a greater one, or all of them.
abbrev pub IsPart : Map → ℕ → List (ℕ × ℕ) → Next → Type 0
IsPart m from rows (More next) = (from < next) × ListsPairs m (λ key. (from ≤ key) × (key < next)) rows
IsPart m from rows End = ListsPairs m (λ key. from ≤ key) rows

-- A part of m from a key on downwards, in falling order: the pairs down to the key where the next part begins, which is a smaller one, or
-- all of them.
abbrev pub IsPartDown : Map → ℕ → List (ℕ × ℕ) → Next → Type 0
IsPartDown m from rows (More next) = (next < from) × ListsPairs m (λ key. (next < key) × (key ≤ from)) (reverse rows)
IsPartDown m from rows End = ListsPairs m (λ key. key ≤ from) (reverse rows)

-- On m, the operation may answer this.
abbrev pub MayAnswer : Map → Op → Reply → Type 0
MayAnswer m (Find key) (Found value) = m key ≡ Some value
MayAnswer m (Find key) Absent = m key ≡ None
MayAnswer m (Insert key value) Inserted = m key ≡ None
MayAnswer m (Insert key value) (Present there) = m key ≡ Some there
MayAnswer m (Insert key value) NoRoom = m key ≡ None
MayAnswer m (Put key value) Inserted = m key ≡ None
MayAnswer m (Put key value) (Replaced there) = m key ≡ Some there
MayAnswer m (Put key value) NoRoom = Unit {0}
MayAnswer m (Delete key) (Deleted value) = m key ≡ Some value
MayAnswer m (Delete key) Absent = m key ≡ None
MayAnswer m (Delete key) NoRoom = IsSome (m key)
MayAnswer m (Change key old new) Changed = m key ≡ Some old
MayAnswer m (Change key old new) (Differs there) = (m key ≡ Some there) × (there ≢ old)
MayAnswer m (Change key old new) Absent = m key ≡ None
MayAnswer m (Change key old new) NoRoom = m key ≡ Some old
MayAnswer m (Part from) (Rows rows next) = IsPart m from rows.items next
MayAnswer m (PartDown from) (Rows rows next) = IsPartDown m from rows.items next
-- no other reply is given
MayAnswer m op reply = ⊥

-- the map after the operation was answered like this: only Inserted, Replaced, Deleted and Changed change it
abbrev pub map_step : Op → Reply → Map → Map
map_step (Insert key value) Inserted m = with_pair m key value
map_step (Put key value) Inserted m = with_pair m key value
map_step (Put key value) (Replaced there) m = with_pair m key value
map_step (Delete key) (Deleted value) m = without_key m key
map_step (Change key old new) Changed m = with_pair m key new
map_step op reply m = m

-- From old, the operation may answer this, and it leaves new.
pub record IsMapStep (old : Map) (op : Op) (reply : Reply) (new : Map) : Type 0 where
  pub answer : MayAnswer old op reply
  pub after : SameMap (map_step op reply old) new
