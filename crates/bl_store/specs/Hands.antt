-- What a caller sees of a hand.
use Rattle.std.specs.Prelude.{Option, None, Some, ◌≡◌, ◌⊎◌, ℕ, zero, suc, ◌<◌, ◌≤◌, List, [], ◌∷◌, length, replicate, slice_index}
use Rattle.atomic_table.specs.Seated.{TableId}
use Rattle.atomic_table.specs.declared.shared.Seat.{Seat}
use Rattle.bl_layout.specs.declared.layout.Layout.{Layout}
use Rattle.bl_layout.specs.Words.{frame_count}
use Rattle.bl_store_rule.specs.Frames.{owner_at, state_at, place_at}
use mathlib.Core.Option.{some}
use lib.ListN.{get_elem?}
use Rattle.bl_store_rule.specs.Observed.{draft, look, KeepsRefusal}
use Rattle.bl_store.specs.declared.stock.Stock.{Stock}
use Rattle.bl_store.specs.declared.stock.NoRoom.{NoRoom}
use Rattle.bl_store.specs.declared.stock.NoRoom.TheVariants.{Pages, Frames, Clock}
use Rattle.bl_store.specs.declared.store.Glance.{Glance}
use Rattle.bl_store_rule.specs.declared.view.Draft.{Draft}
use Rattle.bl_store_rule.specs.declared.view.Dropping.TheVariants.{Empty}
use Rattle.bl_store_rule.specs.declared.view.Reading.{Reading}
use Rattle.bl_store_rule.specs.declared.view.Reading.TheVariants.{Nowhere, At}
use Rattle.bl_store_rule.specs.declared.view.View.{View}
use Rattle.bl_store_rule.specs.declared.view.Stamp.TheVariants.{Out, In}

-- the number is in the list
abbrev pub Has : List ℕ → ℕ → Type 0
Has [] x = ⊥
Has (y ∷ ys) x = (x ≡ y) ⊎ Has ys x

-- the first n of these frames, the last one first, with nothing written
abbrev pub drafts : List ℕ → ℕ → List Draft
drafts fs zero = []
drafts fs (suc n) = draft (slice_index fs n) [] ∷ drafts fs n

-- the words of the frame that is read
abbrev pub words_in : Reading → List ℕ
words_in Nowhere = []
words_in (At f xs) = xs

-- these are 32 words of the table, from `first` on
abbrev pub BeginsAt : Layout → ℕ → Reading → Type 0
BeginsAt l first reading = (f : ℕ) × (reading ≡ At f (words_in reading)) × (f < frame_count l) × (length (words_in reading) ≡ 32) × (first ≡ place_at l f 0)

-- both are of one look
abbrev pub IsSameLook : Glance → Glance → Type 0
IsSameLook glance glance' = glance'.first ≡ glance.first

-- Why a reservation of so many pages and frames is refused by a hand that saw these words taken and got these frames: it saw
-- each page from 1 upward taken; or it got fewer frames than it asked for, and saw each other one taken; or it saw the clock,
-- which is word 0, at its end.
abbrev pub IsWhyOf : Layout → List ℕ → List ℕ → ℕ → ℕ → NoRoom → Type 0
IsWhyOf l seen got pages frames Pages = (pages ≡ 1) × ((x : ℕ) → 0 < x → x < l.pages → Has seen (owner_at l x))
IsWhyOf l seen got pages frames Frames = (length got < frames) × ((f : ℕ) → f < frame_count l → Has got f ⊎ Has seen (state_at l f))
IsWhyOf l seen got pages frames Clock = Has seen 0

module _ {D : Type 0} where
  -- what the hand knows
  abbrev pub known : Seat (Unit {0}) (View D) → D
  known h = h.me.0.known

  abbrev pub number_of : Seat (Unit {0}) (View D) → ℕ
  number_of h = h.me.0.number

  -- a hand of the store that has this table and this layout
  abbrev pub IsOf : TableId → Layout → Seat (Unit {0}) (View D) → Type 0
  IsOf t l h = (h.table_id ≡ t) × (h.me.0.layout ≡ l)

  -- the hand is outside a process
  abbrev pub IsIdle : Seat (Unit {0}) (View D) → Type 0
  IsIdle h = h.me.0.stamp ≡ Out

  -- the hand is in a process
  abbrev pub IsRunning : Seat (Unit {0}) (View D) → Type 0
  IsRunning h = (b : ℕ) × (h.me.0.stamp ≡ In b)

  -- the same hand of the same store
  abbrev pub IsSameHand : Seat (Unit {0}) (View D) → Seat (Unit {0}) (View D) → Type 0
  IsSameHand h h' = (h'.table_id ≡ h.table_id) × (h'.me.0.layout ≡ h.me.0.layout) × (h'.me.0.number ≡ h.me.0.number)

  -- it goes on with its process, or stays outside one
  abbrev pub IsSameStamp : Seat (Unit {0}) (View D) → Seat (Unit {0}) (View D) → Type 0
  IsSameStamp h h' = h'.me.0.stamp ≡ h.me.0.stamp

  -- the same frames are reserved, with leave for as many puts and retirements
  abbrev pub IsSameStock : Seat (Unit {0}) (View D) → Seat (Unit {0}) (View D) → Type 0
  IsSameStock h h' = (h'.me.0.stock ≡ h.me.0.stock) × (h'.me.0.puts ≡ h.me.0.puts) × (h'.me.0.retires ≡ h.me.0.retires)

  -- the words of the page that the hand looked at last
  abbrev pub read_words : Seat (Unit {0}) (View D) → List ℕ
  read_words h = words_in h.me.0.reading

  -- the hand looked nowhere else since
  abbrev pub IsSameReading : Seat (Unit {0}) (View D) → Seat (Unit {0}) (View D) → Type 0
  IsSameReading h h' = h'.me.0.reading ≡ h.me.0.reading

  -- the hand looked there last
  abbrev pub ReadsFrom : Seat (Unit {0}) (View D) → Glance → Type 0
  ReadsFrom h glance = BeginsAt h.me.0.layout glance.first h.me.0.reading

  -- what a look at a page with these words gives
  abbrev pub HasSeen : Option Glance → Seat (Unit {0}) (View D) → List ℕ → Type 0
  HasSeen None h words = words ≡ replicate 32 0
  HasSeen (Some glance) h words = ReadsFrom h glance × (words ≡ read_words h)

  -- the hand keeps in mind that it looked there at the page, which was put so often
  abbrev pub Keeps : Seat (Unit {0}) (View D) → ℕ → ℕ → Glance → Type 0
  Keeps h page version glance = (k : ℕ) × (f : ℕ) × (get_elem? h.me.0.kept k ≡ some (look page f version)) × (glance.first ≡ place_at h.me.0.layout f 0)

  -- it does so from now on, and keeps all else that it kept
  abbrev pub KeepsNow : Seat (Unit {0}) (View D) → Seat (Unit {0}) (View D) → ℕ → ℕ → Glance → Type 0
  KeepsNow h h' page version glance = (f : ℕ) × (h'.me.0.kept ≡ look page f version ∷ h.me.0.kept) × (glance.first ≡ place_at h.me.0.layout f 0)

  -- the hand has nothing reserved
  abbrev pub HasNoStock : Seat (Unit {0}) (View D) → Type 0
  HasNoStock h = h.me.0.stock ≡ []

  -- no frame that the hand took from a page waits to be retired
  abbrev pub HasRetired : Seat (Unit {0}) (View D) → Type 0
  HasRetired h = h.me.0.dropping ≡ Empty

  -- the stock is what this hand has reserved
  pub record IsStockOf (h : Seat (Unit {0}) (View D)) (stock : Stock) : Type 0 where
    pub frames : h.me.0.stock ≡ drafts stock.frames stock.count
    pub ticks : stock.count ≤ h.me.0.puts
    pub few : stock.count ≤ 3
    pub within : (k : ℕ) → k < stock.count → slice_index stock.frames k < frame_count h.me.0.layout

  -- the hand has leave to retire one page
  abbrev pub MayRetire : Seat (Unit {0}) (View D) → Type 0
  MayRetire h = h.me.0.retires ≡ 1

  -- since its last reservation began, the hand saw the word taken
  abbrev pub SawTaken : Seat (Unit {0}) (View D) → ℕ → Type 0
  SawTaken h i = Has h.me.0.seen i

  -- the frame is one that its last reservation got, or was seen taken
  abbrev pub IsTried : Seat (Unit {0}) (View D) → ℕ → Type 0
  IsTried h f = Has h.me.0.got f ⊎ SawTaken h (state_at h.me.0.layout f)

  -- why it was refused, by what the hand saw and got
  abbrev pub IsWhy : Seat (Unit {0}) (View D) → ℕ → ℕ → NoRoom → Type 0
  IsWhy h = IsWhyOf h.me.0.layout h.me.0.seen h.me.0.got

  -- since the hand's process began, a reservation of so many pages and frames was refused, by what the hand saw, and none has
  -- been since
  abbrev pub WasRefused : Seat (Unit {0}) (View D) → ℕ → ℕ → Type 0
  WasRefused h pages frames = (h.me.0.refused ≡ Some (record { pages = pages; frames = frames }))
      × ((why : NoRoom) × IsWhyOf h.me.0.layout h.me.0.seen h.me.0.got pages frames why)

  -- the hand has not reserved since, so what it was refused, and why, is as before
  abbrev pub IsSameRefusal : Seat (Unit {0}) (View D) → Seat (Unit {0}) (View D) → Type 0
  IsSameRefusal h h' = (h'.me.0.layout ≡ h.me.0.layout) × KeepsRefusal h.me.0 h'.me.0

  -- all but the stock and what it saw taken is as before
  abbrev pub IsQuiet : Seat (Unit {0}) (View D) → Seat (Unit {0}) (View D) → Type 0
  IsQuiet h h' = (h'.table_id ≡ h.table_id) × (h'.me.0.layout ≡ h.me.0.layout) × (h'.me.0.number ≡ h.me.0.number) × (h'.me.0.stamp ≡ h.me.0.stamp)
      × (h'.me.0.known ≡ h.me.0.known) × (h'.me.0.puts ≡ h.me.0.puts) × (h'.me.0.retires ≡ h.me.0.retires)
