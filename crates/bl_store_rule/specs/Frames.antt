-- What the words of the table show: the pages of the store's user, by frames, stamps and times.
-- Each frame has one state, and every other fact is a look-up in these states. So no two pages name one frame, and nobody reads a frame that is not written.
use Rattle.std.specs.Prelude.{None, ◌≡◌, ◌≢◌, ◌⊎◌, ℕ, ◌+◌, ◌*◌, ◌<◌, ◌≤◌, List, [], ◌∷◌, length, replicate, slice_index}
use mathlib.Core.Option.{some}
use lib.ListN.{get_elem?}
use native.Mathlib.Nat.{le_refl, le-add_right}
use Rattle.atomic_table.specs.Table.{State}
use Rattle.bl_layout.specs.declared.layout.Layout.{Layout}
use Rattle.bl_layout.specs.Words.{frame_count}
use Rattle.bl_layout.specs.Cells.{front, behind, cell_count}
use Rattle.bl_store_rule.specs.Pages.{Owner, Released, Open, Held, Retired, Stage, Idle, Running, Pages, Stands, IsOrderly}
use Rattle.bl_store_rule.specs.declared.view.View.{View}
use Rattle.bl_store_rule.specs.declared.view.Joined.{Joined}
use Rattle.bl_store_rule.specs.declared.view.Stamp.{Stamp}
use Rattle.bl_store_rule.specs.declared.view.Stamp.TheVariants.{Out, Clocked, In}
use Rattle.bl_store_rule.specs.declared.view.Reading.{Reading}
use Rattle.bl_store_rule.specs.declared.view.Reading.TheVariants.{Nowhere, At}
use Rattle.bl_store_rule.specs.declared.view.Draft.{Draft}
use Rattle.bl_store_rule.specs.declared.view.Look.{Look}
use Rattle.bl_store_rule.specs.declared.view.Dropping.{Dropping}
use Rattle.bl_store_rule.specs.declared.view.Dropping.TheVariants.{Empty, Dropped, Timed}
use Rattle.bl_store_rule.specs.declared.view.Sealing.{Sealing}
use Rattle.bl_store_rule.specs.declared.view.Sealing.TheVariants.{Unsealed, Sealed}
use Rattle.bl_store_rule.specs.declared.view.Sweep.{Sweep}
use Rattle.bl_store_rule.specs.declared.view.Sweep.TheVariants.{Still, Over}

-- the cells of the words, as the layout has them
abbrev pub process_at : Layout → ℕ → ℕ
process_at l q = behind l + 16 * (1 + q)

abbrev pub page_at : Layout → ℕ → ℕ
page_at l x = front l + x

abbrev pub owner_at : Layout → ℕ → ℕ
owner_at l x = front l + l.pages + x

abbrev pub state_at : Layout → ℕ → ℕ
state_at l f = front l + 2 * l.pages + f

abbrev pub place_at : Layout → ℕ → ℕ → ℕ
place_at l f k = front l + 2 * l.pages + frame_count l + 32 * f + k

-- What a frame with words is used for: reserved by the hand q as the k-th of its stock, the contents of the page x since its put of that number, taken from
-- a page by the hand q, the same since the hand drew the time t, or retired at t.
pub data Use : Type 0 where
  drafted : ℕ → ℕ → Use
  shown : ℕ → ℕ → Use
  dropped : ℕ → Use
  timed : ℕ → ℕ → Use
  retired : ℕ → Use

pub data Frame : Type 0 where
  free : Frame
  used : Use → List ℕ → Frame

-- a word that says that some hand has it
abbrev pub IsTaken : ℕ → Type 0
IsTaken n = (q : ℕ) × (n ≡ 4 * q + 2)

abbrev pub StateIs : ℕ → Use → Type 0
StateIs n (drafted q k) = n ≡ 4 * q + 2
StateIs n (shown x v) = IsTaken n
StateIs n (dropped q) = IsTaken n
StateIs n (timed q t) = IsTaken n
StateIs n (retired t) = n ≡ 4 * t + 3

abbrev pub Full : Use → List ℕ → Type 0
Full (drafted q k) xs = Unit {0}
Full (shown x v) xs = length xs ≡ 32
Full (dropped q) xs = length xs ≡ 32
Full (timed q t) xs = length xs ≡ 32
Full (retired t) xs = length xs ≡ 32

abbrev pub FrameIs : Layout → List ℕ → ℕ → Frame → Type 0
FrameIs l ws f free = slice_index ws (state_at l f) ≡ 0
FrameIs l ws f (used u xs) =
    StateIs (slice_index ws (state_at l f)) u × Full u xs × (length xs ≤ 32) × ((k : ℕ) → k < length xs → slice_index ws (place_at l f k) ≡ slice_index xs k)

-- The page x has these words since its put of number v, where its word is n. A page that was never put has zeros.
abbrev pub PageIs : List Frame → ℕ → ℕ → ℕ → List ℕ → Type 0
PageIs fs x v n xs = ((n ≡ 0) × (xs ≡ replicate 32 0)) ⊎ ((f : ℕ) × (n ≡ f + 1) × (get_elem? fs f ≡ some (used (shown x v) xs)))

-- A page that is retired may still have the owner word of the hand that retired it.
abbrev pub OwnerIs : ℕ → Owner → Type 0
OwnerIs n Released = n ≡ 0
OwnerIs n Open = n ≡ 1
OwnerIs n (Held q) = n ≡ 4 * q + 2
OwnerIs n (Retired t) = (n ≡ 4 * t + 3) ⊎ IsTaken n

-- the word of a process that began at b is at most b + 1
abbrev pub ProcessIs : ℕ → Stage → Type 0
ProcessIs n Idle = n ≡ 0
ProcessIs n (Running b) = (0 < n) × (n ≤ b + 1)

abbrev pub stage_of : Stamp → Stage
stage_of Out = Idle
stage_of (Clocked c) = Idle
stage_of (In b) = Running b

abbrev pub IsRead : ℕ → Stamp → Type 0
IsRead clock Out = Unit {0}
IsRead clock (Clocked c) = c ≤ clock
IsRead clock (In b) = Unit {0}

-- a hand whose process began at b may read such a frame, which it saw as the contents of the page x since its put of number v: it is
-- that still, or will not be given back before the process ends
abbrev pub MayRead : ℕ → ℕ → ℕ → Use → Type 0
MayRead b x v (drafted q k) = ⊥
MayRead b x v (shown y w) = (y ≡ x) × (w ≡ v)
MayRead b x v (dropped q) = Unit {0}
MayRead b x v (timed q t) = b ≤ t
MayRead b x v (retired t) = b ≤ t

abbrev pub ReadableAs : List Frame → ℕ → ℕ → ℕ → ℕ → List ℕ → Type 0
ReadableAs fs b x v f xs = (u : Use) × (get_elem? fs f ≡ some (used u xs)) × MayRead b x v u

abbrev pub Readable : List Frame → ℕ → ℕ → List ℕ → Type 0
Readable fs b f xs = (x : ℕ) × (v : ℕ) × ReadableAs fs b x v f xs

abbrev pub Reads : List Frame → Stamp → Reading → Type 0
Reads fs st Nowhere = Unit {0}
Reads fs st (At f xs) = (b : ℕ) × (st ≡ In b) × Readable fs b f xs

-- each of these frames is one that the hand saw as the contents of that page since that put, and may read
abbrev pub AreKept : List Frame → Stamp → List Look → Type 0
AreKept fs st [] = Unit {0}
AreKept fs st (k ∷ ks) = ((b : ℕ) × (st ≡ In b) × (xs : List ℕ) × ReadableAs fs b k.page k.version k.frame xs) × AreKept fs st ks

abbrev pub Stocks : List Frame → ℕ → List Draft → Type 0
Stocks fs q [] = Unit {0}
Stocks fs q (d ∷ ds) = (get_elem? fs d.frame ≡ some (used (drafted q (length ds)) d.words)) × Stocks fs q ds

abbrev pub Drops : List Frame → ℕ → Dropping → Type 0
Drops fs q Empty = Unit {0}
Drops fs q (Dropped f) = (xs : List ℕ) × (get_elem? fs f ≡ some (used (dropped q) xs))
Drops fs q (Timed f t) = (xs : List ℕ) × (get_elem? fs f ≡ some (used (timed q t) xs))

abbrev pub Seals : Layout → List ℕ → List Owner → ℕ → Sealing → Type 0
Seals l ws os q Unsealed = Unit {0}
Seals l ws os q (Sealed x t) = (slice_index ws (owner_at l x) ≡ 4 * q + 2) × (get_elem? os x ≡ some (Retired t))

-- the smallest store
abbrev pub smallest : Layout
smallest = record { pages = 4; passes = 1; spare = 12; spare_within = (le-add_right 1 11, le-add_right 12 536870900); pages_within = (le_refl 4, le-add_right 4 268435452); passes_within = (le_refl 1, le-add_right 1 63) }

module _ {D : Type 0} where
  -- each hand with a number below k is idle, or began its process at m or later
  pub record Swept (s : Pages D) (m k : ℕ) : Type 0 where
    pub past : m ≤ s.clock
    pub later : (n b : ℕ) (d : D) → Stands s n (Running b) d → n < k → m ≤ b

  abbrev pub SweepIs : Pages D → Sweep → Type 0
  SweepIs s Still = Unit {0}
  SweepIs s (Over m k) = Swept s m k

  -- a hand that another has taken in is outside a process, knows what it knew, and has no tick left
  abbrev pub IsTakenIn : Pages D → List ℕ → Joined D → Type 0
  IsTakenIn s bs j = Stands s j.number Idle j.known × (get_elem? bs j.number ≡ some 0)

  -- the seat has a hand of its own
  abbrev pub IsLive : View D → Type 0
  IsLive v = v.number < v.layout.passes

  -- what a seat with a hand knows of the pages, frames and ticks left
  pub record Knows (l : Layout) (first : D) (ws : List ℕ) (s : Pages D) (fs : List Frame) (bs : List ℕ) (v : View D) : Type 0 where
    pub layout : v.layout ≡ l
    pub counted : v.number < v.upto
    pub dealt : v.upto ≤ l.passes
    pub stands : Stands s v.number (stage_of v.stamp) v.known
    pub undealt : (k : ℕ) → v.number < k → k < v.upto → Stands s k Idle first × (get_elem? bs k ≡ some 0)
    pub clocked : IsRead s.clock v.stamp
    pub reads : Reads fs v.stamp v.reading × AreKept fs v.stamp v.kept
    pub stocks : Stocks fs v.number v.stock
    pub drops : Drops fs v.number v.dropping
    pub seals : Seals l ws s.owners v.number v.sealing
    pub sweeps : SweepIs s v.sweep
    pub budget : get_elem? bs v.number ≡ some (v.puts + v.retires)
    pub joined : (k : ℕ) (j : Joined D) → get_elem? v.joined k ≡ some j → IsTakenIn s bs j

  -- what a hand knows that has done nothing, has the number n, and deals out the numbers from the next one up to m
  abbrev pub share : Layout → D → ℕ → ℕ → View D
  share l d n m = record {
    layout = l;
    number = n;
    upto = m;
    stamp = Out;
    reading = Nowhere;
    kept = [];
    stock = [];
    dropping = Empty;
    sealing = Unsealed;
    sweep = Still;
    puts = 0;
    retires = 0;
    releases = 0;
    seen = [];
    got = [];
    refused = None;
    known = d;
    joined = [];
  }

  abbrev pub joined : ℕ → D → Joined D
  joined n d = record { number = n; known = d }

  abbrev pub others : List (Joined D) → List (Joined D)
  others [] = []
  others (g ∷ gs) = gs

  abbrev pub last_of : View D → List (Joined D) → View D
  last_of v [] = v
  last_of v (g ∷ gs) = share v.layout g.known g.number (g.number + 1)

  -- how such a hand is cut in two
  abbrev pub own_share : View D → View D
  own_share v = record v { upto = v.number + 1 }

  abbrev pub next_share : View D → View D
  next_share v = record v { number = v.number + 1 }

  -- what a seat knows that has given its hand to another: its number is no hand's
  abbrev pub spent_view : D → View D
  spent_view d = record {
    layout = smallest;
    number = 1;
    upto = 0;
    stamp = Out;
    reading = Nowhere;
    kept = [];
    stock = [];
    dropping = Empty;
    sealing = Unsealed;
    sweep = Still;
    puts = 0;
    retires = 0;
    releases = 0;
    seen = [];
    got = [];
    refused = None;
    known = d;
    joined = [];
  }

  -- and one that has no hand yet
  abbrev pub without_hand : View D → View D
  without_hand v = record v { number = v.layout.passes; sealing = Unsealed; joined = [] }

  -- a hand is taken in by another
  abbrev pub taking_in : View D → View D → View D
  taking_in v w = record v { joined = joined w.number w.known ∷ v.joined }

  -- and the one that was taken in last is given back, with nothing reserved
  abbrev pub giving_back : View D → View D
  giving_back v = record v { joined = others v.joined }

  abbrev pub given_back : View D → View D
  given_back v = last_of v v.joined

  abbrev pub starting : Layout → D → View D
  starting l d = share l d 0 l.passes

abbrev pub total_of : List ℕ → ℕ
total_of [] = 0
total_of (n ∷ ns) = n + total_of ns

-- Each hand has at most four ticks left, and the clock with all of them stays below a bound.
pub record Budgeted (passes clock : ℕ) (bs : List ℕ) : Type 0 where
  pub count : length bs ≡ passes
  pub small : (q b : ℕ) → get_elem? bs q ≡ some b → b ≤ 4
  pub total : clock + total_of bs ≤ 1152921504606846976 + 4 * passes

-- what the words show of the pages and frames
pub record Shows {D : Type 0} (l : Layout) (ws : List ℕ) (s : Pages D) (fs : List Frame) : Type 0 where
  pub wide : length ws ≡ cell_count l
  pub frame_total : length fs ≡ frame_count l
  pub clock : slice_index ws 0 ≡ s.clock
  pub process : (q : ℕ) (st : Stage) (d : D) → q < l.passes → Stands s q st d → ProcessIs (slice_index ws (process_at l q)) st
  pub page : (x v : ℕ) (xs : List ℕ) → get_elem? s.contents x ≡ some xs → get_elem? s.versions x ≡ some v → PageIs fs x v (slice_index ws (page_at l x)) xs
  pub owner : (x : ℕ) (o : Owner) → get_elem? s.owners x ≡ some o → OwnerIs (slice_index ws (owner_at l x)) o
  pub frame : (f : ℕ) (st : Frame) → get_elem? fs f ≡ some st → FrameIs l ws f st

-- Two seats with hands have and deal out other numbers, and no hand that is taken in has any of them, or the number of another that is taken in.
pub record IsApart {D : Type 0} (vs : List (View D)) : Type 0 where
  pub hands : (i j : ℕ) (v w : View D) → get_elem? vs i ≡ some v → get_elem? vs j ≡ some w → IsLive v → IsLive w → i ≢ j
      → (v.upto ≤ w.number) ⊎ (w.upto ≤ v.number)
  pub joined : (i j : ℕ) (v w : View D) → get_elem? vs i ≡ some v → get_elem? vs j ≡ some w → IsLive v → IsLive w → (k : ℕ) (h : Joined D)
      → get_elem? v.joined k ≡ some h → (h.number < w.number) ⊎ (w.upto ≤ h.number)
  pub taken : (i j : ℕ) (v w : View D) → get_elem? vs i ≡ some v → get_elem? vs j ≡ some w → IsLive v → IsLive w → (k m : ℕ) (g h : Joined D)
      → get_elem? v.joined k ≡ some g → get_elem? w.joined m ≡ some h → (i ≢ j) ⊎ (k ≢ m) → g.number ≢ h.number

-- The owner word of a retired page shows it, or a hand has retired it just now.
abbrev pub IsSealing : {D : Type 0} → Layout → List ℕ → List Owner → List (View D) → Type 0
IsSealing l ws os vs = (x t : ℕ) → get_elem? os x ≡ some (Retired t) → (slice_index ws (owner_at l x) ≡ 4 * t + 3)
    ⊎ ((j : ℕ) × (v : View _) × (get_elem? vs j ≡ some v) × IsLive v × (v.sealing ≡ Sealed x t))

pub record Kept {S D : Type 0} (l : Layout) (first : D) (holds : Pages D → Type 0) (st : State S (View D)) : Type 0 where
  pub pages : Pages D
  pub frames : List Frame
  pub budgets : List ℕ
  pub orderly : IsOrderly l pages
  pub shows : Shows l st.words pages frames
  pub budgeted : Budgeted l.passes pages.clock budgets
  pub seats : (j : ℕ) (v : View D) → get_elem? st.views j ≡ some v → IsLive v → Knows l first st.words pages frames budgets v
  pub apart : IsApart st.views
  pub sealing : IsSealing l st.words pages.owners st.views
  pub kept : holds pages
