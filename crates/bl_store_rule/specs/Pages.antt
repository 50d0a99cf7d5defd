-- The pages as a user of the store sees them, and what each call asks of the user's rule.
-- Each demand is of one shape: whatever the pages are when the event happens, if the rule holds of them and the hand n knows d,
-- then the event is one that may happen, and the hand can be given new data with which the rule holds after it.
use Rattle.std.specs.Prelude.{◌≡◌, ◌≢◌, ℕ, ◌+◌, ◌<◌, ◌≤◌, List, length, slice_set, slice_index}
use mathlib.Core.Option.{some}
use lib.ListN.{get_elem?}
use Rattle.bl_layout.specs.declared.layout.Layout.{Layout}

-- Who has a page: nobody, so that a hand may take it; anybody may latch it; the hand with that number; or it was retired at that time.
pub data Owner : Type 0 where
  Released : Owner
  Open : Owner
  Held : ℕ → Owner
  Retired : ℕ → Owner

-- A hand is outside a process, or in one that began at that time.
pub data Stage : Type 0 where
  Idle : Stage
  Running : ℕ → Stage

-- The words and the owner of each page, how often it was put, the time, and by number where each hand stands and what it knows.
pub record Pages (D : Type 0) : Type 0 where
  pub contents : List (List ℕ)
  pub owners : List Owner
  pub versions : List ℕ
  pub clock : ℕ
  pub hands : List (Stage × D)

module _ {D : Type 0} where
  -- the hand n stands there and knows d
  abbrev pub Stands : Pages D → ℕ → Stage → D → Type 0
  Stands s n st d = get_elem? s.hands n ≡ some (st, d)

  -- the page x has these words and this owner
  abbrev pub IsPage : Pages D → ℕ → List ℕ → Owner → Type 0
  IsPage s x words owner = (get_elem? s.contents x ≡ some words) × (get_elem? s.owners x ≡ some owner)

  -- the hand n stands there from now on and knows d
  abbrev pub observed : Pages D → ℕ → Stage → D → Pages D
  observed s n st d = record s { hands = slice_set s.hands n (st, d) }

  abbrev pub owned : Pages D → ℕ → Owner → Pages D
  owned s x owner = record s { owners = slice_set s.owners x owner }

  -- the page x was put so often
  abbrev pub HasVersion : Pages D → ℕ → ℕ → Type 0
  HasVersion s x v = get_elem? s.versions x ≡ some v

  -- the page x has these words, and that number of puts
  abbrev pub written_as : Pages D → ℕ → List ℕ → ℕ → Pages D
  written_as s x words version = record s { contents = slice_set s.contents x words; versions = slice_set s.versions x version }

  -- it was put once more
  abbrev pub written : Pages D → ℕ → List ℕ → Pages D
  written s x words = written_as s x words (slice_index s.versions x + 1)

  -- time has passed
  abbrev pub later : Pages D → Pages D
  later s = record s { clock = s.clock + 1 }

  -- There are as many pages and hands as the layout says, and each process that runs began by now.
  pub record IsOrderly (l : Layout) (s : Pages D) : Type 0 where
    pub contents : length s.contents ≡ l.pages
    pub owners : length s.owners ≡ l.pages
    pub versions : length s.versions ≡ l.pages
    pub hands : length s.hands ≡ l.passes
    pub begun : (n since : ℕ) (d : D) → Stands s n (Running since) d → since ≤ s.clock

  -- the hand n has no page
  abbrev pub HoldsNone : Pages D → ℕ → Type 0
  HoldsNone s n = (x : ℕ) → get_elem? s.owners x ≢ some (Held n)

  -- every process that runs began after that time
  abbrev pub AllBeganAfter : Pages D → ℕ → Type 0
  AllBeganAfter s time = (n since : ℕ) (d : D) → Stands s n (Running since) d → time < since

module _ {D : Type 0} (holds : Pages D → Type 0) (l : Layout) (n : ℕ) (d : D) where
  -- a process of the hand begins
  abbrev pub Begins : (D → ℕ → D → Type 0) → Type 0
  Begins then = (s : Pages D) → holds s → IsOrderly l s → Stands s n Idle d
      → (d' : D) × holds (observed s n (Running s.clock) d') × then d s.clock d'

  -- the hand's process ends, and has no page
  abbrev pub Ends : (D → ℕ → D → Type 0) → Type 0
  Ends then = (s : Pages D) (since : ℕ) → holds s → IsOrderly l s → Stands s n (Running since) d
      → HoldsNone s n × (d' : D) × holds (observed s n Idle d') × then d s.clock d'

  -- the page x, which is not released, is read
  abbrev pub Gets : ℕ → (D → ℕ → Owner → List ℕ → D → Type 0) → Type 0
  Gets x then = (s : Pages D) (since : ℕ) (words : List ℕ) (owner : Owner) → holds s → IsOrderly l s → Stands s n (Running since) d → IsPage s x words owner
      → (owner ≢ Released) × (d' : D) × holds (observed s n (Running since) d') × then d x owner words d'

  -- the same, and the hand is told how often it was put
  abbrev pub GetsAs : ℕ → (D → ℕ → ℕ → Owner → List ℕ → D → Type 0) → Type 0
  GetsAs x then = (s : Pages D) (since version : ℕ) (words : List ℕ) (owner : Owner) → holds s → IsOrderly l s → Stands s n (Running since) d → IsPage s x words owner
      → HasVersion s x version → (owner ≢ Released) × (d' : D) × holds (observed s n (Running since) d') × then d x version owner words d'

  -- a process of the hand ends, and has no page, and the next one begins, for which the time of the first one counts: what was swapped out
  -- since then is not given back
  abbrev pub Relays : (D → ℕ → D → Type 0) → Type 0
  Relays then = (s : Pages D) (since : ℕ) → holds s → IsOrderly l s → Stands s n (Running since) d
      → HoldsNone s n × (d' : D) × holds (observed s n (Running since) d') × then d s.clock d'

  -- what follows from the rule, for what the hand knows, where the page x was put so often: nothing happens
  abbrev pub Implies : ℕ → ℕ → (D → ℕ → ℕ → Type 0) → Type 0
  Implies x version tells = (s : Pages D) (st : Stage) → holds s → IsOrderly l s → Stands s n st d → HasVersion s x version → tells d x version

  -- the page x, which the hand holds, becomes `new`
  abbrev pub Puts : ℕ → List ℕ → (D → ℕ → Owner → List ℕ → D → Type 0) → Type 0
  Puts x new then = (s : Pages D) (st : Stage) (words : List ℕ) (owner : Owner) → holds s → IsOrderly l s → Stands s n st d → IsPage s x words owner
      → (owner ≡ Held n) × (d' : D) × holds (observed (written s x new) n st d') × then d x owner words d'

  -- the page x, which was released, is the hand's
  abbrev pub Takes : ℕ → (D → ℕ → Owner → List ℕ → D → Type 0) → Type 0
  Takes x then = (s : Pages D) (st : Stage) (words : List ℕ) → holds s → IsOrderly l s → Stands s n st d → IsPage s x words Released
      → (d' : D) × holds (observed (owned s x (Held n)) n st d') × then d x Released words d'

  -- the page x, which was open, is the hand's
  abbrev pub Latches : ℕ → (D → ℕ → Owner → List ℕ → D → Type 0) → Type 0
  Latches x then = (s : Pages D) (st : Stage) (words : List ℕ) → holds s → IsOrderly l s → Stands s n st d → IsPage s x words Open
      → (d' : D) × holds (observed (owned s x (Held n)) n st d') × then d x Open words d'

  -- the latch of the page x, which was not open, is missed
  abbrev pub Misses : ℕ → (D → ℕ → Owner → List ℕ → D → Type 0) → Type 0
  Misses x then = (s : Pages D) (st : Stage) (words : List ℕ) (owner : Owner) → holds s → IsOrderly l s → Stands s n st d → IsPage s x words owner
      → owner ≢ Open
      → (d' : D) × holds (observed s n st d') × then d x owner words d'

  -- the page x is looked at, whether it is open
  abbrev pub Probes : ℕ → (D → ℕ → Owner → List ℕ → D → Type 0) → Type 0
  Probes x then = (s : Pages D) (st : Stage) (words : List ℕ) (owner : Owner) → holds s → IsOrderly l s → Stands s n st d → IsPage s x words owner
      → (d' : D) × holds (observed s n st d') × then d x owner words d'

  -- the page x, which the hand holds, is open
  abbrev pub Opens : ℕ → (D → ℕ → Owner → List ℕ → D → Type 0) → Type 0
  Opens x then = (s : Pages D) (st : Stage) (words : List ℕ) (owner : Owner) → holds s → IsOrderly l s → Stands s n st d → IsPage s x words owner
      → (owner ≡ Held n) × (d' : D) × holds (observed (owned s x Open) n st d') × then d x owner words d'

  -- the page x, which the hand holds, is retired at the time, and time passes
  abbrev pub Retires : ℕ → (D → ℕ → D → Type 0) → Type 0
  Retires x then = (s : Pages D) (st : Stage) (words : List ℕ) (owner : Owner) → holds s → IsOrderly l s → Stands s n st d → IsPage s x words owner
      → (owner ≡ Held n) × (d' : D) × holds (observed (later (owned s x (Retired s.clock))) n st d') × then d s.clock d'

  -- a reservation is refused, which changes nothing
  abbrev pub Refuses : (D → ℕ → D → Type 0) → Type 0
  Refuses then = (s : Pages D) (st : Stage) → holds s → IsOrderly l s → Stands s n st d
      → (d' : D) × holds (observed s n st d') × then d s.clock d'

  -- the hand learns of another, m, that is outside a process and knows e; nothing else changes
  abbrev pub Meets : ℕ → D → (D → D → D → Type 0) → Type 0
  Meets m e then = (s : Pages D) (st : Stage) → holds s → IsOrderly l s → Stands s n st d → Stands s m Idle e → m ≢ n
      → (d' : D) × holds (observed s n st d') × then d e d'

  -- the page x is released, which was retired at that time; every process that runs began after it
  abbrev pub Releases : ℕ → ℕ → (D → Type 0) → Type 0
  Releases x time then = (s : Pages D) (st : Stage) (words : List ℕ) → holds s → IsOrderly l s → Stands s n st d → IsPage s x words (Retired time)
      → AllBeganAfter s time
      → (d' : D) × holds (observed (owned s x Released) n st d') × then d'

-- Any number of releases by the hand n, in their order: what they tell goes on from one to the next, and counts the pages.
abbrev pub ReleasesMany : {D : Type 0} → (Pages D → Type 0) → Layout → ℕ → D → (D → ℕ → D → Type 0) → Type 0
ReleasesMany {D} holds l n d then =
    then d 0 d × ((e f : D) (k : ℕ) → then d k e → then e 1 f → then d (k + 1) f)
    × ((e : D) (k x time : ℕ) → then d k e → Releases holds l n e x time (then e 1))
