-- The pages of a store as a state of the page machine. A hand is a pass, and its process has the number of those that the hand has ended.
use Rattle.std.specs.Prelude.{◌≢◌, ℕ, ◌+◌, ◌==◌, nat_lt, if◌then◌else◌, None, List, [], slice_index_or}
use mathlib.Core.Option.{Option, none, some}
use lib.ListN.{get_elem?}
use Rattle.bl_page.specs.declared.machine.Missed.{Missed}
use Rattle.bl_page.specs.Machine.{Name, Steps}
use Rattle.bl_page.specs.Machine as machine
use Rattle.bl_store_rule.specs.Pages.{Owner, Released, Open, Held, Retired, Stage, Idle, Running, Pages, Stands, IsPage, HoldsNone, AllBeganAfter, observed, owned, written, later}

abbrev pub name : (ℕ → ℕ) → ℕ → Name
name ended n = record { pass = n; number = ended n }

abbrev pub owner_in : (ℕ → ℕ) → Option Owner → machine.Owner
owner_in ended none = machine.Released
owner_in ended (some Released) = machine.Released
owner_in ended (some Open) = machine.Owner.Open
owner_in ended (some (Held n)) = machine.Held (name ended n)
owner_in ended (some (Retired time)) = machine.Retired time

module _ {D : Type 0} where
  abbrev pub phase_of : Option (Stage × D) → machine.Phase
  phase_of none = machine.Waiting
  phase_of (some (Idle, d)) = machine.Waiting
  phase_of (some (Running since, d)) = machine.Running since

  -- the processes that a hand has ended, the one that it has now, and those to come
  abbrev pub phase_in : (ℕ → ℕ) → Pages D → Name → machine.Phase
  phase_in ended s p = if p.number == ended p.pass then phase_of (get_elem? s.hands p.pass) else if nat_lt p.number (ended p.pass) then machine.Ended else machine.Waiting

  -- what the machine sees of the pages
  abbrev pub seen : (ℕ → ℕ) → Pages D → machine.State (List ℕ)
  seen ended s = record {
    contents = λ x. slice_index_or s.contents x [];
    owner = λ x. owner_in ended (get_elem? s.owners x);
    phase = phase_in ended s;
    clock = s.clock;
  }

  -- the event of the hand n leads from the pages s to s'
  abbrev pub Leads : (ℕ → ℕ) → ℕ → machine.Act (List ℕ) (Unit {0}) → Pages D → (ℕ → ℕ) → Pages D → Type 0
  Leads ended n act s ended' s' = Steps (seen ended s) (record { process = name ended n; act = act }) (seen ended' s')

-- the hand n has ended one process more
abbrev pub one_more : (ℕ → ℕ) → ℕ → ℕ → ℕ
one_more ended n k = if k == n then ended k + 1 else ended k

-- Each event of a store is that of the machine. The conditions on the left are those under which the store's user is asked, or what it answers.
pub record IsTied (D : Type 0) : Type 0 where
  pub begins : (ended : ℕ → ℕ) (s : Pages D) (n : ℕ) (d d' : D) → Stands s n Idle d → Leads ended n machine.Begin s ended (observed s n (Running s.clock) d')
  pub ends : (ended : ℕ → ℕ) (s : Pages D) (n since : ℕ) (d d' : D) → Stands s n (Running since) d → HoldsNone s n
      → Leads ended n (machine.End None) s (one_more ended n) (observed s n Idle d')
  pub gets : (ended : ℕ → ℕ) (s : Pages D) (n x since : ℕ) (d d' : D) (words : List ℕ) (owner : Owner) → Stands s n (Running since) d → IsPage s x words owner
      → owner ≢ Released → Leads ended n (machine.Get x) s ended (observed s n (Running since) d')
  pub puts : (ended : ℕ → ℕ) (s : Pages D) (n x : ℕ) (st : Stage) (d d' : D) (words new : List ℕ) → Stands s n st d → IsPage s x words (Held n)
      → Leads ended n (machine.Put x new) s ended (observed (written s x new) n st d')
  pub takes : (ended : ℕ → ℕ) (s : Pages D) (n x : ℕ) (st : Stage) (d d' : D) (words : List ℕ) → Stands s n st d → IsPage s x words Released
      → Leads ended n (machine.Take x) s ended (observed (owned s x (Held n)) n st d')
  pub latches : (ended : ℕ → ℕ) (s : Pages D) (n x : ℕ) (st : Stage) (d d' : D) (words : List ℕ) → Stands s n st d → IsPage s x words Open
      → Leads ended n (machine.Latch x) s ended (observed (owned s x (Held n)) n st d')
  pub opens : (ended : ℕ → ℕ) (s : Pages D) (n x : ℕ) (st : Stage) (d d' : D) (words : List ℕ) → Stands s n st d → IsPage s x words (Held n)
      → Leads ended n (machine.Act.Open x) s ended (observed (owned s x Open) n st d')
  pub retires : (ended : ℕ → ℕ) (s : Pages D) (n x : ℕ) (st : Stage) (d d' : D) (words : List ℕ) → Stands s n st d → IsPage s x words (Held n)
      → Leads ended n (machine.Retire x) s ended (observed (later (owned s x (Retired s.clock))) n st d')
  pub releases : (ended : ℕ → ℕ) (s : Pages D) (n x time : ℕ) (st : Stage) (d d' : D) (words : List ℕ) → Stands s n st d → IsPage s x words (Retired time)
      → AllBeganAfter s time → Leads ended n (machine.Release x) s ended (observed (owned s x Released) n st d')
  pub misses : (ended : ℕ → ℕ) (s : Pages D) (n : ℕ) (what : Missed) (st : Stage) (d d' : D) → Stands s n st d
      → Leads ended n (machine.Miss what) s ended (observed s n st d')
