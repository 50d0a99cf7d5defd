-- Where a writer stands on its way, of which a pass has no value: it knows where the process stands.
use Rattle.std.specs.Prelude.{◌≡◌, ℕ, Option, Some, None, Result, Ok, Err, List}
use Rattle.atomic_table.specs.declared.shared.Seat.{Seat}
use Rattle.bl_page.specs.declared.page.Page.{Page}
use Rattle.bl_page.specs.Words.{words_of}
use Rattle.bl_layout.specs.declared.layout.Layout.{Layout}
use Rattle.bl_store_rule.specs.declared.view.View.{View}
use Rattle.bl_store.specs.declared.store.Glance.{Glance}
use Rattle.bl_store.specs.Hands.{known, read_words, ReadsFrom}
use Rattle.bl_proc_steps.specs.declared.acts.Seen.TheVariants as seen
use Rattle.bl_proc_steps.specs.declared.approach.Approach.{Approach}
use Rattle.bl_proc_steps.specs.declared.approach.Approach.TheVariants.{Start, At, Latching, Latched, Leaving}
use Rattle.bl_proc_routes.specs.declared.routes.Step.TheVariants.{Here}
use Rattle.bl_proc_routes.specs.Routes.{Leads}
use Rattle.bl_proc.specs.declared.kinds.Proc.{Proc}
use Rattle.bl_proc.specs.Processes.{next_of, Takes}
use Rattle.bl_index_rule.specs.declared.known.PassState.{PassState}
use Rattle.bl_index_rule.specs.Observed.{IsNear}
use Rattle.bl_index_descend.specs.declared.coming.Arrived.{Arrived}
use Rattle.bl_index_descend.specs.declared.coming.Arrived.TheVariants.{There, Away}
use Rattle.bl_index_descend.specs.declared.reaching.Neared.{Neared}
use Rattle.bl_index_descend.specs.declared.reaching.Neared.TheVariants as neared
use Rattle.bl_index_descend.specs.declared.reaching.Reached.{Reached}
use Rattle.bl_index_descend.specs.declared.reaching.Reached.TheVariants.{Parent, Again, NoLevel}
use Rattle.bl_index_events.specs.Runs.{IsOn}

-- a writer on its way that holds no page
abbrev pub HoldsNone : Approach → Type 0
HoldsNone Start = Unit {0}
HoldsNone (At x) = Unit {0}
HoldsNone (Latching x) = Unit {0}
HoldsNone (Latched x) = ⊥
HoldsNone (Leaving x to) = ⊥

-- It stands so, and holds no page.
abbrev pub HasGivenUp : (Approach → Proc) → Layout → PassState → Approach → Type 0
HasGivenUp at l d a = HoldsNone a × IsOn l d (at a)

-- It is to latch that page; or it stands so.
abbrev pub IsSought : (Approach → Proc) → Layout → PassState → Result ℕ Approach → Type 0
IsSought at l d (Ok x) = IsOn l d (at (Latching x))
IsSought at l d (Err a) = HasGivenUp at l d a

-- The writer that held a page of its level, to cover that key, has got it: the page is one of the index, has these words, and covers the key.
pub record IsThere (level key : ℕ) (latched : Proc) (words : List ℕ) (d : PassState) : Type 0 where
  pub page : Page
  pub is : words ≡ words_of page
  pub leads : Leads page key level Here
  pub takes : Takes latched (seen.Words page) d.state
  pub near : IsNear d.pages (next_of latched)

-- The writer that began its way has got the anchor, which has these words.
pub record HasGotAnchor (start : Proc) (words : List ℕ) (d : PassState) : Type 0 where
  pub page : Page
  pub is : words ≡ words_of page
  pub takes : Takes start (seen.Words page) d.state

-- It is there; or it is to open the page, and goes on as that says.
abbrev pub HasArrived : ℕ → ℕ → (Approach → Proc) → ℕ → Layout → Seat (Unit {0}) (View PassState) → Arrived → Type 0
HasArrived level key at x l h (There glance) =
    ReadsFrom h glance × IsThere level key (at (Latched x)) (read_words h) (known h) × IsOn l (known h) (known h).state
HasArrived level key at x l h (Away to) = IsOn l (known h) (at (Leaving x to))

-- It is at the page of its level that covers its key, which it holds and has got.
abbrev pub HasComeTo : ℕ → ℕ → (Approach → Proc) → Layout → Seat (Unit {0}) (View PassState) → ℕ × Glance → Type 0
HasComeTo level key at l h t = ReadsFrom h t.1 × IsThere level key (at (Latched t.0)) (read_words h) (known h) × IsOn l (known h) (known h).state

-- The same; or its way begins again.
abbrev pub HasCome : ℕ → ℕ → (Approach → Proc) → Layout → Seat (Unit {0}) (View PassState) → Option (ℕ × Glance) → Type 0
HasCome level key at l h (Some t) = HasComeTo level key at l h t
HasCome level key at l h None = IsOn l (known h) (at Start)

-- The same; or it has given up, and stands so.
abbrev pub HasComeWithin : ℕ → ℕ → (Approach → Proc) → Layout → Seat (Unit {0}) (View PassState) → Result (ℕ × Glance) Approach → Type 0
HasComeWithin level key at l h (Ok t) = HasComeTo level key at l h t
HasComeWithin level key at l h (Err a) = HasGivenUp at l (known h) a

-- It is at the page of its level that covers its key; or its way begins again; or it has got the anchor of a tree without its level.
abbrev pub HasReached : ℕ → ℕ → (Approach → Proc) → Layout → Seat (Unit {0}) (View PassState) → Reached → Type 0
HasReached level key at l h (Parent x glance) = ReadsFrom h glance × IsThere level key (at (Latched x)) (read_words h) (known h)
    × IsOn l (known h) (known h).state
HasReached level key at l h Again = IsOn l (known h) (at Start)
HasReached level key at l h (NoLevel glance) = ReadsFrom h glance × HasGotAnchor (at Start) (read_words h) (known h) × IsOn l (known h) (known h).state

-- The same of one who may not wait: it is there, has given up and stands so, or has got that anchor.
abbrev pub HasNeared : ℕ → ℕ → (Approach → Proc) → Layout → Seat (Unit {0}) (View PassState) → Neared → Type 0
HasNeared level key at l h (neared.Parent x glance) = HasComeTo level key at l h (x, glance)
HasNeared level key at l h (neared.Underway a) = HasGivenUp at l (known h) a
HasNeared level key at l h (neared.NoLevel glance) = ReadsFrom h glance × HasGotAnchor (at Start) (read_words h) (known h) × IsOn l (known h) (known h).state

-- the same, by what it has come to where the tree has its level
abbrev pub reached_by : Option (ℕ × Glance) → Reached
reached_by (Some t) = Parent t.0 t.1
reached_by None = Again
