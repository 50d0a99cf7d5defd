-- What functions of a range tell one another: the leaves that it keeps in mind, and how it goes on.
use Rattle.std.specs.Prelude.{◌≡◌, ℕ, ◌+◌, ◌-◌, ◌*◌, ◌^◌, ◌<◌, ◌≤◌, ◌++◌, All, Bool, true, false, length, take, Result, Ok, Err, List, [], ◌∷◌, Option, Some}
use lib.ListN.{get_or}
use Rattle.atomic_table.specs.declared.shared.Seat.{Seat}
use Rattle.bl_page.specs.declared.page.Page.{Page}
use Rattle.bl_page.specs.Machine.{Act}
use Rattle.bl_model.specs.declared.operation.Entry.{Entry}
use Rattle.bl_model.specs.declared.operation.Op.TheVariants.{Part as OpPart}
use Rattle.bl_model.specs.declared.operation.Reply.{Reply}
use Rattle.bl_model.specs.declared.operation.Reply.TheVariants.{Rows as ReplyRows}
use Rattle.bl_model.specs.Parts.{ended_at}
use Rattle.bl_claims.specs.Trails.{Mark, Trail}
use Rattle.bl_claims.specs.Seeing.{IsSeen}
use Rattle.bl_one_moment.specs.Moments.{puts_at, IsLeafPart}
use Rattle.bl_proc_steps.specs.declared.descent.Descent.{Descent}
use Rattle.bl_proc.specs.declared.parts.Direction.TheVariants.{Up}
use Rattle.bl_store.specs.declared.store.Hand.{Hand}
use Rattle.bl_store_rule.specs.declared.view.View.{View}
use Rattle.bl_store.specs.Hands.{known, Keeps, IsIdle}
use Rattle.bl_index_rule.specs.declared.known.PassState.{PassState}
use Rattle.bl_index_rule.specs.Observed.{ends, is_unput}
use Rattle.bl_index_events.specs.declared.tree.Tree.{Tree}
use Rattle.bl_index_events.specs.Runs.{Runs, Rests, IsWithin}
use Rattle.bl_index_read.specs.declared.leaf_rows.Behind.{Behind}
use Rattle.bl_index_read.specs.declared.sought.Sought.TheVariants.{Rows}
use Rattle.bl_index_read.specs.Keeping.{KeepsStill, IsKeptLeaf}
use Rattle.bl_index_read.specs.LeafRows.{IsBelow, GoesOnWithin}
use Rattle.bl_index_read.specs.LeafWays.{HasLeaf, HasSetOff}
use Rattle.bl_index_read.specs.Searching.{Finds, RunsOut}
use Rattle.bl_index_range.specs.Parts.{rows_below}
use Rattle.bl_index_range.specs.Ranges.{MakesParts, ReadsRange, StopsRange}
use Rattle.bl_index_range.specs.declared.ranging.AtLeaf.{AtLeaf}
use Rattle.bl_index_range.specs.declared.ranging.Gathering.{Gathering}
use Rattle.bl_index_range.specs.declared.ranging.Kept.{Kept}
use Rattle.bl_index_range.specs.declared.ranging.RangeFault.{RangeFault}
use Rattle.bl_index_range.specs.declared.ranging.RangeFault.TheVariants.{Memory, OutOfTurns, Unsteady}
use Rattle.bl_index_range.specs.declared.ranging.RangeLimits.{RangeLimits}

-- The hand keeps that look at a leaf in mind, of which the rows from one key up to another are these. It got the leaf at some event.
pub record IsLook (h : Seat (Unit {0}) (View PassState)) (pages : ℕ) (to : Option ℕ) (from upto : ℕ) (look : Kept) (rows : List (ℕ × ℕ)) : Type 0 where
  pub near : look.page < pages
  pub start : look.from ≡ from
  pub fits : from < 2 ^ 64
  pub below : IsBelow to from
  pub content : Page
  pub before : Trail
  pub get : Mark
  pub since : Trail
  pub split : (known h).trail ≡ before ++ get ∷ since
  pub act : get.event.act ≡ Act.Get look.page
  pub saw : get.saw ≡ Some content
  pub keeps : Keeps h look.page (puts_at look.page (before ++ get ∷ [])) look.glance
  pub part : IsLeafPart from upto content rows

-- Such looks, each of which begins where the one before it ends, and their rows, of which so many stand before the first.
abbrev pub AreLooks : Seat (Unit {0}) (View PassState) → ℕ → Option ℕ → ℕ → ℕ → ℕ → List Kept → List (ℕ × ℕ) → Type 0
AreLooks h pages to count from upto [] rows = (upto ≡ from) × (rows ≡ [])
AreLooks h pages to count from upto (look ∷ looks) rows =
    (mid : ℕ) × (mine : List (ℕ × ℕ)) × (rest : List (ℕ × ℕ)) × (rows ≡ mine ++ rest) × (look.rows ≡ count) × IsLook h pages to from mid look mine
    × AreLooks h pages to (count + length mine) mid upto looks rest

-- in all that the pass has seen the leaf was not put since that look
abbrev pub IsUnput : Seat (Unit {0}) (View PassState) → Kept → Type 0
IsUnput h look = (version : ℕ) → Keeps h look.page version look.glance → is_unput (known h) look.page version

-- ---- at a leaf

-- The part has come to its leaf, which is kept in mind, and its rows below the range's end stand behind those of before.
pub record ReadsLeaf (tree : Tree) (hand hand' : Hand PassState) (pass at : ℕ) (to : Option ℕ) (turns : ℕ) (leaf : AtLeaf) (before after : List (ℕ × ℕ)) (old : PassState) : Type 0 where
  pub runs : Runs tree hand' (known hand'.seat).state
  pub has : HasLeaf tree.store.layout pass (Rows Up) at turns old hand'.seat leaf.look.glance
  pub kept : IsKeptLeaf tree.store.layout.pages pass old leaf.look.page hand'.seat leaf.look.glance
  pub still : KeepsStill hand.seat hand'.seat
  pub start : leaf.look.from ≡ at
  pub count : leaf.look.rows ≡ length before
  pub listed : after ≡ before ++ rows_below to (ReplyRows has.leaf.ends.0.rows has.leaf.ends.0.next)
  pub goes : GoesOnWithin Up to (ended_at (ReplyRows has.leaf.ends.0.rows has.leaf.ends.0.next)) leaf.behind

-- The part is over, and the range stops: there was no room for what was read of its leaf, or it ran out of turns.
abbrev pub LeavesLeaf : List (Option Page) → ℕ → ℕ → ℕ → ℕ → RangeFault → Trail → Trail → Type 0
LeavesLeaf first pages pass turns at Memory old new = (reply : Reply) × Finds first pages pass turns (OpPart at) reply old new
LeavesLeaf first pages pass turns at OutOfTurns old new = RunsOut first pages pass turns old new
LeavesLeaf first pages pass turns at Unsteady old new = ⊥

-- The hand rests, and it did that since its pass knew old.
pub record RestsAfter (hand : Hand PassState) (did : Trail → Trail → Type 0) (old : PassState) : Type 0 where
  pub rests : Rests hand.seat
  pub first : (known hand.seat).first ≡ old.first
  pub seen : IsSeen (known hand.seat).first (known hand.seat).trail
  pub does : did old.trail (known hand.seat).trail

-- It has read the leaf; or the range stops there, and its rows are as they were.
abbrev pub ReadsOrStops : Tree → Hand PassState → Hand PassState → ℕ → ℕ → Option ℕ → ℕ → List (ℕ × ℕ) → List (ℕ × ℕ) → PassState → Result AtLeaf RangeFault → Type 0
ReadsOrStops tree hand hand' pass at to turns before after old (Ok leaf) = ReadsLeaf tree hand hand' pass at to turns leaf before after old
ReadsOrStops tree hand hand' pass at to turns before after old (Err fault) =
    RestsAfter hand' (LeavesLeaf old.first tree.store.layout.pages pass turns at fault) old × (after ≡ before)

-- ---- behind a leaf

-- the part that had its leaf has ended, and the hand rests
abbrev pub EndsThere : Hand PassState → Hand PassState → Type 0
EndsThere hand hand' = ends (known hand.seat) 0 (known hand'.seat) × IsIdle hand'.seat × IsWithin hand'.seat

-- The part that had its leaf has ended, and the range goes on by the part from that key on, which has set off. What was kept in mind is still.
pub record SetsOff (tree : Tree) (hand hand' : Hand PassState) (g' : Gathering) : Type 0 where
  pub between : PassState
  pub ended : ends (known hand.seat) 0 between
  pub off : HasSetOff tree hand' hand.number (Rows Up) g'.at g'.way between
  pub still : KeepsStill hand.seat hand'.seat

-- It goes on behind the leaf, which is one more of those that it keeps.
pub record GoesOnBehind (tree : Tree) (hand hand' : Hand PassState) (look : Kept) (next : ℕ) (g g' : Gathering) : Type 0 where
  pub sets_off : SetsOff tree hand hand' g'
  pub kept : g'.kept.items ≡ g.kept.items ++ look ∷ []
  pub rows : g'.rows.items ≡ g.rows.items
  pub at : g'.at ≡ next
  pub round : g'.round ≡ g.round

-- It begins again from one of the leaves that it keeps, with those before it, and with the rows that stood before that one's.
pub record BeginsAgain (tree : Tree) (hand hand' : Hand PassState) (g g' : Gathering) : Type 0 where
  pub sets_off : SetsOff tree hand hand' g'
  pub place : ℕ
  pub look : Kept
  pub within : place < length g.kept.items
  pub is : look ≡ get_or g.kept.items place look
  pub kept : g'.kept.items ≡ take place g.kept.items
  pub rows : g'.rows.items ≡ take look.rows g.rows.items
  pub at : g'.at ≡ look.from
  pub round : g'.round ≡ g.round + 1

-- It has gone on behind the leaf; or there was no room to keep it, and the part has ended.
abbrev pub GoesOnOrStops : Tree → Hand PassState → Hand PassState → Kept → ℕ → Gathering → Gathering → Result Bool RangeFault → Type 0
GoesOnOrStops tree hand hand' look next g g' (Ok true) = GoesOnBehind tree hand hand' look next g g'
GoesOnOrStops tree hand hand' look next g g' (Ok false) = ⊥
GoesOnOrStops tree hand hand' look next g g' (Err fault) = (fault ≡ Memory) × EndsThere hand hand' × (g'.rows.items ≡ g.rows.items)

-- The last part has ended. No leaf was put since it was read; or the range begins again, or had done so as often as it may.
abbrev pub EndsRound : Tree → Hand PassState → Hand PassState → ℕ → Gathering → Gathering → Result Bool RangeFault → Type 0
EndsRound tree hand hand' rounds g g' (Ok false) = EndsThere hand hand' × All (IsUnput hand.seat) g.kept.items × (g' ≡ g)
EndsRound tree hand hand' rounds g g' (Ok true) = BeginsAgain tree hand hand' g g' × (g.round < rounds)
EndsRound tree hand hand' rounds g g' (Err fault) = (fault ≡ Unsteady) × (rounds ≤ g.round) × EndsThere hand hand' × (g' ≡ g)

-- ---- a range that has come so far

-- Its next part has set off from a key within the range, and it keeps what it has read up to there, behind the rows of before.
pub record Gathers (tree : Tree) (hand : Hand PassState) (pass : ℕ) (limits : RangeLimits) (from : ℕ) (to : Option ℕ) (before : List (ℕ × ℕ)) (old : PassState) (g : Gathering) : Type 0 where
  pub mid : PassState
  pub off : HasSetOff tree hand pass (Rows Up) g.at g.way mid
  pub first : mid.first ≡ old.first
  pub parts : List Entry
  pub makes : MakesParts old.first tree.store.layout.pages pass limits.turns from to parts old.trail mid.trail
  pub enough : g.round ≤ length parts
  pub few : g.round ≤ limits.rounds
  pub low : from ≤ g.at
  pub fits : g.at < 2 ^ 64
  pub below : IsBelow to g.at
  pub rows : List (ℕ × ℕ)
  pub listed : g.rows.items ≡ before ++ rows
  pub looks : AreLooks hand.seat tree.store.layout.pages to (length before) from g.at g.kept.items rows

-- It has ended, with the rows of one moment behind those of before; or has stopped, with some rows or none behind them.
abbrev pub HasGathered : List (Option Page) → ℕ → ℕ → RangeLimits → ℕ → Option ℕ → List (ℕ × ℕ) → Gathering → Result (Unit {0}) RangeFault → Trail → Trail → Type 0
HasGathered first pages pass limits from to before g (Ok done) old new =
    (g.round ≤ limits.rounds) × (more : List (ℕ × ℕ)) × (g.rows.items ≡ before ++ more) × ReadsRange first pages pass limits.turns from to more old new
HasGathered first pages pass limits from to before g (Err fault) old new =
    StopsRange first pages pass limits.turns limits.rounds from to fault old new × (rest : List (ℕ × ℕ)) × (g.rows.items ≡ before ++ rest)

-- what may come yet: the rounds that are left, each with so many keys, and the keys of this one
abbrev pub left_of : ℕ → Gathering → ℕ
left_of rounds g = (rounds - g.round) * 2 ^ 64 + (2 ^ 64 - g.at)

-- By a part more it has gone on, and less may come yet; or has ended, or stopped.
abbrev pub GoesOrEnds : Tree → Hand PassState → ℕ → RangeLimits → ℕ → Option ℕ → List (ℕ × ℕ) → PassState → Gathering → Gathering → Result Bool RangeFault → Type 0
GoesOrEnds tree hand pass limits from to before old g g' (Ok true) =
    Gathers tree hand pass limits from to before old g' × (left_of limits.rounds g' < left_of limits.rounds g)
GoesOrEnds tree hand pass limits from to before old g g' (Ok false) = RestsAfter hand (HasGathered old.first tree.store.layout.pages pass limits from to before g' (Ok tt)) old
GoesOrEnds tree hand pass limits from to before old g g' (Err fault) = RestsAfter hand (HasGathered old.first tree.store.layout.pages pass limits from to before g' (Err fault)) old
