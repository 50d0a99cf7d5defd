-- The way of a search or a part to its leaf. A pass has no value of either: it knows where it stands.
use Rattle.std.specs.Prelude.{◌≡◌, ◌+◌, ℕ, false, Option, None, Some, List}
use Rattle.atomic_table.specs.declared.shared.Seat.{Seat}
use Rattle.bl_layout.specs.declared.layout.Layout.{Layout}
use Rattle.bl_page.specs.declared.page.Page.{Page}
use Rattle.bl_page.specs.Nodes.{node_of}
use Rattle.bl_page.specs.Words.{words_of}
use Rattle.bl_proc_routes.specs.declared.routes.Step.TheVariants.{Here}
use Rattle.bl_proc_routes.specs.Routes.{Leads}
use Rattle.bl_proc_steps.specs.declared.descent.Descent.{Descent}
use Rattle.bl_proc.specs.declared.searching.FindStage.{FindStage}
use Rattle.bl_proc.specs.declared.searching.FindStage.TheVariants as find
use Rattle.bl_proc.specs.declared.parts.Direction.{Direction}
use Rattle.bl_proc.specs.declared.parts.PartRows.{PartRows}
use Rattle.bl_proc.specs.declared.parts.PartStage.{PartStage}
use Rattle.bl_proc.specs.declared.parts.PartStage.TheVariants as part
use Rattle.bl_proc.specs.declared.kinds.Proc.{Proc}
use Rattle.bl_proc.specs.declared.kinds.Proc.TheVariants as proc
use Rattle.bl_proc.specs.Parts.{IsPartToward}
use Rattle.bl_store.specs.declared.store.Glance.{Glance}
use Rattle.bl_store.specs.declared.store.Hand.{Hand}
use Rattle.bl_store_rule.specs.declared.view.View.{View}
use Rattle.bl_store.specs.Hands.{known, read_words, IsIdle, IsRunning, ReadsFrom}
use Rattle.bl_index_rule.specs.declared.known.PassState.{PassState}
use Rattle.bl_claims.specs.Seeing.{IsSeen}
use Rattle.bl_index_events.specs.declared.tree.Tree.{Tree}
use Rattle.bl_index_events.specs.Runs.{IsOn, IsSince, IsWithin, Runs}
use Rattle.bl_index_read.specs.declared.leaf_ways.Reached.{Reached}
use Rattle.bl_index_read.specs.declared.leaf_ways.Reached.TheVariants as reached
use Rattle.bl_index_read.specs.declared.sought.Sought.{Sought}
use Rattle.bl_index_read.specs.declared.sought.Sought.TheVariants.{Value, Rows}
use Rattle.bl_index_read.specs.Searching.{RunsOut}
use Rattle.bl_index_read.specs.Turns.{IsAtTurn, IsAtLast}

abbrev pub searching : ℕ → FindStage → Proc
searching key stage = proc.Find (record { key = key; stage = stage })

abbrev pub listing : Direction → ℕ → PartStage → Proc
listing direction from stage = proc.Part (record { from = record { key = from; direction = direction }; stage = stage })

-- It is to begin, with a page in mind or with none.
abbrev pub fresh : Sought → ℕ → Option ℕ → Proc
fresh Value key None = searching key find.New
fresh Value key (Some page) = searching key (find.Near page)
fresh (Rows direction) from None = listing direction from part.New
fresh (Rows direction) from (Some page) = listing direction from (part.Near page)

-- It is to look whether that page is open.
abbrev pub probing : Sought → ℕ → ℕ → Proc
probing Value key page = searching key (find.Probing page)
probing (Rows direction) from page = listing direction from (part.Probing page)

-- It has come so far on its way.
abbrev pub going : Sought → ℕ → Descent → Proc
going Value key way = searching key (find.Descending way)
going (Rows direction) from way = listing direction from (part.Descending way)

-- It is to end, with what that page lists, which is its leaf.
abbrev pub EndsWith : Sought → ℕ → Page → Proc → Type 0
EndsWith Value key leaf state = state ≡ searching key (find.Ending ((node_of leaf).look key))
EndsWith (Rows direction) from leaf state = (rows : PartRows) × IsPartToward direction leaf from rows × (state ≡ listing direction from (part.Ending rows))

-- It has got its leaf, which has these words, and is to end with what that lists.
pub record IsAtLeaf (sought : Sought) (key : ℕ) (words : List ℕ) (d : PassState) : Type 0 where
  pub page : Page
  pub is : words ≡ words_of page
  pub leads : Leads page key 0 Here
  pub ends : EndsWith sought key page d.state

-- It is to get another page, or is at its leaf.
abbrev pub HasReached : Sought → ℕ → Layout → Seat (Unit {0}) (View PassState) → Reached → Type 0
HasReached sought key l h (reached.Further next) = IsOn l (known h) (going sought key next)
HasReached sought key l h (reached.Leaf glance) = ReadsFrom h glance × IsAtLeaf sought key (read_words h) (known h) × IsOn l (known h) (known h).state

-- What the pass began when it knew old is at its leaf, within its bound and so many turns.
pub record HasLeaf (l : Layout) (pass : ℕ) (sought : Sought) (key turns : ℕ) (old : PassState) (h : Seat (Unit {0}) (View PassState)) (glance : Glance) : Type 0 where
  pub running : IsRunning h
  pub reads : ReadsFrom h glance
  pub leaf : IsAtLeaf sought key (read_words h) (known h)
  pub process : IsOn l (known h) (known h).state
  pub since : IsSince pass old (known h)
  pub last : IsAtLast l.pages pass (old.number + 1) turns (known h).trail

-- It has run out of turns, and has ended.
pub record HasGivenUp (l : Layout) (pass turns : ℕ) (old : PassState) (h : Seat (Unit {0}) (View PassState)) : Type 0 where
  pub idle : IsIdle h
  pub within : IsWithin h
  pub rests : (known h).runs ≡ false
  pub first : (known h).first ≡ old.first
  pub seen : IsSeen (known h).first (known h).trail
  pub out : RunsOut old.first l.pages pass turns old.trail (known h).trail

-- It has begun, after all that the pass of that number knew before, and is to get the first page of its way.
pub record HasSetOff (tree : Tree) (hand : Hand PassState) (pass : ℕ) (sought : Sought) (key : ℕ) (way : Descent) (old : PassState) : Type 0 where
  pub runs : Runs tree hand (going sought key way)
  pub since : IsSince pass old (known hand.seat)
  pub turn : IsAtTurn tree.store.layout.pages pass (old.number + 1) 0 (known hand.seat).trail
