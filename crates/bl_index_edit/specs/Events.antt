-- Where a writer stands at a page that it holds, of which a pass has no value: it knows where the process stands.
use Rattle.std.specs.Prelude.{◌≡◌, ◌<◌, ℕ, Bool, true, false, Option, Some, None, List}
use Rattle.atomic_table.specs.declared.shared.Seat.{Seat}
use Rattle.bl_model.specs.Rows.{map_of}
use Rattle.bl_page.specs.declared.page.Page.{Page}
use Rattle.bl_page.specs.declared.page.Page.TheVariants.{Inner}
use Rattle.bl_page.specs.Pages.{Covers}
use Rattle.bl_page.specs.Nodes.{node_of, IsTreePage}
use Rattle.bl_rearrange.specs.Rearranged.{pairs_of, MayHold}
use Rattle.bl_page.specs.Words.{words_of}
use Rattle.bl_layout.specs.declared.layout.Layout.{Layout}
use Rattle.bl_model.specs.declared.deciding.KeyWrite.{KeyWrite}
use Rattle.bl_store_rule.specs.declared.view.View.{View}
use Rattle.bl_store.specs.declared.store.Hand.{Hand}
use Rattle.bl_store.specs.Hands.{known, IsSameHand, HasNoStock}
use Rattle.bl_proc_steps.specs.declared.approach.Approach.TheVariants.{Start, Latched, Leaving}
use Rattle.bl_proc_steps.specs.declared.edit.Edit.{Edit}
use Rattle.bl_proc_steps.specs.declared.edit.Outcome.{Outcome}
use Rattle.bl_proc_steps.specs.declared.edit.Outcome.TheVariants as outcome
use Rattle.bl_proc_steps.specs.Edits.{EntersPair}
use Rattle.bl_proc_writes.specs.declared.writing.WriteStage.{WriteStage}
use Rattle.bl_proc_writes.specs.declared.writing.WriteStage.TheVariants as write
use Rattle.bl_proc_writes.specs.declared.post.PostStage.TheVariants as post
use Rattle.bl_proc_writes.specs.declared.post.PostReply.{PostReply}
use Rattle.bl_proc_writes.specs.declared.post.PostReply.TheVariants as reply
use Rattle.bl_proc_writes.specs.declared.walking.Walk.{Walk}
use Rattle.bl_proc_writes.specs.Levels.{MayReply}
use Rattle.bl_proc.specs.declared.kinds.Proc.{Proc}
use Rattle.bl_index_rule.specs.declared.known.PassState.{PassState}
use Rattle.bl_index_edit.specs.declared.writers.Left.{Left}
use Rattle.bl_index_edit.specs.declared.writers.Left.TheVariants.{Refused}
use Rattle.bl_index_events.specs.declared.tree.Tree.{Tree}
use Rattle.bl_index_edit.specs.declared.parents.Walked.{Walked}
use Rattle.bl_index_edit.specs.declared.parents.Walked.TheVariants.{On, Found, Stale, Lost}
use Rattle.bl_index_edit.specs.Posters.{Staged, Opened}
use Rattle.bl_index_events.specs.Runs.{IsOn, IsSameProcess, Runs}
use Rattle.bl_index_events.specs.Rooms.{LacksPost, LacksWrite}
use Rattle.bl_index_descend.specs.Events.{IsThere}

-- A process that stands so has got its leaf, which it holds: the leaf has these words, and lists that with the key.
pub record IsAtLeaf (key : ℕ) (staged : WriteStage → Proc) (at : ℕ) (there : Option ℕ) (words : List ℕ) (d : PassState) : Type 0 where
  pub here : IsThere 0 key (staged (write.Coming (Latched at))) words d
  pub lists : (node_of here.page).look key ≡ there

-- what became of a leaf that was to be put, by whether there was room
abbrev pub outcome_by : Bool → Outcome
outcome_by true = outcome.Edited
outcome_by false = outcome.Refused

-- From where it held its leaf it has gone on: it has opened that, and left this there.
pub record LeavesLeaf (tree : Tree) (h : Seat (Unit {0}) (View PassState)) (hand : Hand PassState) (opened : Left → Proc) (key : ℕ) (does : KeyWrite)
    (left : Left) : Type 0 where
  pub same : IsSameHand h hand.seat
  pub empty : HasNoStock hand.seat
  pub runs : Runs tree hand (opened left)
  pub since : IsSameProcess (known h) (known hand.seat)
  pub no_room : left ≡ Refused → LacksWrite key does hand.seat

-- Page x, which has these words and has been got, may get that pair more, and is to.
pub record IsToEnter (x key word : ℕ) (words : List ℕ) (edit : Edit) : Type 0 where
  pub page : Page
  pub tree : IsTreePage page
  pub is : words ≡ words_of page
  pub covers : Covers page key
  pub absent : map_of (pairs_of page) key ≡ None
  pub fits : MayHold page word
  pub enters : EntersPair x page key word edit

-- It has got its parent x, which has these words, and is to get page y on its way to the child that covers its key.
pub record IsWalking (level key : ℕ) (staged : Staged level) (x : ℕ) (words : List ℕ) (y : ℕ) (state : Proc) : Type 0 where
  pub walk : Walk
  pub below : level < 12
  pub is : state ≡ staged (post.Walking walk) below tt
  pub at : walk.at ≡ x
  pub named : walk.key ≡ key
  pub parent : words ≡ words_of (Inner walk.parent)
  pub child : walk.child ≡ y

-- It is to get the next page; or it has got the child, and its parent is to list it, or not; or it is to open its parent, and begins again.
abbrev pub HasWalked : (level key : ℕ) → Staged level → Layout → ℕ → List ℕ → ℕ → PassState → Walked → Type 0
HasWalked level key staged l x words y d (On z) = IsOn l d d.state × IsWalking level key staged x words z d.state
HasWalked level key staged l x words y d Found = (below : level < 12) × (c : Edit) × IsToEnter x key y words c × IsOn l d (staged (post.Editing c) below tt)
HasWalked level key staged l x words y d Stale = IsOn l d (staged (post.Staying x reply.Stale) tt tt)
HasWalked level key staged l x words y d Lost = IsOn l d (staged (post.Coming (Leaving x None)) tt tt)

-- It holds its parent x, which has these words, and is to get page y on its way to the child that covers its key.
pub record WalksOn (tree : Tree) (h : Seat (Unit {0}) (View PassState)) (hand : Hand PassState) (level key : ℕ) (staged : Staged level) (x : ℕ)
    (words : List ℕ) (y : ℕ) : Type 0 where
  pub same : IsSameHand h hand.seat
  pub empty : HasNoStock hand.seat
  pub runs : Runs tree hand (known hand.seat).state
  pub walking : IsWalking level key staged x words y (known hand.seat).state
  pub since : IsSameProcess (known h) (known hand.seat)

-- It holds its parent x, and is on its walk to the child.
pub record WalksStill (tree : Tree) (h : Seat (Unit {0}) (View PassState)) (hand : Hand PassState) (level : ℕ) (staged : Staged level) (x : ℕ) :
    Type 0 where
  pub walk : Walk
  pub at : walk.at ≡ x
  pub same : IsSameHand h hand.seat
  pub empty : HasNoStock hand.seat
  pub below : level < 12
  pub runs : Runs tree hand (staged (post.Walking walk) below tt)
  pub since : IsSameProcess (known h) (known hand.seat)

-- It has opened its parent, and replies that; or its way begins again.
abbrev pub HasOpenedParent : (level : ℕ) → Staged level → Opened level → Option PostReply → Proc → Type 0
HasOpenedParent level staged opened (Some r) state = (may : MayReply level r) × (state ≡ opened r may)
HasOpenedParent level staged opened None state = state ≡ staged (post.Coming Start) tt tt

-- From where it held its parent it has gone on: it has opened that, with this reply or none.
pub record LeavesParent (tree : Tree) (h : Seat (Unit {0}) (View PassState)) (hand : Hand PassState) (level key : ℕ) (staged : Staged level)
    (opened : Opened level) (replies : Option PostReply) : Type 0 where
  pub same : IsSameHand h hand.seat
  pub empty : HasNoStock hand.seat
  pub state : Proc
  pub runs : Runs tree hand state
  pub is : HasOpenedParent level staged opened replies state
  pub since : IsSameProcess (known h) (known hand.seat)
  pub no_room : replies ≡ Some reply.NoRoom → LacksPost level key hand.seat
