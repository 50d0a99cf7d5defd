-- Where a compression stands, of which a pass has no value.
use Rattle.std.specs.Prelude.{◌≡◌, ℕ, List, Option, Some, None}
use Rattle.atomic_table.specs.declared.shared.Seat.{Seat}
use Rattle.bl_page.specs.declared.page.Page.{Page}
use Rattle.bl_page.specs.declared.page.Page.TheVariants.{Inner}
use Rattle.bl_page.specs.Words.{words_of}
use Rattle.bl_store_rule.specs.declared.view.View.{View}
use Rattle.bl_store.specs.declared.store.Hand.{Hand}
use Rattle.bl_store.specs.Hands.{known, IsSameHand, HasNoStock, WasRefused}
use Rattle.bl_answers.specs.declared.answers.Answer.TheVariants as answer
use Rattle.bl_answers.specs.declared.answers.Hint.{Hint}
use Rattle.bl_answers.specs.declared.answers.Squeezed.{Squeezed}
use Rattle.bl_answers.specs.declared.answers.Squeezed.TheVariants as squeezed
use Rattle.bl_proc_steps.specs.declared.approach.Approach.{Approach}
use Rattle.bl_proc_steps.specs.declared.approach.Approach.TheVariants.{Start}
use Rattle.bl_index_descend.specs.Events.{HoldsNone}
use Rattle.bl_proc_compress.specs.declared.compression.Compression.{Compression}
use Rattle.bl_rearrange.specs.declared.families.Family.{Family}
use Rattle.bl_proc_compress.specs.declared.compression.Puts.{Puts}
use Rattle.bl_rearrange.specs.declared.families.Siblings.{Siblings}
use Rattle.bl_proc_compress.specs.declared.compression.Compression.TheVariants.{OpeningLeft}
use Rattle.bl_proc_compress.specs.declared.compression.Decision.{Decision}
use Rattle.bl_proc_compress.specs.declared.compression.Decision.TheVariants.{Refused}
use Rattle.bl_proc_compress.specs.declared.compress.Compress.{Compress}
use Rattle.bl_proc_compress.specs.declared.compress.CompressStage.{CompressStage}
use Rattle.bl_proc_compress.specs.declared.compress.CompressStage.TheVariants.{New, Coming, Compressing, Ending}
use Rattle.bl_proc_compress.specs.declared.compress.CompressReply.{CompressReply}
use Rattle.bl_rearrange.specs.declared.sides.Side.{Side}
use Rattle.bl_rearrange.specs.declared.sides.Side.TheVariants as side
use Rattle.bl_proc_compress.specs.Compressions.{Decides}
use Rattle.bl_proc_compress.specs.Compresses.{compress_reply, compressed_answer}
use Rattle.bl_proc.specs.declared.kinds.Proc.{Proc}
use Rattle.bl_proc.specs.declared.kinds.Proc.TheVariants as proc
use Rattle.bl_proc.specs.Processes.{answer_of}
use Rattle.bl_index_rule.specs.declared.known.PassState.{PassState}
use Rattle.bl_index_events.specs.declared.tree.Tree.{Tree}
use Rattle.bl_index_events.specs.Runs.{IsDone, IsSince, IsSameProcess, Rests, Runs}
use Rattle.bl_index_compress.specs.declared.targets.CompressTarget.{CompressTarget}
use Rattle.bl_index_compress.specs.declared.targets.Kin.{Kin}

abbrev H : Type 0
H = Seat (Unit {0}) (View PassState)

-- a compression that has come so far
abbrev pub compress_of : CompressTarget → CompressStage → Proc
compress_of j stage = proc.Compress (record { level = j.level; key = j.key; waits = j.waits; stage = stage; least = j.least; most = j.most })

-- one that holds its parent
abbrev pub compression_of : CompressTarget → Compression → Proc
compression_of j c = compress_of j (Compressing c)

-- These are the two children that it compresses, of a parent with these words, which is of its level.
pub record IsKin (j : CompressTarget) (kin : Kin) (words : List ℕ) (f : Family) : Type 0 where
  pub at : f.at ≡ kin.at
  pub key : f.key ≡ kin.key
  pub parent : words ≡ words_of (Inner f.parent)
  pub level : f.parent.level ≡ j.level

-- It puts three pages of those numbers with these words, where that child gains.
pub record ArePuts (p : Puts) (at : Siblings) (gains : Side) (left parent right : List ℕ) : Type 0 where
  pub at_is : p.at ≡ at
  pub gains_is : p.gains ≡ gains
  pub left_is : left ≡ words_of p.left
  pub parent_is : parent ≡ words_of p.parent
  pub right_is : right ≡ words_of p.right

-- the first of the two where the left child gains, and else the other one
abbrev pub on_side : {A : Type 0} → Side → A → A → A
on_side side.Left left right = left
on_side side.Right left right = right

-- It holds its parent and both children, has got them with these words, and goes on as that decides.
pub record HasBoth (j : CompressTarget) (kin : Kin) (parent left right : List ℕ) (d : PassState) : Type 0 where
  pub family : Family
  pub lower : Page
  pub upper : Page
  pub are : IsKin j kin parent family
  pub left_is : left ≡ words_of lower
  pub right_is : right ≡ words_of upper
  pub decides : (n : Compression) → Decides family lower upper n → d.state ≡ compression_of j n

-- From where it held its parent and its children it has gone on to where it is to open the left one, by that decision.
pub record IsDecided (tree : Tree) (h : H) (hand : Hand PassState) (j : CompressTarget) (kin : Kin) (decision : Decision) : Type 0 where
  pub same : IsSameHand h hand.seat
  pub empty : HasNoStock hand.seat
  pub runs : Runs tree hand (compression_of j (OpeningLeft kin.at decision))
  pub since : IsSameProcess (known h) (known hand.seat)
  pub no_room : decision ≡ Refused → WasRefused hand.seat 0 3

-- It has opened its parent, and is to end with that answer; or it begins again.
abbrev pub HasLeft : CompressTarget → Option (Squeezed × Option Hint) → Proc → Type 0
HasLeft j (Some t) state = (r : CompressReply) × (compressed_answer r ≡ answer.Compress t.0 t.1) × (state ≡ compress_of j (Ending r))
HasLeft j None state = state ≡ compress_of j (Coming Start)

-- the answer by what became of the children
abbrev pub Answers : Decision → Option (Squeezed × Option Hint) → Type 0
Answers decision (Some t) = (r : CompressReply) × (compress_reply decision ≡ Some r) × (compressed_answer r ≡ answer.Compress t.0 t.1)
Answers decision None = compress_reply decision ≡ None

-- From where it held its parent it has gone on: it has opened that, with this answer or none.
pub record LeavesParent (tree : Tree) (h : H) (hand : Hand PassState) (j : CompressTarget) (said : Option (Squeezed × Option Hint)) : Type 0 where
  pub same : IsSameHand h hand.seat
  pub empty : HasNoStock hand.seat
  pub state : Proc
  pub runs : Runs tree hand state
  pub left : HasLeft j said state
  pub since : IsSameProcess (known h) (known hand.seat)
  pub no_room : (hint : Option Hint) → said ≡ Some (squeezed.NoRoom, hint) → WasRefused hand.seat 0 3

-- It has given up on its way: it holds no page, and has reserved nothing.
pub record HasTurnedBack (tree : Tree) (d : PassState) (hand : Hand PassState) (j : CompressTarget) : Type 0 where
  pub way : Approach
  pub free : HoldsNone way
  pub runs : Runs tree hand (compress_of j (Coming way))
  pub empty : HasNoStock hand.seat
  pub since : IsSameProcess d (known hand.seat)

-- The compression that began as first has ended, and has answered that.
pub record HasCompressed (pass : ℕ) (old e : PassState) (first : Proc) (what : Squeezed) (hint : Option Hint) : Type 0 where
  pub last : Compress
  pub done : IsDone pass old e first (proc.Compress last)
  pub answer : answer_of (proc.Compress last) ≡ Some (answer.Compress what hint)

-- It has ended, and has answered that.
pub record IsCompressOver (j : CompressTarget) (d : PassState) (h : H) (what : Squeezed) (hint : Option Hint) : Type 0 where
  pub rests : Rests h
  pub empty : HasNoStock h
  pub no_room : what ≡ squeezed.NoRoom → WasRefused h 0 3
  pub is_compressed : (pass : ℕ) (old : PassState) → IsSince pass old d → HasCompressed pass old (known h) (compress_of j New) what hint
