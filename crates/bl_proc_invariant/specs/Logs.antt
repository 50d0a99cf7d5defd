-- What a process has done so far, in each of its states: enough to tell in the end what its answer and its hint mean.
use Rattle.std.specs.Prelude.{◌≡◌, ◌≢◌, ◌⊎◌, ℕ, suc, Option, None, Some, ◌++◌, List, [], ◌∷◌, length, Contains}
use Rattle.bl_model.specs.declared.operation.Reply.{Reply}
use Rattle.bl_page.specs.declared.page.Page.{Page}
use Rattle.bl_page.specs.declared.page.Page.TheVariants.{Inner}
use Rattle.bl_page.specs.Machine.{Name, Act}
use Rattle.bl_page.specs.Machine.Act.{Begin, Get, Put, Take, Latch}
use Rattle.bl_page.specs.Nodes.{Covers, node_of}
use Rattle.bl_tree_worlds.specs.Worlds.{World}
use Rattle.bl_claims.specs.Trails.{Mark, Trail, marks_of}
use Rattle.bl_claims.specs.Meanings.{HasGot, writes_of, Wrote, Unwritten, WroteHeld, IsNewTop, RaisesOnly, HasRaised, ListTogether, MeansDone, MeansAlready, MeansStale, MeansTooTall, MeansNoRoom}
use Rattle.bl_proc_steps.specs.declared.approach.Approach.{Approach}
use Rattle.bl_proc_steps.specs.declared.approach.Approach.TheVariants as way
use Rattle.bl_proc_steps.specs.declared.edit.Outcome.{Outcome}
use Rattle.bl_proc_steps.specs.declared.edit.Outcome.TheVariants as outcome
use Rattle.bl_proc_steps.specs.declared.edit.Edit.{Edit}
use Rattle.bl_proc_steps.specs.declared.edit.Edit.TheVariants as edit
use Rattle.bl_proc_steps.specs.declared.growth.Growth.{Growth}
use Rattle.bl_proc_steps.specs.declared.growth.Growth.TheVariants as growth
use Rattle.bl_proc_writes.specs.declared.post.PostReply.{PostReply}
use Rattle.bl_proc_writes.specs.declared.post.PostReply.TheVariants as reply
use Rattle.bl_proc_writes.specs.declared.post.PostStage.{PostStage}
use Rattle.bl_proc_writes.specs.declared.post.PostStage.TheVariants as post
use Rattle.bl_rearrange.specs.declared.sides.Side.{Side}
use Rattle.bl_rearrange.specs.declared.sides.Side.TheVariants as side
use Rattle.bl_rearrange.specs.declared.families.Siblings.{Siblings}
use Rattle.bl_proc_compress.specs.declared.compression.Puts.{Puts}
use Rattle.bl_rearrange.specs.declared.families.Family.{Family}
use Rattle.bl_answers.specs.declared.answers.Hint.{Hint}
use Rattle.bl_answers.specs.declared.answers.Posted.{Posted}
use Rattle.bl_proc_compress.specs.declared.compression.Decision.{Decision}
use Rattle.bl_proc_compress.specs.declared.compression.Decision.TheVariants as decision
use Rattle.bl_proc_compress.specs.declared.compression.Compression.{Compression}
use Rattle.bl_proc_compress.specs.declared.compression.Compression.TheVariants.{LatchingLeft, LatchedLeft, LatchingRight, LatchedRight, PuttingFirst, PuttingParent, PuttingLast, Retiring, OpeningRight, OpeningLeft, OpeningParent}
use Rattle.bl_proc_compress.specs.declared.compress.CompressReply.{CompressReply}
use Rattle.bl_proc_compress.specs.declared.compress.CompressReply.TheVariants as compressed
use Rattle.bl_proc_compress.specs.declared.compress.CompressStage.{CompressStage}
use Rattle.bl_proc_compress.specs.declared.compress.CompressStage.TheVariants as compress
use Rattle.bl_claims.specs.Squeezed.{Since, GotParent, Once, HasMerged, HasEvened, HasEnough, HasUnposted, HasNoLevel, HasOneChild, LacksPlace}
use Rattle.bl_proc_compress.specs.Compressions.{Decides, other}
use Rattle.bl_model.specs.declared.deciding.KeyWrite.{KeyWrite}
use Rattle.bl_model.specs.declared.deciding.Effect.{Effect}
use Rattle.bl_model.specs.declared.deciding.Effect.TheVariants.{Keep, Enter, Remove, Replace}
use Rattle.bl_model.specs.Writes.{effect_of, deed_of}
use Rattle.bl_proc_writes.specs.declared.writing.Noted.{Noted}
use Rattle.bl_proc_writes.specs.declared.writing.WriteReply.{WriteReply}
use Rattle.bl_proc_writes.specs.declared.writing.WriteReply.TheVariants as written
use Rattle.bl_proc_writes.specs.declared.writing.WriteStage.{WriteStage}
use Rattle.bl_proc_writes.specs.declared.writing.WriteStage.TheVariants as write
use Rattle.bl_answers.specs.Thin.{thin_low}
use Rattle.bl_claims.specs.Hinted.{WroteLeaf, WrittenSo}
use Rattle.bl_claims.specs.Lowered.{MeansLowered}
use Rattle.bl_claims.specs.Climbed.{PostsUp, WroteAndPosted}
use Rattle.bl_proc_invariant.specs.LoweringLog.{lowering_log}
use Rattle.bl_proc_invariant.specs.Knowing.{Run}
use Rattle.bl_proc_writes.specs.declared.insert_post.Placing.{Placing}
use Rattle.bl_proc_writes.specs.Placings.{write_of}
use Rattle.bl_proc_writes.specs.declared.insert_post.Climbed.{Climbed}
use Rattle.bl_proc_writes.specs.declared.insert_post.Climbed.TheVariants as climbed
use Rattle.bl_proc_writes.specs.declared.insert_post.ClimbStage.{ClimbStage}
use Rattle.bl_proc_writes.specs.declared.insert_post.ClimbStage.TheVariants as climb
use Rattle.bl_proc_writes.specs.InsertPosts.{posted_as, IsUnsplit}
use Rattle.bl_answers.specs.Hints.{left_hint}
use Rattle.bl_proc.specs.declared.lowering.LowerStage.{LowerStage}
use Rattle.bl_proc.specs.declared.lowering.LowerStage.TheVariants as lower
use Rattle.bl_proc.specs.declared.kinds.Proc.{Proc}
use Rattle.bl_proc.specs.declared.kinds.Proc.TheVariants as proc

-- page x is held since it was latched, when nothing was written but new top levels; this was written since
pub record Holding (level : ℕ) (marks : Trail) (x : ℕ) (acts : List (Act Page Reply)) : Type 0 where
  pub before : Trail
  pub first : HasRaised level before
  pub latch : Mark
  pub during : Trail
  pub split : marks ≡ before ++ latch ∷ during
  pub latched : latch.event.act ≡ Latch x
  pub kept : (mark : Mark) → Contains during mark → mark.event.act ≢ Act.Open x
  pub writes_are : writes_of during ≡ acts

-- the page is a parent of the key, as the process got it since
pub record HoldsParent (level key : ℕ) (marks : Trail) (x : ℕ) (parent : Page) (acts : List (Act Page Reply)) : Type 0 where
  pub holding : Holding level marks x acts
  pub got : HasGot holding.during x parent
  pub level_is : (node_of parent).shape.level ≡ level
  pub covers : Covers (node_of parent).shape key
  pub unlisted : (node_of parent).look key ≡ None

-- and so is its child, whose low is the key
pub record HoldsBoth (level key : ℕ) (marks : Trail) (x : ℕ) (parent : Page) (y : ℕ) (acts : List (Act Page Reply)) : Type 0 where
  pub above : HoldsParent level key marks x parent acts
  pub child : Page
  pub got : HasGot above.holding.during y child
  pub below : suc (node_of child).shape.level ≡ level
  pub child_covers : Covers (node_of child).shape key
  pub low : (node_of child).shape.low ≡ key

-- What is told of a writer on its way: Held of one that holds its page and has not got it yet, Off of any other.
abbrev pub on_way : Type 0 → (ℕ → Type 0) → Approach → Type 0
on_way Off Held way.Start = Off
on_way Off Held (way.At x) = Off
on_way Off Held (way.Latching x) = Off
on_way Off Held (way.Latched x) = Held x
on_way Off Held (way.Leaving x to) = Off

abbrev pub approach_log : ℕ → Approach → Trail → Type 0
approach_log level a marks = on_way (HasRaised level marks) (λ x. Holding level marks x []) a

-- What a change is to put, when it has written this: all that lists together what it is to list.
pub record IsToPut (level key : ℕ) (marks : Trail) (x : ℕ) (acts : List (Act Page Reply)) (pages : List Page) : Type 0 where
  pub parent : Page
  pub child : ℕ
  pub both : HoldsBoth level key marks x parent child acts
  pub together : ListTogether pages parent key child

abbrev pub outcome_log : ℕ → ℕ → Outcome → Trail → Type 0
outcome_log level key outcome.Edited marks = MeansDone level key None marks
outcome_log level key (outcome.SplitAt separator) marks = MeansDone level key (Some separator) marks
outcome_log level key outcome.Refused marks = MeansNoRoom level marks

abbrev pub edit_log : ℕ → ℕ → Edit → Trail → Type 0
edit_log level key (edit.Putting x page) marks = IsToPut level key marks x [] (page ∷ [])
edit_log level key (edit.Taking full) marks = HoldsBoth level key marks full.at full.page full.word [] × (full.key ≡ key)
edit_log level key (edit.PuttingNew p) marks =
    IsToPut level key marks p.at (Take p.new ∷ []) (p.right ∷ p.left ∷ []) × ((node_of p.right).shape.low ≡ p.separator)
edit_log level key (edit.PuttingOld p) marks =
    IsToPut level key marks p.at (Take p.new ∷ Put p.new p.right ∷ []) (p.right ∷ p.left ∷ []) × ((node_of p.right).shape.low ≡ p.separator)
edit_log level key (edit.OpeningNew x new separator) marks = MeansDone level key (Some separator) marks
edit_log level key (edit.Opening x o) marks = outcome_log level key o marks

-- of a new top level this was written, and the anchor not yet
abbrev pub HasHalfRaised : ℕ → List (Act Page Reply) → Trail → Type 0
HasHalfRaised level half marks = Wrote marks (λ acts. (before : List (Act Page Reply)) × RaisesOnly level before × (acts ≡ before ++ half))

abbrev pub growth_log : ℕ → Growth → Trail → Type 0
growth_log level growth.Latching marks = HasRaised level marks
growth_log level growth.Latched marks = Holding level marks 0 []
growth_log level (growth.Taking rise) marks = Holding level marks 0 [] × (length rise.anchor.leftmost.items ≡ level)
growth_log level (growth.PuttingTop r) marks = HasHalfRaised level (Take r.new ∷ []) marks × IsNewTop level r.new r.top r.anchor
growth_log level (growth.PuttingAnchor r) marks = HasHalfRaised level (Take r.new ∷ Put r.new r.top ∷ []) marks × IsNewTop level r.new r.top r.anchor
growth_log level (growth.OpeningTop x) marks = HasRaised level marks
growth_log level growth.OpeningGrown marks = HasRaised level marks
growth_log level growth.OpeningRefused marks = MeansNoRoom level marks

-- What the answer of a post means.
abbrev pub reply_log : ℕ → ℕ → PostReply → Trail → Type 0
reply_log level key (reply.Done separator) marks = MeansDone level key separator marks
reply_log level key reply.Already marks = MeansAlready level key marks
reply_log level key reply.Stale marks = MeansStale level key marks
reply_log level key reply.NoRoom marks = MeansNoRoom level marks
reply_log level key reply.TooTall marks = MeansTooTall level marks

abbrev pub post_log : ℕ → ℕ → PostStage → Trail → Type 0
post_log level key post.New marks = Unit {0}
post_log level key (post.Coming a) marks = approach_log level a marks
post_log level key (post.Growing g) marks = growth_log level g marks
post_log level key (post.Walking w) marks = HoldsParent level key marks w.at (Inner w.parent) [] × (w.key ≡ key)
post_log level key (post.Editing c) marks = edit_log level key c marks
post_log level key (post.Staying x r) marks = reply_log level key r marks
post_log level key (post.Ending r) marks = reply_log level key r marks
post_log level key (post.Over r) marks = reply_log level key r marks

-- A process that has written nothing before it holds its page: on its way, and at the page.
abbrev pub way_log : Approach → Trail → Type 0
way_log a marks = on_way (Unwritten marks) (λ x. WroteHeld marks x []) a

-- Writes of one key: the leaf that was put is whole, and so, or it was split, if it may be.

abbrev pub put_log : (Page → Type 0) → Type 0 → Outcome → Trail → Type 0
put_log Whole Parts outcome.Edited marks = (x : ℕ) × (page : Page) × WroteHeld marks x (Put x page ∷ []) × Whole page
put_log Whole Parts (outcome.SplitAt separator) marks = WroteLeaf (Some separator) marks × Parts
put_log Whole Parts outcome.Refused marks = Unwritten marks

abbrev pub entry_log : (Page → Type 0) → Type 0 → Edit → Trail → Type 0
entry_log Whole Parts (edit.Putting x page) marks = WroteHeld marks x [] × Whole page
entry_log Whole Parts (edit.Taking full) marks = WroteHeld marks full.at [] × Parts
entry_log Whole Parts (edit.PuttingNew p) marks = WroteHeld marks p.at (Take p.new ∷ []) × ((node_of p.right).shape.low ≡ p.separator) × Parts
entry_log Whole Parts (edit.PuttingOld p) marks =
    WroteHeld marks p.at (Take p.new ∷ Put p.new p.right ∷ []) × ((node_of p.right).shape.low ≡ p.separator) × Parts
entry_log Whole Parts (edit.OpeningNew x new separator) marks = put_log Whole Parts (outcome.SplitAt separator) marks
entry_log Whole Parts (edit.Opening x o) marks = put_log Whole Parts o marks

-- what was noted of the page that is put: whether it is thin where it loses the pair
abbrev pub IsAsNoted : Effect → Noted → Page → Type 0
IsAsNoted Keep noted page = ⊥
IsAsNoted (Enter value) noted page = noted.thin ≡ None
IsAsNoted Remove noted page = noted.thin ≡ thin_low page
IsAsNoted (Replace value) noted page = noted.thin ≡ None

-- only a pair that enters may split a leaf
abbrev pub MaySplit : Effect → Type 0
MaySplit (Enter value) = Unit {0}
MaySplit effect = ⊥

abbrev pub effect_log : Effect → Option Hint → Trail → Type 0
effect_log effect = WrittenSo (deed_of effect)

abbrev pub written_log : KeyWrite → WriteReply → Trail → Type 0
written_log does (written.Done there hint) marks = effect_log (effect_of does there) hint marks
written_log does written.NoRoom marks = Unwritten marks

abbrev pub write_log : KeyWrite → WriteStage → Trail → Type 0
write_log does write.New marks = writes_of marks ≡ []
write_log does (write.Coming a) marks = way_log a marks
write_log does (write.Keeping x there) marks = Unwritten marks × (effect_of does there ≡ Keep)
write_log does (write.Editing noted c) marks = entry_log (IsAsNoted (effect_of does noted.there) noted) (MaySplit (effect_of does noted.there)) c marks
write_log does (write.Ending r) marks = written_log does r marks
write_log does (write.Over r) marks = written_log does r marks

-- Compressions

abbrev pub come_log : Approach → Trail → Type 0
come_log a marks = on_way (Unwritten marks) (λ x. Since marks x []) a

-- What is done after the latch of the parent: up to the get of the right child, and more.
abbrev pub to_right : Siblings → List (Act Page Reply) → List (Act Page Reply)
to_right at more = Get at.parent ∷ Latch at.left ∷ Get at.left ∷ Latch at.right ∷ Get at.right ∷ more

-- What is done up to the first put, the second and the last one.
abbrev pub put_act : Side → Puts → Act Page Reply
put_act side.Left p = Put p.at.left p.left
put_act side.Right p = Put p.at.right p.right

abbrev pub to_first : Puts → List (Act Page Reply)
to_first p = to_right p.at (put_act p.gains p ∷ [])

abbrev pub to_second : Puts → List (Act Page Reply)
to_second p = to_right p.at (put_act p.gains p ∷ Put p.at.parent p.parent ∷ [])

abbrev pub to_last : Puts → List (Act Page Reply)
to_last p = to_right p.at (put_act p.gains p ∷ Put p.at.parent p.parent ∷ put_act (other p.gains) p ∷ [])

-- these two children of its parent are compressed
abbrev pub AtFamily : ℕ → ℕ → Trail → Family → List (Act Page Reply) → Type 0
AtFamily level key marks f acts = GotParent level key marks f.at.parent f.parent (Some f) acts

-- The left child was got, and was c; and the right one, which was d.
pub record AtLeft (level key : ℕ) (marks : Trail) (f : Family) (c : Page) (acts : List (Act Page Reply)) : Type 0 where
  pub family : AtFamily level key marks f acts
  pub got : HasGot family.since.during f.at.left c

pub record AtBoth (level key : ℕ) (marks : Trail) (f : Family) (c d : Page) (acts : List (Act Page Reply)) : Type 0 where
  pub left : AtLeft level key marks f c acts
  pub got : HasGot left.family.since.during f.at.right d

-- What is to be put was decided, of these two children that were got.
pub record IsToCompress (level key : ℕ) (marks : Trail) (p : Puts) (acts : List (Act Page Reply)) : Type 0 where
  pub family : Family
  pub left : Page
  pub right : Page
  pub at : p.at ≡ family.at
  pub both : AtBoth level key marks family left right acts
  pub decided : Decides family left right (PuttingFirst p)

abbrev pub decision_log : ℕ → ℕ → Decision → Trail → Type 0
decision_log level key (decision.Merged hint) marks = Once marks (HasMerged level key hint)
decision_log level key decision.Evened marks = Once marks (HasEvened level key)
decision_log level key decision.Enough marks = Once marks (HasEnough level key)
decision_log level key (decision.Unposted hint) marks = Once marks (HasUnposted level key hint)
decision_log level key decision.Refused marks = Once marks (LacksPlace level key)
decision_log level key decision.Lost marks = Unwritten marks

abbrev pub compression_log : ℕ → ℕ → Compression → Trail → Type 0
compression_log level key (LatchingLeft f) marks = AtFamily level key marks f (Get f.at.parent ∷ [])
compression_log level key (LatchedLeft f) marks = AtFamily level key marks f (Get f.at.parent ∷ Latch f.at.left ∷ [])
compression_log level key (LatchingRight f c) marks = AtLeft level key marks f c (Get f.at.parent ∷ Latch f.at.left ∷ Get f.at.left ∷ [])
compression_log level key (LatchedRight f c) marks = AtLeft level key marks f c (Get f.at.parent ∷ Latch f.at.left ∷ Get f.at.left ∷ Latch f.at.right ∷ [])
compression_log level key (PuttingFirst p) marks = IsToCompress level key marks p (to_right p.at [])
compression_log level key (PuttingParent p) marks = IsToCompress level key marks p (to_first p)
compression_log level key (PuttingLast p) marks = IsToCompress level key marks p (to_second p)
compression_log level key (Retiring at last) marks =
    (p : Puts) × (p.at ≡ at) × IsToCompress level key marks p (to_last p) × (p.decision ≡ last) × ((hint : Option Hint) × (last ≡ decision.Merged hint))
compression_log level key (OpeningRight at last) marks = decision_log level key last marks
compression_log level key (OpeningLeft at last) marks = decision_log level key last marks
compression_log level key (OpeningParent x last) marks = decision_log level key last marks

abbrev pub compress_reply_log : ℕ → ℕ → CompressReply → Trail → Type 0
compress_reply_log level key (compressed.Merged hint) marks = Once marks (HasMerged level key hint)
compress_reply_log level key compressed.Evened marks = Once marks (HasEvened level key)
compress_reply_log level key compressed.Enough marks = Once marks (HasEnough level key)
compress_reply_log level key compressed.Alone marks = Once marks (λ ms. HasNoLevel level ms ⊎ HasOneChild level key ms)
compress_reply_log level key (compressed.Unposted hint) marks = Once marks (HasUnposted level key hint)
compress_reply_log level key compressed.NoRoom marks = Once marks (LacksPlace level key)

abbrev pub compress_log : ℕ → ℕ → CompressStage → Trail → Type 0
compress_log level key compress.New marks = writes_of marks ≡ []
compress_log level key (compress.Coming a) marks = come_log a marks
compress_log level key (compress.Compressing c) marks = compression_log level key c marks
compress_log level key (compress.Staying x) marks = compress_reply_log level key compressed.Alone marks
compress_log level key (compress.Ending r) marks = compress_reply_log level key r marks
compress_log level key (compress.Over r) marks = compress_reply_log level key r marks

abbrev pub lower_log : LowerStage → Trail → Type 0
lower_log lower.New marks = writes_of marks ≡ []
lower_log (lower.Sinking l) marks = lowering_log l marks
lower_log (lower.Ending r) marks = MeansLowered r marks
lower_log (lower.Over r) marks = MeansLowered r marks

-- Insertions that post

-- It has entered its pair, split its leaf, and done some posts; the next one is of that key to that level, and has done that since, as
-- if the process had begun with it. Whatever this post and those that follow it come to, is what all comes to.
pub record IsPostingOn (Does : Trail → Type 0) (level key : ℕ) (marks : Trail) : Type 0 where
  pub begin : Mark
  pub begun : begin.event.act ≡ Begin
  pub before : Trail
  pub rest : Trail
  pub split : marks ≡ before ++ rest
  pub does : Does (begin ∷ rest)
  pub whole : (a : Posted) (left : Option Hint) (more : Trail) → PostsUp begin a left level key more → WroteAndPosted a left (before ++ more)

abbrev pub climbed_log : Placing → Climbed → Trail → Type 0
climbed_log placing (climbed.Unsplit r) marks = written_log (write_of placing) r marks × IsUnsplit r
climbed_log placing (climbed.Posted level key r) marks = WroteAndPosted (posted_as r) (left_hint level key (posted_as r)) marks

abbrev pub climb_log : Placing → ClimbStage → Trail → Type 0
climb_log placing (climb.Writing w) marks = write_log (write_of placing) w.stage marks
climb_log placing (climb.Posting p) marks = IsPostingOn (post_log p.level p.key p.stage) p.level p.key marks
climb_log placing (climb.Ending r) marks = climbed_log placing r marks
climb_log placing (climb.Over r) marks = climbed_log placing r marks

-- Searches and parts write nothing.
abbrev pub proc_log : Proc → Trail → Type 0
proc_log (proc.Find p) marks = writes_of marks ≡ []
proc_log (proc.Write p) marks = write_log p.write p.stage marks
proc_log (proc.Post p) marks = post_log p.level p.key p.stage marks
proc_log (proc.Part p) marks = writes_of marks ≡ []
proc_log (proc.Compress p) marks = compress_log p.level p.key p.stage marks
proc_log (proc.Reclaim p) marks = Unit {0}
proc_log (proc.Lower p) marks = lower_log p.stage marks
proc_log (proc.InsertPost p) marks = climb_log p.placing p.stage marks

-- Each process has done what its state tells of.
abbrev pub AllLogs : World Run → Type 0
AllLogs w = (p : Name) → proc_log (w.proc p).state (marks_of p w.trail)
