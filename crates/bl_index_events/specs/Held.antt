-- What a process has got of the page that it latched last, in each of its states: enough to tell in the end for which page it
-- was refused what it asked for.
use Rattle.std.specs.Prelude.{◌≡◌, ◌≢◌, ◌⊎◌, ◌++◌, ℕ, ◌<◌, ◌≤◌, Option, [], ◌∷◌, length}
use Rattle.bl_page.specs.declared.page.Page.{Page}
use Rattle.bl_page.specs.declared.page.Page.TheVariants.{Inner}
use Rattle.bl_page.specs.Machine.Act.{Latch}
use Rattle.bl_page.specs.Nodes.{Covers, node_of}
use Rattle.bl_claims.specs.Trails.{Mark, Trail, marks_of}
use Rattle.bl_claims.specs.Walks.{Each}
use Rattle.bl_claims.specs.Seeing.{name}
use Rattle.bl_proc_steps.specs.declared.approach.Approach.{Approach}
use Rattle.bl_proc_steps.specs.declared.approach.Approach.TheVariants as way
use Rattle.bl_proc_steps.specs.declared.edit.Edit.{Edit}
use Rattle.bl_proc_steps.specs.declared.edit.Edit.TheVariants as edit
use Rattle.bl_proc_steps.specs.declared.growth.Growth.{Growth}
use Rattle.bl_proc_steps.specs.declared.growth.Growth.TheVariants as growth
use Rattle.bl_model.specs.declared.deciding.KeyWrite.{KeyWrite}
use Rattle.bl_model.specs.declared.deciding.Effect.{Effect}
use Rattle.bl_model.specs.declared.deciding.Effect.TheVariants.{Keep, Enter, Remove, Replace}
use Rattle.bl_model.specs.Writes.{effect_of}
use Rattle.bl_proc_writes.specs.declared.writing.WriteStage.{WriteStage}
use Rattle.bl_proc_writes.specs.declared.writing.WriteStage.TheVariants as write
use Rattle.bl_proc_writes.specs.declared.post.PostStage.{PostStage}
use Rattle.bl_proc_writes.specs.declared.post.PostStage.TheVariants as post
use Rattle.bl_proc_writes.specs.declared.insert_post.Climbed.{Climbed}
use Rattle.bl_proc_writes.specs.declared.insert_post.Climbed.TheVariants as climbed
use Rattle.bl_proc_writes.specs.declared.insert_post.ClimbStage.{ClimbStage}
use Rattle.bl_proc_writes.specs.declared.insert_post.ClimbStage.TheVariants as climb
use Rattle.bl_proc.specs.declared.kinds.Proc.{Proc}
use Rattle.bl_proc.specs.declared.kinds.Proc.TheVariants as proc
use Rattle.bl_index_rule.specs.declared.known.PassState.{PassState}
use Rattle.bl_rearrange.specs.Rearranged.{pairs_of}
use Rattle.bl_index_events.specs.Refused.{GotLatched, GotHeld, GotAnchor}
use Rattle.bl_proc_writes.specs.declared.insert_post.Placing.{Placing}
use Rattle.bl_proc_writes.specs.Placings.{write_of}

-- what the last process of the pass has done
abbrev pub own_marks : PassState → Trail
own_marks d = marks_of (name d.pass d.number) d.trail

-- the process has done more since, and has latched nothing
abbrev pub KeepsLatch : PassState → PassState → Type 0
KeepsLatch d e = (more : Trail) × (own_marks e ≡ own_marks d ++ more) × Each (λ (m : Mark). (x : ℕ) → m.event.act ≢ Latch x) more

-- the last that it did was to latch the page
pub record LatchedLast (marks : Trail) (x : ℕ) : Type 0 where
  pub before : Trail
  pub latch : Mark
  pub split : marks ≡ before ++ latch ∷ []
  pub latched : latch.event.act ≡ Latch x

-- that page as it got it, which is of that level and covers the key
pub record GotAt (level key : ℕ) (marks : Trail) (x : ℕ) (c : Page) : Type 0 where
  pub got : GotLatched marks x c
  pub level_is : (node_of c).shape.level ≡ level
  pub covers : Covers (node_of c).shape key

abbrev pub approach_held : Approach → Trail → Type 0
approach_held way.Start marks = Unit {0}
approach_held (way.At x) marks = Unit {0}
approach_held (way.Latching x) marks = Unit {0}
approach_held (way.Latched x) marks = LatchedLast marks x
approach_held (way.Leaving x to) marks = Unit {0}

-- a page may have 14 pairs: rows of a leaf, children of an inner page
abbrev pub HasRoom : Page → Type 0
HasRoom page = length (pairs_of page) < 14

abbrev pub IsFull : Page → Type 0
IsFull page = 14 ≤ length (pairs_of page)

abbrev pub edit_held : ℕ → ℕ → Edit → Trail → Type 0
edit_held level key (edit.Putting x page) marks = GotHeld level key marks HasRoom
edit_held level key (edit.Taking full) marks = GotHeld level key marks IsFull
edit_held level key (edit.PuttingNew p) marks = Unit {0}
edit_held level key (edit.PuttingOld p) marks = Unit {0}
edit_held level key (edit.OpeningNew x new separator) marks = Unit {0}
edit_held level key (edit.Opening x o) marks = Unit {0}

abbrev pub growth_held : ℕ → Growth → Trail → Type 0
growth_held level growth.Latching marks = Unit {0}
growth_held level growth.Latched marks = LatchedLast marks 0
growth_held level (growth.Taking rise) marks = GotAnchor level marks
growth_held level (growth.PuttingTop r) marks = Unit {0}
growth_held level (growth.PuttingAnchor r) marks = Unit {0}
growth_held level (growth.OpeningTop x) marks = Unit {0}
growth_held level growth.OpeningGrown marks = Unit {0}
growth_held level growth.OpeningRefused marks = Unit {0}

-- One page is put, and none is split.
abbrev pub IsOfOne : Edit → Type 0
IsOfOne (edit.Putting x page) = Unit {0}
IsOfOne (edit.Opening x o) = Unit {0}
IsOfOne c = ⊥

-- What is to be known where a pair enters its leaf, and what where it leaves or gets another value: then the same is asked for
-- whatever the leaf had room for. A leaf that stays asks for nothing.
abbrev pub IfEnters : Effect → Type 0 → Type 0 → Type 0
IfEnters Keep P Q = ⊥
IfEnters (Enter value) P Q = P
IfEnters Remove P Q = Q
IfEnters (Replace value) P Q = Q

abbrev pub write_held : ℕ → KeyWrite → WriteStage → Trail → Type 0
write_held key does write.New marks = Unit {0}
write_held key does (write.Coming a) marks = approach_held a marks
write_held key does (write.Keeping x there) marks = Unit {0}
write_held key does (write.Editing noted c) marks = IfEnters (effect_of does noted.there) (edit_held 0 key c marks) (IsOfOne c)
write_held key does (write.Ending r) marks = Unit {0}
write_held key does (write.Over r) marks = Unit {0}

abbrev pub post_held : ℕ → ℕ → PostStage → Trail → Type 0
post_held level key post.New marks = Unit {0}
post_held level key (post.Coming a) marks = approach_held a marks
post_held level key (post.Growing g) marks = growth_held level g marks
post_held level key (post.Walking w) marks = (w.key ≡ key) × GotAt level key marks w.at (Inner w.parent)
post_held level key (post.Editing c) marks = edit_held level key c marks
post_held level key (post.Staying x r) marks = Unit {0}
post_held level key (post.Ending r) marks = Unit {0}
post_held level key (post.Over r) marks = Unit {0}

abbrev pub climb_held : ClimbStage → Trail → Type 0
climb_held (climb.Writing w) marks = write_held w.key w.write w.stage marks
climb_held (climb.Posting p) marks = post_held p.level p.key p.stage marks
climb_held (climb.Ending r) marks = Unit {0}
climb_held (climb.Over r) marks = Unit {0}

abbrev pub proc_held : Proc → Trail → Type 0
proc_held (proc.Find p) marks = Unit {0}
proc_held (proc.Write p) marks = write_held p.key p.write p.stage marks
proc_held (proc.Post p) marks = post_held p.level p.key p.stage marks
proc_held (proc.Part p) marks = Unit {0}
proc_held (proc.Compress p) marks = Unit {0}
proc_held (proc.Reclaim p) marks = Unit {0}
proc_held (proc.Lower p) marks = Unit {0}
proc_held (proc.InsertPost p) marks = climb_held p.stage marks

-- What it asks for, pages and frames, is what that page takes.
abbrev pub AsksForPage : ℕ → ℕ → ℕ × ℕ → Trail → Type 0
AsksForPage level key ask marks = ((ask ≡ (0, 1)) × GotHeld level key marks HasRoom) ⊎ ((ask ≡ (1, 2)) × GotHeld level key marks IsFull)

abbrev pub AsksForWrite : ℕ → KeyWrite → ℕ × ℕ → Trail → Type 0
AsksForWrite key does ask marks = (there : Option ℕ) × IfEnters (effect_of does there) (AsksForPage 0 key ask marks) (ask ≡ (0, 1))

abbrev pub AsksForPost : ℕ → ℕ → ℕ × ℕ → Trail → Type 0
AsksForPost level key ask marks = AsksForPage level key ask marks ⊎ ((ask ≡ (1, 2)) × GotAnchor level marks)

-- of such a write with its posts, by what became of it
abbrev pub AsksWhen : ℕ → Placing → Climbed → ℕ × ℕ → Trail → Type 0
AsksWhen key placing (climbed.Unsplit r) ask marks = AsksForWrite key (write_of placing) ask marks
AsksWhen key placing (climbed.Posted level separator r) ask marks = AsksForPost level separator ask marks

abbrev pub AsksForClimb : ℕ → Placing → ClimbStage → ℕ × ℕ → Trail → Type 0
AsksForClimb key placing (climb.Writing w) ask marks = AsksForWrite w.key w.write ask marks
AsksForClimb key placing (climb.Posting p) ask marks = AsksForPost p.level p.key ask marks
AsksForClimb key placing (climb.Ending r) ask marks = AsksWhen key placing r ask marks
AsksForClimb key placing (climb.Over r) ask marks = AsksWhen key placing r ask marks

abbrev pub AsksFor : Proc → ℕ × ℕ → Trail → Type 0
AsksFor (proc.Find p) ask marks = Unit {0}
AsksFor (proc.Write p) ask marks = AsksForWrite p.key p.write ask marks
AsksFor (proc.Post p) ask marks = AsksForPost p.level p.key ask marks
AsksFor (proc.Part p) ask marks = Unit {0}
AsksFor (proc.Compress p) ask marks = Unit {0}
AsksFor (proc.Reclaim p) ask marks = Unit {0}
AsksFor (proc.Lower p) ask marks = Unit {0}
AsksFor (proc.InsertPost p) ask marks = AsksForClimb p.key p.placing p.stage ask marks
