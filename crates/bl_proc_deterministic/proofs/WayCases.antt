-- Which turns the machines that processes are built of can take, each with what it gives: the way of a writer, a change, a
-- growth, and the compression of two children. Whoever takes such a turn apart has one clause for each of them, and none for
-- what cannot be.
use Rattle.std.proofs.Common.{ℕ, ◌≡◌, ◌≢◌, ◌<◌, Option, Some, None, Bool, true, false}
use Rattle.bl_page.specs.declared.page.Page.{Page}
use Rattle.bl_page.specs.declared.page.Page.TheVariants.{Anchor}
use Rattle.bl_rearrange.specs.declared.fitted.Fitted.TheVariants.{Split}
use Rattle.bl_rearrange.specs.Rearranged.{IsFitted}
use Rattle.bl_page.specs.Nodes.{roots_of}
use Rattle.bl_proc_steps.specs.declared.acts.Seen.{Seen}
use Rattle.bl_proc_steps.specs.declared.acts.Seen.TheVariants as seen
use Rattle.bl_proc_routes.specs.declared.routes.Step.{Step}
use Rattle.bl_proc_routes.specs.declared.routes.Step.TheVariants.{Here}
use Rattle.bl_proc_steps.specs.declared.approach.Approach.{Approach}
use Rattle.bl_proc_steps.specs.declared.approach.Approach.TheVariants as way
use Rattle.bl_proc_steps.specs.declared.approach.Approached.{Approached}
use Rattle.bl_proc_steps.specs.declared.approach.Approached.TheVariants as came
use Rattle.bl_proc_steps.specs.declared.edit.Full.{Full}
use Rattle.bl_proc_steps.specs.declared.edit.Splitting.{Splitting}
use Rattle.bl_proc_steps.specs.declared.edit.Outcome.{Outcome}
use Rattle.bl_proc_steps.specs.declared.edit.Outcome.TheVariants as outcome
use Rattle.bl_proc_steps.specs.declared.edit.Edit.{Edit}
use Rattle.bl_proc_steps.specs.declared.edit.Edit.TheVariants as edit
use Rattle.bl_proc_steps.specs.declared.edit.Edited.{Edited}
use Rattle.bl_proc_steps.specs.declared.edit.Edited.TheVariants as changed
use Rattle.bl_proc_steps.specs.declared.growth.Rise.{Rise}
use Rattle.bl_proc_steps.specs.declared.growth.Raising.{Raising}
use Rattle.bl_proc_steps.specs.declared.growth.Growth.{Growth}
use Rattle.bl_proc_steps.specs.declared.growth.Growth.TheVariants as growth
use Rattle.bl_proc_steps.specs.declared.growth.Grew.{Grew}
use Rattle.bl_proc_steps.specs.declared.growth.Grew.TheVariants as grew
use Rattle.bl_rearrange.specs.declared.families.Siblings.{Siblings}
use Rattle.bl_rearrange.specs.declared.families.Family.{Family}
use Rattle.bl_proc_compress.specs.declared.compression.Puts.{Puts}
use Rattle.bl_proc_compress.specs.declared.compression.Decision.{Decision}
use Rattle.bl_proc_compress.specs.declared.compression.Decision.TheVariants.{Refused, Lost}
use Rattle.bl_proc_compress.specs.declared.compression.Compression.{Compression}
use Rattle.bl_proc_compress.specs.declared.compression.Compression.TheVariants.{LatchingLeft, LatchedLeft, LatchingRight, LatchedRight, PuttingFirst, PuttingParent, PuttingLast, Retiring, OpeningRight, OpeningLeft, OpeningParent}
use Rattle.bl_proc_compress.specs.declared.compression.Compressed.{Compressed}
use Rattle.bl_proc_compress.specs.declared.compression.Compressed.TheVariants as step
use Rattle.bl_proc_compress.specs.Compressions.{Links, Decides, after_puts, missed_left, missed_right, Compresses}
use Rattle.bl_proc_routes.specs.Routes.{Leads}
use Rattle.bl_proc_steps.specs.Approaches.{Enters, Turns, Quits, Approaches}
use Rattle.bl_proc_steps.specs.Edits.{Changes}
use Rattle.bl_proc_steps.specs.Growths.{Raises, Grows}

-- A writer on its way to the page that covers its key, and there.
pub data ApproachCase (level key : ℕ) : Approach → Seen → Approached → Type 0 where
  Entered : (c : Page) (a : Approach) → Enters level (roots_of c) a → ApproachCase level key way.Start (seen.Words c) (came.On a)
  Turned : (x : ℕ) (c : Page) (a : Approach) (o : Step) → Leads c key level o → Turns level x c o a → ApproachCase level key (way.At x) (seen.Words c) (came.On a)
  LatchedPage : (x : ℕ) (a : Approach) → a ≡ way.Latched x → ApproachCase level key (way.Latching x) seen.Done (came.On a)
  MissedPage : (x : ℕ) (a : Approach) → a ≡ way.At x → ApproachCase level key (way.Latching x) seen.Missed (came.On a)
  Quitted : (x : ℕ) (c : Page) (y : ℕ) (to : Option ℕ) → (y ≡ x) × ((o : Step) × Leads c key level o × Quits o to) → ApproachCase level key (way.Latched x) (seen.Words c) (came.On (way.Leaving y to))
  Arrived : (x : ℕ) (c : Page) (y : ℕ) (d : Page) → (y ≡ x) × (d ≡ c) × Leads c key level Here → ApproachCase level key (way.Latched x) (seen.Words c) (came.Here y d)
  OpenedFor : (x y : ℕ) (a : Approach) → a ≡ way.Latching y → ApproachCase level key (way.Leaving x (Some y)) seen.Done (came.On a)
  OpenedLost : (x : ℕ) (a : Approach) → a ≡ way.Start → ApproachCase level key (way.Leaving x None) seen.Done (came.On a)

pub approach_case : (level key : ℕ) (a : Approach) (what : Seen) (new : Approached) → Approaches level key a what new → ApproachCase level key a what new
approach_case level key way.Start (seen.Words c) (came.On b) t = Entered c b t
approach_case level key (way.At x) (seen.Words c) (came.On b) t = Turned x c b t.0 t.1 t.2
approach_case level key (way.Latching x) seen.Done (came.On b) t = LatchedPage x b t
approach_case level key (way.Latching x) seen.Missed (came.On b) t = MissedPage x b t
approach_case level key (way.Latched x) (seen.Words c) (came.On (way.Leaving y to)) t = Quitted x c y to t
approach_case level key (way.Latched x) (seen.Words c) (came.Here y d) t = Arrived x c y d t
approach_case level key (way.Leaving x (Some y)) seen.Done (came.On b) t = OpenedFor x y b t
approach_case level key (way.Leaving x None) seen.Done (came.On b) t = OpenedLost x b t
approach_case level key a what new t = absurd t

-- The change of one pair of a page that is held.
pub data EditCase : Edit → Seen → Edited → Type 0 where
  Put : (x : ℕ) (page : Page) (new : Edit) → new ≡ edit.Opening x outcome.Edited → EditCase (edit.Putting x page) seen.Done (changed.On new)
  PutRefused : (x : ℕ) (page : Page) (new : Edit) → new ≡ edit.Opening x outcome.Refused → EditCase (edit.Putting x page) seen.Refused (changed.On new)
  Took : (full : Full) (y : ℕ) (p : Splitting) → (p.at ≡ full.at) × (p.new ≡ y) × IsFitted full.page full.key full.word y (Split p.left p.right p.separator) → EditCase (edit.Taking full) (seen.Took y) (changed.On (edit.PuttingNew p))
  TakeRefused : (full : Full) (new : Edit) → new ≡ edit.Opening full.at outcome.Refused → EditCase (edit.Taking full) seen.Refused (changed.On new)
  PutNew : (p : Splitting) (new : Edit) → new ≡ edit.PuttingOld p → EditCase (edit.PuttingNew p) seen.Done (changed.On new)
  PutOld : (p : Splitting) (new : Edit) → new ≡ edit.OpeningNew p.at p.new p.separator → EditCase (edit.PuttingOld p) seen.Done (changed.On new)
  OpenedNew : (x y separator : ℕ) (new : Edit) → new ≡ edit.Opening x (outcome.SplitAt separator) → EditCase (edit.OpeningNew x y separator) seen.Done (changed.On new)
  Opened : (x : ℕ) (o last : Outcome) → last ≡ o → EditCase (edit.Opening x o) seen.Done (changed.Over last)

pub edit_case : (c : Edit) (what : Seen) (new : Edited) → Changes c what new → EditCase c what new
edit_case (edit.Putting x page) seen.Done (changed.On new) t = Put x page new t
edit_case (edit.Putting x page) seen.Refused (changed.On new) t = PutRefused x page new t
edit_case (edit.Taking full) (seen.Took y) (changed.On (edit.PuttingNew p)) t = Took full y p t
edit_case (edit.Taking full) seen.Refused (changed.On new) t = TakeRefused full new t
edit_case (edit.PuttingNew p) seen.Done (changed.On new) t = PutNew p new t
edit_case (edit.PuttingOld p) seen.Done (changed.On new) t = PutOld p new t
edit_case (edit.OpeningNew x y separator) seen.Done (changed.On new) t = OpenedNew x y separator new t
edit_case (edit.Opening x o) seen.Done (changed.Over last) t = Opened x o last t
edit_case c what new t = absurd t

-- A new top level.
pub data GrowthCase (level : ℕ) : Growth → Seen → Grew → Type 0 where
  LatchedAnchor : (new : Growth) → new ≡ growth.Latched → GrowthCase level growth.Latching seen.Done (grew.On new)
  Missed : (new : Growth) → new ≡ growth.Latching → GrowthCase level growth.Latching seen.Missed (grew.On new)
  Rises : (c : Page) (rise : Rise) → (c ≡ Anchor rise.anchor) × ((roots_of c).levels ≡ level) → GrowthCase level growth.Latched (seen.Words c) (grew.On (growth.Taking rise))
  Stands : (c : Page) → (level < 12 → (roots_of c).levels ≢ level) → GrowthCase level growth.Latched (seen.Words c) (grew.On growth.OpeningGrown)
  TookTop : (rise : Rise) (y : ℕ) (r : Raising) → (r.new ≡ y) × Raises rise.anchor.leftmost.items y r.top r.anchor → GrowthCase level (growth.Taking rise) (seen.Took y) (grew.On (growth.PuttingTop r))
  TopRefused : (rise : Rise) (new : Growth) → new ≡ growth.OpeningRefused → GrowthCase level (growth.Taking rise) seen.Refused (grew.On new)
  PutTop : (r : Raising) (new : Growth) → new ≡ growth.PuttingAnchor r → GrowthCase level (growth.PuttingTop r) seen.Done (grew.On new)
  PutAnchor : (r : Raising) (new : Growth) → new ≡ growth.OpeningTop r.new → GrowthCase level (growth.PuttingAnchor r) seen.Done (grew.On new)
  OpenedTop : (x : ℕ) (new : Growth) → new ≡ growth.OpeningGrown → GrowthCase level (growth.OpeningTop x) seen.Done (grew.On new)
  OpenedGrown : GrowthCase level growth.OpeningGrown seen.Done grew.Grown
  OpenedRefused : GrowthCase level growth.OpeningRefused seen.Done grew.Refused

pub growth_case : (level : ℕ) (g : Growth) (what : Seen) (new : Grew) → Grows level g what new → GrowthCase level g what new
growth_case level growth.Latching seen.Done (grew.On new) t = LatchedAnchor new t
growth_case level growth.Latching seen.Missed (grew.On new) t = Missed new t
growth_case level growth.Latched (seen.Words c) (grew.On (growth.Taking rise)) t = Rises c rise t
growth_case level growth.Latched (seen.Words c) (grew.On growth.OpeningGrown) t = Stands c t
growth_case level (growth.Taking rise) (seen.Took y) (grew.On (growth.PuttingTop r)) t = TookTop rise y r t
growth_case level (growth.Taking rise) seen.Refused (grew.On new) t = TopRefused rise new t
growth_case level (growth.PuttingTop r) seen.Done (grew.On new) t = PutTop r new t
growth_case level (growth.PuttingAnchor r) seen.Done (grew.On new) t = PutAnchor r new t
growth_case level (growth.OpeningTop x) seen.Done (grew.On new) t = OpenedTop x new t
growth_case level growth.OpeningGrown seen.Done grew.Grown t = OpenedGrown
growth_case level growth.OpeningRefused seen.Done grew.Refused t = OpenedRefused
growth_case level g what new t = absurd t

-- The compression of two children of a page that is held.
pub data CompressionCase : Compression → Seen → Compressed → Type 0 where
  LatchLeft : (f : Family) (new : Compression) → new ≡ LatchedLeft f → CompressionCase (LatchingLeft f) seen.Done (step.On new)
  MissLeft : (f : Family) (new : Compression) → new ≡ LatchingLeft f → CompressionCase (LatchingLeft f) seen.Missed (step.On new)
  LeaveLeft : (f : Family) (new : Compression) → new ≡ OpeningParent f.at.parent Lost → CompressionCase (LatchingLeft f) seen.Missed (step.On new)
  GotLeft : (f : Family) (c : Page) (new : Compression) → Links f c new → CompressionCase (LatchedLeft f) (seen.Words c) (step.On new)
  LatchRight : (f : Family) (c : Page) (new : Compression) → new ≡ LatchedRight f c → CompressionCase (LatchingRight f c) seen.Done (step.On new)
  MissRight : (f : Family) (c : Page) (new : Compression) → new ≡ LatchingRight f c → CompressionCase (LatchingRight f c) seen.Missed (step.On new)
  LeaveRight : (f : Family) (c : Page) (new : Compression) → new ≡ OpeningLeft f.at Lost → CompressionCase (LatchingRight f c) seen.Missed (step.On new)
  GotRight : (f : Family) (c d : Page) (new : Compression) → Decides f c d new → CompressionCase (LatchedRight f c) (seen.Words d) (step.On new)
  PutFirst : (p : Puts) (new : Compression) → new ≡ PuttingParent p → CompressionCase (PuttingFirst p) seen.Done (step.On new)
  FirstRefused : (p : Puts) (new : Compression) → new ≡ OpeningRight p.at Refused → CompressionCase (PuttingFirst p) seen.Refused (step.On new)
  PutParent : (p : Puts) (new : Compression) → new ≡ PuttingLast p → CompressionCase (PuttingParent p) seen.Done (step.On new)
  PutLast : (p : Puts) (new : Compression) → new ≡ after_puts p.at p.decision → CompressionCase (PuttingLast p) seen.Done (step.On new)
  Retired : (at : Siblings) (decision : Decision) (new : Compression) → new ≡ OpeningLeft at decision → CompressionCase (Retiring at decision) seen.Done (step.On new)
  OpenedRight : (at : Siblings) (decision : Decision) (new : Compression) → new ≡ OpeningLeft at decision → CompressionCase (OpeningRight at decision) seen.Done (step.On new)
  OpenedLeft : (at : Siblings) (decision : Decision) (new : Compression) → new ≡ OpeningParent at.parent decision → CompressionCase (OpeningLeft at decision) seen.Done (step.On new)
  OpenedParent : (x : ℕ) (decision last : Decision) → last ≡ decision → CompressionCase (OpeningParent x decision) seen.Done (step.Over last)

missed_left_case : (waits : Bool) (f : Family) (new : Compression) → new ≡ missed_left waits f → CompressionCase (LatchingLeft f) seen.Missed (step.On new)
missed_left_case true f new t = MissLeft f new t
missed_left_case false f new t = LeaveLeft f new t

missed_right_case : (waits : Bool) (f : Family) (c : Page) (new : Compression) → new ≡ missed_right waits f c → CompressionCase (LatchingRight f c) seen.Missed (step.On new)
missed_right_case true f c new t = MissRight f c new t
missed_right_case false f c new t = LeaveRight f c new t

pub compression_case : (waits : Bool) (c : Compression) (what : Seen) (new : Compressed) → Compresses waits c what new → CompressionCase c what new
compression_case waits (LatchingLeft f) seen.Done (step.On new) t = LatchLeft f new t
compression_case waits (LatchingLeft f) seen.Missed (step.On new) t = missed_left_case waits f new t
compression_case waits (LatchedLeft f) (seen.Words c) (step.On new) t = GotLeft f c new t
compression_case waits (LatchingRight f c) seen.Done (step.On new) t = LatchRight f c new t
compression_case waits (LatchingRight f c) seen.Missed (step.On new) t = missed_right_case waits f c new t
compression_case waits (LatchedRight f c) (seen.Words d) (step.On new) t = GotRight f c d new t
compression_case waits (PuttingFirst p) seen.Done (step.On new) t = PutFirst p new t
compression_case waits (PuttingFirst p) seen.Refused (step.On new) t = FirstRefused p new t
compression_case waits (PuttingParent p) seen.Done (step.On new) t = PutParent p new t
compression_case waits (PuttingLast p) seen.Done (step.On new) t = PutLast p new t
compression_case waits (Retiring at decision) seen.Done (step.On new) t = Retired at decision new t
compression_case waits (OpeningRight at decision) seen.Done (step.On new) t = OpenedRight at decision new t
compression_case waits (OpeningLeft at decision) seen.Done (step.On new) t = OpenedLeft at decision new t
compression_case waits (OpeningParent x decision) seen.Done (step.Over last) t = OpenedParent x decision last t
compression_case waits c what new t = absurd t
