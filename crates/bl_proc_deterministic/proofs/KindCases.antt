-- Which turns a process of each kind can take, each with what it gives. Whoever takes a turn of a process apart has one
-- clause for each of them, and none for what cannot be.
use Rattle.std.proofs.Common.{ℕ, ◌≡◌, ◌≢◌, ◌+◌, ◌-◌, ◌<◌, ◌≤◌, Bool, true, false, Option, Some, None, refl, sym, subst, inl, inr}
use Rattle.bl_model.specs.declared.deciding.KeyWrite.{KeyWrite}
use Rattle.bl_model.specs.declared.deciding.Effect.TheVariants.{Keep}
use Rattle.bl_model.specs.Writes.{effect_of}
use Rattle.bl_page.specs.declared.page.Page.{Page}
use Rattle.bl_page.specs.declared.page.Page.TheVariants.{Inner as InnerPage}
use Rattle.bl_page.specs.declared.page.Inner.{Inner}
use Rattle.bl_page.specs.Nodes.{node_of, roots_of}
use Rattle.bl_proc_steps.specs.declared.acts.Seen.{Seen}
use Rattle.bl_proc_steps.specs.declared.acts.Seen.TheVariants as seen
use Rattle.bl_answers.specs.declared.answers.Hint.TheVariants as hint
use Rattle.bl_answers.specs.declared.answers.Reclaimed.{Reclaimed}
use Rattle.bl_answers.specs.declared.answers.Reclaimed.TheVariants as reclaimed
use Rattle.bl_proc_routes.specs.declared.routes.Step.{Step}
use Rattle.bl_proc_routes.specs.declared.routes.Step.TheVariants.{Again, Right, Down, Here}
use Rattle.bl_proc_steps.specs.declared.descent.Descent.{Descent}
use Rattle.bl_proc_steps.specs.declared.descent.Descent.TheVariants as descent
use Rattle.bl_proc_steps.specs.declared.descent.Descended.TheVariants as descended
use Rattle.bl_proc_steps.specs.declared.approach.Approach.{Approach}
use Rattle.bl_proc_steps.specs.declared.approach.Approach.TheVariants as way
use Rattle.bl_proc_steps.specs.declared.approach.Approached.TheVariants as came
use Rattle.bl_proc_steps.specs.declared.approach.Came.{Came as Became}
use Rattle.bl_proc_steps.specs.declared.approach.Came.TheVariants as come
use Rattle.bl_proc_steps.specs.declared.edit.Outcome.{Outcome}
use Rattle.bl_proc_steps.specs.declared.edit.Edit.{Edit}
use Rattle.bl_proc_steps.specs.declared.edit.Edited.TheVariants as changed
use Rattle.bl_proc_steps.specs.declared.growth.Growth.{Growth}
use Rattle.bl_proc_steps.specs.declared.growth.Growth.TheVariants as growth
use Rattle.bl_proc_steps.specs.declared.growth.Grew.TheVariants as grew
use Rattle.bl_answers.specs.declared.answers.Lowered.{Lowered}
use Rattle.bl_proc_steps.specs.declared.lowering.Lowering.{Lowering}
use Rattle.bl_proc_steps.specs.declared.lowering.Lowering.TheVariants.{Looking}
use Rattle.bl_proc_steps.specs.declared.lowering.Sank.TheVariants as sank
use Rattle.bl_rearrange.specs.declared.families.Family.{Family}
use Rattle.bl_proc_compress.specs.declared.compression.Decision.{Decision}
use Rattle.bl_proc_compress.specs.declared.compression.Compression.{Compression}
use Rattle.bl_proc_compress.specs.declared.compression.Compression.TheVariants.{LatchingLeft}
use Rattle.bl_proc_compress.specs.declared.compression.Compressed.TheVariants as step
use Rattle.bl_proc_compress.specs.declared.compress.CompressStage.{CompressStage}
use Rattle.bl_proc_compress.specs.declared.compress.CompressStage.TheVariants as compress
use Rattle.bl_proc_compress.specs.declared.compress.CompressReply.{CompressReply}
use Rattle.bl_proc_compress.specs.declared.compress.CompressReply.TheVariants as compressed
use Rattle.bl_proc_compress.specs.Compressions.{AreSiblings, Compresses}
use Rattle.bl_proc_compress.specs.Compresses.{compress_reply, CompressArrives, CompressComes, CompressGoes}
use Rattle.bl_proc_writes.specs.declared.writing.Noted.{Noted}
use Rattle.bl_proc_writes.specs.declared.writing.WriteReply.{WriteReply}
use Rattle.bl_proc_writes.specs.declared.writing.WriteReply.TheVariants as written
use Rattle.bl_proc_writes.specs.declared.writing.WriteStage.{WriteStage}
use Rattle.bl_proc_writes.specs.declared.writing.WriteStage.TheVariants as write
use Rattle.bl_proc_writes.specs.declared.writing.Write.{Write}
use Rattle.bl_proc_writes.specs.declared.walking.Walk.{Walk}
use Rattle.bl_proc_writes.specs.declared.post.Post.{Post}
use Rattle.bl_proc_writes.specs.declared.post.PostStage.{PostStage}
use Rattle.bl_proc_writes.specs.declared.post.PostStage.TheVariants as post
use Rattle.bl_proc_writes.specs.declared.post.PostReply.{PostReply}
use Rattle.bl_proc_writes.specs.declared.post.PostReply.TheVariants as listed
use Rattle.bl_proc_writes.specs.declared.paths.Path.{Path}
use Rattle.bl_proc_writes.specs.declared.insert_post.Climbed.{Climbed}
use Rattle.bl_proc_writes.specs.declared.insert_post.Climbed.TheVariants as climbed
use Rattle.bl_proc_writes.specs.declared.insert_post.ClimbStage.{ClimbStage}
use Rattle.bl_proc_writes.specs.declared.insert_post.ClimbStage.TheVariants as climb
use Rattle.bl_proc.specs.declared.reclaiming.Round.{Round}
use Rattle.bl_proc.specs.declared.reclaiming.ReclaimStage.{ReclaimStage}
use Rattle.bl_proc.specs.declared.reclaiming.ReclaimStage.TheVariants as reclaim
use Rattle.bl_proc.specs.declared.lowering.LowerStage.{LowerStage}
use Rattle.bl_proc.specs.declared.lowering.LowerStage.TheVariants as lower
use Rattle.bl_proc.specs.declared.searching.FindStage.{FindStage}
use Rattle.bl_proc.specs.declared.searching.FindStage.TheVariants as find
use Rattle.bl_proc.specs.declared.parts.PartRows.{PartRows}
use Rattle.bl_proc.specs.declared.parts.PartStage.{PartStage}
use Rattle.bl_proc.specs.declared.parts.PartStart.{PartStart}
use Rattle.bl_proc.specs.declared.parts.PartStage.TheVariants as part
use Rattle.bl_proc_routes.specs.Routes.{Leads}
use Rattle.bl_proc_steps.specs.Descents.{Descends}
use Rattle.bl_proc_steps.specs.Approaches.{Approaches, Comes}
use Rattle.bl_proc_steps.specs.Edits.{EntersPair, Changes}
use Rattle.bl_proc_steps.specs.Growths.{Grows}
use Rattle.bl_proc_steps.specs.Lowerings.{Lowers}
use Rattle.bl_proc.specs.Searches.{FindGoes}
use Rattle.bl_proc.specs.Parts.{IsPartBy, way_by, PartGoes}
use Rattle.bl_proc_writes.specs.Writes.{Performs, thin_by, write_reply, WriteArrives, WriteGoes}
use Rattle.bl_proc_writes.specs.Posts.{post_reply, IsLost, PostLacks, PostArrives, PostComes, PostGoes}
use Rattle.bl_proc_writes.specs.Paths.{noted, Notes}
use Rattle.bl_proc_writes.specs.Stands.{IsWriting, IsPosting}
use Rattle.bl_proc_writes.specs.InsertPosts.{PostsFrom, IsUnsplit, IsLast, ClimbGoes}
use Rattle.bl_proc.specs.Reclaims.{GoesPast, ReclaimGoes}
use Rattle.bl_proc.specs.Lowers.{LowerGoes}
use Rattle.bl_proc_deterministic.proofs.WayCases.{ApproachCase, approach_case}
use Rattle.bl_proc_deterministic.proofs.WayCases.ApproachCase.{Arrived}

-- A writer that is there got a page under its latch, and what is said of where it is is said of that page.
at_page : {level key y : ℕ} {a : Approach} {what : Seen} {d : Page} (P : ℕ → Page → Type 0) (Q : Approach → Seen → Type 0) → Approaches level key a what (came.Here y d) → P y d → ((x : ℕ) (c : Page) → Leads c key level Here → P x c → Q (way.Latched x) (seen.Words c)) → Q a what
at_page {level = level} {key = key} {y = y} {a = a} {what = what} {d = d} P Q h t then = by (approach_case level key a what (came.Here y d) h) t
  where
    by : {b : Approach} {w : Seen} {z : ℕ} {c : Page} → ApproachCase level key b w (came.Here z c) → P z c → Q b w
    by (Arrived x c z e is) at = then x c is.2 (subst (λ u. P u c) is.0 (subst (λ u. P z u) is.1 at))

-- On the way to a parent the tree lacks its level, or the way goes on, or the process got the parent under its latch; and what
-- is said of what became of the way is said of what was got.
came_by : (level key : ℕ) (a : Approach) (what : Seen) (m : Became) (P : Became → Type 0) (Q : Approach → Seen → Type 0) → Comes level key a what m → P m
    → ((c : Page) → (roots_of c).levels ≤ level → P (come.NoLevel (roots_of c).levels) → Q way.Start (seen.Words c))
    → ((b : Approach) → Approaches level key a what (came.On b) → P (come.On b) → Q a what)
    → ((x : ℕ) (parent : Inner) → Leads (InnerPage parent) key level Here → P (come.ToParent x parent) → Q (way.Latched x) (seen.Words (InnerPage parent)))
    → Q a what
came_by level key a what (come.On b) P Q h t lacks on there = on b h.1 t
came_by level key a what (come.ToParent y parent) P Q h t lacks on there =
    at_page (λ z d. (p : Inner) × (d ≡ InnerPage p) × P (come.ToParent z p)) Q h (parent, refl, t)
    (λ x c l at. subst (λ d. Q (way.Latched x) (seen.Words d)) (sym at.1) (there x at.0 (subst (λ d. Leads d key level Here) at.1 l) at.2))
came_by level key way.Start (seen.Words c) (come.NoLevel n) P Q h t lacks on there = lacks c (subst (λ k. k ≤ level) h.1 h.0) (subst (λ k. P (come.NoLevel k)) h.1 t)
came_by level key a what m P Q h t lacks on there = absurd h.1

pub data FindCase (key : ℕ) : FindStage → Seen → FindStage → Type 0 where
  Began : (d : Descent) → d ≡ descent.AtAnchor → FindCase key find.New seen.Done (find.Descending d)
  BeganNear : (x y : ℕ) → y ≡ x → FindCase key (find.Near x) seen.Done (find.Probing y)
  Looked : (x : ℕ) (free : Bool) (d : Descent) → d ≡ way_by x free → FindCase key (find.Probing x) (seen.Probed free) (find.Descending d)
  Went : (d : Descent) (c : Page) (e : Descent) → Descends key d c (descended.On e) → FindCase key (find.Descending d) (seen.Words c) (find.Descending e)
  Found : (d : Descent) (c : Page) (value : Option ℕ) → Descends key d c descended.Here × (value ≡ (node_of c).look key) → FindCase key (find.Descending d) (seen.Words c) (find.Ending value)
  Ended : (value last : Option ℕ) → last ≡ value → FindCase key (find.Ending value) seen.Done (find.Over last)

pub find_case : (key : ℕ) (a : FindStage) (what : Seen) (b : FindStage) → FindGoes key a what b → FindCase key a what b
find_case key find.New seen.Done (find.Descending d) t = Began d t
find_case key (find.Near x) seen.Done (find.Probing y) t = BeganNear x y t
find_case key (find.Probing x) (seen.Probed free) (find.Descending d) t = Looked x free d t
find_case key (find.Descending d) (seen.Words c) (find.Descending e) t = Went d c e t
find_case key (find.Descending d) (seen.Words c) (find.Ending value) t = Found d c value t
find_case key (find.Ending value) seen.Done (find.Over last) t = Ended value last t
find_case key a what b t = absurd t

-- on its way as a search is
pub data PartCase (from : PartStart) : PartStage → Seen → PartStage → Type 0 where
  Began : (d : Descent) → d ≡ descent.AtAnchor → PartCase from part.New seen.Done (part.Descending d)
  BeganNear : (x y : ℕ) → y ≡ x → PartCase from (part.Near x) seen.Done (part.Probing y)
  Looked : (x : ℕ) (free : Bool) (d : Descent) → d ≡ way_by x free → PartCase from (part.Probing x) (seen.Probed free) (part.Descending d)
  Went : (d : Descent) (c : Page) (e : Descent) → Descends from.key d c (descended.On e) → PartCase from (part.Descending d) (seen.Words c) (part.Descending e)
  Listed : (d : Descent) (c : Page) (r : PartRows) → Descends from.key d c descended.Here × IsPartBy from c r → PartCase from (part.Descending d) (seen.Words c) (part.Ending r)
  Ended : (r last : PartRows) → last ≡ r → PartCase from (part.Ending r) seen.Done (part.Over last)

pub part_case : (from : PartStart) (a : PartStage) (what : Seen) (b : PartStage) → PartGoes from a what b → PartCase from a what b
part_case from part.New seen.Done (part.Descending d) t = Began d t
part_case from (part.Near x) seen.Done (part.Probing y) t = BeganNear x y t
part_case from (part.Probing x) (seen.Probed free) (part.Descending d) t = Looked x free d t
part_case from (part.Descending d) (seen.Words c) (part.Descending e) t = Went d c e t
part_case from (part.Descending d) (seen.Words c) (part.Ending r) t = Listed d c r t
part_case from (part.Ending r) seen.Done (part.Over last) t = Ended r last t
part_case from a what b t = absurd t

-- At its leaf a write leaves it as it is, or changes it.
pub data WriteCase (key : ℕ) (does : KeyWrite) : WriteStage → Seen → WriteStage → Type 0 where
  Began : (a : Approach) → a ≡ way.Start → WriteCase key does write.New seen.Done (write.Coming a)
  Came : (a : Approach) (what : Seen) (b : Approach) → Approaches 0 key a what (came.On b) → WriteCase key does (write.Coming a) what (write.Coming b)
  Kept : (x : ℕ) (c : Page) (y : ℕ) (there : Option ℕ) → Leads c key 0 Here → (y ≡ x) × ((node_of c).look key ≡ there) × (effect_of does there ≡ Keep) → WriteCase key does (write.Coming (way.Latched x)) (seen.Words c) (write.Keeping y there)
  Changed : (x : ℕ) (c : Page) (noted : Noted) (d : Edit) → Leads c key 0 Here → ((node_of c).look key ≡ noted.there) × Performs (effect_of does noted.there) x c key d × (noted.thin ≡ thin_by (effect_of does noted.there) d) → WriteCase key does (write.Coming (way.Latched x)) (seen.Words c) (write.Editing noted d)
  Opened : (x : ℕ) (there : Option ℕ) (r : WriteReply) → r ≡ written.Done there None → WriteCase key does (write.Keeping x there) seen.Done (write.Ending r)
  Edited : (noted : Noted) (c : Edit) (what : Seen) (same : Noted) (d : Edit) → (same ≡ noted) × Changes c what (changed.On d) → WriteCase key does (write.Editing noted c) what (write.Editing same d)
  Finished : (noted : Noted) (c : Edit) (what : Seen) (r : WriteReply) → (o : Outcome) × Changes c what (changed.Over o) × (r ≡ write_reply noted o) → WriteCase key does (write.Editing noted c) what (write.Ending r)
  Ended : (r last : WriteReply) → last ≡ r → WriteCase key does (write.Ending r) seen.Done (write.Over last)

pub write_case : (key : ℕ) (does : KeyWrite) (a : WriteStage) (what : Seen) (b : WriteStage) → WriteGoes key does a what b → WriteCase key does a what b
write_case key does write.New seen.Done (write.Coming a) t = Began a t
write_case key does (write.Coming a) what (write.Coming b) t = Came a what b t
write_case key does (write.Coming a) what (write.Keeping y there) (x, c, h, t) =
    at_page (λ z d. WriteArrives key does z d (write.Keeping y there)) (λ b w. WriteCase key does (write.Coming b) w (write.Keeping y there)) h t (λ z d l u. Kept z d y there l u)
write_case key does (write.Coming a) what (write.Editing noted e) (x, c, h, t) =
    at_page (λ z d. WriteArrives key does z d (write.Editing noted e)) (λ b w. WriteCase key does (write.Coming b) w (write.Editing noted e)) h t (λ z d l u. Changed z d noted e l u)
write_case key does (write.Coming a) what b t = absurd t.3
write_case key does (write.Keeping x there) seen.Done (write.Ending r) t = Opened x there r t
write_case key does (write.Editing noted c) what (write.Editing same d) t = Edited noted c what same d t
write_case key does (write.Editing noted c) what (write.Ending r) t = Finished noted c what r t
write_case key does (write.Ending r) seen.Done (write.Over last) t = Ended r last t
write_case key does a what b t = absurd t

-- At the anchor the level may be missing, or is to be made; at the parent the key is listed, or the walk to the child begins.
pub data PostCase (level key : ℕ) : PostStage → Seen → PostStage → Type 0 where
  Began : (a : Approach) → a ≡ way.Start → PostCase level key post.New seen.Done (post.Coming a)
  NoLevel : (c : Page) → (roots_of c).levels < level → PostCase level key (post.Coming way.Start) (seen.Words c) (post.Ending listed.Stale)
  Tallest : (c : Page) → ((roots_of c).levels ≡ level) × (level ≡ 12) → PostCase level key (post.Coming way.Start) (seen.Words c) (post.Ending listed.TooTall)
  ToGrow : (c : Page) → ((roots_of c).levels ≡ level) × (level ≢ 12) → PostCase level key (post.Coming way.Start) (seen.Words c) (post.Growing growth.Latching)
  Came : (a : Approach) (what : Seen) (b : Approach) → Approaches level key a what (came.On b) → PostCase level key (post.Coming a) what (post.Coming b)
  Listed : (x : ℕ) (parent : Inner) (y : ℕ) → Leads (InnerPage parent) key level Here → PostArrives key x parent (post.Staying y listed.Already) → PostCase level key (post.Coming (way.Latched x)) (seen.Words (InnerPage parent)) (post.Staying y listed.Already)
  ToWalk : (x : ℕ) (parent : Inner) (v : Walk) → Leads (InnerPage parent) key level Here → PostArrives key x parent (post.Walking v) → PostCase level key (post.Coming (way.Latched x)) (seen.Words (InnerPage parent)) (post.Walking v)
  Grew : (g : Growth) (what : Seen) (h : Growth) → Grows level g what (grew.On h) → PostCase level key (post.Growing g) what (post.Growing h)
  Grown : (g : Growth) (what : Seen) (a : Approach) → Grows level g what grew.Grown × (a ≡ way.Start) → PostCase level key (post.Growing g) what (post.Coming a)
  NoRoom : (g : Growth) (what : Seen) (r : PostReply) → Grows level g what grew.Refused × (r ≡ listed.NoRoom) → PostCase level key (post.Growing g) what (post.Ending r)
  Walked : (w : Walk) (c : Page) (v : Walk) → (v.at ≡ w.at) × (v.key ≡ w.key) × (v.parent ≡ w.parent) × Leads c w.key (level - 1) (Right v.child) → PostCase level key (post.Walking w) (seen.Words c) (post.Walking v)
  Entered : (w : Walk) (c : Page) (d : Edit) → Leads c w.key (level - 1) Here × ((node_of c).shape.low ≡ w.key) × EntersPair w.at (InnerPage w.parent) w.key w.child d → PostCase level key (post.Walking w) (seen.Words c) (post.Editing d)
  Stale : (w : Walk) (c : Page) (x : ℕ) → (x ≡ w.at) × Leads c w.key (level - 1) Here × ((node_of c).shape.low ≢ w.key) → PostCase level key (post.Walking w) (seen.Words c) (post.Staying x listed.Stale)
  Lost : (w : Walk) (c : Page) (a : Approach) → (a ≡ way.Leaving w.at None) × ((o : Step) × Leads c w.key (level - 1) o × IsLost o) → PostCase level key (post.Walking w) (seen.Words c) (post.Coming a)
  Edited : (c : Edit) (what : Seen) (d : Edit) → Changes c what (changed.On d) → PostCase level key (post.Editing c) what (post.Editing d)
  Finished : (c : Edit) (what : Seen) (r : PostReply) → (o : Outcome) × Changes c what (changed.Over o) × (r ≡ post_reply o) → PostCase level key (post.Editing c) what (post.Ending r)
  Opened : (x : ℕ) (r last : PostReply) → last ≡ r → PostCase level key (post.Staying x r) seen.Done (post.Ending last)
  Ended : (r last : PostReply) → last ≡ r → PostCase level key (post.Ending r) seen.Done (post.Over last)

post_lacks : (level key : ℕ) (c : Page) (b : PostStage) → PostLacks level (roots_of c).levels b → PostCase level key (post.Coming way.Start) (seen.Words c) b
post_lacks level key c (post.Ending listed.Stale) t = NoLevel c t
post_lacks level key c (post.Ending listed.TooTall) t = Tallest c t
post_lacks level key c (post.Growing growth.Latching) t = ToGrow c t
post_lacks level key c b t = absurd t

post_arrives : (level key x : ℕ) (parent : Inner) (b : PostStage) → Leads (InnerPage parent) key level Here → PostArrives key x parent b → PostCase level key (post.Coming (way.Latched x)) (seen.Words (InnerPage parent)) b
post_arrives level key x parent (post.Staying y listed.Already) l t = Listed x parent y l t
post_arrives level key x parent (post.Walking v) l t = ToWalk x parent v l t
post_arrives level key x parent b l t = absurd t

pub post_case : (level key : ℕ) (a : PostStage) (what : Seen) (b : PostStage) → PostGoes level key a what b → PostCase level key a what b
post_case level key post.New seen.Done (post.Coming a) t = Began a t
post_case level key (post.Coming a) what b (m, h, t) =
    came_by level key a what m (λ n. PostComes level key n b) (λ d w. PostCase level key (post.Coming d) w b) h t
    (λ c few u. post_lacks level key c b u)
    (λ d u e. subst (PostCase level key (post.Coming a) what) (sym e) (Came a what d u))
    (λ x parent l u. post_arrives level key x parent b l u)
post_case level key (post.Growing g) what (post.Growing h) t = Grew g what h t
post_case level key (post.Growing g) what (post.Coming a) t = Grown g what a t
post_case level key (post.Growing g) what (post.Ending r) t = NoRoom g what r t
post_case level key (post.Walking w) (seen.Words c) (post.Walking v) t = Walked w c v t
post_case level key (post.Walking w) (seen.Words c) (post.Editing d) t = Entered w c d t
post_case level key (post.Walking w) (seen.Words c) (post.Staying x listed.Stale) t = Stale w c x t
post_case level key (post.Walking w) (seen.Words c) (post.Coming a) t = Lost w c a t
post_case level key (post.Editing c) what (post.Editing d) t = Edited c what d t
post_case level key (post.Editing c) what (post.Ending r) t = Finished c what r t
post_case level key (post.Staying x r) seen.Done (post.Ending last) t = Opened x r last t
post_case level key (post.Ending r) seen.Done (post.Over last) t = Ended r last t
post_case level key a what b t = absurd t

-- At the parent there are two children, or one.
pub data CompressCase (level key : ℕ) (waits : Bool) : CompressStage → Seen → CompressStage → Type 0 where
  Began : (a : Approach) → a ≡ way.Start → CompressCase level key waits compress.New seen.Done (compress.Coming a)
  NoLevel : (c : Page) → (roots_of c).levels ≤ level → CompressCase level key waits (compress.Coming way.Start) (seen.Words c) (compress.Ending compressed.Alone)
  Came : (a : Approach) (what : Seen) (b : Approach) → Approaches level key a what (came.On b) → CompressCase level key waits (compress.Coming a) what (compress.Coming b)
  Met : (x : ℕ) (parent : Inner) (f : Family) → Leads (InnerPage parent) key level Here → AreSiblings x key parent (Some f) → CompressCase level key waits (compress.Coming (way.Latched x)) (seen.Words (InnerPage parent)) (compress.Compressing (LatchingLeft f))
  Single : (x : ℕ) (parent : Inner) (y : ℕ) → Leads (InnerPage parent) key level Here → (y ≡ x) × AreSiblings x key parent None → CompressCase level key waits (compress.Coming (way.Latched x)) (seen.Words (InnerPage parent)) (compress.Staying y)
  WentOn : (c : Compression) (what : Seen) (d : Compression) → Compresses waits c what (step.On d) → CompressCase level key waits (compress.Compressing c) what (compress.Compressing d)
  Lost : (c : Compression) (what : Seen) (a : Approach) → (last : Decision) × Compresses waits c what (step.Over last) × (compress_reply last ≡ None) × (a ≡ way.Start) → CompressCase level key waits (compress.Compressing c) what (compress.Coming a)
  Finished : (c : Compression) (what : Seen) (r : CompressReply) → (last : Decision) × Compresses waits c what (step.Over last) × (compress_reply last ≡ Some r) → CompressCase level key waits (compress.Compressing c) what (compress.Ending r)
  Opened : (x : ℕ) (r : CompressReply) → r ≡ compressed.Alone → CompressCase level key waits (compress.Staying x) seen.Done (compress.Ending r)
  Ended : (r last : CompressReply) → last ≡ r → CompressCase level key waits (compress.Ending r) seen.Done (compress.Over last)

compress_arrives : (level key x : ℕ) (waits : Bool) (parent : Inner) (b : CompressStage) → Leads (InnerPage parent) key level Here → CompressArrives key x parent b → CompressCase level key waits (compress.Coming (way.Latched x)) (seen.Words (InnerPage parent)) b
compress_arrives level key x waits parent (compress.Compressing (LatchingLeft f)) l t = Met x parent f l t
compress_arrives level key x waits parent (compress.Staying y) l t = Single x parent y l t
compress_arrives level key x waits parent b l t = absurd t

pub compress_case : (level key : ℕ) (waits : Bool) (a : CompressStage) (what : Seen) (b : CompressStage) → CompressGoes level key waits a what b → CompressCase level key waits a what b
compress_case level key waits compress.New seen.Done (compress.Coming a) t = Began a t
compress_case level key waits (compress.Coming a) what b (m, h, t) =
    came_by level key a what m (λ n. CompressComes key n b) (λ d w. CompressCase level key waits (compress.Coming d) w b) h t
    (λ c few e. subst (CompressCase level key waits (compress.Coming way.Start) (seen.Words c)) (sym e) (NoLevel c few))
    (λ d u e. subst (CompressCase level key waits (compress.Coming a) what) (sym e) (Came a what d u))
    (λ x parent l u. compress_arrives level key x waits parent b l u)
compress_case level key waits (compress.Compressing c) what (compress.Compressing d) t = WentOn c what d t
compress_case level key waits (compress.Compressing c) what (compress.Coming a) t = Lost c what a t
compress_case level key waits (compress.Compressing c) what (compress.Ending r) t = Finished c what r t
compress_case level key waits (compress.Staying x) seen.Done (compress.Ending r) t = Opened x r t
compress_case level key waits (compress.Ending r) seen.Done (compress.Over last) t = Ended r last t
compress_case level key waits a what b t = absurd t

-- It looks at one process after another, and releases the page where none blocks it.
pub data ReclaimCase : ReclaimStage → Seen → ReclaimStage → Type 0 where
  First : (started own : ℕ) (r : Round) → GoesPast 0 started own (reclaim.Looking r) → ReclaimCase reclaim.Seeing (seen.Owner true started own) (reclaim.Looking r)
  NoneThere : (started own : ℕ) → GoesPast 0 started own reclaim.Releasing → ReclaimCase reclaim.Seeing (seen.Owner true started own) reclaim.Releasing
  NotRetired : (started own : ℕ) (what : Reclaimed) → what ≡ reclaimed.Kept → ReclaimCase reclaim.Seeing (seen.Owner false started own) (reclaim.Over what)
  Further : (r n : Round) → GoesPast r.next r.started r.own (reclaim.Looking n) → ReclaimCase (reclaim.Looking r) (seen.Blocks false) (reclaim.Looking n)
  NoMore : (r : Round) → GoesPast r.next r.started r.own reclaim.Releasing → ReclaimCase (reclaim.Looking r) (seen.Blocks false) reclaim.Releasing
  Blocked : (r : Round) (what : Reclaimed) → what ≡ reclaimed.Kept → ReclaimCase (reclaim.Looking r) (seen.Blocks true) (reclaim.Over what)
  Done : (what : Reclaimed) → what ≡ reclaimed.Released → ReclaimCase reclaim.Releasing seen.Done (reclaim.Over what)
  Missed : (what : Reclaimed) → what ≡ reclaimed.Kept → ReclaimCase reclaim.Releasing seen.Missed (reclaim.Over what)

pub reclaim_case : (a : ReclaimStage) (what : Seen) (b : ReclaimStage) → ReclaimGoes a what b → ReclaimCase a what b
reclaim_case reclaim.Seeing (seen.Owner true started own) (reclaim.Looking r) t = First started own r t
reclaim_case reclaim.Seeing (seen.Owner true started own) reclaim.Releasing t = NoneThere started own t
reclaim_case reclaim.Seeing (seen.Owner false started own) (reclaim.Over what) t = NotRetired started own what t
reclaim_case (reclaim.Looking r) (seen.Blocks false) (reclaim.Looking n) t = Further r n t
reclaim_case (reclaim.Looking r) (seen.Blocks false) reclaim.Releasing t = NoMore r t
reclaim_case (reclaim.Looking r) (seen.Blocks true) (reclaim.Over what) t = Blocked r what t
reclaim_case reclaim.Releasing seen.Done (reclaim.Over what) t = Done what t
reclaim_case reclaim.Releasing seen.Missed (reclaim.Over what) t = Missed what t
reclaim_case a what b t = absurd t

-- It looks at the anchor first, and ends where the lowering is over.
pub data LowerCase : LowerStage → Seen → LowerStage → Type 0 where
  Began : (l : Lowering) → l ≡ Looking → LowerCase lower.New seen.Done (lower.Sinking l)
  Sank : (l : Lowering) (what : Seen) (m : Lowering) → Lowers l what (sank.On m) → LowerCase (lower.Sinking l) what (lower.Sinking m)
  Finished : (l : Lowering) (what : Seen) (r : Lowered) → Lowers l what (sank.Over r) → LowerCase (lower.Sinking l) what (lower.Ending r)
  Ended : (r last : Lowered) → last ≡ r → LowerCase (lower.Ending r) seen.Done (lower.Over last)

pub lower_case : (a : LowerStage) (what : Seen) (b : LowerStage) → LowerGoes a what b → LowerCase a what b
lower_case lower.New seen.Done (lower.Sinking l) t = Began l t
lower_case (lower.Sinking l) what (lower.Sinking m) t = Sank l what m t
lower_case (lower.Sinking l) what (lower.Ending r) t = Finished l what r t
lower_case (lower.Ending r) seen.Done (lower.Over last) t = Ended r last t
lower_case a what b t = absurd t

-- What was seen leads down, and then the page is noted; else the path stays.
pub data NoteCase (level key : ℕ) : Approach → Seen → Path → Path → Type 0 where
  WentDown : (x : ℕ) (c : Page) (y : ℕ) (old new : Path) → Leads c key level (Down y) → new ≡ noted (node_of c).shape.level x old → NoteCase level key (way.At x) (seen.Words c) old new
  Stayed : (a : Approach) (what : Seen) (old new : Path) → new ≡ old → NoteCase level key a what old new

pub note_case : (level key : ℕ) (a : Approach) (what : Seen) (old new : Path) → Notes level key a what old new → NoteCase level key a what old new
note_case level key (way.At x) (seen.Words c) old new (Down y, h, t) = WentDown x c y old new h t
note_case level key (way.At x) (seen.Words c) old new (Again, h, t) = Stayed (way.At x) (seen.Words c) old new t
note_case level key (way.At x) (seen.Words c) old new (Right y, h, t) = Stayed (way.At x) (seen.Words c) old new t
note_case level key (way.At x) (seen.Words c) old new (Here, h, t) = Stayed (way.At x) (seen.Words c) old new t
note_case level key a what old new t = Stayed a what old new t

-- The write goes on, or is over, and has split its leaf or not; then a post goes on, or goes on a level higher, or is over.
pub data ClimbCase (path : Path) : ClimbStage → Seen → ClimbStage → Type 0 where
  Wrote : (w : Write) (what : Seen) (v : Write) → WriteCase w.key w.write w.stage what v.stage → (v.key ≡ w.key) × (v.write ≡ w.write) × IsWriting v.stage → ClimbCase path (climb.Writing w) what (climb.Writing v)
  Split : (w : Write) (what : Seen) (there : Option ℕ) (level separator : ℕ) (p : Post) → WriteCase w.key w.write w.stage what (write.Ending (written.Done there (Some (hint.Post level separator)))) → PostsFrom path level separator p → ClimbCase path (climb.Writing w) what (climb.Posting p)
  Unsplit : (w : Write) (what : Seen) (r : WriteReply) (last : Climbed) → WriteCase w.key w.write w.stage what (write.Ending r) → IsUnsplit r × (last ≡ climbed.Unsplit r) → ClimbCase path (climb.Writing w) what (climb.Ending last)
  Posted : (p : Post) (what : Seen) (q : Post) → PostCase p.level p.key p.stage what q.stage → (q.level ≡ p.level) × (q.key ≡ p.key) × IsPosting q.stage → ClimbCase path (climb.Posting p) what (climb.Posting q)
  Higher : (p : Post) (what : Seen) (separator : ℕ) (q : Post) → PostCase p.level p.key p.stage what (post.Ending (listed.Done (Some separator))) → PostsFrom path (p.level + 1) separator q → ClimbCase path (climb.Posting p) what (climb.Posting q)
  Finished : (p : Post) (what : Seen) (r : PostReply) (last : Climbed) → PostCase p.level p.key p.stage what (post.Ending r) → IsLast r × (last ≡ climbed.Posted p.level p.key r) → ClimbCase path (climb.Posting p) what (climb.Ending last)
  Ended : (r last : Climbed) → last ≡ r → ClimbCase path (climb.Ending r) seen.Done (climb.Over last)

pub climb_case : (path : Path) (a : ClimbStage) (what : Seen) (b : ClimbStage) → ClimbGoes path a what b → ClimbCase path a what b
climb_case path (climb.Writing w) what (climb.Writing v) t = Wrote w what v (write_case w.key w.write w.stage what v.stage t.0.2) (t.0.0, t.0.1, t.1)
climb_case path (climb.Writing w) what (climb.Posting p) (there, level, separator, t, u) = Split w what there level separator p (write_case w.key w.write w.stage what _ t) u
climb_case path (climb.Writing w) what (climb.Ending last) (r, t, u, e) = Unsplit w what r last (write_case w.key w.write w.stage what (write.Ending r) t) (u, e)
climb_case path (climb.Posting p) what (climb.Posting q) (inl t) = Posted p what q (post_case p.level p.key p.stage what q.stage t.0.2) (t.0.0, t.0.1, t.1)
climb_case path (climb.Posting p) what (climb.Posting q) (inr (separator, t, u)) = Higher p what separator q (post_case p.level p.key p.stage what _ t) u
climb_case path (climb.Posting p) what (climb.Ending last) (r, t, u, e) = Finished p what r last (post_case p.level p.key p.stage what (post.Ending r) t) (u, e)
climb_case path (climb.Ending r) seen.Done (climb.Over last) t = Ended r last t
climb_case path a what b t = absurd t
