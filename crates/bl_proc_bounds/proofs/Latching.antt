-- What a process holds at its latches, by its kind.
use Rattle.std.proofs.Common.{ℕ, ◌≡◌, ◌≢◌, ◌⊎◌, ◌<◌, ◌++◌, Option, Some, zero, suc, List, [], ◌∷◌, length, take, slice_get, arith, ap, sym, ◌∙◌, refl, inl, inr, subst}
use Rattle.bl_model.specs.declared.operation.Reply.{Reply}
use Rattle.bl_model.specs.declared.deciding.KeyWrite.{KeyWrite}
use Rattle.bl_page.specs.declared.page.Page.{Page}
use Rattle.bl_page.specs.Machine.{Name}
use Rattle.bl_page.specs.Machine.Act.{Latch}
use Rattle.bl_claims.specs.Trails.{Mark, Trail, marks_of}
use Rattle.bl_tree_worlds.proofs.Pushes.{name_cases, marks_of-own, marks_of-other}
use Rattle.bl_tree_worlds.specs.Worlds.{Goes, Know, Stage, World, HoldsPage, IsGood, Extends}
use Rattle.bl_proc_steps.specs.declared.acts.Action.{Action}
use Rattle.bl_proc_steps.specs.declared.acts.Action.TheVariants as act
use Rattle.bl_proc_steps.specs.declared.acts.Seen.{Seen}
use Rattle.bl_proc_steps.specs.declared.acts.Seen.TheVariants as seen
use Rattle.bl_proc_steps.specs.declared.approach.Approach.{Approach}
use Rattle.bl_proc_steps.specs.declared.approach.Approach.TheVariants as way
use Rattle.bl_proc_steps.specs.declared.edit.Edit.{Edit}
use Rattle.bl_proc_steps.specs.declared.edit.Edit.TheVariants as edit
use Rattle.bl_proc_steps.specs.declared.growth.Growth.{Growth}
use Rattle.bl_proc_steps.specs.declared.growth.Growth.TheVariants as growth
use Rattle.bl_proc_steps.specs.Approaches.{approach_next}
use Rattle.bl_proc_steps.specs.Edits.{edit_next}
use Rattle.bl_proc_steps.specs.Growths.{growth_next}
use Rattle.bl_rearrange.specs.declared.sides.Side.{Side}
use Rattle.bl_rearrange.specs.declared.sides.Side.TheVariants as side
use Rattle.bl_proc_compress.specs.declared.compression.Puts.{Puts}
use Rattle.bl_proc_compress.specs.declared.compression.Compression.{Compression}
use Rattle.bl_proc_compress.specs.declared.compression.Compression.TheVariants.{LatchingLeft, LatchingRight, PuttingFirst, PuttingLast}
use Rattle.bl_proc_compress.specs.declared.compress.CompressStage.{CompressStage}
use Rattle.bl_proc_compress.specs.declared.compress.CompressStage.TheVariants as compress
use Rattle.bl_proc_compress.specs.Compressions.{put_of, other, compression_next}
use Rattle.bl_proc_compress.specs.Compresses.{compress_next_in}
use Rattle.bl_proc.specs.declared.searching.FindStage.{FindStage}
use Rattle.bl_proc.specs.declared.searching.FindStage.TheVariants as find
use Rattle.bl_proc.specs.declared.parts.PartStage.{PartStage}
use Rattle.bl_proc.specs.declared.parts.PartStage.TheVariants as part
use Rattle.bl_proc_writes.specs.declared.writing.WriteStage.{WriteStage}
use Rattle.bl_proc_writes.specs.declared.writing.WriteStage.TheVariants as write
use Rattle.bl_proc_writes.specs.declared.post.PostStage.{PostStage}
use Rattle.bl_proc_writes.specs.declared.post.PostStage.TheVariants as post
use Rattle.bl_proc_steps.specs.declared.lowering.Lowering.{Lowering}
use Rattle.bl_proc_steps.specs.declared.lowering.Lowering.TheVariants.{LatchingAnchor, LatchingTop}
use Rattle.bl_proc_steps.specs.Lowerings.{lowering_next}
use Rattle.bl_proc.specs.declared.reclaiming.ReclaimStage.{ReclaimStage}
use Rattle.bl_proc.specs.declared.reclaiming.ReclaimStage.TheVariants as reclaim
use Rattle.bl_proc.specs.declared.lowering.LowerStage.{LowerStage}
use Rattle.bl_proc.specs.declared.lowering.LowerStage.TheVariants as lower
use Rattle.bl_proc.specs.Lowers.{lower_next_in}
use Rattle.bl_proc.specs.declared.kinds.Proc.{Proc}
use Rattle.bl_proc.specs.declared.kinds.Proc.TheVariants as proc
use Rattle.bl_proc.specs.Searches.{find_next_in}
use Rattle.bl_proc.specs.Parts.{part_next_in}
use Rattle.bl_proc_writes.specs.Writes.{write_next_in}
use Rattle.bl_proc_writes.specs.Posts.{post_next_in}
use Rattle.bl_proc.specs.Processes.{next_of, Takes}
use Rattle.bl_proc_writes.specs.declared.paths.Path.{Path}
use Rattle.bl_proc_writes.specs.declared.insert_post.ClimbStage.{ClimbStage}
use Rattle.bl_proc_writes.specs.declared.insert_post.ClimbStage.TheVariants as climb
use Rattle.bl_proc_writes.specs.InsertPosts.{climb_next_in}
use Rattle.bl_proc_invariant.specs.Turns.{event_of}
use Rattle.bl_proc_invariant.specs.Tables.{Carried, unsaid, alone, know_approach}
use Rattle.bl_proc_invariant.specs.Logs.{compression_log, compress_log, proc_log}
use Rattle.bl_proc_invariant.specs.Compressing.{know_compression}
use Rattle.bl_proc_invariant.specs.Lowering.{know_lowering}
use Rattle.bl_proc_invariant.specs.Knowing.{Run, path_goes, inserted, know_growth, know_write, know_post, know_climb, know_compress, know_reclaim, know_lower, know_of, know, end_of_proc}
use Rattle.bl_tree_worlds.proofs.After.{is_put_name}
use Rattle.bl_proc_invariant.proofs.Instead.{with_proc}
use Rattle.bl_proc_invariant.proofs.GivingUp.{left_of}
use Rattle.bl_proc_invariant.proofs.OffWalk.{off_run}
use Rattle.bl_proc_writes.specs.declared.walking.Walk.{Walk}
use Rattle.bl_proc_writes.specs.declared.post.Post.{Post}
use Rattle.bl_claims.specs.Latches.{KeepsPage, LatchesNone, LatchesAlone, LatchesBelowAnchor}
use Rattle.bl_claims.specs.Families.{HoldsFamily, LatchesBeside}
use Rattle.bl_proc_bounds.specs.Latches.{IsTidy, AllOwned, AllTidy}
use Rattle.bl_proc_bounds.proofs.Counts.{take_front}
use Rattle.bl_proc_writes.specs.declared.insert_post.Placing.{Placing}
use Rattle.bl_proc_writes.specs.Placings.{write_of}

-- A list goes on by one mark

push_cases : (xs : Trail) (m : Mark) (i : ℕ) (n : Mark) → slice_get (xs ++ m ∷ []) i ≡ Some n → (slice_get xs i ≡ Some n × (i < length xs)) ⊎ ((i ≡ length xs) × (m ≡ n))
push_cases [] m zero n h = inr (refl, (let f = h in cc))
push_cases [] m (suc i) n h = cc (h)
push_cases (d ∷ xs) m zero n h = inl (h, omega arith)
push_cases (d ∷ xs) m (suc i) n h = elim (push_cases xs m i n h) [
  | inl e ↦ inl (e.0, omega (arith, e.1))
  | inr e ↦ inr (ap suc e.0, e.1)
]

take_now : (xs : Trail) (m : Mark) (i : ℕ) → i ≡ length xs → take i (xs ++ m ∷ []) ≡ xs
take_now xs m i e = ap (λ n. take n (xs ++ m ∷ [])) e ∙ (take_front xs m (length xs) (omega arith) ∙ whole xs)
  where
    whole : (ys : Trail) → take (length ys) ys ≡ ys
    whole [] = refl
    whole (y ∷ ys) = ap (λ z. y ∷ z) (whole ys)

-- no page, or the parent and the left child at most
abbrev HoldsFew : ℕ → ℕ → Trail → Type 0
HoldsFew level key marks = ((y : ℕ) → KeepsPage marks y → ⊥) ⊎ HoldsFamily level key marks

module _ (marks : Trail) (m : Mark) where
  alone_on : LatchesAlone marks → ((x y : ℕ) → m.event.act ≡ Latch x → KeepsPage marks y → ⊥) → LatchesAlone (marks ++ m ∷ [])
  alone_on h now i n x y is does keeps = elim (push_cases marks m i n is) [
    | inl e ↦ h i n x y e.0 does (subst (λ t. KeepsPage t y) (take_front marks m i (omega (arith, e.1))) keeps)
    | inr e ↦ now x y (ap (λ (v : Mark). v.event.act) e.1 ∙ does) (subst (λ t. KeepsPage t y) (take_now marks m i e.0) keeps)
  ]

  below_on : LatchesBelowAnchor marks → ((x y : ℕ) → m.event.act ≡ Latch x → KeepsPage marks y → y ≡ 0) → LatchesBelowAnchor (marks ++ m ∷ [])
  below_on h now i n x y is does keeps = elim (push_cases marks m i n is) [
    | inl e ↦ h i n x y e.0 does (subst (λ t. KeepsPage t y) (take_front marks m i (omega (arith, e.1))) keeps)
    | inr e ↦ now x y (ap (λ (v : Mark). v.event.act) e.1 ∙ does) (subst (λ t. KeepsPage t y) (take_now marks m i e.0) keeps)
  ]

  beside_on : (level key : ℕ) → LatchesBeside level key marks → ((x : ℕ) → m.event.act ≡ Latch x → HoldsFew level key marks) → LatchesBeside level key (marks ++ m ∷ [])
  beside_on level key h now i n x is does = elim (push_cases marks m i n is) [
    | inl e ↦ subst (HoldsFew level key) (sym (take_front marks m i (omega (arith, e.1)))) (h i n x e.0 does)
    | inr e ↦ subst (HoldsFew level key) (sym (take_now marks m i e.0)) (now x (ap (λ (v : Mark). v.event.act) e.1 ∙ does))
  ]

  none_on : LatchesNone marks → ((x : ℕ) → m.event.act ≢ Latch x) → LatchesNone (marks ++ m ∷ [])
  none_on h now i n x is does = elim (push_cases marks m i n is) [
    | inl e ↦ h i n x e.0 does
    | inr e ↦ now x (ap (λ (v : Mark). v.event.act) e.1 ∙ does)
  ]

-- An event latches where the action does

latch_next : (reply : Option Reply) (a : Action) (what : Seen) (x : ℕ) → event_of reply a what ≡ Latch x → a ≡ act.Latch x
latch_next reply act.Begin seen.Done x e = absurd (let f = e in cc)
latch_next reply act.End seen.Done x e = absurd (let f = e in cc)
latch_next reply (act.Get y) (seen.Words c') x e = absurd (let f = e in cc)
latch_next reply (act.Put y d) seen.Done x e = absurd (let f = e in cc)
latch_next reply (act.Latch y) seen.Done x e = ap act.Latch (let f = e in cc)
latch_next reply act.Take (seen.Took y) x e = absurd (let f = e in cc)
latch_next reply (act.Open y) seen.Done x e = absurd (let f = e in cc)
latch_next reply (act.Retire y) seen.Done x e = absurd (let f = e in cc)
latch_next reply (act.Look y) (seen.Blocks it) x e = absurd (let f = e in cc)
latch_next reply (act.See y) (seen.Owner retired started own) x e = absurd (let f = e in cc)
latch_next reply (act.Probe y) (seen.Probed free) x e = absurd (let f = e in cc)
latch_next reply (act.Release y) seen.Done x e = absurd (let f = e in cc)
latch_next reply a what x e = absurd (let f = e in cc)

-- What it holds then

approach_alone : (carried : Carried) → (level key : ℕ) (a : Approach) (x : ℕ) → approach_next a ≡ act.Latch x → (know_approach carried level key a).holds ≡ []
approach_alone carried level key way.Start x e = cc (e)
approach_alone carried level key (way.At y) x e = cc (e)
approach_alone carried level key (way.Latching y) x e = refl
approach_alone carried level key (way.Latched y) x e = absurd (cc e)
approach_alone carried level key (way.Leaving y to) x e = absurd (cc e)

edit_never : (c : Edit) (x : ℕ) → edit_next c ≢ act.Latch x
edit_never (edit.Putting y page) x e = cc
edit_never (edit.Taking full) x e = cc
edit_never (edit.PuttingNew p) x e = cc
edit_never (edit.PuttingOld p) x e = cc
edit_never (edit.OpeningNew y new separator) x e = cc
edit_never (edit.Opening y what) x e = cc

growth_alone : (carried : Carried) → (level key : ℕ) (got : ℕ → Page) (g : Growth) (x : ℕ) → growth_next g ≡ act.Latch x → (know_growth carried level key got g).holds ≡ []
growth_alone carried level key got growth.Latching x e = refl
growth_alone carried level key got old x e = absurd (cc e)

write_alone : (goes : List Goes) → (key : ℕ) (does : KeyWrite) (got : ℕ → Page) (a : WriteStage) (x : ℕ) → write_next_in a ≡ act.Latch x → (know_write goes key does got a).holds ≡ []
write_alone goes key does got write.New x e = refl
write_alone goes key does got (write.Coming a) x e = approach_alone (unsaid goes) 0 key a x e
write_alone goes key does got (write.Keeping y there) x e = absurd (cc e)
write_alone goes key does got (write.Editing noted c) x e = absurd (edit_never c x e)
write_alone goes key does got (write.Ending r) x e = refl
write_alone goes key does got (write.Over r) x e = refl

post_alone : (carried : Carried) → (level key : ℕ) (got : ℕ → Page) (child : ℕ) (a : PostStage) (x : ℕ) → post_next_in a ≡ act.Latch x → (know_post carried level key got child a).holds ≡ []
post_alone carried level key got child post.New x e = refl
post_alone carried level key got child (post.Coming a) x e = approach_alone carried level key a x e
post_alone carried level key got child (post.Growing g) x e = growth_alone carried level key got g x e
post_alone carried level key got child (post.Walking w) x e = absurd (cc e)
post_alone carried level key got child (post.Editing c) x e = absurd (edit_never c x e)
post_alone carried level key got child (post.Staying y r) x e = absurd (cc e)
post_alone carried level key got child (post.Ending r) x e = refl
post_alone carried level key got child (post.Over r) x e = refl

climb_alone : (key : ℕ) (placing : Placing) (path : Path) (got : ℕ → Page) (child : ℕ) (a : ClimbStage) (x : ℕ) → climb_next_in a ≡ act.Latch x → (know_climb key placing path got child a).holds ≡ []
climb_alone key placing path got child (climb.Writing v) x e = write_alone (path_goes path) key (write_of placing) got v.stage x e
climb_alone key placing path got child (climb.Posting q) x e = post_alone (inserted key placing path) q.level q.key got child q.stage x e
climb_alone key placing path got child (climb.Ending r) x e = refl
climb_alone key placing path got child (climb.Over r) x e = refl

put_never : (sd : Side) (p : Puts) (x : ℕ) → put_of sd p ≢ act.Latch x
put_never side.Left p x e = cc
put_never side.Right p x e = cc

compression_few : (level key : ℕ) (got : ℕ → Page) (c : Compression) (x : ℕ) (marks : Trail) → compression_next c ≡ act.Latch x → compression_log level key c marks → ((y : ℕ) → KeepsPage marks y → HoldsPage (know_compression level key got c).holds y) → HoldsFew level key marks
compression_few level key got (LatchingLeft f) x marks e log h = inr (record { family = f; acts = _; at = log; no_more = λ y keeps. elim (h y keeps) [ inl i ↦ inl (sym i) | inr n ↦ absurd n ] })
compression_few level key got (LatchingRight f c) x marks e log h = inr (record { family = f; acts = _; at = log.family; no_more = λ y keeps. elim (h y keeps) [ inl i ↦ inl (sym i) | inr n ↦ elim n [ inl j ↦ inr (sym j) | inr o ↦ absurd o ] ] })
compression_few level key got (PuttingFirst p) x marks e log h = absurd (put_never p.gains p x e)
compression_few level key got (PuttingLast p) x marks e log h = absurd (put_never (other p.gains) p x e)
compression_few level key got old x marks e log h = absurd (cc e)

compress_few : (level key : ℕ) (got : ℕ → Page) (a : CompressStage) (x : ℕ) (marks : Trail) → compress_next_in a ≡ act.Latch x → compress_log level key a marks → ((y : ℕ) → KeepsPage marks y → HoldsPage (know_compress level key got a).holds y) → HoldsFew level key marks
compress_few level key got (compress.Coming a) x marks e log h = inl (λ y keeps. subst (λ hs. HoldsPage hs y) (approach_alone alone level key a x e) (h y keeps))
compress_few level key got (compress.Compressing c) x marks e log h = compression_few level key got c x marks e log h
compress_few level key got old x marks e log h = absurd (cc e)

lowering_below : (got : ℕ → Page) (l : Lowering) (x y : ℕ) → lowering_next l ≡ act.Latch x → HoldsPage (know_lowering got l).holds y → y ≡ 0
lowering_below got LatchingAnchor x y e h = absurd h
lowering_below got (LatchingTop t) x y e h = elim h [ inl i ↦ sym i | inr n ↦ absurd n ]
lowering_below got old x y e h = absurd (cc e)

lower_below : (got : ℕ → Page) (a : LowerStage) (x y : ℕ) → lower_next_in a ≡ act.Latch x → HoldsPage (know_lower got a).holds y → y ≡ 0
lower_below got (lower.Sinking l) x y e h = lowering_below got l x y e h
lower_below got old x y e h = absurd (cc e)

find_looks : (a : FindStage) (x : ℕ) → find_next_in a ≢ act.Latch x
find_looks find.New x e = cc
find_looks (find.Near y) x e = cc
find_looks (find.Probing y) x e = cc
find_looks (find.Descending d) x e = cc
find_looks (find.Ending v) x e = cc
find_looks (find.Over v) x e = cc

part_looks : (a : PartStage) (x : ℕ) → part_next_in a ≢ act.Latch x
part_looks part.New x e = cc
part_looks (part.Near y) x e = cc
part_looks (part.Probing y) x e = cc
part_looks (part.Descending d) x e = cc
part_looks (part.Ending r) x e = cc
part_looks (part.Over r) x e = cc

-- One turn

-- what the process holds is what it knows to hold
module _ (w : World Run) (p : Name) (g : IsGood know w) (owned : AllOwned w) where
  alone_turn : (m : Mark) → LatchesAlone (marks_of p w.trail) → ((x : ℕ) → m.event.act ≡ Latch x → (know (w.proc p)).holds ≡ []) → LatchesAlone (marks_of p w.trail ++ m ∷ [])
  alone_turn m h none = alone_on (marks_of p w.trail) m h (λ x y e keeps. subst (λ hs. HoldsPage hs y) (none x e) (g.owned.held y p (owned p y keeps)))

  holds_kept : (k : Know) → know (w.proc p) ≡ k → (y : ℕ) → KeepsPage (marks_of p w.trail) y → HoldsPage k.holds y
  holds_kept k is y keeps = subst (λ (z : Know). HoldsPage z.holds y) is (g.owned.held y p (owned p y keeps))

  -- of a process of that state, which is told something of its next action
  state_turn : (m : Mark) (got : ℕ → Page) (child time : ℕ) (old new : Proc) (what : Seen) → know (w.proc p) ≡ know_of got child time old → proc_log old (marks_of p w.trail) → Takes old what new → m.event.act ≡ event_of (end_of_proc old) (next_of old) what → IsTidy old (marks_of p w.trail) → IsTidy new (marks_of p w.trail ++ m ∷ [])
  state_turn m got child time (proc.Find a) (proc.Find c) what is log t e h = none_on (marks_of p w.trail) m h (λ x f. find_looks a.stage x (latch_next _ _ what x (sym e ∙ f)))
  state_turn m got child time (proc.Part a) (proc.Part c) what is log t e h = none_on (marks_of p w.trail) m h (λ x f. part_looks a.stage x (latch_next _ _ what x (sym e ∙ f)))
  state_turn m got child time (proc.Write a) (proc.Write c) what is log t e h = alone_turn m h (λ x f. ap (λ k. k.holds) is ∙ write_alone [] a.key a.write got a.stage x (latch_next _ _ what x (sym e ∙ f)))
  state_turn m got child time (proc.Post a) (proc.Post c) what is log t e h = alone_turn m h (λ x f. ap (λ k. k.holds) is ∙ post_alone alone a.level a.key got child a.stage x (latch_next _ _ what x (sym e ∙ f)))
  state_turn m got child time (proc.Compress a) (proc.Compress c) what is log t e h =
      let old : LatchesBeside a.level a.key (marks_of p w.trail ++ m ∷ []) = beside_on (marks_of p w.trail) m a.level a.key h (λ x f. compress_few a.level a.key got a.stage x (marks_of p w.trail) (latch_next _ _ what x (sym e ∙ f)) log (holds_kept (know_compress a.level a.key got a.stage) is)) in
      subst (λ (z : ℕ × ℕ). LatchesBeside z.0 z.1 (marks_of p w.trail ++ m ∷ [])) (λ i. (sym t.0 i, sym t.1 i)) old
  state_turn m got child time (proc.Reclaim a) (proc.Reclaim c) what is log t e h = tt
  state_turn m got child time (proc.Lower a) (proc.Lower c) what is log t e h = below_on (marks_of p w.trail) m h (λ x y f keeps. lower_below got a.stage x y (latch_next _ _ what x (sym e ∙ f)) (holds_kept (know_lower got a.stage) is y keeps))
  state_turn m got child time (proc.InsertPost a) (proc.InsertPost c) what is log t e h = alone_turn m h (λ x f. ap (λ k. k.holds) is ∙ climb_alone a.key a.placing a.path got child a.stage x (latch_next _ _ what x (sym e ∙ f)))
  state_turn m got child time old new what is log t e h = absurd t

  -- an act by which nothing is latched leaves any process as it may be
  still_turn : (m : Mark) (a : Proc) → ((x : ℕ) → m.event.act ≢ Latch x) → IsTidy a (marks_of p w.trail) → IsTidy a (marks_of p w.trail ++ m ∷ [])
  still_turn m (proc.Find a) none h = none_on (marks_of p w.trail) m h none
  still_turn m (proc.Part a) none h = none_on (marks_of p w.trail) m h none
  still_turn m (proc.Write a) none h = alone_turn m h (λ x f. absurd (none x f))
  still_turn m (proc.Post a) none h = alone_turn m h (λ x f. absurd (none x f))
  still_turn m (proc.Compress a) none h = beside_on (marks_of p w.trail) m a.level a.key h (λ x f. absurd (none x f))
  still_turn m (proc.Reclaim a) none h = tt
  still_turn m (proc.Lower a) none h = below_on (marks_of p w.trail) m h (λ x y f. absurd (none x f))
  still_turn m (proc.InsertPost a) none h = alone_turn m h (λ x f. absurd (none x f))

-- what the others have done stays
tidy_on : (w w' : World Run) (m : Mark) (b : Run) → Extends w w' m b → ((p : Name) → p ≡ m.event.process → IsTidy b.state (marks_of p w.trail ++ m ∷ [])) → AllTidy w → AllTidy w'
tidy_on w w' m b e own all p = elim (name_cases m.event.process p) [
  | inl i ↦
      let marks : marks_of p w'.trail ≡ marks_of p w.trail ++ m ∷ [] = ap (marks_of p) e.trail ∙ marks_of-own p w.trail m i in
      let proc : w'.proc p ≡ b = ap w'.proc (sym i) ∙ e.proc.at in
      subst (λ (r : Run). IsTidy r.state (marks_of p w'.trail)) (sym proc) (subst (IsTidy b.state) (sym marks) (own p (sym i)))
  | inr n ↦
      let marks : marks_of p w'.trail ≡ marks_of p w.trail = ap (marks_of p) e.trail ∙ marks_of-other p w.trail m n in
      let proc : w'.proc p ≡ w.proc p = e.proc.others p (λ i. n (sym i)) in
      subst (λ (r : Run). IsTidy r.state (marks_of p w'.trail)) (sym proc) (subst (IsTidy (w.proc p).state) (sym marks) (all p))
]

-- A turn of a process that is told something of its next action.
pub tidy_turn : (w w' : World Run) (m : Mark) (b : Run) (what : Seen) → Extends w w' m b → IsGood know w → AllOwned w → proc_log (w.proc m.event.process).state (marks_of m.event.process w.trail) → Takes (w.proc m.event.process).state what b.state → m.event.act ≡ event_of (end_of_proc (w.proc m.event.process).state) (next_of (w.proc m.event.process).state) what → AllTidy w → AllTidy w'
tidy_turn w w' m b what e g owned log t does all =
    let r = w.proc m.event.process in
    tidy_on w w' m b e (λ p i. subst (λ q. IsTidy b.state (marks_of q w.trail ++ m ∷ [])) (sym i) (state_turn w m.event.process g owned m r.got r.child r.time r.state b.state what refl log t does (all m.event.process))) all

-- A turn at which the process stays as it is, and latches nothing.
pub tidy_still : (w w' : World Run) (m : Mark) → Extends w w' m (w.proc m.event.process) → IsGood know w → AllOwned w → ((x : ℕ) → m.event.act ≢ Latch x) → AllTidy w → AllTidy w'
tidy_still w w' m e g owned none all = tidy_on w w' m (w.proc m.event.process) e (λ p i. subst (λ q. IsTidy (w.proc m.event.process).state (marks_of q w.trail ++ m ∷ [])) (sym i) (still_turn w m.event.process g owned m (w.proc m.event.process).state none (all m.event.process))) all

-- An act by which nothing is latched leaves the process of that state as it may be.
pub tidy_same : (w : World Run) (p : Name) (state : Proc) (m : Mark) → IsGood know w → AllOwned w → AllTidy w → (w.proc p).state ≡ state → ((x : ℕ) → m.event.act ≢ Latch x) → IsTidy state (marks_of p w.trail ++ m ∷ [])
tidy_same w p state m g owned all is none = still_turn w p g owned m state none (subst (λ z. IsTidy z (marks_of p w.trail)) is (all p))

-- Who latches none latches alone.
none_alone : (marks : Trail) → LatchesNone marks → LatchesAlone marks
none_alone marks h i m x y is does keeps = h i m x is does

-- a release never runs
never_busy : (time : ℕ) (a : ReclaimStage) → (know_reclaim time a).stage ≢ Stage.Busy
never_busy time reclaim.Seeing e = cc
never_busy time (reclaim.Looking r) e = cc
never_busy time reclaim.Releasing e = cc
never_busy time (reclaim.Over what) e = cc

-- What stands for a process that has given up may have latched what that has.
pub left_tidy : (got : ℕ → Page) (child time : ℕ) (a : Proc) (marks : Trail) → (know_of got child time a).stage ≡ Stage.Busy → IsTidy a marks → IsTidy (left_of a) marks
left_tidy got child time (proc.Find a) marks busy h = none_alone marks h
left_tidy got child time (proc.Write a) marks busy h = h
left_tidy got child time (proc.Post a) marks busy h = h
left_tidy got child time (proc.Part a) marks busy h = none_alone marks h
left_tidy got child time (proc.Compress a) marks busy h = h
left_tidy got child time (proc.Reclaim a) marks busy h = absurd (never_busy time a.stage busy)
left_tidy got child time (proc.Lower a) marks busy h = h
left_tidy got child time (proc.InsertPost a) marks busy h = h

-- An act by which the process latches nothing, and then is one that may have latched what it has.
pub tidy_to : (w w' : World Run) (m : Mark) (b : Run) → Extends w w' m b → IsGood know w → AllOwned w → ((marks : Trail) → IsTidy (w.proc m.event.process).state marks → IsTidy b.state marks) → ((x : ℕ) → m.event.act ≢ Latch x) → AllTidy w → AllTidy w'
tidy_to w w' m b e g owned means none all =
    let old : Proc = (w.proc m.event.process).state in
    let then : IsTidy b.state (marks_of m.event.process w.trail ++ m ∷ []) = means (marks_of m.event.process w.trail ++ m ∷ []) (tidy_same w m.event.process old m g owned all refl none) in
    tidy_on w w' m b e (λ p i. subst (λ q. IsTidy b.state (marks_of q w.trail ++ m ∷ [])) (sym i) then) all

-- A process that has done nothing yet

none_at : {X : Type 0} (i : ℕ) (m : Mark) → slice_get {X = Mark} [] i ≡ Some m → X
none_at i m e = absurd (cc e)

nothing_done : (a : Proc) (marks : Trail) → marks ≡ [] → IsTidy a marks
nothing_done (proc.Find a) marks e = λ i m x is does. none_at i m (sym (ap (λ (t : Trail). slice_get t i) e) ∙ is)
nothing_done (proc.Part a) marks e = λ i m x is does. none_at i m (sym (ap (λ (t : Trail). slice_get t i) e) ∙ is)
nothing_done (proc.Write a) marks e = λ i m x y is does keeps. none_at i m (sym (ap (λ (t : Trail). slice_get t i) e) ∙ is)
nothing_done (proc.Post a) marks e = λ i m x y is does keeps. none_at i m (sym (ap (λ (t : Trail). slice_get t i) e) ∙ is)
nothing_done (proc.Compress a) marks e = λ i m x is does. none_at i m (sym (ap (λ (t : Trail). slice_get t i) e) ∙ is)
nothing_done (proc.Reclaim a) marks e = tt
nothing_done (proc.Lower a) marks e = λ i m x y is does keeps. none_at i m (sym (ap (λ (t : Trail). slice_get t i) e) ∙ is)
nothing_done (proc.InsertPost a) marks e = λ i m x y is does keeps. none_at i m (sym (ap (λ (t : Trail). slice_get t i) e) ∙ is)

-- enters a world
pub tidy_enter : (w : World Run) (p : Name) (b : Run) → marks_of p w.trail ≡ [] → AllTidy w → AllTidy (with_proc w p b)
tidy_enter w p b none all q = elim (name_cases q p) [
  | inl i ↦ subst (λ (r : Run). IsTidy r.state (marks_of q w.trail)) (sym (ap (with_proc w p b).proc i ∙ (is_put_name p b w.proc).at)) (nothing_done b.state (marks_of q w.trail) (ap (λ n. marks_of n w.trail) i ∙ none))
  | inr n ↦ subst (λ (r : Run). IsTidy r.state (marks_of q w.trail)) (sym ((is_put_name p b w.proc).others q n)) (all q)
]

-- a world in which a post has given up its walk
pub off_tidy : (w : World Run) (p : Name) (a : Post) (v : Walk) → (w.proc p).state ≡ proc.Post a → AllTidy w → AllTidy (with_proc w p (off_run (w.proc p) a v))
off_tidy w p a v is all q = elim (name_cases q p) [
  | inl i ↦
      let own : IsTidy (proc.Post a) (marks_of q w.trail) = subst (λ n. IsTidy (proc.Post a) (marks_of n w.trail)) (sym i) (subst (λ z. IsTidy z (marks_of p w.trail)) is (all p)) in
      subst (λ (r : Run). IsTidy r.state (marks_of q w.trail)) (sym (ap (with_proc w p (off_run (w.proc p) a v)).proc i ∙ (is_put_name p (off_run (w.proc p) a v) w.proc).at)) own
  | inr n ↦ subst (λ (r : Run). IsTidy r.state (marks_of q w.trail)) (sym ((is_put_name p (off_run (w.proc p) a v) w.proc).others q n)) (all q)
]

-- A world in which nothing has happened.
pub tidy_first : (w : World Run) → w.trail ≡ [] → AllTidy w
tidy_first w e p = nothing_done (w.proc p).state (marks_of p w.trail) (ap (marks_of p) e)
