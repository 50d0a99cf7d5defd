-- Puts of the anchor change the number of levels by one, and each put leaves fewer puts and levels to come.
use Rattle.std.proofs.Common.{ℕ, ◌≡◌, ◌≢◌, ◌⊎◌, ◌+◌, ◌-◌, ◌*◌, ◌<◌, ◌≤◌, ◌++◌, List, [], ◌∷◌, length, take, arith, ap, sym, ◌∙◌, refl, subst, inl, inr}
use Rattle.std.proofs.lemmas.Bool.{cases_eq}
use Rattle.std.proofs.lemmas.List.{length-take-le, length-append}
use Rattle.bl_model.specs.declared.deciding.KeyWrite.{KeyWrite}
use Rattle.bl_page.specs.declared.page.Page.{Page}
use Rattle.bl_page.specs.declared.page.Page.TheVariants.{Anchor, Leaf, Inner, Dead}
use Rattle.bl_page.specs.Machine.{Name}
use Rattle.bl_page.specs.Nodes.{roots_of}
use Rattle.bl_tree.specs.Trees.{Status}
use Rattle.bl_tree.specs.Trees.Status.{Fresh, Live, Left, Right, Uprooted, Anchored}
use Rattle.bl_tree_worlds.specs.Worlds.{Goes, World, IsSure, IsGood}
use Rattle.bl_proc_steps.specs.declared.acts.Action.TheVariants as act
use Rattle.bl_proc_steps.specs.declared.acts.Seen.{Seen}
use Rattle.bl_proc_steps.specs.declared.acts.Seen.TheVariants as seen
use Rattle.bl_proc_steps.specs.declared.approach.Approach.{Approach}
use Rattle.bl_proc_steps.specs.declared.approach.Approach.TheVariants as way
use Rattle.bl_proc_steps.specs.declared.edit.Edit.{Edit}
use Rattle.bl_proc_steps.specs.declared.edit.Edit.TheVariants as edit
use Rattle.bl_proc_steps.specs.declared.growth.Growth.{Growth}
use Rattle.bl_proc_steps.specs.declared.growth.Growth.TheVariants as growth
use Rattle.bl_proc_steps.specs.declared.lowering.Lowering.{Lowering}
use Rattle.bl_proc_steps.specs.declared.lowering.Lowering.TheVariants as lowering
use Rattle.bl_proc_steps.specs.Approaches.{approach_next}
use Rattle.bl_proc_steps.specs.Edits.{edit_next}
use Rattle.bl_proc_steps.specs.Growths.{growth_next}
use Rattle.bl_page.specs.Tops.{IsAnchor}
use Rattle.bl_proc_steps.specs.Lowerings.{lowering_next}
use Rattle.bl_rearrange.specs.declared.sides.Side.{Side}
use Rattle.bl_rearrange.specs.declared.sides.Side.TheVariants as side
use Rattle.bl_proc_compress.specs.declared.compression.Puts.{Puts}
use Rattle.bl_proc_compress.specs.declared.compression.Compression.{Compression}
use Rattle.bl_proc_compress.specs.declared.compression.Compression.TheVariants as compression
use Rattle.bl_proc_compress.specs.declared.compress.CompressStage.{CompressStage}
use Rattle.bl_proc_compress.specs.declared.compress.CompressStage.TheVariants as compress
use Rattle.bl_proc_compress.specs.Compressions.{put_of, other, compression_next}
use Rattle.bl_proc_compress.specs.Compresses.{compress_next_in}
use Rattle.bl_proc_writes.specs.declared.writing.WriteStage.{WriteStage}
use Rattle.bl_proc_writes.specs.declared.writing.WriteStage.TheVariants as write
use Rattle.bl_proc_writes.specs.declared.post.PostStage.{PostStage}
use Rattle.bl_proc_writes.specs.declared.post.PostStage.TheVariants as post
use Rattle.bl_proc_writes.specs.declared.paths.Path.{Path}
use Rattle.bl_proc_writes.specs.declared.insert_post.ClimbStage.{ClimbStage}
use Rattle.bl_proc_writes.specs.declared.insert_post.ClimbStage.TheVariants as climb
use Rattle.bl_proc_writes.specs.Writes.{write_next_in}
use Rattle.bl_proc_writes.specs.Posts.{post_next_in, PostGoes}
use Rattle.bl_proc_writes.specs.InsertPosts.{climb_next_in, ClimbGoes}
use Rattle.bl_proc_writes.specs.declared.insert_post.Placing.{Placing}
use Rattle.bl_proc_writes.specs.Placings.{write_of}
use Rattle.bl_proc.specs.declared.searching.FindStage.{FindStage}
use Rattle.bl_proc.specs.declared.searching.FindStage.TheVariants as find
use Rattle.bl_proc.specs.declared.parts.PartStage.{PartStage}
use Rattle.bl_proc.specs.declared.parts.PartStage.TheVariants as part
use Rattle.bl_proc.specs.declared.reclaiming.ReclaimStage.{ReclaimStage}
use Rattle.bl_proc.specs.declared.reclaiming.ReclaimStage.TheVariants as reclaim
use Rattle.bl_proc.specs.declared.lowering.LowerStage.{LowerStage}
use Rattle.bl_proc.specs.declared.lowering.LowerStage.TheVariants as lower
use Rattle.bl_proc.specs.Searches.{find_next_in}
use Rattle.bl_proc.specs.Parts.{part_next_in}
use Rattle.bl_proc.specs.Reclaims.{reclaim_next_in}
use Rattle.bl_proc.specs.Lowers.{LowerGoes, lower_next_in}
use Rattle.bl_proc.specs.declared.kinds.Proc.{Proc}
use Rattle.bl_proc.specs.declared.kinds.Proc.TheVariants as proc
use Rattle.bl_proc.specs.Processes.{next_of, Takes}
use Rattle.bl_proc_invariant.specs.Tables.{Carried, alone, Aim, know_edit}
use Rattle.bl_proc_invariant.specs.Lowering.{know_lowering}
use Rattle.bl_proc_invariant.specs.Compressing.{know_compression}
use Rattle.bl_proc_invariant.specs.Knowing.{Run, path_goes, inserted, know_growth, know_write, know_post, know_compress, know_lower, know_climb, know_of, know}
use Rattle.bl_proc_ends.specs.Budget.{lower_puts, puts_of, room_above, IsRaisingIn, IsRaisingUp, IsRaising, IsSinkingIn, IsSinking}
use Rattle.bl_proc_ends.proofs.Spending.{spends}
use Rattle.bl_proc_writes.specs.declared.insert_post.Placing.{Placing}
use Rattle.bl_proc_writes.specs.Placings.{write_of}

anchor_levels : (c : Page) (leftmost : List ℕ) → IsAnchor leftmost c → (roots_of c).levels ≡ length leftmost
anchor_levels (Anchor a) leftmost h = ap length h
anchor_levels (Leaf l) leftmost h = absurd h
anchor_levels (Inner i) leftmost h = absurd h
anchor_levels (Dead d) leftmost h = absurd h

-- the anchor is put with one level more
pub record Raised (before after : Page) : Type 0 where
  pub one_more : (roots_of after).levels ≡ (roots_of before).levels + 1
  pub room : (roots_of before).levels < 12

-- another page is put, or a level is made, or taken away
abbrev pub Puts-anchor : Page → ℕ → Page → Type 0 → Type 0 → Type 0
Puts-anchor before x c Raising Sinking = (x ≢ 0) ⊎ ((Raising × Raised before c) ⊎ (Sinking × ((roots_of before).levels ≤ (roots_of c).levels + 1)))

module _ (w : World Run) (g : IsGood know w) (p : Name) where
  abbrev Anchor-now : Page
  Anchor-now = w.now.contents 0

  abbrev Elsewhere : ℕ → Page → Type 0 → Type 0 → Type 0
  Elsewhere x c R S = Puts-anchor Anchor-now x c R S

  off : (y x : ℕ) (d c : Page) (s : Status) → w.status y ≡ s → s ≢ Anchored → act.Put y d ≡ act.Put x c → x ≢ 0
  off y x d c s is n e z = (let same : y ≡ x = cc in n (sym is ∙ (ap w.status (same ∙ z) ∙ g.tree.anchored)))

  edit_off : (aim : Aim) (got : ℕ → Page) (a : Edit) (x : ℕ) (c : Page) → IsSure w p (know_edit aim got a) → edit_next a ≡ act.Put x c → x ≢ 0
  edit_off aim got (edit.Putting y page) x c is e = off y x page c Live is.holds.0.status (λ i. cc) e
  edit_off aim got (edit.PuttingNew t) x c is e = off t.new x t.right c Fresh is.holds.1.0.status (λ i. cc) e
  edit_off aim got (edit.PuttingOld t) x c is e = off t.at x t.left c Live is.holds.0.status (λ i. cc) e
  edit_off aim got old x c is e = absurd (cc e)

  approach_none : (a : Approach) (x : ℕ) (c : Page) → approach_next a ≡ act.Put x c → ⊥
  approach_none way.Start x c e = cc
  approach_none (way.At y) x c e = cc
  approach_none (way.Latching y) x c e = cc
  approach_none (way.Latched y) x c e = cc
  approach_none (way.Leaving y to) x c e = cc

  write_off : (goes : List Goes) (key : ℕ) (does : KeyWrite) (got : ℕ → Page) (a : WriteStage) (x : ℕ) (c : Page) → IsSure w p (know_write goes key does got a) → write_next_in a ≡ act.Put x c → x ≢ 0
  write_off goes key does got (write.Editing noted d) x c is e = edit_off _ got d x c is e
  write_off goes key does got (write.Coming a) x c is e = absurd (approach_none a x c e)
  write_off goes key does got old x c is e = absurd (cc e)

  growth_off : (carried : Carried) (level key : ℕ) (got : ℕ → Page) (a : Growth) (x : ℕ) (c : Page) → IsSure w p (know_growth carried level key got a) → growth_next a ≡ act.Put x c → Elsewhere x c (IsRaisingIn (post.Growing a)) ⊥
  growth_off carried level key got (growth.PuttingTop r) x c is e = inl (off r.new x r.top c Fresh is.holds.1.0.status (λ i. cc) e)
  growth_off carried level key got (growth.PuttingAnchor r) x c is e =
      let page : r.anchor ≡ c = cc in
      let now : Anchor-now ≡ got 0 = is.holds.0.page in
      let s = is.sound.1 in
      let before : (roots_of Anchor-now).levels ≡ length s.0 = ap (λ v. (roots_of v).levels) now ∙ anchor_levels (got 0) s.0 s.1.anchor in
      let after : (roots_of c).levels ≡ length (s.0 ++ r.new ∷ []) = ap (λ v. (roots_of v).levels) (sym page) ∙ anchor_levels r.anchor (s.0 ++ r.new ∷ []) s.2.1 in
      let longer : length (s.0 ++ r.new ∷ []) ≡ length s.0 + 1 = length-append s.0 (r.new ∷ []) in
      let levels = s.1.levels in
      let room = s.1.room in
      inr (inl (tt, record { one_more = omega (arith, before, after, longer); room = omega (arith, before, levels, room) }))
  growth_off carried level key got old x c is e = absurd (cc e)

  post_off : (carried : Carried) (level key : ℕ) (got : ℕ → Page) (child : ℕ) (a : PostStage) (x : ℕ) (c : Page) → IsSure w p (know_post carried level key got child a) → post_next_in a ≡ act.Put x c → Elsewhere x c (IsRaisingIn a) ⊥
  post_off carried level key got child (post.Editing d) x c is e = inl (edit_off _ got d x c is e)
  post_off carried level key got child (post.Growing a) x c is e = growth_off carried level key got a x c is e
  post_off carried level key got child (post.Coming a) x c is e = absurd (approach_none a x c e)
  post_off carried level key got child old x c is e = absurd (cc e)

  side_off : (sd : Side) (u : Puts) (x : ℕ) (c : Page) (s t : Status) → w.status u.at.left ≡ s → w.status u.at.right ≡ t → s ≢ Anchored → t ≢ Anchored → put_of sd u ≡ act.Put x c → x ≢ 0
  side_off side.Left u x c s t l r n m e = off u.at.left x u.left c s l n e
  side_off side.Right u x c s t l r n m e = off u.at.right x u.right c t r m e

  compression_off : (level key : ℕ) (got : ℕ → Page) (a : Compression) (x : ℕ) (c : Page) → IsSure w p (know_compression level key got a) → compression_next a ≡ act.Put x c → x ≢ 0
  compression_off level key got (compression.PuttingFirst u) x c is e = side_off u.gains u x c Live Live is.holds.1.0.status is.holds.1.1.0.status (λ i. cc) (λ i. cc) e
  compression_off level key got (compression.PuttingParent u) x c is e = off u.at.parent x u.parent c Live is.holds.0.status (λ i. cc) e
  compression_off level key got (compression.PuttingLast u) x c is e = side_off (other u.gains) u x c (Left u.at.right) (Right u.at.left) is.holds.1.0.status is.holds.1.1.0.status (λ i. cc) (λ i. cc) e
  compression_off level key got old x c is e = absurd (cc e)

  compress_off : (level key : ℕ) (got : ℕ → Page) (a : CompressStage) (x : ℕ) (c : Page) → IsSure w p (know_compress level key got a) → compress_next_in a ≡ act.Put x c → x ≢ 0
  compress_off level key got (compress.Compressing d) x c is e = compression_off level key got d x c is e
  compress_off level key got (compress.Coming a) x c is e = absurd (approach_none a x c e)
  compress_off level key got old x c is e = absurd (cc e)

  lowering_off : (got : ℕ → Page) (a : Lowering) (x : ℕ) (c : Page) → IsSure w p (know_lowering got a) → lowering_next a ≡ act.Put x c → Elsewhere x c ⊥ (IsSinkingIn (lower.Sinking a))
  lowering_off got (lowering.PuttingDead s) x c is e = inl (off s.top x s.dead c Uprooted is.holds.1.0.status (λ i. cc) e)
  lowering_off got (lowering.PuttingAnchor s) x c is e =
      let page : s.anchor ≡ c = cc in
      let now : Anchor-now ≡ got 0 = is.holds.0.page in
      let k = is.sound in
      let before : (roots_of Anchor-now).levels ≡ length k.leftmost = ap (λ v. (roots_of v).levels) now ∙ anchor_levels (got 0) k.leftmost k.anchor in
      let after : (roots_of c).levels ≡ length (take (length k.leftmost - 1) k.leftmost) = ap (λ v. (roots_of v).levels) (sym page) ∙ anchor_levels s.anchor (take (length k.leftmost - 1) k.leftmost) k.sinks.0 in
      let shorter : length (take (length k.leftmost - 1) k.leftmost) ≡ length k.leftmost - 1 = length-take-le (length k.leftmost - 1) k.leftmost (omega arith) in
      inr (inr (tt, omega (arith, before, after, shorter)))
  lowering_off got old x c is e = absurd (cc e)

  lower_off : (got : ℕ → Page) (a : LowerStage) (x : ℕ) (c : Page) → IsSure w p (know_lower got a) → lower_next_in a ≡ act.Put x c → Elsewhere x c ⊥ (IsSinkingIn a)
  lower_off got (lower.Sinking l) x c is e = lowering_off got l x c is e
  lower_off got old x c is e = absurd (cc e)

  climb_off : (key : ℕ) (placing : Placing) (path : Path) (got : ℕ → Page) (child : ℕ) (a : ClimbStage) (x : ℕ) (c : Page) → IsSure w p (know_climb key placing path got child a) → climb_next_in a ≡ act.Put x c → Elsewhere x c (IsRaisingUp a) ⊥
  climb_off key placing path got child (climb.Writing v) x c is e = inl (write_off (path_goes path) key (write_of placing) got v.stage x c is e)
  climb_off key placing path got child (climb.Posting q) x c is e = post_off (inserted key placing path) q.level q.key got child q.stage x c is e
  climb_off key placing path got child (climb.Ending r) x c is e = absurd (cc e)
  climb_off key placing path got child (climb.Over r) x c is e = absurd (cc e)

  find_none : (a : FindStage) (x : ℕ) (c : Page) → find_next_in a ≡ act.Put x c → ⊥
  find_none find.New x c e = cc
  find_none (find.Near y) x c e = cc
  find_none (find.Probing y) x c e = cc
  find_none (find.Descending d) x c e = cc
  find_none (find.Ending v) x c e = cc
  find_none (find.Over v) x c e = cc

  part_none : (a : PartStage) (x : ℕ) (c : Page) → part_next_in a ≡ act.Put x c → ⊥
  part_none part.New x c e = cc
  part_none (part.Near y) x c e = cc
  part_none (part.Probing y) x c e = cc
  part_none (part.Descending d) x c e = cc
  part_none (part.Ending r) x c e = cc
  part_none (part.Over r) x c e = cc

  reclaim_none : (page : ℕ) (a : ReclaimStage) (x : ℕ) (c : Page) → reclaim_next_in page a ≡ act.Put x c → ⊥
  reclaim_none page reclaim.Seeing x c e = cc
  reclaim_none page (reclaim.Looking r) x c e = cc
  reclaim_none page reclaim.Releasing x c e = cc
  reclaim_none page (reclaim.Over what) x c e = cc

  state_off : (got : ℕ → Page) (child time : ℕ) (a : Proc) (x : ℕ) (c : Page) → IsSure w p (know_of got child time a) → next_of a ≡ act.Put x c → Elsewhere x c (IsRaising a) (IsSinking a)
  state_off got child time (proc.Find a) x c is e = absurd (find_none a.stage x c e)
  state_off got child time (proc.Part a) x c is e = absurd (part_none a.stage x c e)
  state_off got child time (proc.Reclaim a) x c is e = absurd (reclaim_none a.page a.stage x c e)
  state_off got child time (proc.Write a) x c is e = inl (write_off [] a.key a.write got a.stage x c is e)
  state_off got child time (proc.Post a) x c is e = post_off alone a.level a.key got child a.stage x c is e
  state_off got child time (proc.Compress a) x c is e = inl (compress_off a.level a.key got a.stage x c is e)
  state_off got child time (proc.Lower a) x c is e = lower_off got a.stage x c is e
  state_off got child time (proc.InsertPost a) x c is e = climb_off a.key a.placing a.path got child a.stage x c is e

  pub anchor_puts : (x : ℕ) (c : Page) → next_of (w.proc p).state ≡ act.Put x c → Elsewhere x c (IsRaising (w.proc p).state) (IsSinking (w.proc p).state)
  anchor_puts x c e = (let r = w.proc p in state_off r.got r.child r.time r.state x c (g.sure p) e)

-- A new anchor is put at page 0, and is not refused.

raising_at : (a : PostStage) (x : ℕ) (c : Page) → IsRaisingIn a → post_next_in a ≡ act.Put x c → x ≡ 0
raising_at (post.Growing (growth.PuttingAnchor r)) x c h e = cc
raising_at a x c h e = absurd h

raising_zero : (a : Proc) (x : ℕ) (c : Page) → IsRaising a → next_of a ≡ act.Put x c → x ≡ 0
raising_zero (proc.Post p) x c h e = raising_at p.stage x c h e
raising_zero (proc.InsertPost p) x c h e = by p.stage h e
  where
    by : (a : ClimbStage) → IsRaisingUp a → climb_next_in a ≡ act.Put x c → x ≡ 0
    by (climb.Posting q) h e = raising_at q.stage x c h e
    by a h e = absurd h
raising_zero a x c h e = absurd h

raises_done : (level key : ℕ) (a : PostStage) (what : Seen) (b : PostStage) → IsRaisingIn a → PostGoes level key a what b → (what ≡ seen.Done) × ((c : Page) × (post_next_in a ≡ act.Put 0 c))
raises_done level key (post.Growing (growth.PuttingAnchor r)) seen.Done (post.Growing h) i t = (refl, (r.anchor, refl))
raises_done level key (post.Growing (growth.PuttingAnchor r)) what (post.Growing h) i t = absurd t
raises_done level key (post.Growing (growth.PuttingAnchor r)) what (post.Coming a) i t = absurd t.0
raises_done level key (post.Growing (growth.PuttingAnchor r)) what (post.Ending last) i t = absurd t.0
raises_done level key (post.Growing (growth.PuttingAnchor r)) what b i t = absurd t
raises_done level key a what b i t = absurd i

raising_done : (old new : Proc) (what : Seen) → IsRaising old → Takes old what new → (what ≡ seen.Done) × ((c : Page) × (next_of old ≡ act.Put 0 c))
raising_done (proc.Post a) (proc.Post b) what i t = raises_done a.level a.key a.stage what b.stage i t.2
raising_done (proc.InsertPost a) (proc.InsertPost b) what i t = by a.stage b.stage i t.3
  where
    by : (c d : ClimbStage) → IsRaisingUp c → ClimbGoes b.path c what d → (what ≡ seen.Done) × ((page : Page) × (climb_next_in c ≡ act.Put 0 page))
    by (climb.Posting u) (climb.Posting q) i t = elim t [ inl k ↦ raises_done u.level u.key u.stage what q.stage i k.0.2 | inr k ↦ raises_done u.level u.key u.stage what _ i k.1 ]
    by (climb.Posting u) (climb.Ending last) i t = raises_done u.level u.key u.stage what _ i t.1
    by (climb.Posting u) d i t = absurd t
    by c d i t = absurd i
raising_done (proc.Post a) new what i t = absurd t
raising_done (proc.InsertPost a) new what i t = absurd t
raising_done old new what i t = absurd i

-- without a put there are no more puts to come
pub puts_kept : (old new : Proc) (what : Seen) → Takes old what new → ((x : ℕ) (c : Page) → what ≡ seen.Done → next_of old ≢ act.Put x c) → puts_of new ≤ puts_of old
puts_kept old new what t none = elim (spends old new what t) [
  | inl s ↦ s.kept
  | inr r ↦ absurd (let d = raising_done old new what r.0 t in none 0 d.1.0 d.0 d.1.1)
]

-- a lowering that has put the anchor
sunk_puts : (a b : LowerStage) → IsSinkingIn a → LowerGoes a seen.Done b → lower_puts b + 2 < lower_puts a
sunk_puts (lower.Sinking (lowering.PuttingAnchor s)) (lower.Sinking m) i t = subst (λ v. lower_puts (lower.Sinking v) + 2 < 4) (sym t) (omega arith)
sunk_puts (lower.Sinking (lowering.PuttingAnchor s)) b i t = absurd t
sunk_puts a b i t = absurd i

sinking_puts : (old new : Proc) → IsSinking old → Takes old seen.Done new → puts_of new + 2 < puts_of old
sinking_puts (proc.Lower a) (proc.Lower b) i t = sunk_puts a.stage b.stage i t
sinking_puts (proc.Lower a) new i t = absurd t
sinking_puts old new i t = absurd i

-- With each put there are fewer puts and levels to come.
pub put_falls : (w next : World Run) (p : Name) (x : ℕ) (c : Page) → IsGood know w → next_of (w.proc p).state ≡ act.Put x c → Takes (w.proc p).state seen.Done (next.proc p).state → next.now.contents x ≡ c → (x ≢ 0 → next.now.contents 0 ≡ w.now.contents 0)
    → puts_of (next.proc p).state + room_above next.now.contents < puts_of (w.proc p).state + room_above w.now.contents
put_falls w next p x c g is t put rest =
    let old = (w.proc p).state in
    let new = (next.proc p).state in
    elim (anchor_puts w g p x c is) [
      | inl other ↦
          let same : room_above next.now.contents ≡ room_above w.now.contents = ap (λ v. 2 * (12 - (roots_of v).levels)) (rest other) in
          elim (spends old new seen.Done t) [
            | inl s ↦ (let less = s.spent x c refl is in omega (arith, less, same))
            | inr r ↦ absurd (other (raising_zero old x c r.0 is))
          ]
      | inr anchor ↦ elim anchor [
        | inl up ↦
            let at : x ≡ 0 = raising_zero old x c up.0 is in
            let now : next.now.contents 0 ≡ c = ap next.now.contents (sym at) ∙ put in
            let levels : (roots_of (next.now.contents 0)).levels ≡ (roots_of c).levels = ap (λ v. (roots_of v).levels) now in
            let more = up.1.one_more in
            let room = up.1.room in
            elim (spends old new seen.Done t) [
              | inl s ↦ (let kept = s.kept in omega (arith, kept, levels, more, room))
              | inr r ↦ (let few = r.1 in omega (arith, few, levels, more, room))
            ]
        | inr down ↦
            let fewer = sinking_puts old new down.0 t in
            let levels = down.1 in
            by_place x is put rest fewer levels
      ]
    ]
  where
    by_place : (x : ℕ) → next_of (w.proc p).state ≡ act.Put x c → next.now.contents x ≡ c → (x ≢ 0 → next.now.contents 0 ≡ w.now.contents 0) → puts_of (next.proc p).state + 2 < puts_of (w.proc p).state → (roots_of (w.now.contents 0)).levels ≤ (roots_of c).levels + 1
        → puts_of (next.proc p).state + room_above next.now.contents < puts_of (w.proc p).state + room_above w.now.contents
    by_place x is put rest fewer levels = elim (cases_eq x 0) [
      | inl at ↦ (let now : (roots_of (next.now.contents 0)).levels ≡ (roots_of c).levels = ap (λ v. (roots_of v).levels) (ap next.now.contents (sym at) ∙ put) in omega (arith, fewer, levels, now))
      | inr other ↦ (let same : (roots_of (next.now.contents 0)).levels ≡ (roots_of (w.now.contents 0)).levels = ap (λ v. (roots_of v).levels) (rest other) in omega (arith, fewer, same))
    ]
