-- Whoever misses the latch of a page that is dead has fewer turns left: the way goes on from there.
use Rattle.std.proofs.Common.{ℕ, ◌≡◌, ◌+◌, ◌<◌, arith, ap, sym, ◌∙◌, refl, subst, inl, inr}
use Rattle.bl_model.specs.declared.deciding.KeyWrite.{KeyWrite}
use Rattle.bl_page.specs.declared.page.Page.{Page}
use Rattle.bl_page.specs.Machine.{Name}
use Rattle.bl_page.specs.Nodes.{node_of}
use Rattle.bl_tree.specs.Trees.Status.{Gone}
use Rattle.bl_tree_worlds.specs.Worlds.{World, IsGood}
use Rattle.bl_claims.specs.Trails.{Trail}
use Rattle.bl_proc_steps.specs.declared.acts.Action.TheVariants as act
use Rattle.bl_proc_steps.specs.declared.acts.Seen.TheVariants as seen
use Rattle.bl_proc_steps.specs.declared.approach.Approach.{Approach}
use Rattle.bl_proc_steps.specs.declared.approach.Approach.TheVariants as way
use Rattle.bl_proc_steps.specs.declared.approach.Approached.TheVariants as came
use Rattle.bl_proc_steps.specs.declared.approach.Came.{Came}
use Rattle.bl_proc_steps.specs.declared.approach.Came.TheVariants as come
use Rattle.bl_proc_steps.specs.declared.growth.Growth.{Growth}
use Rattle.bl_proc_steps.specs.declared.growth.Growth.TheVariants as growth
use Rattle.bl_proc_steps.specs.declared.lowering.Lowering.{Lowering}
use Rattle.bl_proc_steps.specs.declared.lowering.Lowering.TheVariants as lowering
use Rattle.bl_proc_steps.specs.Approaches.{approach_next, Approaches, Comes}
use Rattle.bl_proc_steps.specs.Growths.{growth_next}
use Rattle.bl_proc_steps.specs.Lowerings.{lowering_next}
use Rattle.bl_rearrange.specs.declared.sides.Side.{Side}
use Rattle.bl_rearrange.specs.declared.sides.Side.TheVariants as side
use Rattle.bl_proc_compress.specs.declared.compression.Puts.{Puts}
use Rattle.bl_proc_compress.specs.declared.compression.Compression.{Compression}
use Rattle.bl_proc_compress.specs.declared.compression.Compression.TheVariants as compression
use Rattle.bl_proc_compress.specs.declared.compress.CompressStage.{CompressStage}
use Rattle.bl_proc_compress.specs.declared.compress.CompressStage.TheVariants as compress
use Rattle.bl_proc_compress.specs.Compressions.{put_of, other, compression_next}
use Rattle.bl_proc_compress.specs.Compresses.{CompressComes, CompressGoes, compress_next_in}
use Rattle.bl_proc_writes.specs.declared.writing.WriteStage.{WriteStage}
use Rattle.bl_proc_writes.specs.declared.writing.WriteStage.TheVariants as write
use Rattle.bl_proc_writes.specs.declared.post.PostStage.{PostStage}
use Rattle.bl_proc_writes.specs.declared.post.PostStage.TheVariants as post
use Rattle.bl_proc_writes.specs.declared.paths.Path.{Path}
use Rattle.bl_proc_writes.specs.declared.insert_post.ClimbStage.{ClimbStage}
use Rattle.bl_proc_writes.specs.declared.insert_post.ClimbStage.TheVariants as climb
use Rattle.bl_proc_writes.specs.Writes.{write_next_in, WriteGoes}
use Rattle.bl_proc_writes.specs.Posts.{post_next_in, PostComes, PostGoes}
use Rattle.bl_proc_writes.specs.InsertPosts.{climb_next_in, ClimbGoes}
use Rattle.bl_proc.specs.declared.lowering.LowerStage.{LowerStage}
use Rattle.bl_proc.specs.declared.lowering.LowerStage.TheVariants as lower
use Rattle.bl_proc.specs.Lowers.{lower_next_in}
use Rattle.bl_proc.specs.declared.kinds.Proc.{Proc}
use Rattle.bl_proc.specs.declared.kinds.Proc.TheVariants as proc
use Rattle.bl_proc.specs.Processes.{next_of, Takes}
use Rattle.bl_proc_invariant.specs.Lowering.{know_lowering}
use Rattle.bl_proc_invariant.specs.Logs.{compress_log, compression_log, proc_log}
use Rattle.bl_proc_invariant.specs.Compressing.{know_compression}
use Rattle.bl_proc_invariant.specs.Knowing.{Run, know_compress, know_lower, know_of, know}
use Rattle.bl_proc_progress.proofs.Alone.{edit_never, find_looks, part_looks, reclaim_looks}
use Rattle.bl_proc_progress.proofs.Below.{same_page}
use Rattle.bl_proc_progress.proofs.Shortening.{missed_fewer}
use Rattle.bl_proc_ends.specs.Left.{IsOnWay, write_left, post_left, compress_left, writing_left, posting_left, climb_left, TurnsLeft}
use Rattle.bl_proc_rest.specs.Rests.{patient}
use Rattle.bl_proc_rest.proofs.Children.{live_not_gone, left_live, right_live, top_live, anchor_not_gone}

-- fewer turns are left then
abbrev pub Falls : (ℕ → Type 0) → ℕ → Type 0
Falls P turns = (then : ℕ) × P then × (then < turns)

-- Only on its way a process misses a latch, and then it is to get that page.

approach_missed : (level key : ℕ) (a b : Approach) (x : ℕ) → Approaches level key a seen.Missed (came.On b) → approach_next a ≡ act.Latch x → (a ≡ way.Latching x) × (b ≡ way.At x)
approach_missed level key (way.Latching y) b x t e = (let i = same_page y x e in (ap way.Latching i, t ∙ ap way.At i))
approach_missed level key way.Start b x t e = absurd t
approach_missed level key (way.At y) b x t e = absurd t
approach_missed level key (way.Latched y) b x t e = absurd t
approach_missed level key (way.Leaving y to) b x t e = absurd (cc e)

never_there : (level key : ℕ) (a : Approach) (x y : ℕ) (c : Page) → Approaches level key a seen.Missed (came.Here y c) → approach_next a ≡ act.Latch x → ⊥
never_there level key (way.Latching z) x y c t e = t
never_there level key way.Start x y c t e = t
never_there level key (way.At z) x y c t e = t
never_there level key (way.Latched z) x y c t e = t
never_there level key (way.Leaving z to) x y c t e = absurd (cc e)

-- so it stands, and so it goes on
abbrev pub IsMissed : {S : Type 0} → (Approach → S) → S → S → ℕ → Type 0
IsMissed coming a b x = (a ≡ coming (way.Latching x)) × (b ≡ coming (way.At x))

write_missed : (key : ℕ) (does : KeyWrite) (a b : WriteStage) (x : ℕ) → WriteGoes key does a seen.Missed b → write_next_in a ≡ act.Latch x → IsMissed write.Coming a b x
write_missed key does (write.Coming a) (write.Coming b) x t e = (let m = approach_missed 0 key a b x t e in (ap write.Coming m.0, ap write.Coming m.1))
write_missed key does (write.Coming a) b x t e = absurd (never_there 0 key a x t.0 t.1 t.2 e)
write_missed key does (write.Editing noted c) b x t e = absurd (edit_never c x e)
write_missed key does write.New b x t e = absurd (cc e)
write_missed key does (write.Keeping y there) b x t e = absurd (cc e)
write_missed key does (write.Ending r) b x t e = absurd (cc e)
write_missed key does (write.Over r) b x t e = absurd (cc e)

-- the anchor is not counted where its latch is missed
no_count : (level key : ℕ) (a : Approach) (m : Came) (x : ℕ) → Comes level key a seen.Missed m → approach_next a ≡ act.Latch x → (b : Approach) × (m ≡ come.On b) × (a ≡ way.Latching x) × (b ≡ way.At x)
no_count level key a (come.On b) x t e = (let m = approach_missed level key a b x t.1 e in (b, refl, m.0, m.1))
no_count level key a (come.ToParent y parent) x t e = absurd (never_there level key a x y _ t e)
no_count level key way.Start (come.NoLevel n) x t e = absurd (cc e)
no_count level key (way.At y) (come.NoLevel n) x t e = absurd t.1
no_count level key (way.Latching y) (come.NoLevel n) x t e = absurd t.1
no_count level key (way.Latched y) (come.NoLevel n) x t e = absurd t.1
no_count level key (way.Leaving y to) (come.NoLevel n) x t e = absurd t.1

growth_latch : (a : Growth) (x : ℕ) → growth_next a ≡ act.Latch x → x ≡ 0
growth_latch growth.Latching x e = sym (same_page 0 x e)
growth_latch old x e = absurd (cc e)

post_missed : (level key : ℕ) (a b : PostStage) (x : ℕ) → (x ≡ 0 → ⊥) → PostGoes level key a seen.Missed b → post_next_in a ≡ act.Latch x → IsMissed post.Coming a b x
post_missed level key (post.Coming a) b x other t e =
    let m = no_count level key a t.0 x t.1 e in
    (ap post.Coming m.2, subst (λ n. PostComes level key n b) m.1 t.2 ∙ ap post.Coming m.3)
post_missed level key (post.Growing a) b x other t e = absurd (other (growth_latch a x e))
post_missed level key (post.Editing c) b x other t e = absurd (edit_never c x e)
post_missed level key post.New b x other t e = absurd (cc e)
post_missed level key (post.Walking w) b x other t e = absurd (cc e)
post_missed level key (post.Staying y r) b x other t e = absurd (cc e)
post_missed level key (post.Ending r) b x other t e = absurd (cc e)
post_missed level key (post.Over r) b x other t e = absurd (cc e)

put_never : (sd : Side) (p : Puts) (x : ℕ) → put_of sd p ≡ act.Latch x → ⊥
put_never side.Left p x e = cc
put_never side.Right p x e = cc

module _ (contents : ℕ → Page) (x : ℕ) (none : (node_of (contents x)).shape.end ≡ 0) where
  way_falls : (key more turns : ℕ) → IsOnWay contents key (way.Latching x) more turns → Falls (λ n. IsOnWay contents key (way.At x) more n) turns
  way_falls key more turns l =
      let m = missed_fewer contents key x l.way none l.left in
      let count = l.count in
      let less = m.2 in
      (m.0 + more, record { way = m.0; left = m.1; count = refl }, omega (arith, count, less))

  -- of any stages that tell so of the way
  stage_falls : {S : Type 0} (coming : Approach → S) (left : S → ℕ → Type 0) (key more turns : ℕ) (a b : S) → ((z : Approach) (n : ℕ) → left (coming z) n → IsOnWay contents key z more n) → ((z : Approach) (n : ℕ) → IsOnWay contents key z more n → left (coming z) n) → IsMissed coming a b x → left a turns → Falls (left b) turns
  stage_falls coming left key more turns a b out back m l =
      let r = way_falls key more turns (out (way.Latching x) turns (subst (λ z. left z turns) m.0 l)) in
      subst (λ z. Falls (left z) turns) (sym m.1) (r.0, back (way.At x) r.0 r.1, r.2)

module _ (w : World Run) (g : IsGood know w) (p : Name) (x : ℕ) (gone : w.status x ≡ Gone) where
  none : (node_of (w.now.contents x)).shape.end ≡ 0
  none = (g.gone x gone).end

  not_anchor : x ≡ 0 → ⊥
  not_anchor e = anchor_not_gone w g p x e gone

  write_falls : (key : ℕ) (does : KeyWrite) (a b : WriteStage) (turns : ℕ) → WriteGoes key does a seen.Missed b → write_next_in a ≡ act.Latch x → write_left w.size w.now.contents key a turns → Falls (write_left w.size w.now.contents key b) turns
  write_falls key does a b turns t e l = stage_falls w.now.contents x none write.Coming (write_left w.size w.now.contents key) key 12 turns a b (λ z n h. h) (λ z n h. h) (write_missed key does a b x t e) l

  writing_falls : (key : ℕ) (does : KeyWrite) (a b : WriteStage) (turns : ℕ) → WriteGoes key does a seen.Missed b → write_next_in a ≡ act.Latch x → writing_left w.size w.now.contents key a turns → Falls (writing_left w.size w.now.contents key b) turns
  writing_falls key does a b turns t e l = stage_falls w.now.contents x none write.Coming (writing_left w.size w.now.contents key) key 12 turns a b (λ z n h. h) (λ z n h. h) (write_missed key does a b x t e) l

  post_falls : (level key : ℕ) (a b : PostStage) (turns : ℕ) → PostGoes level key a seen.Missed b → post_next_in a ≡ act.Latch x → post_left w.size w.now.contents level key a turns → Falls (post_left w.size w.now.contents level key b) turns
  post_falls level key a b turns t e l = stage_falls w.now.contents x none post.Coming (post_left w.size w.now.contents level key) key 20 turns a b (λ z n h. h) (λ z n h. h) (post_missed level key a b x not_anchor t e) l

  posting_falls : (level key : ℕ) (a b : PostStage) (turns : ℕ) → PostGoes level key a seen.Missed b → post_next_in a ≡ act.Latch x → posting_left w.size w.now.contents level key a turns → Falls (posting_left w.size w.now.contents level key b) turns
  posting_falls level key a b turns t e l = stage_falls w.now.contents x none post.Coming (posting_left w.size w.now.contents level key) key 20 turns a b (λ z n h. h) (λ z n h. h) (post_missed level key a b x not_anchor t e) l

  -- who holds a page latches a page of the tree
  compression_never : (level key : ℕ) (got : ℕ → Page) (marks : Trail) (c : Compression) → know (w.proc p) ≡ know_compression level key got c → compression_log level key c marks → compression_next c ≡ act.Latch x → ⊥
  compression_never level key got marks (compression.LatchingLeft f) is log e = live_not_gone w f.at.left (left_live w g p level key got f is log.siblings) (ap w.status (same_page f.at.left x e) ∙ gone)
  compression_never level key got marks (compression.LatchingRight f c) is log e = live_not_gone w f.at.right (right_live w g p level key got f c is) (ap w.status (same_page f.at.right x e) ∙ gone)
  compression_never level key got marks (compression.PuttingFirst u) is log e = put_never u.gains u x e
  compression_never level key got marks (compression.PuttingLast u) is log e = put_never (other u.gains) u x e
  compression_never level key got marks old is log e = absurd (cc e)

  compress_missed : (level key : ℕ) (does : _) (got : ℕ → Page) (marks : Trail) (a b : CompressStage) → know (w.proc p) ≡ know_compress level key got a → compress_log level key a marks → CompressGoes level key does a seen.Missed b → compress_next_in a ≡ act.Latch x → IsMissed compress.Coming a b x
  compress_missed level key does got marks (compress.Coming a) b is log t e =
      let m = no_count level key a t.0 x t.1 e in
      (ap compress.Coming m.2, subst (λ n. CompressComes key n b) m.1 t.2 ∙ ap compress.Coming m.3)
  compress_missed level key does got marks (compress.Compressing c) b is log t e = absurd (compression_never level key got marks c is log e)
  compress_missed level key does got marks compress.New b is log t e = absurd (cc e)
  compress_missed level key does got marks (compress.Staying y) b is log t e = absurd (cc e)
  compress_missed level key does got marks (compress.Ending r) b is log t e = absurd (cc e)
  compress_missed level key does got marks (compress.Over r) b is log t e = absurd (cc e)

  lowering_never : (got : ℕ → Page) (l : Lowering) → know (w.proc p) ≡ know_lowering got l → lowering_next l ≡ act.Latch x → ⊥
  lowering_never got lowering.LatchingAnchor is e = not_anchor (sym (same_page 0 x e))
  lowering_never got (lowering.LatchingTop t) is e = live_not_gone w t.top (top_live w g p got t is) (ap w.status (same_page t.top x e) ∙ gone)
  lowering_never got old is e = absurd (cc e)

  lower_never : (got : ℕ → Page) (a : LowerStage) → know (w.proc p) ≡ know_lower got a → lower_next_in a ≡ act.Latch x → ⊥
  lower_never got (lower.Sinking l) is e = lowering_never got l is e
  lower_never got old is e = absurd (cc e)

  climb_falls : (path : Path) (a b : ClimbStage) (turns : ℕ) → ClimbGoes path a seen.Missed b → climb_next_in a ≡ act.Latch x → climb_left w.size w.now.contents a turns → Falls (climb_left w.size w.now.contents b) turns
  climb_falls path (climb.Writing v) (climb.Writing u) turns t e l = subst (λ z. Falls (writing_left w.size w.now.contents z u.stage) turns) (sym t.0.0) (writing_falls v.key v.write v.stage u.stage turns t.0.2 e l)
  climb_falls path (climb.Writing v) (climb.Posting q) turns t e l = absurd (let m = write_missed v.key v.write v.stage _ x t.3 e in cc m.1)
  climb_falls path (climb.Writing v) (climb.Ending last) turns t e l = absurd (let m = write_missed v.key v.write v.stage _ x t.1 e in cc m.1)
  climb_falls path (climb.Posting u) (climb.Posting q) turns t e l = elim t [
    | inl k ↦ subst (λ (z : ℕ × ℕ). Falls (posting_left w.size w.now.contents z.0 z.1 q.stage) turns) (λ i. (sym k.0.0 i, sym k.0.1 i)) (posting_falls u.level u.key u.stage q.stage turns k.0.2 e l)
    | inr k ↦ absurd (let m = post_missed u.level u.key u.stage _ x not_anchor k.1 e in cc m.1)
  ]
  climb_falls path (climb.Posting u) (climb.Ending last) turns t e l = absurd (let m = post_missed u.level u.key u.stage _ x not_anchor t.1 e in cc m.1)
  climb_falls path (climb.Ending r) b turns t e l = absurd (cc e)
  climb_falls path (climb.Over r) b turns t e l = absurd (cc e)
  climb_falls path a b turns t e l = absurd t

  pub missed_falls : (got : ℕ → Page) (child time : ℕ) (marks : Trail) (old new : Proc) (turns : ℕ) → Takes old seen.Missed new → know (w.proc p) ≡ know_of got child time old → proc_log old marks → next_of old ≡ act.Latch x → TurnsLeft w.size w.now.contents (patient old) turns → Falls (TurnsLeft w.size w.now.contents (patient new)) turns
  missed_falls got child time marks (proc.Find a) new turns t is log e l = absurd (find_looks a.stage x e)
  missed_falls got child time marks (proc.Part a) new turns t is log e l = absurd (part_looks a.stage x e)
  missed_falls got child time marks (proc.Reclaim a) new turns t is log e l = absurd (reclaim_looks a.page a.stage x e)
  missed_falls got child time marks (proc.Lower a) new turns t is log e l = absurd (lower_never got a.stage is e)
  missed_falls got child time marks (proc.Write a) (proc.Write b) turns t is log e l = subst (λ z. Falls (write_left w.size w.now.contents z b.stage) turns) (sym t.0) (write_falls a.key a.write a.stage b.stage turns t.2 e l)
  missed_falls got child time marks (proc.Post a) (proc.Post b) turns t is log e l = subst (λ (z : ℕ × ℕ). Falls (post_left w.size w.now.contents z.0 z.1 b.stage) turns) (λ i. (sym t.0 i, sym t.1 i)) (post_falls a.level a.key a.stage b.stage turns t.2 e l)
  missed_falls got child time marks (proc.Compress a) (proc.Compress b) turns t is log e l =
      let m = compress_missed a.level a.key a.waits got marks a.stage b.stage is log t.3 e in
      let r = stage_falls w.now.contents x none compress.Coming (compress_left w.size w.now.contents a.key) a.key 16 turns a.stage b.stage (λ z n h. h) (λ z n h. h) m l.1 in
      (r.0, (refl, subst (λ z. compress_left w.size w.now.contents z b.stage r.0) (sym t.1) r.1), r.2)
  missed_falls got child time marks (proc.InsertPost a) (proc.InsertPost b) turns t is log e l = climb_falls b.path a.stage b.stage turns t.3 e l
  missed_falls got child time marks old new turns t is log e l = absurd t
