-- Each turn of a process that puts no page and does not wait leaves it fewer turns.
use Rattle.std.proofs.Common.{ℕ, ◌≡◌, ◌≢◌, ◌⊎◌, ◌+◌, ◌*◌, ◌<◌, ◌≤◌, Bool, arith, sym, ◌∙◌, refl, subst, inl, inr}
use Rattle.bl_page.specs.declared.page.Page.{Page}
use Rattle.bl_page.specs.Machine.{Name}
use Rattle.bl_tree.specs.Trees.Status.{Gone}
use Rattle.bl_tree_worlds.specs.Worlds.{World, IsGood}
use Rattle.bl_claims.specs.Trails.{marks_of}
use Rattle.bl_proc_steps.specs.declared.acts.Action.TheVariants as act
use Rattle.bl_proc_steps.specs.declared.acts.Seen.{Seen}
use Rattle.bl_proc_steps.specs.declared.acts.Seen.TheVariants as seen
use Rattle.bl_proc_compress.specs.declared.compression.Compression.{Compression}
use Rattle.bl_proc_compress.specs.declared.compression.Compression.TheVariants as compression
use Rattle.bl_proc_compress.specs.declared.compression.Compressed.TheVariants as step
use Rattle.bl_proc_compress.specs.declared.compress.CompressStage.{CompressStage}
use Rattle.bl_proc_compress.specs.declared.compress.CompressStage.TheVariants as compress
use Rattle.bl_proc_compress.specs.Compressions.{Compresses}
use Rattle.bl_proc_compress.specs.Compresses.{CompressGoes}
use Rattle.bl_proc.specs.declared.reclaiming.ReclaimStage.{ReclaimStage}
use Rattle.bl_proc.specs.declared.reclaiming.ReclaimStage.TheVariants as reclaim
use Rattle.bl_proc.specs.declared.kinds.Proc.{Proc}
use Rattle.bl_proc.specs.declared.kinds.Proc.TheVariants as proc
use Rattle.bl_proc.specs.Processes.{next_of, Takes}
use Rattle.bl_proc_deterministic.proofs.KindCases.{post_case, climb_case, ReclaimCase, reclaim_case}
use Rattle.bl_proc_deterministic.proofs.KindCases.ReclaimCase.{First, NoneThere, NotRetired, Further, NoMore, Blocked, Done, Missed}
use Rattle.bl_proc_invariant.specs.Turns.{IsObserved}
use Rattle.bl_proc_invariant.specs.Logs.{AllLogs}
use Rattle.bl_proc_invariant.specs.Knowing.{Run, know_of, know}
use Rattle.bl_proc_progress.specs.Holds.{compression_hold, compress_hold}
use Rattle.bl_proc_progress.proofs.Nearing.{after_hold}
use Rattle.bl_proc_writes.specs.declared.post.PostStage.{PostStage}
use Rattle.bl_proc_writes.specs.declared.post.PostStage.TheVariants as post
use Rattle.bl_proc_writes.specs.declared.insert_post.ClimbStage.{ClimbStage}
use Rattle.bl_proc_writes.specs.declared.insert_post.ClimbStage.TheVariants as climb
use Rattle.bl_proc_ends.specs.Left.{most_turns, IsFound, IsStaying, IsCompressing, IsClimbing, IsMeant, post_left, compress_left, posting_left, climb_left, TurnsLeft}
use Rattle.bl_proc_ends.proofs.Few.{by_kind as few_by_kind}
use Rattle.bl_proc_ends.proofs.Turning.{by_kind as fewer_by_kind}
use Rattle.bl_proc_ends.proofs.Meaning.{post_kept, climb_kept, by_kind as meant_by_kind}
use Rattle.bl_proc_rest.specs.Rests.{patient, reclaim_left, IsCountedIn, IsCounted, SeesStarted, odd_left, most_left, Rests}
use Rattle.bl_proc_rest.proofs.Patient.{patient_next, patient_know, patient_takes, meant_or}
use Rattle.bl_proc_rest.proofs.Missing.{Falls, missed_falls}

-- One that is not meant stays so for few turns.

compression_falls : (waits : Bool) (c : Compression) (what : Seen) (d : Compression) → (¬ IsFound c) → Compresses waits c what (step.On d) → compression_hold d < compression_hold c
compression_falls waits (compression.LatchingLeft f) what d n t = absurd (n tt)
compression_falls waits (compression.LatchedLeft f) what d n t = absurd (n tt)
compression_falls waits (compression.LatchingRight f c) what d n t = absurd (n tt)
compression_falls waits (compression.LatchedRight f c) what d n t = absurd (n tt)
compression_falls waits (compression.PuttingFirst p) seen.Done d n t = subst (λ v. compression_hold v < 6) (sym t) (omega arith)
compression_falls waits (compression.PuttingFirst p) seen.Refused d n t = subst (λ v. compression_hold v < 6) (sym t) (omega arith)
compression_falls waits (compression.PuttingParent p) seen.Done d n t = subst (λ v. compression_hold v < 5) (sym t) (omega arith)
compression_falls waits (compression.PuttingLast p) seen.Done d n t = subst (λ v. compression_hold v < 4) (sym t) (after_hold p.at p.decision)
compression_falls waits (compression.Retiring at e) seen.Done d n t = subst (λ v. compression_hold v < 3) (sym t) (omega arith)
compression_falls waits (compression.OpeningRight at e) seen.Done d n t = subst (λ v. compression_hold v < 3) (sym t) (omega arith)
compression_falls waits (compression.OpeningLeft at e) seen.Done d n t = subst (λ v. compression_hold v < 2) (sym t) (omega arith)
compression_falls waits (compression.OpeningParent x e) seen.Done d n t = absurd t
compression_falls waits c what d n t = absurd t

compress_falls : (level key : ℕ) (waits : Bool) (a : CompressStage) (what : Seen) (b : CompressStage) → (¬ IsCompressing a) → (¬ IsCompressing b) → CompressGoes level key waits a what b → compress_hold b < compress_hold a
compress_falls level key waits (compress.Compressing c) what (compress.Compressing d) n m t = compression_falls waits c what d n t
compress_falls level key waits compress.New what b n m t = absurd (n tt)
compress_falls level key waits (compress.Coming a) what b n m t = absurd (n tt)
compress_falls level key waits (compress.Staying x) what b n m t = absurd (n tt)
compress_falls level key waits (compress.Ending r) what b n m t = absurd (n tt)
compress_falls level key waits (compress.Over r) what b n m t = absurd (n tt)
compress_falls level key waits (compress.Compressing c) what b n m t = absurd (m tt)

reclaim_falls : (count : ℕ) {a b : ReclaimStage} {what : Seen} → ReclaimCase a what b → SeesStarted count what → reclaim_left count b < reclaim_left count a
reclaim_falls count (First started own r t) is = (let s = t.same_started in let w = t.within in let b = t.behind in omega (arith, is, s, w, b))
reclaim_falls count (NoneThere started own t) is = omega arith
reclaim_falls count (NotRetired started own what t) is = omega arith
reclaim_falls count (Further r n t) is = (let s = t.same_started in let w = t.within in let b = t.behind in omega (arith, s, w, b))
reclaim_falls count (NoMore r t) is = omega arith
reclaim_falls count (Blocked r what t) is = omega arith
reclaim_falls count (Done what t) is = omega arith
reclaim_falls count (Missed what t) is = omega arith

reclaim_counted : (count : ℕ) {a b : ReclaimStage} {what : Seen} → ReclaimCase a what b → IsCountedIn count a → SeesStarted count what → IsCountedIn count b
reclaim_counted count (First started own r t) h is = (let s = t.same_started in omega (arith, is, s))
reclaim_counted count (NoneThere started own t) h is = tt
reclaim_counted count (NotRetired started own what t) h is = tt
reclaim_counted count (Further r n t) h is = (let s = t.same_started in omega (arith, h, s))
reclaim_counted count (NoMore r t) h is = tt
reclaim_counted count (Blocked r what t) h is = tt
reclaim_counted count (Done what t) h is = tt
reclaim_counted count (Missed what t) h is = tt

-- it looks at no more processes than there are, as long as none is started
pub counted_on : (count : ℕ) (old new : Proc) (what : Seen) → Takes old what new → IsCounted count old → SeesStarted count what → IsCounted count new
counted_on count (proc.Reclaim a) (proc.Reclaim b) what t h is = reclaim_counted count (reclaim_case a.stage what b.stage t.1) h is
counted_on count (proc.Find a) (proc.Find b) what t h is = tt
counted_on count (proc.Write a) (proc.Write b) what t h is = tt
counted_on count (proc.Post a) (proc.Post b) what t h is = tt
counted_on count (proc.Part a) (proc.Part b) what t h is = tt
counted_on count (proc.Compress a) (proc.Compress b) what t h is = tt
counted_on count (proc.Lower a) (proc.Lower b) what t h is = tt
counted_on count (proc.InsertPost a) (proc.InsertPost b) what t h is = tt
counted_on count old new what t h is = absurd t

odd_falls : (count : ℕ) (old new : Proc) (what : Seen) → (¬ IsMeant (patient old)) → (¬ IsMeant (patient new)) → Takes old what new → SeesStarted count what → odd_left count new < odd_left count old
odd_falls count (proc.Find a) new what n m t is = absurd (n tt)
odd_falls count (proc.Part a) new what n m t is = absurd (n tt)
odd_falls count (proc.Write a) new what n m t is = absurd (n tt)
odd_falls count (proc.Lower a) new what n m t is = absurd (n tt)
odd_falls count (proc.Post a) (proc.Post b) what n m t is = absurd (m (post_kept (post_case a.level a.key a.stage what b.stage t.2)))
odd_falls count (proc.InsertPost a) (proc.InsertPost b) what n m t is = absurd (m (climb_kept (climb_case b.path a.stage what b.stage t.3)))
odd_falls count (proc.Compress a) (proc.Compress b) what n m t is = compress_falls a.level a.key a.waits a.stage what b.stage (λ h. n (refl, h)) (λ h. m (refl, h)) t.3
odd_falls count (proc.Reclaim a) (proc.Reclaim b) what n m t is = reclaim_falls count (reclaim_case a.stage what b.stage t.1) is
odd_falls count old new what n m t is = absurd t

compression_few : (c : Compression) → compression_hold c ≤ 11
compression_few (compression.LatchingLeft f) = omega arith
compression_few (compression.LatchedLeft f) = omega arith
compression_few (compression.LatchingRight f c) = omega arith
compression_few (compression.LatchedRight f c) = omega arith
compression_few (compression.PuttingFirst p) = omega arith
compression_few (compression.PuttingParent p) = omega arith
compression_few (compression.PuttingLast p) = omega arith
compression_few (compression.Retiring at e) = omega arith
compression_few (compression.OpeningRight at e) = omega arith
compression_few (compression.OpeningLeft at e) = omega arith
compression_few (compression.OpeningParent x e) = omega arith

reclaim_few : (count : ℕ) (a : ReclaimStage) → IsCountedIn count a → reclaim_left count a ≤ count + 2
reclaim_few count reclaim.Seeing h = omega arith
reclaim_few count (reclaim.Looking r) h = omega (arith, h)
reclaim_few count reclaim.Releasing h = omega arith
reclaim_few count (reclaim.Over what) h = omega arith

compressing_few : (a : CompressStage) → (¬ IsCompressing a) → compress_hold a ≤ 11
compressing_few (compress.Compressing c) n = compression_few c
compressing_few compress.New n = absurd (n tt)
compressing_few (compress.Coming a) n = absurd (n tt)
compressing_few (compress.Staying x) n = absurd (n tt)
compressing_few (compress.Ending r) n = absurd (n tt)
compressing_few (compress.Over r) n = absurd (n tt)

odd_few : (count : ℕ) (p : Proc) → (¬ IsMeant (patient p)) → IsCounted count p → odd_left count p ≤ count + 13
odd_few count (proc.Compress a) n h = (let few = compressing_few a.stage (λ k. n (refl, k)) in omega (arith, few))
odd_few count (proc.Reclaim a) n h = (let few = reclaim_few count a.stage h in omega (arith, few))
odd_few count (proc.Find a) n h = omega arith
odd_few count (proc.Part a) n h = omega arith
odd_few count (proc.Write a) n h = omega arith
odd_few count (proc.Lower a) n h = omega arith
odd_few count (proc.Post a) n h = omega arith
odd_few count (proc.InsertPost a) n h = omega arith

-- the same of a process as one that waits
known : (w : World Run) (p : Name) → know (w.proc p) ≡ know_of (w.proc p).got (w.proc p).child (w.proc p).time (patient (w.proc p).state)
known w p = patient_know (w.proc p).got (w.proc p).child (w.proc p).time (w.proc p).state

meant_few : (w : World Run) (p : Name) → IsGood know w → IsMeant (patient (w.proc p).state) → (turns : ℕ) × TurnsLeft w.size w.now.contents (patient (w.proc p).state) turns × (turns ≤ most_turns w.size)
meant_few w p g m =
    let r = w.proc p in
    let n = few_by_kind w g p r.got r.child r.time (patient r.state) m (known w p) in
    (n.turns, n.left, n.few)

pub rests_few : (w : World Run) (p : Name) (count : ℕ) → IsGood know w → IsCounted count (w.proc p).state → (turns : ℕ) × Rests w.size w.now.contents count (w.proc p).state turns × (turns ≤ most_left w.size count)
rests_few w p count g counted = elim (meant_or (w.proc p).state) [
  | inl m ↦ (let n = meant_few w p g m in let few = n.2 in (n.0, inl (m, n.1), omega (arith, few)))
  | inr n ↦ (let few = odd_few count (w.proc p).state n counted in (8 * w.size + 41 + odd_left count (w.proc p).state, inr (n, refl), omega (arith, few)))
]

-- whoever has turns left is meant
post_meant : (size : ℕ) (contents : ℕ → Page) (level key : ℕ) (a : PostStage) (n : ℕ) → post_left size contents level key a n → IsStaying a
post_meant size contents level key (post.Staying x r) n l = l.0
post_meant size contents level key a n l = tt

posting_meant : (size : ℕ) (contents : ℕ → Page) (level key : ℕ) (a : PostStage) (n : ℕ) → posting_left size contents level key a n → IsStaying a
posting_meant size contents level key (post.Staying x r) n l = l.0
posting_meant size contents level key a n l = tt

compress_meant : (size : ℕ) (contents : ℕ → Page) (key : ℕ) (a : CompressStage) (n : ℕ) → compress_left size contents key a n → IsCompressing a
compress_meant size contents key (compress.Compressing c) n l = l.0
compress_meant size contents key a n l = tt

climb_meant : (size : ℕ) (contents : ℕ → Page) (a : ClimbStage) (n : ℕ) → climb_left size contents a n → IsClimbing a
climb_meant size contents (climb.Posting p) n l = posting_meant size contents p.level p.key p.stage n l
climb_meant size contents a n l = tt

left_meant : (size : ℕ) (contents : ℕ → Page) (p : Proc) (n : ℕ) → TurnsLeft size contents p n → IsMeant p
left_meant size contents (proc.Find p) n l = tt
left_meant size contents (proc.Write p) n l = tt
left_meant size contents (proc.Post p) n l = post_meant size contents p.level p.key p.stage n l
left_meant size contents (proc.Part p) n l = tt
left_meant size contents (proc.Compress p) n l = (l.0, compress_meant size contents p.key p.stage n l.1)
left_meant size contents (proc.Reclaim p) n l = l
left_meant size contents (proc.Lower p) n l = tt
left_meant size contents (proc.InsertPost p) n l = climb_meant size contents p.stage n l

module _ (w next : World Run) (p : Name) (what : Seen) (count turns : ℕ) (g : IsGood know w) (g' : IsGood know next) (logs : AllLogs w) (size : next.size ≡ w.size) (same : next.now.contents ≡ w.now.contents)
    (t : Takes (w.proc p).state what (next.proc p).state) (observed : IsObserved w.now w.size (next_of (w.proc p).state) what)
    (no_put : (x : ℕ) (c : Page) → what ≡ seen.Done → next_of (w.proc p).state ≢ act.Put x c) (sees : SeesStarted count what) where
  abbrev Less : Type 0
  Less = Falls (Rests w.size w.now.contents count (next.proc p).state) turns

  meant_then : (then : ℕ) → IsMeant (patient (next.proc p).state) → TurnsLeft w.size w.now.contents (patient (next.proc p).state) then → then < turns → Less
  meant_then then m l less = (then, inl (m, l), less)

  -- meant, and nothing is missed
  meant_falls : what ≢ seen.Missed → IsMeant (patient (w.proc p).state) → TurnsLeft w.size w.now.contents (patient (w.proc p).state) turns → Less
  meant_falls n m l =
      let a = w.proc p in
      let b = next.proc p in
      let goes = patient_takes a.state b.state what n t in
      let here : IsObserved w.now w.size (next_of (patient a.state)) what = subst (λ z. IsObserved w.now w.size z what) (sym (patient_next a.state)) observed in
      let none : (x : ℕ) (c : Page) → what ≡ seen.Done → next_of (patient a.state) ≢ act.Put x c = λ x c d e. no_put x c d (sym (patient_next a.state) ∙ e) in
      let then_meant = meant_by_kind w g p a.got a.child a.time (patient a.state) (patient b.state) what goes (known w p) here m in
      let f = fewer_by_kind w next g g' p size same a.got b.got a.child b.child a.time b.time (patient a.state) (patient b.state) what turns goes (known w p) (known next p) here none l in
      elim f.less [ inl less ↦ meant_then f.then then_meant f.left less | inr miss ↦ absurd (n miss.0) ]

  -- not meant
  odd_on : (¬ IsMeant (patient (w.proc p).state)) → turns ≡ 8 * w.size + 41 + odd_left count (w.proc p).state → Less
  odd_on n is = elim (meant_or (next.proc p).state) [
    | inl m ↦
        let few = meant_few next p g' m in
        let less = few.2 in
        let left : TurnsLeft w.size w.now.contents (patient (next.proc p).state) few.0 = subst (λ (z : ℕ × (ℕ → Page)). TurnsLeft z.0 z.1 (patient (next.proc p).state) few.0) (λ i. (size i, same i)) few.1 in
        meant_then few.0 m left (omega (arith, less, is, size))
    | inr k ↦ (let less = odd_falls count (w.proc p).state (next.proc p).state what n k t sees in (8 * w.size + 41 + odd_left count (next.proc p).state, inr (k, refl), omega (arith, less, is)))
  ]

  -- What is missed, by a process that is meant, is a page that is dead: then it goes on from there.
  pub rests_falls : ((what ≢ seen.Missed) ⊎ ((what ≡ seen.Missed) × (IsMeant (patient (w.proc p).state) → (x : ℕ) × (next_of (w.proc p).state ≡ act.Latch x) × (w.status x ≡ Gone)))) → Rests w.size w.now.contents count (w.proc p).state turns → Less
  rests_falls missed r = elim r [
    | inr odd ↦ odd_on odd.0 odd.1
    | inl m ↦ elim missed [
      | inl n ↦ meant_falls n m.0 m.1
      | inr dead ↦
          let a = w.proc p in
          let at = dead.1 m.0 in
          let goes : Takes a.state seen.Missed (next.proc p).state = subst (λ z. Takes a.state z (next.proc p).state) dead.0 t in
          let f = missed_falls w g p at.0 at.2 a.got a.child a.time (marks_of p w.trail) a.state (next.proc p).state turns goes refl (logs p) at.1 m.1 in
          elim (meant_or (next.proc p).state) [
            | inl k ↦ meant_then f.0 k f.1 f.2
            | inr k ↦ absurd (k (left_meant w.size w.now.contents (patient (next.proc p).state) f.0 f.1))
          ]
    ]
  ]
