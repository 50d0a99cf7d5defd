-- Each turn of a compression that waits, and that puts nothing, leaves fewer turns, but for a missed latch.
use Rattle.std.proofs.Common.{ℕ, ◌≡◌, ◌≢◌, ◌⊎◌, ◌+◌, ◌<◌, true, None, arith, ap, sym, ◌∙◌, refl, inl, inr, subst}
use Rattle.bl_page.specs.declared.page.Page.{Page}
use Rattle.bl_page.specs.Machine.{Name}
use Rattle.bl_tree_worlds.specs.Worlds.{World, IsGood}
use Rattle.bl_proc_steps.specs.declared.acts.Seen.{Seen}
use Rattle.bl_proc_steps.specs.declared.acts.Seen.TheVariants as seen
use Rattle.bl_rearrange.specs.declared.families.Family.{Family}
use Rattle.bl_rearrange.specs.declared.families.Siblings.{Siblings}
use Rattle.bl_proc_compress.specs.declared.compression.Decision.{Decision}
use Rattle.bl_proc_compress.specs.declared.compression.Decision.TheVariants as decision
use Rattle.bl_proc_compress.specs.declared.compression.Compression.{Compression}
use Rattle.bl_proc_compress.specs.declared.compression.Compression.TheVariants as compression
use Rattle.bl_proc_compress.specs.declared.compression.Compressed.TheVariants as step
use Rattle.bl_proc_compress.specs.declared.compress.CompressStage.{CompressStage}
use Rattle.bl_proc_compress.specs.declared.compress.CompressStage.TheVariants as compress
use Rattle.bl_proc_compress.specs.Compressions.{Links, Decides, after_puts, Compresses, compression_next}
use Rattle.bl_proc_compress.specs.Compresses.{compress_reply, compress_next_in, CompressArrives, CompressComes, CompressGoes}
use Rattle.bl_page.specs.declared.page.Inner.{Inner}
use Rattle.bl_proc_steps.specs.declared.acts.Action.TheVariants as act
use Rattle.bl_proc_steps.specs.declared.approach.Approach.{Approach}
use Rattle.bl_proc_steps.specs.declared.approach.Came.{Came}
use Rattle.bl_proc_steps.specs.declared.approach.Came.TheVariants as come
use Rattle.bl_proc_steps.specs.Approaches.{approach_next, Comes}
use Rattle.bl_proc_deterministic.proofs.WayCases.{CompressionCase, compression_case}
use Rattle.bl_proc_deterministic.proofs.WayCases.CompressionCase.{OpenedParent as CompressionOpenedParent}
use Rattle.bl_proc_deterministic.proofs.KindCases.{CompressCase}
use Rattle.bl_proc_deterministic.proofs.KindCases.CompressCase.{Began as CompressBegan, NoLevel as CompressNoLevel, Came as CompressCame, Met as CompressMet, Single as CompressSingle, WentOn as CompressWentOn, Lost as CompressLost, Finished as CompressFinished, Opened as CompressOpened, Ended as CompressEnded}
use Rattle.bl_proc_invariant.specs.Tables.{alone, know_approach}
use Rattle.bl_proc_invariant.specs.Compressing.{know_compression}
use Rattle.bl_proc_invariant.specs.Turns.{IsObserved}
use Rattle.bl_proc_invariant.specs.Knowing.{Run, know_compress, know}
use Rattle.bl_proc_progress.specs.Holds.{compression_hold}
use Rattle.bl_proc_progress.proofs.Nearing.{compression_some, links_hold, decides_hold, after_hold}
use Rattle.bl_proc_progress.proofs.NeverLost.{never_lost}
use Rattle.bl_proc_ends.specs.Left.{IsOnWay, IsFound, IsCompressing, compress_left}
use Rattle.bl_proc_ends.proofs.Plain.{Fewer, fewer, way_off, way_on, sure_of}

-- what is known then
abbrev Then : Compression → Compression → Seen → Type 0
Then c d what = IsFound d × ((compression_hold d < compression_hold c) ⊎ ((what ≡ seen.Missed) × (compression_hold d ≡ compression_hold c)))

then_is : (c d e : Compression) (what : Seen) → d ≡ e → IsFound e → compression_hold e < compression_hold c → Then c d what
then_is c d e what i found l = subst (λ v. Then c v what) (sym i) (found, inl l)

links_found : (f : Family) (c : Page) (new : Compression) → Links f c new → IsFound new
links_found f c (compression.LatchingRight g page) t = tt
links_found f c (compression.OpeningLeft at what) t = λ e. (let h = sym t.2 ∙ e in cc)
links_found f c old t = absurd t

decides_found : (f : Family) (c d : Page) (new : Compression) → Decides f c d new → ((at : Siblings) → new ≢ compression.OpeningRight at decision.Lost) → IsFound new
decides_found f c d (compression.PuttingFirst p) t n = λ e. elim t [ inl m ↦ (let h = sym m.1.decision ∙ e in cc) | inr v ↦ (let h = sym v.decision ∙ e in cc) ]
decides_found f c d (compression.OpeningRight at decision.Enough) t n = λ e. cc
decides_found f c d (compression.OpeningRight at decision.Lost) t n = absurd (n at refl)
decides_found f c d old t n = absurd t

after_found : (at : Siblings) (d : Decision) → d ≢ decision.Lost → IsFound (after_puts at d)
after_found at (decision.Merged h) n = λ e. cc
after_found at decision.Evened n = λ e. cc
after_found at decision.Enough n = λ e. cc
after_found at (decision.Unposted h) n = λ e. cc
after_found at decision.Refused n = λ e. cc
after_found at decision.Lost n = absurd (n refl)

-- The turn of one that holds its parent, and has got what is there.
compression_then : (c : Compression) (what : Seen) (d : Compression) → Compresses true c what (step.On d) → IsFound c
    → ((f : Family) (l r : Page) (at : Siblings) → c ≡ compression.LatchedRight f l → what ≡ seen.Words r → Decides f l r (compression.OpeningRight at decision.Lost) → ⊥) → Then c d what
compression_then (compression.LatchingLeft f) seen.Done d t found n = then_is (compression.LatchingLeft f) d (compression.LatchedLeft f) seen.Done t tt (omega arith)
compression_then (compression.LatchingLeft f) seen.Missed d t found n = subst (λ v. Then (compression.LatchingLeft f) v seen.Missed) (sym t) (tt, inr (refl, refl))
compression_then (compression.LatchedLeft f) (seen.Words c) d t found n = (links_found f c d t, inl (links_hold f c d t))
compression_then (compression.LatchingRight f c) seen.Done d t found n = then_is (compression.LatchingRight f c) d (compression.LatchedRight f c) seen.Done t tt (omega arith)
compression_then (compression.LatchingRight f c) seen.Missed d t found n = subst (λ v. Then (compression.LatchingRight f c) v seen.Missed) (sym t) (tt, inr (refl, refl))
compression_then (compression.LatchedRight f c) (seen.Words r) d t found n = (decides_found f c r d t (λ at e. n f c r at refl refl (subst (Decides f c r) e t)), inl (decides_hold f c r d t))
compression_then (compression.PuttingFirst p) seen.Done d t found n = then_is (compression.PuttingFirst p) d (compression.PuttingParent p) seen.Done t found (omega arith)
compression_then (compression.PuttingFirst p) seen.Refused d t found n = then_is (compression.PuttingFirst p) d (compression.OpeningRight p.at decision.Refused) seen.Refused t (λ e. cc) (omega arith)
compression_then (compression.PuttingParent p) seen.Done d t found n = then_is (compression.PuttingParent p) d (compression.PuttingLast p) seen.Done t found (omega arith)
compression_then (compression.PuttingLast p) seen.Done d t found n = then_is (compression.PuttingLast p) d (after_puts p.at p.decision) seen.Done t (after_found p.at p.decision found) (after_hold p.at p.decision)
compression_then (compression.Retiring at what) seen.Done d t found n = then_is (compression.Retiring at what) d (compression.OpeningLeft at what) seen.Done t found (omega arith)
compression_then (compression.OpeningRight at what) seen.Done d t found n = then_is (compression.OpeningRight at what) d (compression.OpeningLeft at what) seen.Done t found (omega arith)
compression_then (compression.OpeningLeft at what) seen.Done d t found n = then_is (compression.OpeningLeft at what) d (compression.OpeningParent at.parent what) seen.Done t found (omega arith)
compression_then (compression.OpeningParent x e) seen.Done d t found n = absurd t
compression_then c what d t found n = absurd t

-- it is over only when it opens the parent, with what became of it
over_found : {what : Seen} {c : Compression} {d : Decision} → CompressionCase c what (step.Over d) → IsFound c → d ≢ decision.Lost
over_found (CompressionOpenedParent x d last e) found = λ i. found (sym e ∙ i)

not_none : (d : Decision) → compress_reply d ≡ None → d ≡ decision.Lost
not_none (decision.Merged h) e = absurd (cc e)
not_none decision.Evened e = absurd (cc e)
not_none decision.Enough e = absurd (cc e)
not_none (decision.Unposted h) e = absurd (cc e)
not_none decision.Refused e = absurd (cc e)
not_none decision.Lost e = refl

module _ (w : World Run) (g : IsGood know w) (p : Name) (level key : ℕ) (got : ℕ → Page) where
  -- at the parent
  arrived_fewer : (x : ℕ) (parent : Inner) (b : CompressStage) (what : Seen) (turns : ℕ) → CompressArrives key x parent b → 11 < turns → Fewer (compress_left w.size w.now.contents key b) what turns
  arrived_fewer x parent (compress.Compressing (compression.LatchingLeft f)) what turns t many = fewer _ what turns 11 (tt, refl) many
  arrived_fewer x parent (compress.Staying y) what turns t many = fewer _ what turns 2 refl (omega (arith, many))
  arrived_fewer x parent b what turns t many = absurd t

  coming_fewer : (a : Approach) (b : CompressStage) (what : Seen) (turns : ℕ) (m : Came) → Comes level key a what m → CompressComes key m b → know (w.proc p) ≡ know_approach alone level key a → IsObserved w.now w.size (approach_next a) what → IsOnWay w.now.contents key a 16 turns → Fewer (compress_left w.size w.now.contents key b) what turns
  coming_fewer a b what turns (come.NoLevel n) h t is observed l = subst (λ v. Fewer (compress_left w.size w.now.contents key v) what turns) (sym t) (fewer _ what turns 1 refl (let count = l.count in omega (arith, count)))
  coming_fewer a b what turns (come.On c) h t is observed l = subst (λ v. Fewer (compress_left w.size w.now.contents key v) what turns) (sym t) (way_on w g p alone level key 16 a c what turns is h.0 observed h.1 l)
  coming_fewer a b what turns (come.ToParent x parent) h t is observed l = arrived_fewer x parent b what turns t (let count = l.count in omega (arith, count))

  -- it has found something
  not_lost : (c : Compression) (what : Seen) → know (w.proc p) ≡ know_compress level key got (compress.Compressing c) → IsObserved w.now w.size (compress_next_in (compress.Compressing c)) what
      → (f : Family) (left r : Page) (at : Siblings) → c ≡ compression.LatchedRight f left → what ≡ seen.Words r → Decides f left r (compression.OpeningRight at decision.Lost) → ⊥
  not_lost c what is observed f left r at i e h =
      let known : know (w.proc p) ≡ know_compression level key got (compression.LatchedRight f left) = is ∙ ap (know_compression level key got) i in
      let here : IsObserved w.now w.size (act.Get f.at.right) (seen.Words r) = subst (λ (v : Compression × Seen). IsObserved w.now w.size (compression_next v.0) v.1) (λ j. (i j, e j)) observed in
      never_lost w g p level key got f left known at (subst (λ v. Decides f left v (compression.OpeningRight at decision.Lost)) here h)

  pub compress_found : {a b : CompressStage} {what : Seen} → CompressCase level key true a what b → know (w.proc p) ≡ know_compress level key got a → IsObserved w.now w.size (compress_next_in a) what → IsCompressing a → IsCompressing b
  compress_found (CompressBegan a e) is observed found = tt
  compress_found (CompressNoLevel c t) is observed found = tt
  compress_found (CompressCame a what b t) is observed found = tt
  compress_found (CompressMet x parent f l t) is observed found = tt
  compress_found (CompressSingle x parent y l t) is observed found = tt
  compress_found (CompressWentOn c what d t) is observed found = (compression_then c what d t found (not_lost c what is observed)).0
  compress_found (CompressLost c what a t) is observed found = tt
  compress_found (CompressFinished c what r t) is observed found = tt
  compress_found (CompressOpened x r e) is observed found = tt
  compress_found (CompressEnded r last e) is observed found = tt

  pub compress_fewer : (a : CompressStage) (what : Seen) (b : CompressStage) (turns : ℕ) → CompressGoes level key true a what b → know (w.proc p) ≡ know_compress level key got a → IsObserved w.now w.size (compress_next_in a) what → compress_left w.size w.now.contents key a turns → Fewer (compress_left w.size w.now.contents key b) what turns
  compress_fewer compress.New seen.Done (compress.Coming a) turns t is observed l = subst (λ v. Fewer (λ n. IsOnWay w.now.contents key v 16 n) seen.Done turns) (sym t) (way_off w g p key 16 seen.Done turns (sure_of w g p (know_compress level key got compress.New) is).sound (omega (arith, l)))
  compress_fewer (compress.Coming a) what b turns t is observed l = coming_fewer a b what turns t.0 t.1 t.2 is observed l
  compress_fewer (compress.Compressing c) what (compress.Compressing d) turns t is observed l =
      let k = compression_then c what d t l.0 (not_lost c what is observed) in
      record { then = compression_hold d + 1; left = (k.0, refl); less = elim k.1 [ inl few ↦ inl (let e = l.1 in omega (arith, few, e)) | inr miss ↦ inr (miss.0, (let e = l.1 in let f = miss.1 in omega (arith, f, e))) ] }
  compress_fewer (compress.Compressing c) what (compress.Coming a) turns t is observed l = absurd (over_found (compression_case true c what (step.Over t.0) t.1) l.0 (not_none t.0 t.2))
  compress_fewer (compress.Compressing c) what (compress.Ending r) turns t is observed l = fewer _ what turns 1 refl (let some = compression_some c in let e = l.1 in omega (arith, some, e))
  compress_fewer (compress.Staying x) seen.Done (compress.Ending r) turns t is observed l = fewer _ seen.Done turns 1 refl (omega (arith, l))
  compress_fewer (compress.Ending r) seen.Done (compress.Over last) turns t is observed l = fewer _ seen.Done turns 0 refl (omega (arith, l))
  compress_fewer a what b turns t is observed l = absurd t
