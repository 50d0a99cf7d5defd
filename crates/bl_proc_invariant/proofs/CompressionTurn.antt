-- Every turn of a compression of two children keeps a world good: by its state and what it was told.
use Rattle.std.proofs.Common.{ℕ, ◌≡◌, ◌≢◌, ◌⊎◌, ◌<◌, None, arith, ap, sym, ◌∙◌, refl, subst, inl, inr, Bool, true, false}
use Rattle.bl_page.specs.declared.page.Page.{Page}
use Rattle.bl_page.specs.declared.page.Page.TheVariants.{Anchor, Leaf, Inner, Dead}
use Rattle.bl_rearrange.specs.Rearranged.{low_of}
use Rattle.bl_page.specs.Machine.{Name, State, Act}
use Rattle.bl_page.specs.Machine.Act.{Get}
use Rattle.bl_page.specs.Nodes.{node_of}
use Rattle.bl_rearrange.specs.Neighbours.{AreNeighbours}
use Rattle.bl_rearrange.specs.declared.sides.Side.{Side}
use Rattle.bl_rearrange.specs.declared.sides.Side.TheVariants as side
use Rattle.bl_tree_worlds.proofs.Neighbours.{meets}
use Rattle.bl_tree_worlds.specs.Worlds.{Know, World, IsSure, IsGood}
use Rattle.bl_proc_steps.specs.declared.acts.Seen.{Seen}
use Rattle.bl_proc_steps.specs.declared.acts.Seen.TheVariants as seen
use Rattle.bl_rearrange.specs.declared.families.Siblings.{Siblings}
use Rattle.bl_rearrange.specs.declared.families.Family.{Family}
use Rattle.bl_proc_compress.specs.declared.compression.Puts.{Puts}
use Rattle.bl_proc_compress.specs.declared.compression.Decision.TheVariants as decision
use Rattle.bl_proc_compress.specs.declared.compression.Compression.{Compression}
use Rattle.bl_proc_compress.specs.declared.compression.Compression.TheVariants.{LatchingLeft, LatchedLeft, LatchingRight, LatchedRight, PuttingFirst, PuttingParent, PuttingLast, Retiring, OpeningRight, OpeningLeft, OpeningParent}
use Rattle.bl_proc_compress.specs.declared.compression.Compressed.TheVariants as step
use Rattle.bl_proc_compress.specs.Compressions.{put_of, other, after_puts, missed_left, missed_right, compression_next, IsBuried, Merges, Evens, Links, Decides, Compresses}
use Rattle.bl_proc_invariant.specs.Turns.{event_of, IsObserved, Does, Turned}
use Rattle.bl_proc_invariant.specs.Compressing.{AreThree, ToMerge, ToEvenLeft, ToEvenRight, got_three, know_compression_by, know_compression, compression_got}
use Rattle.bl_proc_invariant.proofs.Compressing as on
use Rattle.bl_proc_invariant.proofs.SiblingLemmas.{merge_is, evens_is}
use Rattle.bl_proc_invariant.proofs.Deciding.{low_is, decide_turn}
use Rattle.bl_proc_invariant.proofs.Coupling.{join_turn, gain_left_turn, gain_right_turn, retire_turn}
use Rattle.bl_proc_invariant.proofs.Relisting.{drop_turn, relist_left_turn, relist_right_turn}
use Rattle.bl_proc_invariant.proofs.Splitting.{die_turn, lose_right_turn, lose_left_turn}

-- what was got of three different pages
three_parent : (f : Family) (c d : Page) → got_three f c d f.at.parent ≡ Inner f.parent
three_parent f c d = grind arith

three_left : (f : Family) (c d : Page) → f.at.parent ≢ f.at.left → got_three f c d f.at.left ≡ c
three_left f c d n = grind (arith, n)

three_right : (f : Family) (c d : Page) → AreThree f.at → got_three f c d f.at.right ≡ d
three_right f c d n = (let a = n.right in let b = n.both in grind (arith, a, b))

module _ {P : Type 0} (know : P → Know) (w : World P) (g : IsGood know w) (p : Name) (b : P) (level key : ℕ) (some : 0 < level) (got : ℕ → Page) where
  -- at the right child
  module _ (f : Family) (c d : Page) (u : Puts) (s : State Page) (before : know (w.proc p) ≡ know_compression level key got (LatchedRight f c)) (then : know b ≡ know_compression level key (got_three f c d) (PuttingFirst u)) (observed : d ≡ w.now.contents f.at.right) (does : Does w.now p (Get f.at.right) s) where
    sure : IsSure w p (know_compression level key got (LatchedRight f c))
    sure = rw before at (g.sure p)

    low : (node_of d).shape.low ≡ f.key
    low = ap (λ v. (node_of v).shape.low) observed ∙ low_is know w g p b level key got (got_three f c d) 0 0 0 0 f c d u before observed

    parent_is : u.at ≡ f.at → got_three f c d u.at.parent ≡ Inner f.parent
    parent_is e = ap (λ (t : Siblings). got_three f c d t.parent) e ∙ three_parent f c d

    left_is : u.at ≡ f.at → got_three f c d u.at.left ≡ c
    left_is e = ap (λ (t : Siblings). got_three f c d t.left) e ∙ three_left f c d sure.sound.1.left

    right_is : u.at ≡ f.at → got_three f c d u.at.right ≡ d
    right_is e = ap (λ (t : Siblings). got_three f c d t.right) e ∙ three_right f c d sure.sound.1

    decided : u.at ≡ f.at → AreNeighbours c d → (ToMerge (got_three f c d) u f.key (node_of u.right).shape.low ⊎ (ToEvenLeft (got_three f c d) u f.key (node_of u.right).shape.low ⊎ ToEvenRight (got_three f c d) u f.key (node_of u.right).shape.low)) → Turned know w p (Get f.at.right) s b
    decided same near to =
        let listed : (node_of (got_three f c d u.at.right)).shape.low ≡ f.key = ap (λ v. (node_of v).shape.low) (right_is same) ∙ low in
        decide_turn know w g p b level key got (got_three f c d) 0 (node_of (got_three f c d u.at.right)).shape.low 0 (node_of u.right).shape.low f c d u before observed s
        (then ∙ ap (λ z. know_compression_by level key (got_three f c d) z (node_of u.right).shape.low (PuttingFirst u)) listed)
        same (parent_is same) (left_is same) (right_is same) near to does

    -- the page that is dead has the low of the one that was merged
    merged_low : (m : Merges f c d u) → AreNeighbours c d → (node_of u.right).shape.low ≡ f.key
    merged_low m near = dead_low f.at.left d u.right m.right ∙ (sym (meets c d near).low ∙ low)
      where
        dead_low : (x : ℕ) (old new : Page) → IsBuried x old new → (node_of new).shape.low ≡ low_of old
        dead_low x old (Anchor a) h = absurd h
        dead_low x old (Leaf l) h = absurd h
        dead_low x old (Inner i) h = absurd h
        dead_low x old (Dead z) h = h.1

    pub puts_turn : (AreNeighbours c d × Merges f c d u) ⊎ Evens f c d u → Turned know w p (Get f.at.right) s b
    puts_turn t = elim t [
      | inl m ↦ decided m.1.at m.0 (inl (subst (λ z. ToMerge (got_three f c d) u f.key z) (sym (merged_low m.1 m.0)) (merge_is f c d u (got_three f c d) m.0 m.1 (parent_is m.1.at) (left_is m.1.at) (right_is m.1.at))))
      | inr v ↦ decided v.at v.may.neighbours (inr (evens_is f c d u (got_three f c d) v (parent_is v.at) (left_is v.at) (right_is v.at) low (linked v)))
    ]
      where
        linked : (v : Evens f c d u) → (node_of c).shape.right ≡ u.at.right
        linked v = (meets c d v.may.neighbours).left_right ∙ (sure.sound.2 ∙ ap (λ (t : Siblings). t.right) (sym v.at))

  -- the three puts
  first_turn : (u : Puts) (sd : Side) (s : State Page) → u.gains ≡ sd → know (w.proc p) ≡ know_compression level key got (PuttingFirst u) → know b ≡ know_compression level key got (PuttingParent u) → Does w.now p (event_of None (put_of sd u) seen.Done) s → Turned know w p (event_of None (put_of sd u) seen.Done) s b
  first_turn u side.Left s e before then does =
      let is : IsSure w p (know_compression level key got (PuttingFirst u)) = rw before at (g.sure p) in
      elim is.sound.0.does [
        | inl m ↦ join_turn know w g p b level key got (node_of (got u.at.right)).shape.low (node_of u.right).shape.low u before then s e does m.join
        | inr v ↦ elim v [ inl l ↦ gain_left_turn know w g p b level key got (node_of (got u.at.right)).shape.low (node_of u.right).shape.low u before then s e does l.gain | inr r ↦ absurd (let h : side.Left ≡ side.Right = sym e ∙ r.gains in cc) ]
      ]
  first_turn u side.Right s e before then does =
      let is : IsSure w p (know_compression level key got (PuttingFirst u)) = rw before at (g.sure p) in
      elim is.sound.0.does [
        | inl m ↦ absurd (let h : side.Right ≡ side.Left = sym e ∙ m.gains in cc)
        | inr v ↦ elim v [ inl l ↦ absurd (let h : side.Right ≡ side.Left = sym e ∙ l.gains in cc) | inr r ↦ gain_right_turn know w g p b level key got (node_of (got u.at.right)).shape.low (node_of u.right).shape.low u before then s does r ]
      ]

  parent_turn : (u : Puts) (s : State Page) → know (w.proc p) ≡ know_compression level key got (PuttingParent u) → know b ≡ know_compression level key got (PuttingLast u) → Does w.now p (Act.Put u.at.parent u.parent) s → Turned know w p (Act.Put u.at.parent u.parent) s b
  parent_turn u s before then does =
      let is : IsSure w p (know_compression level key got (PuttingParent u)) = rw before at (g.sure p) in
      elim is.sound.0.does [
        | inl m ↦ drop_turn know w g p b level key got (node_of (got u.at.right)).shape.low (node_of u.right).shape.low u before then s does some m
        | inr v ↦ elim v [ inl l ↦ relist_left_turn know w g p b level key got (node_of (got u.at.right)).shape.low (node_of u.right).shape.low u before then s does some l | inr r ↦ relist_right_turn know w g p b level key got (node_of (got u.at.right)).shape.low (node_of u.right).shape.low u before then s does some r ]
      ]

  last_turn : (u : Puts) (sd : Side) (s : State Page) → u.gains ≡ sd → know (w.proc p) ≡ know_compression level key got (PuttingLast u) → know b ≡ know_compression level key got (after_puts u.at u.decision) → Does w.now p (event_of None (put_of (other sd) u) seen.Done) s → Turned know w p (event_of None (put_of (other sd) u) seen.Done) s b
  last_turn u side.Left s e before then does =
      let is : IsSure w p (know_compression level key got (PuttingLast u)) = rw before at (g.sure p) in
      elim is.sound.0.does [
        | inl m ↦ die_turn know w g p b level key got (node_of (got u.at.right)).shape.low (node_of u.right).shape.low u before s (decision.Merged m.hint) (then ∙ ap (λ z. know_compression level key got (after_puts u.at z)) m.decision) does m
        | inr v ↦ elim v [ inl l ↦ lose_right_turn know w g p b level key got (node_of (got u.at.right)).shape.low (node_of u.right).shape.low u before s decision.Evened (then ∙ ap (λ z. know_compression level key got (after_puts u.at z)) l.decision) does l | inr r ↦ absurd (let h : side.Left ≡ side.Right = sym e ∙ r.gains in cc) ]
      ]
  last_turn u side.Right s e before then does =
      let is : IsSure w p (know_compression level key got (PuttingLast u)) = rw before at (g.sure p) in
      elim is.sound.0.does [
        | inl m ↦ absurd (let h : side.Right ≡ side.Left = sym e ∙ m.gains in cc)
        | inr v ↦ elim v [ inl l ↦ absurd (let h : side.Right ≡ side.Left = sym e ∙ l.gains in cc) | inr r ↦ lose_left_turn know w g p b level key got (node_of (got u.at.right)).shape.low (node_of u.right).shape.low u before s decision.Evened (then ∙ ap (λ z. know_compression level key got (after_puts u.at z)) r.decision) does r ]
      ]

  refused_turn : (u : Puts) (sd : Side) (s : State Page) → know (w.proc p) ≡ know_compression level key got (PuttingFirst u) → know b ≡ know_compression level key got (OpeningRight u.at decision.Refused) → Does w.now p (event_of None (put_of sd u) seen.Refused) s → Turned know w p (event_of None (put_of sd u) seen.Refused) s b
  refused_turn u side.Left s before then does = on.refuse_turn know w g p b level key got (node_of (got u.at.right)).shape.low (node_of u.right).shape.low u decision.Refused s before then does
  refused_turn u side.Right s before then does = on.refuse_turn know w g p b level key got (node_of (got u.at.right)).shape.low (node_of u.right).shape.low u decision.Refused s before then does

  -- the left child was got
  left_turn : (f : Family) (c : Page) (d : Compression) (s : State Page) → know (w.proc p) ≡ know_compression level key got (LatchedLeft f) → know b ≡ know_compression level key got d → Links f c d → c ≡ w.now.contents f.at.left → Does w.now p (Get f.at.left) s → Turned know w p (Get f.at.left) s b
  left_turn f c (LatchingRight h page) s before then t observed does = on.link_turn know w g p b level key got 0 0 f c s before (rw (t.0, t.1) at then) observed t.2 does
  left_turn f c (OpeningLeft at decision) s before then t observed does = on.unposted_turn know w g p b level key got 0 0 f at decision s before then t.0 does
  left_turn f c old s before then t observed does = absurd t

  -- the right child was got
  right_turn : (f : Family) (c d : Page) (new : Compression) (s : State Page) → know (w.proc p) ≡ know_compression level key got (LatchedRight f c) → know b ≡ know_compression level key (got_three f c d) new → Decides f c d new → d ≡ w.now.contents f.at.right → Does w.now p (Get f.at.right) s → Turned know w p (Get f.at.right) s b
  right_turn f c d (PuttingFirst u) s before then t observed does = puts_turn f c d u s before then observed does t
  right_turn f c d (OpeningRight at decision.Enough) s before then t observed does = on.stay_turn know w g p b level key got 0 0 f c at decision.Enough s before then t.0 does
  right_turn f c d (OpeningRight at decision.Lost) s before then t observed does = on.stay_turn know w g p b level key got 0 0 f c at decision.Lost s before then t.0 does
  right_turn f c d old s before then t observed does = absurd t

  -- the latch of a child was missed
  missed_left_turn : (waits : Bool) (f : Family) (d : Compression) (s : State Page) → know (w.proc p) ≡ know_compression level key got (LatchingLeft f) → know b ≡ know_compression level key got d → d ≡ missed_left waits f → Does w.now p (event_of None (compression_next (LatchingLeft f)) seen.Missed) s → Turned know w p (event_of None (compression_next (LatchingLeft f)) seen.Missed) s b
  missed_left_turn true f d s before then t does = on.miss_left_turn know w g p b level key got 0 0 f s before (rw t at then) does
  missed_left_turn false f d s before then t does = on.leave_left_turn know w g p b level key got 0 0 f decision.Lost s before (rw t at then) does

  missed_right_turn : (waits : Bool) (f : Family) (c : Page) (d : Compression) (s : State Page) → know (w.proc p) ≡ know_compression level key got (LatchingRight f c) → know b ≡ know_compression level key got d → d ≡ missed_right waits f c → Does w.now p (event_of None (compression_next (LatchingRight f c)) seen.Missed) s → Turned know w p (event_of None (compression_next (LatchingRight f c)) seen.Missed) s b
  missed_right_turn true f c d s before then t does = on.miss_right_turn know w g p b level key got 0 0 f c s before (rw t at then) does
  missed_right_turn false f c d s before then t does = on.leave_right_turn know w g p b level key got 0 0 f c decision.Lost s before (rw t at then) does

  pub compression_turn : (waits : Bool) (c d : Compression) (what : Seen) (s : State Page) → know (w.proc p) ≡ know_compression level key got c → know b ≡ know_compression level key (compression_got got c what) d → Compresses waits c what (step.On d) → IsObserved w.now w.size (compression_next c) what → Does w.now p (event_of None (compression_next c) what) s → Turned know w p (event_of None (compression_next c) what) s b
  compression_turn waits (LatchingLeft f) d seen.Done s before then t observed does = on.latch_left_turn know w g p b level key got 0 0 f s before (rw t at then) observed does
  compression_turn waits (LatchingLeft f) d seen.Missed s before then t observed does = missed_left_turn waits f d s before then t does
  compression_turn waits (LatchedLeft f) d (seen.Words c) s before then t observed does = left_turn f c d s before then t observed does
  compression_turn waits (LatchingRight f c) d seen.Done s before then t observed does = on.latch_right_turn know w g p b level key got 0 0 f c s before (rw t at then) observed does
  compression_turn waits (LatchingRight f c) d seen.Missed s before then t observed does = missed_right_turn waits f c d s before then t does
  compression_turn waits (LatchedRight f c) d (seen.Words e) s before then t observed does = right_turn f c e d s before then t observed does
  compression_turn waits (PuttingFirst u) d seen.Done s before then t observed does = first_turn u u.gains s refl before (rw t at then) does
  compression_turn waits (PuttingFirst u) d seen.Refused s before then t observed does = refused_turn u u.gains s before (rw t at then) does
  compression_turn waits (PuttingParent u) d seen.Done s before then t observed does = parent_turn u s before (rw t at then) does
  compression_turn waits (PuttingLast u) d seen.Done s before then t observed does = last_turn u u.gains s refl before (rw t at then) does
  compression_turn waits (Retiring at decision) d seen.Done s before then t observed does = retire_turn know w g p b level key got 0 0 at decision s before (rw t at then) does
  compression_turn waits (OpeningRight at decision) d seen.Done s before then t observed does = on.open_right_turn know w g p b level key got 0 0 at decision s before (rw t at then) does
  compression_turn waits (OpeningLeft at decision) d seen.Done s before then t observed does = on.open_left_turn know w g p b level key got 0 0 at decision s before (rw t at then) does
  compression_turn waits (OpeningParent x fa) d seen.Done s before then t observed does = absurd t
  compression_turn waits old d what s before then t observed does = absurd t
