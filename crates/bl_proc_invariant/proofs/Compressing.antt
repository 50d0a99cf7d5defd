-- Turns of a compression that put nothing keep a world good.
use Rattle.std.proofs.Common.{ℕ, suc, ◌≡◌, ◌≢◌, ◌<◌, Some, None, arith, ap, sym, ◌∙◌, refl, inl, inr}
use Rattle.bl_page.specs.declared.page.Page.{Page}
use Rattle.bl_page.specs.declared.machine.Missed.{Missed}
use Rattle.bl_page.specs.Machine.{Name, Owner, State, Act}
use Rattle.bl_page.specs.Machine.Owner.{Held}
use Rattle.bl_page.specs.Machine.Act.{Get, Latch, Miss}
use Rattle.bl_page.specs.Nodes.{unbounded, node_of}
use Rattle.bl_tree_worlds.proofs.Pushes.{HasSaid-silent}
use Rattle.bl_claims.specs.Trails.{Mark}
use Rattle.bl_tree_worlds.specs.Worlds.{Stage, Know, World, nodes, IsSure, IsGood, silent}
use Rattle.bl_tree_worlds.proofs.Descents.{not_released, open_live}
use Rattle.bl_rearrange.specs.declared.families.Siblings.{Siblings}
use Rattle.bl_rearrange.specs.declared.families.Family.{Family}
use Rattle.bl_proc_compress.specs.declared.compression.Decision.{Decision}
use Rattle.bl_proc_compress.specs.declared.compression.Puts.{Puts}
use Rattle.bl_proc_compress.specs.declared.compression.Compression.TheVariants.{LatchingLeft, LatchedLeft, LatchingRight, LatchedRight, PuttingFirst, OpeningRight, OpeningLeft, OpeningParent}
use Rattle.bl_rearrange.specs.Rearranged.{right_of}
use Rattle.bl_proc_invariant.specs.Turns.{Does, Turned}
use Rattle.bl_proc_invariant.specs.Tables.{idle}
use Rattle.bl_proc_invariant.specs.Compressing.{know_compression_by}
use Rattle.bl_proc_invariant.proofs.Acts.{watched, latched, opened}

module _ {P : Type 0} (know : P → Know) (w : World P) (g : IsGood know w) (p : Name) (b : P) (level key : ℕ) (got : ℕ → Page) (at new : ℕ) where
  -- a held page is no open one
  differ : (x y : ℕ) → w.now.owner x ≡ Held p → w.now.owner y ≡ Owner.Open → x ≢ y
  differ x y h o i = (let a : Owner.Open ≡ Held p = sym o ∙ (ap w.now.owner (sym i) ∙ h) in cc)

  pub latch_left_turn : (f : Family) (s : State Page) → know (w.proc p) ≡ know_compression_by level key got at new (LatchingLeft f) → know b ≡ know_compression_by level key got at new (LatchedLeft f) → w.now.owner f.at.left ≡ Owner.Open → Does w.now p (Latch f.at.left) s → Turned know w p (Latch f.at.left) s b
  latch_left_turn f s before then observed does =
      let is : IsSure w p (know_compression_by level key got at new (LatchingLeft f)) = rw before at (g.sure p) in
      let x = f.at.left in
      let n : f.at.parent ≢ x = differ f.at.parent x is.holds.0.owner observed in
      latched know w g p b _ _ before then x s observed does refl (inr (inl refl)) (λ y h. elim h [ inl e ↦ inl e | inr u ↦ absurd u ])
      (record {
        stage = is.stage;
        said = HasSaid-silent w.trail (silent p (Latch x)) p None refl is.said;
        holds = ((does.changes.1.others f.at.parent n ∙ is.holds.0.owner, is.holds.0.status, tt, is.holds.0.page), ((does.changes.1.at, open_live know w g p x is.goes.0.may observed, tt, tt), tt));
        goes = is.goes;
        children = tt;
        passed = tt;
        sound = (is.sound, n);
      })

  pub latch_right_turn : (f : Family) (c : Page) (s : State Page) → know (w.proc p) ≡ know_compression_by level key got at new (LatchingRight f c) → know b ≡ know_compression_by level key got at new (LatchedRight f c) → w.now.owner f.at.right ≡ Owner.Open → Does w.now p (Latch f.at.right) s → Turned know w p (Latch f.at.right) s b
  latch_right_turn f c s before then observed does =
      let is : IsSure w p (know_compression_by level key got at new (LatchingRight f c)) = rw before at (g.sure p) in
      let y = f.at.right in
      let n : f.at.parent ≢ y = differ f.at.parent y is.holds.0.owner observed in
      let m : f.at.left ≢ y = differ f.at.left y is.holds.1.0.owner observed in
      latched know w g p b _ _ before then y s observed does refl (inr (inr (inl refl))) (λ z h. elim h [ inl e ↦ inl e | inr u ↦ elim u [ inl e ↦ inr (inl e) | inr v ↦ absurd v ] ])
      (record {
        stage = is.stage;
        said = HasSaid-silent w.trail (silent p (Latch y)) p None refl is.said;
        holds = ((does.changes.1.others f.at.parent n ∙ is.holds.0.owner, is.holds.0.status, tt, is.holds.0.page), ((does.changes.1.others f.at.left m ∙ is.holds.1.0.owner, is.holds.1.0.status, tt, is.holds.1.0.page), ((does.changes.1.at, open_live know w g p y is.goes.0.may observed, tt, tt), tt)));
        goes = is.goes;
        children = tt;
        passed = tt;
        sound = (is.sound.0, record { left = is.sound.1; right = n; both = m }, is.sound.2, is.sound.3);
      })

  -- a latch of a child is missed, and tried again
  pub miss_left_turn : {what : Missed} (f : Family) (s : State Page) → know (w.proc p) ≡ know_compression_by level key got at new (LatchingLeft f) → know b ≡ know_compression_by level key got at new (LatchingLeft f) → Does w.now p (Miss what) s → Turned know w p (Miss what) s b
  miss_left_turn {what} f s before then does =
      let is : IsSure w p (know_compression_by level key got at new (LatchingLeft f)) = rw before at (g.sure p) in
      watched know w g p b _ _ before then (Miss what) None None s tt tt does tt refl (λ y h. h) (λ it e. cc) (λ j. refl)
      (record {
        stage = is.stage;
        said = HasSaid-silent w.trail (silent p (Miss what)) p None refl is.said;
        holds = ((does.changes.1 f.at.parent ∙ is.holds.0.owner, is.holds.0.status, tt, is.holds.0.page), tt);
        goes = is.goes;
        children = tt;
        passed = tt;
        sound = is.sound;
      })

  pub miss_right_turn : {what : Missed} (f : Family) (c : Page) (s : State Page) → know (w.proc p) ≡ know_compression_by level key got at new (LatchingRight f c) → know b ≡ know_compression_by level key got at new (LatchingRight f c) → Does w.now p (Miss what) s → Turned know w p (Miss what) s b
  miss_right_turn {what} f c s before then does =
      let is : IsSure w p (know_compression_by level key got at new (LatchingRight f c)) = rw before at (g.sure p) in
      watched know w g p b _ _ before then (Miss what) None None s tt tt does tt refl (λ y h. h) (λ it e. cc) (λ j. refl)
      (record {
        stage = is.stage;
        said = HasSaid-silent w.trail (silent p (Miss what)) p None refl is.said;
        holds = ((does.changes.1 f.at.parent ∙ is.holds.0.owner, is.holds.0.status, tt, is.holds.0.page), ((does.changes.1 f.at.left ∙ is.holds.1.0.owner, is.holds.1.0.status, tt, is.holds.1.0.page), tt));
        goes = is.goes;
        children = tt;
        passed = tt;
        sound = is.sound;
      })

  -- a latch of a child is missed, and what is held is to be opened
  pub leave_left_turn : {what : Missed} (f : Family) (decision : Decision) (s : State Page) → know (w.proc p) ≡ know_compression_by level key got at new (LatchingLeft f) → know b ≡ know_compression_by level key got at new (OpeningParent f.at.parent decision) → Does w.now p (Miss what) s → Turned know w p (Miss what) s b
  leave_left_turn {what} f decision s before then does =
      let is : IsSure w p (know_compression_by level key got at new (LatchingLeft f)) = rw before at (g.sure p) in
      watched know w g p b _ _ before then (Miss what) None None s tt tt does tt refl (λ y h. h) (λ it e. cc) (λ j. refl)
      (record {
        stage = is.stage;
        said = HasSaid-silent w.trail (silent p (Miss what)) p None refl is.said;
        holds = ((does.changes.1 f.at.parent ∙ is.holds.0.owner, is.holds.0.status, tt, tt), tt);
        goes = tt;
        children = tt;
        passed = tt;
        sound = is.sound.0;
      })

  pub leave_right_turn : {what : Missed} (f : Family) (c : Page) (decision : Decision) (s : State Page) → know (w.proc p) ≡ know_compression_by level key got at new (LatchingRight f c) → know b ≡ know_compression_by level key got at new (OpeningLeft f.at decision) → Does w.now p (Miss what) s → Turned know w p (Miss what) s b
  leave_right_turn {what} f c decision s before then does =
      let is : IsSure w p (know_compression_by level key got at new (LatchingRight f c)) = rw before at (g.sure p) in
      watched know w g p b _ _ before then (Miss what) None None s tt tt does tt refl (λ y h. h) (λ it e. cc) (λ j. refl)
      (record {
        stage = is.stage;
        said = HasSaid-silent w.trail (silent p (Miss what)) p None refl is.said;
        holds = ((does.changes.1 f.at.parent ∙ is.holds.0.owner, is.holds.0.status, tt, tt), ((does.changes.1 f.at.left ∙ is.holds.1.0.owner, is.holds.1.0.status, tt, tt), tt));
        goes = tt;
        children = tt;
        passed = tt;
        sound = (is.sound.0.0, is.sound.1);
      })

  -- the left child is got, and links to the right one
  pub link_turn : (f : Family) (c : Page) (s : State Page) → know (w.proc p) ≡ know_compression_by level key got at new (LatchedLeft f) → know b ≡ know_compression_by level key got at new (LatchingRight f c) → c ≡ w.now.contents f.at.left → right_of c ≡ f.at.right → Does w.now p (Get f.at.left) s → Turned know w p (Get f.at.left) s b
  link_turn f c s before then observed linked does =
      let is : IsSure w p (know_compression_by level key got at new (LatchedLeft f)) = rw before at (g.sure p) in
      let x = f.at.left in
      let m : Mark = record { event = record { process = p; act = Get x }; saw = Some (w.now.contents x); said = None } in
      let level_is : suc (node_of c).shape.level ≡ level = (
      let e : (node_of c).shape.level ≡ (nodes w.now x).shape.level = ap (λ z. (node_of z).shape.level) observed in
      let least = is.goes.0.least in
      let most = is.goes.0.most in
      let some = is.sound.0.1 in
      omega (arith, e, least, most, some)) in
      watched know w g p b _ _ before then (Get x) (Some (w.now.contents x)) None s tt (is.stage, not_released know w g p x is.goes.0.may) does refl refl (λ y h. h) (λ it e. cc) (λ j. refl)
      (record {
        stage = is.stage;
        said = HasSaid-silent w.trail m p None refl is.said;
        holds = ((does.changes.1 f.at.parent ∙ is.holds.0.owner, is.holds.0.status, tt, is.holds.0.page), ((does.changes.1 x ∙ is.holds.1.0.owner, is.holds.1.0.status, tt, sym observed), tt));
        goes = (is.goes.1.0, tt);
        children = tt;
        passed = tt;
        sound = (is.sound.0, is.sound.1, linked, level_is);
      })

  -- the left child is got, and a page stands between the two
  pub unposted_turn : (f : Family) (t : Siblings) (decision : Decision) (s : State Page) → know (w.proc p) ≡ know_compression_by level key got at new (LatchedLeft f) → know b ≡ know_compression_by level key got at new (OpeningLeft t decision) → t ≡ f.at → Does w.now p (Get f.at.left) s → Turned know w p (Get f.at.left) s b
  unposted_turn f t decision s before then same does =
      let is : IsSure w p (know_compression_by level key got at new (LatchedLeft f)) = rw before at (g.sure p) in
      let x = f.at.left in
      let m : Mark = record { event = record { process = p; act = Get x }; saw = Some (w.now.contents x); said = None } in
      watched know w g p b _ _ before (then ∙ ap (λ z. know_compression_by level key got at new (OpeningLeft z decision)) same) (Get x) (Some (w.now.contents x)) None s tt (is.stage, not_released know w g p x is.goes.0.may) does refl refl (λ y h. h) (λ it e. cc) (λ j. refl)
      (record {
        stage = is.stage;
        said = HasSaid-silent w.trail m p None refl is.said;
        holds = ((does.changes.1 f.at.parent ∙ is.holds.0.owner, is.holds.0.status, tt, tt), ((does.changes.1 x ∙ is.holds.1.0.owner, is.holds.1.0.status, tt, tt), tt));
        goes = tt;
        children = tt;
        passed = tt;
        sound = (is.sound.0.0, is.sound.1);
      })

  -- the right child is got, and the three stay as they are
  pub stay_turn : (f : Family) (c : Page) (t : Siblings) (decision : Decision) (s : State Page) → know (w.proc p) ≡ know_compression_by level key got at new (LatchedRight f c) → know b ≡ know_compression_by level key got at new (OpeningRight t decision) → t ≡ f.at → Does w.now p (Get f.at.right) s → Turned know w p (Get f.at.right) s b
  stay_turn f c t decision s before then same does =
      let is : IsSure w p (know_compression_by level key got at new (LatchedRight f c)) = rw before at (g.sure p) in
      let y = f.at.right in
      let m : Mark = record { event = record { process = p; act = Get y }; saw = Some (w.now.contents y); said = None } in
      watched know w g p b _ _ before (then ∙ ap (λ z. know_compression_by level key got at new (OpeningRight z decision)) same) (Get y) (Some (w.now.contents y)) None s tt (is.stage, not_released know w g p y is.goes.0.may) does refl refl (λ z h. h) (λ it e. cc) (λ j. refl)
      (record {
        stage = is.stage;
        said = HasSaid-silent w.trail m p None refl is.said;
        holds = ((does.changes.1 f.at.parent ∙ is.holds.0.owner, is.holds.0.status, tt, tt), ((does.changes.1 f.at.left ∙ is.holds.1.0.owner, is.holds.1.0.status, tt, tt), ((does.changes.1 y ∙ is.holds.1.1.0.owner, is.holds.1.1.0.status, tt, tt), tt)));
        goes = tt;
        children = tt;
        passed = tt;
        sound = (is.sound.0.0, is.sound.1);
      })

  -- the reservation is refused
  pub refuse_turn : {what : Missed} (u : Puts) (decision : Decision) (s : State Page) → know (w.proc p) ≡ know_compression_by level key got at new (PuttingFirst u) → know b ≡ know_compression_by level key got at new (OpeningRight u.at decision) → Does w.now p (Miss what) s → Turned know w p (Miss what) s b
  refuse_turn {what} u decision s before then does =
      let is : IsSure w p (know_compression_by level key got at new (PuttingFirst u)) = rw before at (g.sure p) in
      watched know w g p b _ _ before then (Miss what) None None s tt tt does tt refl (λ z h. h) (λ it e. cc) (λ j. refl)
      (record {
        stage = is.stage;
        said = HasSaid-silent w.trail (silent p (Miss what)) p None refl is.said;
        holds = ((does.changes.1 u.at.parent ∙ is.holds.0.owner, is.holds.0.status, tt, tt), ((does.changes.1 u.at.left ∙ is.holds.1.0.owner, is.holds.1.0.status, tt, tt), ((does.changes.1 u.at.right ∙ is.holds.1.1.0.owner, is.holds.1.1.0.status, tt, tt), tt)));
        goes = tt;
        children = tt;
        passed = tt;
        sound = (is.sound.0.small, is.sound.1);
      })

  -- the pages are opened, the right one first
  pub open_right_turn : (t : Siblings) (decision : Decision) (s : State Page) → know (w.proc p) ≡ know_compression_by level key got at new (OpeningRight t decision) → know b ≡ know_compression_by level key got at new (OpeningLeft t decision) → Does w.now p (Act.Open t.right) s → Turned know w p (Act.Open t.right) s b
  open_right_turn t decision s before then does =
      let is : IsSure w p (know_compression_by level key got at new (OpeningRight t decision)) = rw before at (g.sure p) in
      let three = is.sound.1 in
      opened know w g p b _ _ before then t.right s is.holds.1.1.0.owner does (inl is.holds.1.1.0.status) refl refl ((λ e. cc, λ e. cc), ((λ e. cc, λ e. cc), ((λ e. cc, λ e. cc), tt)))
      (λ z n h. elim h [ inl e ↦ inl e | inr u ↦ elim u [ inl e ↦ inr (inl e) | inr v ↦ elim v [ inl e ↦ absurd (n (sym e)) | inr k ↦ absurd k ] ] ])
      (record {
        stage = is.stage;
        said = HasSaid-silent w.trail (silent p (Act.Open t.right)) p None refl is.said;
        holds = ((does.changes.1.others t.parent three.right ∙ is.holds.0.owner, is.holds.0.status, tt, tt), ((does.changes.1.others t.left three.both ∙ is.holds.1.0.owner, is.holds.1.0.status, tt, tt), tt));
        goes = tt;
        children = tt;
        passed = tt;
        sound = (is.sound.0, three.left);
      })

  pub open_left_turn : (t : Siblings) (decision : Decision) (s : State Page) → know (w.proc p) ≡ know_compression_by level key got at new (OpeningLeft t decision) → know b ≡ know_compression_by level key got at new (OpeningParent t.parent decision) → Does w.now p (Act.Open t.left) s → Turned know w p (Act.Open t.left) s b
  open_left_turn t decision s before then does =
      let is : IsSure w p (know_compression_by level key got at new (OpeningLeft t decision)) = rw before at (g.sure p) in
      opened know w g p b _ _ before then t.left s is.holds.1.0.owner does (inl is.holds.1.0.status) refl refl ((λ e. cc, λ e. cc), ((λ e. cc, λ e. cc), tt))
      (λ z n h. elim h [ inl e ↦ inl e | inr u ↦ elim u [ inl e ↦ absurd (n (sym e)) | inr v ↦ absurd v ] ])
      (record {
        stage = is.stage;
        said = HasSaid-silent w.trail (silent p (Act.Open t.left)) p None refl is.said;
        holds = ((does.changes.1.others t.parent is.sound.1 ∙ is.holds.0.owner, is.holds.0.status, tt, tt), tt);
        goes = tt;
        children = tt;
        passed = tt;
        sound = is.sound.0;
      })

  -- the parent is opened last, and the process ends or begins its way again
  pub open_parent_turn : (x : ℕ) (decision : Decision) (S : Type 0) (s : State Page) → know (w.proc p) ≡ know_compression_by level key got at new (OpeningParent x decision) → know b ≡ record (idle Stage.Busy) { sound = S } → (key < unbounded → S) → Does w.now p (Act.Open x) s → Turned know w p (Act.Open x) s b
  open_parent_turn x decision S s before then on does =
      let is : IsSure w p (know_compression_by level key got at new (OpeningParent x decision)) = rw before at (g.sure p) in
      opened know w g p b _ _ before then x s is.holds.0.owner does (inl is.holds.0.status) refl refl ((λ e. cc, λ e. cc), tt)
      (λ z n h. elim h [ inl e ↦ absurd (n (sym e)) | inr u ↦ absurd u ])
      (record {
        stage = is.stage;
        said = HasSaid-silent w.trail (silent p (Act.Open x)) p None refl is.said;
        holds = tt;
        goes = tt;
        children = tt;
        passed = tt;
        sound = on is.sound;
      })
