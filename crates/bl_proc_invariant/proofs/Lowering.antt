-- Every turn of a lowering keeps a world good.
use Rattle.std.proofs.Common.{ℕ, ◌≡◌, ◌≢◌, ◌-◌, Some, None, [], length, get_or, take, arith, ap, sym, ◌∙◌, refl, subst, inl, inr}
use Rattle.std.proofs.lemmas.List.{get_or-take}
use Rattle.bl_page.specs.declared.page.Page.{Page}
use Rattle.bl_page.specs.declared.page.Page.TheVariants.{Anchor, Leaf, Inner, Dead}
use Rattle.bl_page.specs.declared.machine.Missed.{Missed}
use Rattle.bl_page.specs.Machine.{Name, Owner, State, Act}
use Rattle.bl_page.specs.Machine.Act.{Get, Put, Latch, Retire, Miss}
use Rattle.bl_page.specs.Pairs.{end_of}
use Rattle.bl_page.specs.Nodes.{unbounded, node_of, roots_of}
use Rattle.bl_tree.specs.Trees.{IsLive}
use Rattle.bl_tree.specs.Trees.Status.{Fresh, Live, Uprooted, Gone}
use Rattle.bl_claims.specs.Trails.{Mark}
use Rattle.bl_tree_worlds.specs.Worlds.{Stage, Know, World, nodes, IsSure, IsBounded, IsGood, silent, put_mark}
use Rattle.bl_tree_worlds.proofs.Pushes.{HasSaid-silent}
use Rattle.bl_tree_worlds.proofs.After.{after, Extends-after, put_at, is_put_at}
use Rattle.bl_tree_worlds.proofs.Descents.{anchor_not_released}
use Rattle.bl_tree_worlds.proofs.Lowerings.{PutsLower-keeps, PutsFallen-keeps}
use Rattle.bl_tree_worlds.proofs.Outside.{Retires-keeps}
use Rattle.bl_proc_steps.specs.declared.acts.Seen.{Seen}
use Rattle.bl_answers.specs.declared.answers.Lowered.{Lowered}
use Rattle.bl_answers.specs.declared.answers.Lowered.TheVariants as lowered
use Rattle.bl_proc_steps.specs.declared.lowering.Lowering.{Lowering}
use Rattle.bl_proc_steps.specs.declared.lowering.Sank.TheVariants.{On, Over}
use Rattle.bl_proc_steps.specs.declared.lowering.Summit.{Summit}
use Rattle.bl_proc_steps.specs.declared.lowering.Sinking.{Sinking}
use Rattle.bl_proc_steps.specs.declared.lowering.Lowering.TheVariants as lowering
use Rattle.bl_page.specs.Tops.{top_of, IsSole, IsFallen}
use Rattle.bl_proc_steps.specs.Lowerings.{lowering_next, Sinks}
use Rattle.bl_proc_steps.proofs.Tops.{length_take}
use Rattle.bl_proc_invariant.specs.Turns.{event_of, IsObserved, Does, Turned}
use Rattle.bl_proc_invariant.specs.Tables.{idle, alone}
use Rattle.bl_proc_invariant.specs.Lowering.{got_top, know_lowering, lowering_got}
use Rattle.bl_proc_deterministic.proofs.Lowerings.{LoweringCase, lowering_case}
use Rattle.bl_proc_deterministic.proofs.KindCases.{LowerCase}
use Rattle.bl_proc.specs.declared.lowering.LowerStage.{LowerStage}
use Rattle.bl_proc.specs.Lowers.{lower_next_in}
use Rattle.bl_proc_invariant.specs.Knowing.{know_lower, lower_got}
use Rattle.bl_proc_invariant.proofs.Ends.{start_turn, end_turn}
use Rattle.bl_proc_invariant.proofs.Acts.{of_held, not_gone, watched, latched, opened}
use Rattle.bl_proc_invariant.proofs.Approaching.{walks}
use Rattle.bl_proc_invariant.proofs.Growing.{anchor_levels, anchor_leftmost, holds_anchor, anchor_open_turn}

-- a page that is not needed as the top has no bound
sole_end : (c : Page) → IsSole c → (node_of c).shape.end ≡ unbounded
sole_end (Inner i) h = ap end_of h.1
sole_end (Anchor a) h = absurd h
sole_end (Leaf l) h = absurd h
sole_end (Dead d) h = absurd h

record FallenSays (level : ℕ) (c : Page) : Type 0 where
  pub level_is : (node_of c).shape.level ≡ level
  pub end : (node_of c).shape.end ≡ 0
  pub right : (node_of c).shape.right ≡ 0

fallen_says : (level : ℕ) (c : Page) → IsFallen level c → FallenSays level c
fallen_says level (Dead d) h = record { level_is = h.0; end = refl; right = h.2 }
fallen_says level (Anchor a) h = absurd h
fallen_says level (Leaf l) h = absurd h
fallen_says level (Inner i) h = absurd h

other_got : (anchor top : Page) (x : ℕ) → 0 ≢ x → got_top anchor top x ≡ top
other_got anchor top x n = grind arith

module _ {P : Type 0} (know : P → Know) (w : World P) (g : IsGood know w) (p : Name) (b : P) where
  -- the anchor is got without a latch
  pub look_turn : (s : State Page) → know (w.proc p) ≡ idle Stage.Busy → know b ≡ idle Stage.Busy → Does w.now p (Get 0) s → Turned know w p (Get 0) s b
  look_turn s before then does =
      let is : IsSure w p (idle Stage.Busy) = rw before at (g.sure p) in
      watched know w g p b _ _ before then (Get 0) (Some (w.now.contents 0)) None s tt (is.stage, anchor_not_released know w g) does refl refl (λ y h. h) (λ it e. cc) (λ j. refl)
      (walks w _ p (Get 0) (Some (w.now.contents 0)) None [] (Unit {0}) is.stage is.said tt tt)

  -- the anchor is latched, or missed
  pub latch_turn : (got : ℕ → Page) (s : State Page) → know (w.proc p) ≡ know_lowering got lowering.LatchingAnchor → know b ≡ know_lowering got lowering.LatchedAnchor → w.now.owner 0 ≡ Owner.Open → Does w.now p (Latch 0) s → Turned know w p (Latch 0) s b
  latch_turn got s before then observed does =
      let is : IsSure w p (know_lowering got lowering.LatchingAnchor) = rw before at (g.sure p) in
      latched know w g p b _ _ before then 0 s observed does refl (inl refl) (λ y h. absurd h)
      (holds_anchor w _ p (Latch 0) None alone None _ is.stage is.said is.goes does.changes.1.at g.tree.anchored tt tt)

  pub miss_turn : {what : Missed} (got : ℕ → Page) (s : State Page) → know (w.proc p) ≡ know_lowering got lowering.LatchingAnchor → know b ≡ know_lowering got lowering.LatchingAnchor → Does w.now p (Miss what) s → Turned know w p (Miss what) s b
  miss_turn {what} got s before then does =
      let is : IsSure w p (know_lowering got lowering.LatchingAnchor) = rw before at (g.sure p) in
      watched know w g p b _ _ before then (Miss what) None None s tt tt does tt refl (λ y h. h) (λ it e. cc) (λ j. refl)
      (walks w _ p (Miss what) None None [] (Unit {0}) is.stage is.said tt tt)

  -- the anchor is got under its latch: the tree has no other level
  pub low_turn : (got got' : ℕ → Page) (what : Lowered) (s : State Page) → know (w.proc p) ≡ know_lowering got lowering.LatchedAnchor → know b ≡ know_lowering got' (lowering.OpeningAnchor what) → Does w.now p (Get 0) s → Turned know w p (Get 0) s b
  low_turn got got' what s before then does =
      let is : IsSure w p (know_lowering got lowering.LatchedAnchor) = rw before at (g.sure p) in
      watched know w g p b _ _ before then (Get 0) (Some (w.now.contents 0)) None s tt (is.stage, anchor_not_released know w g) does refl refl (λ y h. h) (λ it e. cc) (λ j. refl)
      (holds_anchor w _ p (Get 0) (Some (w.now.contents 0)) alone None _ is.stage is.said is.goes (does.changes.1 0 ∙ is.holds.0.owner) is.holds.0.status tt tt)

  -- or it has
  pub tall_turn : (got got' : ℕ → Page) (t : Summit) (c : Page) (s : State Page) → know (w.proc p) ≡ know_lowering got lowering.LatchedAnchor → know b ≡ know_lowering got' (lowering.LatchingTop t) → c ≡ w.now.contents 0 → c ≡ Anchor t.anchor → t.top ≡ top_of (roots_of c) → Does w.now p (Get 0) s → Turned know w p (Get 0) s b
  tall_turn got got' t c s before then observed is_anchor top does =
      let is : IsSure w p (know_lowering got lowering.LatchedAnchor) = rw before at (g.sure p) in
      watched know w g p b _ _ before then (Get 0) (Some (w.now.contents 0)) None s tt (is.stage, anchor_not_released know w g) does refl refl (λ y h. h) (λ it e. cc) (λ j. refl)
      (holds_anchor w _ p (Get 0) (Some (w.now.contents 0)) alone (Some (Anchor t.anchor)) _ is.stage is.said is.goes (does.changes.1 0 ∙ is.holds.0.owner) is.holds.0.status (sym observed ∙ is_anchor) (top ∙ ap (λ z. top_of (roots_of z)) is_anchor))

  -- the top page is latched, or missed
  pub latch_top_turn : (got : ℕ → Page) (t : Summit) (s : State Page) → know (w.proc p) ≡ know_lowering got (lowering.LatchingTop t) → know b ≡ know_lowering got (lowering.LatchedTop t) → w.now.owner t.top ≡ Owner.Open → Does w.now p (Latch t.top) s → Turned know w p (Latch t.top) s b
  latch_top_turn got t s before then observed does =
      let is : IsSure w p (know_lowering got (lowering.LatchingTop t)) = rw before at (g.sure p) in
      let n : 0 ≢ t.top = λ e. (let o : w.now.owner 0 ≡ Owner.Open = ap w.now.owner e ∙ observed in let h = is.holds.0.owner in cc) in
      let live : w.status t.top ≡ Live = elim (g.owned.opened t.top observed) [ inl e ↦ e | inr e ↦ absurd (n (sym (g.owned.one_anchor t.top e))) ] in
      latched know w g p b _ _ before then t.top s observed does refl (inr (inl refl)) (λ y h. elim h [ inl e ↦ inl e | inr u ↦ absurd u ])
      (record {
        stage = is.stage;
        said = HasSaid-silent w.trail (silent p (Latch t.top)) p None refl is.said;
        holds = ((does.changes.1.others 0 n ∙ is.holds.0.owner, is.holds.0.status, tt, is.holds.0.page), ((does.changes.1.at, live, tt, tt), tt));
        goes = tt;
        children = tt;
        passed = tt;
        sound = (is.sound, n);
      })

  pub miss_top_turn : {what : Missed} (got : ℕ → Page) (t : Summit) (s : State Page) → know (w.proc p) ≡ know_lowering got (lowering.LatchingTop t) → know b ≡ know_lowering got (lowering.LatchingTop t) → Does w.now p (Miss what) s → Turned know w p (Miss what) s b
  miss_top_turn {what} got t s before then does =
      let is : IsSure w p (know_lowering got (lowering.LatchingTop t)) = rw before at (g.sure p) in
      watched know w g p b _ _ before then (Miss what) None None s tt tt does tt refl (λ y h. h) (λ it e. cc) (λ j. refl)
      (holds_anchor w _ p (Miss what) None alone (Some (Anchor t.anchor)) _ is.stage is.said is.goes (does.changes.1 0 ∙ is.holds.0.owner) is.holds.0.status is.holds.0.page is.sound)

  -- the top page is got under its latch: it is not needed
  pub sink_turn : (got : ℕ → Page) (t : Summit) (k : Sinking) (c : Page) (s : State Page) → know (w.proc p) ≡ know_lowering got (lowering.LatchedTop t) → know b ≡ know_lowering (got_top (Anchor t.anchor) c) (lowering.PuttingAnchor k) → c ≡ w.now.contents t.top → k.top ≡ t.top → IsSole c → Sinks t.anchor.leftmost.items k → Does w.now p (Get t.top) s → Turned know w p (Get t.top) s b
  sink_turn got t k c s before then observed same sole sinks does =
      let is : IsSure w p (know_lowering got (lowering.LatchedTop t)) = rw before at (g.sure p) in
      let x = t.top in
      let m : Mark = record { event = record { process = p; act = Get x }; saw = Some (w.now.contents x); said = None } in
      let n : 0 ≢ k.top = λ e. is.sound.1 (e ∙ same) in
      let to : got_top (Anchor t.anchor) c k.top ≡ c = other_got (Anchor t.anchor) c k.top n in
      let held = is.holds.1.0.owner in
      watched know w g p b _ _ before then (Get x) (Some (w.now.contents x)) None s tt (is.stage, λ e. cc) does refl refl
      (λ y h. elim h [ inl e ↦ inl e | inr r ↦ elim r [ inl e ↦ inr (inl (same ∙ e)) | inr u ↦ absurd u ] ]) (λ it e. cc) (λ j. refl)
      (record {
        stage = is.stage;
        said = HasSaid-silent w.trail m p None refl is.said;
        holds = ((does.changes.1 0 ∙ is.holds.0.owner, is.holds.0.status, tt, is.holds.0.page), ((ap s.owner same ∙ (does.changes.1 x ∙ is.holds.1.0.owner), ap w.status same ∙ is.holds.1.0.status, tt, ap w.now.contents same ∙ (sym observed ∙ sym to)), tt));
        goes = tt;
        children = tt;
        passed = tt;
        sound = record { leftmost = t.anchor.leftmost.items; anchor = refl; tall = t.tall; top = same ∙ is.sound.0; other = n; sole = subst IsSole (sym to) sole; sinks = sinks };
      })

  -- or it is
  pub stay_turn : (got got' : ℕ → Page) (t : Summit) (x : ℕ) (what : Lowered) (s : State Page) → know (w.proc p) ≡ know_lowering got (lowering.LatchedTop t) → know b ≡ know_lowering got' (lowering.OpeningTop x what) → x ≡ t.top → Does w.now p (Get t.top) s → Turned know w p (Get t.top) s b
  stay_turn got got' t x what s before then same does =
      let is : IsSure w p (know_lowering got (lowering.LatchedTop t)) = rw before at (g.sure p) in
      let m : Mark = record { event = record { process = p; act = Get t.top }; saw = Some (w.now.contents t.top); said = None } in
      let held = is.holds.1.0.owner in
      watched know w g p b _ _ before then (Get t.top) (Some (w.now.contents t.top)) None s tt (is.stage, λ e. cc) does refl refl
      (λ y h. elim h [ inl e ↦ inl e | inr r ↦ elim r [ inl e ↦ inr (inl (same ∙ e)) | inr u ↦ absurd u ] ]) (λ it e. cc) (λ j. refl)
      (record {
        stage = is.stage;
        said = HasSaid-silent w.trail m p None refl is.said;
        holds = ((does.changes.1 0 ∙ is.holds.0.owner, is.holds.0.status, tt, tt), ((ap s.owner same ∙ (does.changes.1 t.top ∙ is.holds.1.0.owner), ap w.status same ∙ is.holds.1.0.status, tt, tt), tt));
        goes = tt;
        children = tt;
        passed = tt;
        sound = λ e. is.sound.1 (e ∙ same);
      })

  -- the reservation is refused
  pub refuse_turn : {what : Missed} (got : ℕ → Page) (k : Sinking) (end : Lowered) (s : State Page) → know (w.proc p) ≡ know_lowering got (lowering.PuttingAnchor k) → know b ≡ know_lowering got (lowering.OpeningTop k.top end) → Does w.now p (Miss what) s → Turned know w p (Miss what) s b
  refuse_turn {what} got k end s before then does =
      let is : IsSure w p (know_lowering got (lowering.PuttingAnchor k)) = rw before at (g.sure p) in
      watched know w g p b _ _ before then (Miss what) None None s tt tt does tt refl (λ y h. h) (λ it e. cc) (λ j. refl)
      (record {
        stage = is.stage;
        said = HasSaid-silent w.trail (silent p (Miss what)) p None refl is.said;
        holds = ((does.changes.1 0 ∙ is.holds.0.owner, is.holds.0.status, tt, tt), ((does.changes.1 k.top ∙ is.holds.1.0.owner, is.holds.1.0.status, tt, tt), tt));
        goes = tt;
        children = tt;
        passed = tt;
        sound = is.sound.other;
      })

  -- the anchor is put, and names the top level no longer
  pub anchor_turn : (got : ℕ → Page) (k : Sinking) (s : State Page) → know (w.proc p) ≡ know_lowering got (lowering.PuttingAnchor k) → know b ≡ know_lowering got (lowering.PuttingDead k) → Does w.now p (Put 0 k.anchor) s → Turned know w p (Put 0 k.anchor) s b
  anchor_turn got k s before then does =
      let is : IsSure w p (know_lowering got (lowering.PuttingAnchor k)) = rw before at (g.sure p) in
      let x = k.top in
      let m : Mark = put_mark p 0 k.anchor None in
      let to = is.sound in
      let xs = to.leftmost in
      let held = is.holds.0 in
      let top = is.holds.1.0 in
      let tall = to.tall in
      let levels : (roots_of (w.now.contents 0)).levels ≡ length xs = ap (λ z. (roots_of z).levels) held.page ∙ anchor_levels xs (got 0) to.anchor in
      let pages : (roots_of (w.now.contents 0)).leftmost ≡ (λ l. get_or xs l 0) = ap (λ z. (roots_of z).leftmost) held.page ∙ anchor_leftmost xs (got 0) to.anchor in
      let o = g.tree.leftmost (length xs - 1) (omega (arith, levels)) in
      let is_x : (roots_of (w.now.contents 0)).leftmost (length xs - 1) ≡ x = ap (λ f. f (length xs - 1)) pages ∙ sym to.top in
      let level : (nodes w.now x).shape.level ≡ length xs - 1 = ap (λ v. (nodes w.now v).shape.level) (sym is_x) ∙ o.level_is in
      let sep : w.sep x ≡ 0 = ap w.sep (sym is_x) ∙ o.sep_is in
      let alive : IsLive (w.status x) = subst (λ v. IsLive (w.status v)) is_x o.alive in
      let low : (nodes w.now x).shape.low ≡ 0 = g.tree.side.sep_same x alive (λ y e. (let f = top.status in cc)) ∙ sep in
      let end : (nodes w.now x).shape.end ≡ unbounded = ap (λ z. (node_of z).shape.end) top.page ∙ sole_end (got x) to.sole in
      let less : length (take (length xs - 1) xs) ≡ length xs - 1 = length_take (length xs - 1) xs (omega arith) in
      let status = is_put_at x Uprooted w.status in
      let next : World P = after w s m b (put_at x Uprooted w.status) w.sep w.map in
      let extends = Extends-after w s m b (put_at x Uprooted w.status) w.sep w.map (record { enabled = held.owner; changes = does.changes; on = does.on }) tt in
      let fallen : IsFallen (node_of (got x)).shape.level k.dead = subst (λ l. IsFallen l k.dead) (sym (ap (λ z. (node_of z).shape.level) (sym top.page) ∙ level)) to.sinks.1 in
      record {
        next = next;
        saw = None;
        said = None;
        extends = extends;
        now = refl;
        good = PutsLower-keeps know w next p x k.anchor b (record {
          owes = record {
            extends = extends;
            no_dead = not_gone know w g p b _ _ before then (λ e. cc, (λ e. cc, tt));
            places = λ y h. rw then (rw before at h);
            point = λ it e. cc;
            maps = λ j. refl;
            bounded = g.bounded;
            own = rw then (record {
              stage = rw (does.changes.2 p) is.stage;
              said = HasSaid-silent w.trail m p None refl is.said;
              holds = (
                record { owner = does.changes.1 0 ∙ held.owner; status = status.others 0 to.other ∙ held.status; sep = tt; page = tt },
                (record { owner = does.changes.1 x ∙ top.owner; status = status.at; sep = tt; page = does.changes.0.others x (λ e. to.other (sym e)) ∙ top.page }, tt),
              );
              goes = tt;
              children = tt;
              passed = tt;
              sound = (to.other, fallen);
            });
          };
          live = top.status;
          held = top.owner;
          level = omega (arith, level, levels);
          above = omega (arith, level);
          low = low;
          end = end;
          none_uprooted = λ z a h. of_held know w g p b _ _ before then (λ y v. v ≢ Uprooted) (λ e. cc, (λ e. cc, tt)) z a h;
          none_fresh = λ z a h. of_held know w g p b _ _ before then (λ y v. v ≢ Fresh) (λ e. cc, (λ e. cc, tt)) z a h;
          levels = anchor_levels _ k.anchor to.sinks.0 ∙ (less ∙ sym level);
          leftmost = λ l h. ap (λ f. f l) (anchor_leftmost _ k.anchor to.sinks.0) ∙ (get_or-take (length xs - 1) xs l 0 (omega (arith, level)) ∙ sym (ap (λ f. f l) pages));
          no_middle = rw before refl;
          status = status;
          sep = refl;
          map = refl;
        }) g;
      }

  -- the top page is put, and is dead
  pub dead_turn : (got : ℕ → Page) (k : Sinking) (s : State Page) → know (w.proc p) ≡ know_lowering got (lowering.PuttingDead k) → know b ≡ know_lowering got (lowering.Retiring k.top) → Does w.now p (Put k.top k.dead) s → Turned know w p (Put k.top k.dead) s b
  dead_turn got k s before then does =
      let is : IsSure w p (know_lowering got (lowering.PuttingDead k)) = rw before at (g.sure p) in
      let x = k.top in
      let m : Mark = put_mark p x k.dead None in
      let held = is.holds.0 in
      let top = is.holds.1.0 in
      let up = g.tree.uprooted x top.status in
      let some = g.tree.some_level in
      let says = fallen_says (node_of (got x)).shape.level k.dead is.sound.1 in
      let level = (nodes w.now x).shape.level in
      let same : (node_of (got x)).shape.level ≡ level = ap (λ z. (node_of z).shape.level) (sym top.page) in
      let map = put_at level (λ j. None) w.map in
      let status = is_put_at x Gone w.status in
      let rows : map 0 ≡ w.map 0 = (is_put_at level (λ j. None) w.map).others 0 (λ e. absurd (omega (arith, up.level_is, e))) in
      let next : World P = after w s m b (put_at x Gone w.status) w.sep map in
      let extends = Extends-after w s m b (put_at x Gone w.status) w.sep map (record { enabled = top.owner; changes = does.changes; on = does.on }) tt in
      record {
        next = next;
        saw = None;
        said = None;
        extends = extends;
        now = refl;
        good = PutsFallen-keeps know w next p x k.dead b (record {
          owes = record {
            extends = extends;
            no_dead = not_gone know w g p b _ _ before then (λ e. cc, (λ e. cc, tt));
            places = λ y h. rw then (rw before at h);
            point = λ it e. cc;
            maps = λ j. ap (λ f. f j) rows;
            bounded = subst IsBounded (sym rows) g.bounded;
            own = rw then (record {
              stage = rw (does.changes.2 p) is.stage;
              said = HasSaid-silent w.trail m p None refl is.said;
              holds = (
                record { owner = does.changes.1 0 ∙ held.owner; status = status.others 0 is.sound.0 ∙ held.status; sep = tt; page = tt },
                (record { owner = does.changes.1 x ∙ top.owner; status = status.at; sep = tt; page = tt }, tt),
              );
              goes = tt;
              children = tt;
              passed = tt;
              sound = is.sound.0;
            });
          };
          uprooted = top.status;
          dead_level = says.level_is ∙ same;
          dead_end = says.end;
          dead_right = says.right;
          none_fresh = λ z a h. of_held know w g p b _ _ before then (λ y v. v ≢ Fresh) (λ e. cc, (λ e. cc, tt)) z a h;
          no_middle = rw before refl;
          status = status;
          sep = refl;
          map = is_put_at level (λ j. None) w.map;
        }) g;
      }

  -- the dead page is retired
  pub retire_turn : (got : ℕ → Page) (x : ℕ) (what : Lowered) (s : State Page) → know (w.proc p) ≡ know_lowering got (lowering.Retiring x) → know b ≡ know_lowering got (lowering.OpeningAnchor what) → Does w.now p (Retire x) s → Turned know w p (Retire x) s b
  retire_turn got x what s before then does =
      let is : IsSure w p (know_lowering got (lowering.Retiring x)) = rw before at (g.sure p) in
      let m : Mark = silent p (Retire x) in
      let owns = does.changes.3 in
      let extends = Extends-after w s m b w.status w.sep w.map (record { enabled = is.holds.1.0.owner; changes = does.changes; on = does.on }) tt in
      record {
        next = after w s m b w.status w.sep w.map;
        saw = None;
        said = None;
        extends = extends;
        now = refl;
        good = Retires-keeps know w (after w s m b w.status w.sep w.map) p x b (record {
          extends = extends;
          gone = is.holds.1.0.status;
          status = refl;
          sep = refl;
          map = refl;
          middle = rw (before, then) refl;
          places = λ z n h. rw then (elim (rw before at h) [ inl e ↦ inl e | inr v ↦ elim v [ inl e ↦ absurd (n (sym e)) | inr o ↦ absurd o ] ]);
          own = rw then (record {
            stage = rw (owns.2 p) is.stage;
            said = HasSaid-silent w.trail m p None refl is.said;
            holds = (record { owner = owns.1.others 0 is.sound ∙ is.holds.0.owner; status = is.holds.0.status; sep = tt; page = tt }, tt);
            goes = tt;
            children = tt;
            passed = tt;
            sound = tt;
          });
        }) g;
      }

  -- the top page is opened, which stays
  pub open_top_turn : (got : ℕ → Page) (x : ℕ) (what : Lowered) (s : State Page) → know (w.proc p) ≡ know_lowering got (lowering.OpeningTop x what) → know b ≡ know_lowering got (lowering.OpeningAnchor what) → Does w.now p (Act.Open x) s → Turned know w p (Act.Open x) s b
  open_top_turn got x what s before then does =
      let is : IsSure w p (know_lowering got (lowering.OpeningTop x what)) = rw before at (g.sure p) in
      opened know w g p b _ _ before then x s is.holds.1.0.owner does (inl is.holds.1.0.status) refl refl ((λ e. cc, λ e. cc), ((λ e. cc, λ e. cc), tt))
      (λ z i h. elim h [ inl e ↦ inl e | inr r ↦ elim r [ inl e ↦ absurd (i (sym e)) | inr u ↦ inr u ] ])
      (holds_anchor w _ p (Act.Open x) None alone None _ is.stage is.said is.goes (does.changes.1.others 0 is.sound ∙ is.holds.0.owner) is.holds.0.status tt tt)

  -- the anchor is opened
  pub open_turn : (got : ℕ → Page) (what : Lowered) (s : State Page) → know (w.proc p) ≡ know_lowering got (lowering.OpeningAnchor what) → know b ≡ idle Stage.Busy → Does w.now p (Act.Open 0) s → Turned know w p (Act.Open 0) s b
  open_turn got what s before then does = anchor_open_turn know w g p b alone 0 0 (Unit {0}) (Unit {0}) s before then (λ h. h) does

  -- every turn of a lowering that does not end it
  pub lowering_turn : {l m : Lowering} {what : Seen} → LoweringCase l what (On m) → (got : ℕ → Page) (s : State Page) → know (w.proc p) ≡ know_lowering got l → know b ≡ know_lowering (lowering_got got l what) m → IsObserved w.now w.size (lowering_next l) what → Does w.now p (event_of None (lowering_next l) what) s → Turned know w p (event_of None (lowering_next l) what) s b
  lowering_turn (LoweringCase.SawMore c new t) got s before then observed does = look_turn s before (subst (λ z. know b ≡ know_lowering got z) t.0 then) does
  lowering_turn (LoweringCase.Latched new t) got s before then observed does = latch_turn got s before (subst (λ z. know b ≡ know_lowering got z) t then) observed does
  lowering_turn (LoweringCase.Missed new t) got s before then observed does = miss_turn got s before (subst (λ z. know b ≡ know_lowering got z) t then) does
  lowering_turn (LoweringCase.IsTall c k t) got s before then observed does = tall_turn got (λ z. c) k c s before then observed t.0 t.1 does
  lowering_turn (LoweringCase.IsLow c end t) got s before then observed does = low_turn got (λ z. c) end s before then does
  lowering_turn (LoweringCase.LatchedUpper k new t) got s before then observed does = latch_top_turn got k s before (subst (λ z. know b ≡ know_lowering got z) t then) observed does
  lowering_turn (LoweringCase.MissedUpper k new t) got s before then observed does = miss_top_turn got k s before (subst (λ z. know b ≡ know_lowering got z) t then) does
  lowering_turn (LoweringCase.IsSpare k c u t) got s before then observed does = sink_turn got k u c s before then observed t.0 t.1 t.2 does
  lowering_turn (LoweringCase.IsNeeded k c x end t) got s before then observed does = stay_turn got (got_top (Anchor k.anchor) c) k x end s before then t.0 does
  lowering_turn (LoweringCase.PutAnchor k new t) got s before then observed does = anchor_turn got k s before (subst (λ z. know b ≡ know_lowering got z) t then) does
  lowering_turn (LoweringCase.Refused k new t) got s before then observed does = refuse_turn got k lowered.NoRoom s before (subst (λ z. know b ≡ know_lowering got z) t then) does
  lowering_turn (LoweringCase.PutDead k new t) got s before then observed does = dead_turn got k s before (subst (λ z. know b ≡ know_lowering got z) t then) does
  lowering_turn (LoweringCase.Retired x new t) got s before then observed does = retire_turn got x lowered.Lowered s before (subst (λ z. know b ≡ know_lowering got z) t then) does
  lowering_turn (LoweringCase.OpenedTop x end new t) got s before then observed does = open_top_turn got x end s before (subst (λ z. know b ≡ know_lowering got z) t then) does

  -- and one that does
  pub lowering_over_turn : {l : Lowering} {what : Seen} {end : Lowered} → LoweringCase l what (Over end) → (got : ℕ → Page) (s : State Page) → know (w.proc p) ≡ know_lowering got l → know b ≡ idle Stage.Busy → Does w.now p (event_of None (lowering_next l) what) s → Turned know w p (event_of None (lowering_next l) what) s b
  lowering_over_turn (LoweringCase.SawOne c end t) got s before then does = look_turn s before then does
  lowering_over_turn (LoweringCase.OpenedAnchor end last t) got s before then does = open_turn got end s before then does

  -- every turn of its process
  pub lower_turn : {a a' : LowerStage} {what : Seen} → LowerCase a what a' → (got : ℕ → Page) (s : State Page) → know (w.proc p) ≡ know_lower got a → know b ≡ know_lower (lower_got got a what) a' → IsObserved w.now w.size (lower_next_in a) what → Does w.now p (event_of None (lower_next_in a) what) s → Turned know w p (event_of None (lower_next_in a) what) s b
  lower_turn (LowerCase.Began l t) got s before then observed does = start_turn know w g p b alone (Unit {0}) s before (subst (λ z. know b ≡ know_lowering got z) t then) does
  lower_turn (LowerCase.Sank l what m t) got s before then observed does = lowering_turn (lowering_case l what _ t) got s before then observed does
  lower_turn (LowerCase.Finished l what r t) got s before then observed does = lowering_over_turn (lowering_case l what _ t) got s before then does
  lower_turn (LowerCase.Ended r last t) got s before then observed does = end_turn know w g p b None [] (Unit {0}) s before then does
