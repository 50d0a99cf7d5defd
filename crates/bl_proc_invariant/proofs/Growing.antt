-- Every turn of a growth keeps a world good.
use Rattle.std.proofs.Common.{ℕ, ◌≡◌, ◌≢◌, ◌<◌, ◌-◌, ◌++◌, Option, Some, None, zero, suc, List, [], ◌∷◌, length, get_or, arith, ap, sym, ◌∙◌, refl, subst, inl, inr}
use Rattle.bl_model.specs.Rows.{map_of}
use Rattle.bl_page.specs.declared.page.Page.{Page}
use Rattle.bl_page.specs.declared.page.Page.TheVariants.{Anchor, Leaf, Inner, Dead}
use Rattle.bl_page.specs.declared.machine.Missed.{Missed}
use Rattle.bl_page.specs.Machine.{Name, Owner, State, Act, IsAt}
use Rattle.bl_page.specs.Machine.Owner.{Released, Held}
use Rattle.bl_page.specs.Machine.Act.{Get, Put, Take, Latch, Miss}
use Rattle.bl_page.specs.Pairs.{end_of}
use Rattle.bl_page.specs.Nodes.{unbounded, node_of, roots_of}
use Rattle.bl_tree.specs.Trees.Status.{Free, Fresh, Live, Uprooted, Anchored}
use Rattle.bl_tree.proofs.Statuses.{free_dead, fresh_dead}
use Rattle.bl_tree_worlds.proofs.Pushes.{HasSaid-silent}
use Rattle.bl_claims.specs.Trails.{Mark, HasSaid}
use Rattle.bl_tree_worlds.specs.Worlds.{IfKnown, Stage, Know, World, nodes, IsStage, IsHeld, IsGoes, IsSure, IsBounded, IsGood, silent, put_mark}
use Rattle.bl_claims.specs.Walks.{Each}
use Rattle.bl_tree_worlds.proofs.Watches.{Learns}
use Rattle.bl_tree_worlds.proofs.After.{after, Extends-after, put_at, is_put_at}
use Rattle.bl_tree_worlds.proofs.Descents.{anchor_not_released}
use Rattle.bl_tree_worlds.proofs.Moves.{PutsFresh-keeps, PutsTop-keeps}
use Rattle.bl_proc_steps.specs.declared.growth.Rise.{Rise}
use Rattle.bl_proc_steps.specs.declared.growth.Raising.{Raising}
use Rattle.bl_proc_steps.specs.declared.growth.Growth.{Growth}
use Rattle.bl_proc_steps.specs.declared.growth.Growth.TheVariants as growth
use Rattle.bl_proc_steps.specs.declared.acts.Seen.{Seen}
use Rattle.bl_proc_steps.specs.declared.growth.Grew.TheVariants.{On, Grown, Refused}
use Rattle.bl_proc_steps.specs.declared.approach.Approach.TheVariants.{Start}
use Rattle.bl_proc_writes.specs.declared.post.PostStage.TheVariants.{Growing}
use Rattle.bl_proc_steps.specs.Growths.{growth_next, IsTop, Raises}
use Rattle.bl_page.specs.Tops.{IsAnchor}
use Rattle.bl_proc_invariant.specs.Turns.{event_of, IsObserved, Does, Turned}
use Rattle.bl_proc_invariant.specs.Tables.{Carried, carrying, know_approach, anchor_known}
use Rattle.bl_proc_invariant.specs.Knowing.{ending, know_growth, post_got}
use Rattle.bl_proc_invariant.proofs.Acts.{of_held, not_gone, watched, latched, opened, taken}
use Rattle.bl_proc_invariant.proofs.Approaching.{walks}
use Rattle.bl_proc_invariant.proofs.Editing.{Aside, aside_held}
use Rattle.bl_proc_invariant.proofs.Going.{goes_still, put_steady, take_steady, was_put, was_fresh, was_anchored}
use Rattle.bl_proc_deterministic.proofs.WayCases.{GrowthCase}

-- a list with one more at its end
pub pushed_at : (xs : List ℕ) (y : ℕ) → IsAt (length xs) y (λ l. get_or xs l 0) (λ l. get_or (xs ++ y ∷ []) l 0)
pushed_at xs y = record { at = here xs; others = rest xs }
  where
    here : (xs : List ℕ) → get_or (xs ++ y ∷ []) (length xs) 0 ≡ y
    here [] = refl
    here (x ∷ xs) = here xs

    rest : (xs : List ℕ) (l : ℕ) → l ≢ length xs → get_or (xs ++ y ∷ []) l 0 ≡ get_or xs l 0
    rest [] zero n = absurd (n refl)
    rest [] (suc l) n = refl
    rest (x ∷ xs) zero n = refl
    rest (x ∷ xs) (suc l) n = rest xs l (λ e. n (ap suc e))

pub anchor_levels : (leftmost : List ℕ) (c : Page) → IsAnchor leftmost c → (roots_of c).levels ≡ length leftmost
anchor_levels leftmost (Anchor a) h = ap length h
anchor_levels leftmost old h = absurd h

pub anchor_leftmost : (leftmost : List ℕ) (c : Page) → IsAnchor leftmost c → (roots_of c).leftmost ≡ (λ l. get_or leftmost l 0)
anchor_leftmost leftmost (Anchor a) h = ap (λ xs l. get_or xs l 0) h
anchor_leftmost leftmost old h = absurd h

-- what the first page of a level says
pub record TopSays (level below : ℕ) (c : Page) : Type 0 where
  pub level_is : (node_of c).shape.level ≡ level
  pub low : (node_of c).shape.low ≡ 0
  pub end : (node_of c).shape.end ≡ unbounded
  pub right : (node_of c).shape.right ≡ 0
  pub first : (node_of c).look 0 ≡ Some below
  pub others : (k : ℕ) → k ≢ 0 → (node_of c).look k ≡ None

pub top_says : (level below : ℕ) (c : Page) → IsTop level below c → TopSays level below c
top_says level below (Inner i) h = record {
  level_is = h.0;
  low = h.1;
  end = ap end_of h.2;
  right = h.3;
  first = ap (λ xs. map_of xs 0) h.4;
  others = λ k n. ap (λ xs. map_of xs k) h.4 ∙ (let e = n in grind arith);
}
top_says level below (Anchor a) h = absurd h
top_says level below (Leaf l) h = absurd h
top_says level below (Dead d) h = absurd h

-- a process that holds the anchor
pub holds_anchor : {P : Type 0} (w w' : World P) (p : Name) (a : Act Page _) (saw : Option Page) (carried : Carried) (c : Option Page) (S : Type 0) → IsStage Stage.Busy (w.now.phase p) → HasSaid w.trail p carried.said → Each (IsGoes w p) carried.goes → w'.now.owner 0 ≡ Held p → w.status 0 ≡ Anchored → IfKnown c (w.now.contents 0) → S → Learns w w' (record { event = record { process = p; act = a }; saw = saw; said = None }) (record (carrying carried) { holds = anchor_known c ∷ []; sound = S })
holds_anchor w w' p a saw carried c S stage said may held anchored known s = record {
  stage = stage;
  said = HasSaid-silent w.trail (record { event = record { process = p; act = a }; saw = saw; said = None }) p carried.said refl said;
  holds = ((held, anchored, tt, known), tt);
  goes = may;
  children = tt;
  passed = tt;
  sound = s;
}

module _ {P : Type 0} (know : P → Know) (w : World P) (g : IsGood know w) (p : Name) (b : P) (carried : Carried) (level key : ℕ) where
  latch_turn : (got : ℕ → Page) (s : State Page) → know (w.proc p) ≡ know_growth carried level key got growth.Latching → know b ≡ know_growth carried level key got growth.Latched → w.now.owner 0 ≡ Owner.Open → Does w.now p (Latch 0) s → Turned know w p (Latch 0) s b
  latch_turn got s before then observed does =
      let is : IsSure w p (know_growth carried level key got growth.Latching) = rw before at (g.sure p) in
      latched know w g p b _ _ before then 0 s observed does refl (inl refl) (λ y h. absurd h)
      (holds_anchor w _ p (Latch 0) None carried None _ is.stage is.said is.goes does.changes.1.at g.tree.anchored tt is.sound)

  miss_turn : {what : Missed} (got : ℕ → Page) (s : State Page) → know (w.proc p) ≡ know_growth carried level key got growth.Latching → know b ≡ know_growth carried level key got growth.Latching → Does w.now p (Miss what) s → Turned know w p (Miss what) s b
  miss_turn {what} got s before then does =
      let is : IsSure w p (know_growth carried level key got growth.Latching) = rw before at (g.sure p) in
      watched know w g p b _ _ before then (Miss what) None None s tt tt does tt refl (λ y h. h) (λ it e. cc) (λ j. refl)
      (walks w _ p (Miss what) None carried.said carried.goes (key < unbounded) is.stage is.said is.goes is.sound)

  -- the anchor is got under its latch
  grown_turn : (got got' : ℕ → Page) (s : State Page) → know (w.proc p) ≡ know_growth carried level key got growth.Latched → know b ≡ know_growth carried level key got' growth.OpeningGrown → Does w.now p (Get 0) s → Turned know w p (Get 0) s b
  grown_turn got got' s before then does =
      let is : IsSure w p (know_growth carried level key got growth.Latched) = rw before at (g.sure p) in
      watched know w g p b _ _ before then (Get 0) (Some (w.now.contents 0)) None s tt (is.stage, anchor_not_released know w g) does refl refl (λ y h. h) (λ it e. cc) (λ j. refl)
      (holds_anchor w _ p (Get 0) (Some (w.now.contents 0)) carried None _ is.stage is.said is.goes (does.changes.1 0 ∙ is.holds.0.owner) is.holds.0.status tt is.sound)

  rise_turn : (got : ℕ → Page) (rise : Rise) (c : Page) (s : State Page) → know (w.proc p) ≡ know_growth carried level key got growth.Latched → know b ≡ know_growth carried level key (λ z. c) (growth.Taking rise) → c ≡ w.now.contents 0 → c ≡ Anchor rise.anchor → (roots_of c).levels ≡ level → Does w.now p (Get 0) s → Turned know w p (Get 0) s b
  rise_turn got rise c s before then observed is_anchor levels does =
      let is : IsSure w p (know_growth carried level key got growth.Latched) = rw before at (g.sure p) in
      let count : length rise.anchor.leftmost.items ≡ level = ap (λ z. (roots_of z).levels) (sym is_anchor) ∙ levels in
      watched know w g p b _ _ before then (Get 0) (Some (w.now.contents 0)) None s tt (is.stage, anchor_not_released know w g) does refl refl (λ y h. h) (λ it e. cc) (λ j. refl)
      (holds_anchor w _ p (Get 0) (Some (w.now.contents 0)) carried (Some (Anchor rise.anchor)) _ is.stage is.said is.goes (does.changes.1 0 ∙ is.holds.0.owner) is.holds.0.status (sym observed ∙ is_anchor)
      (is.sound, record { anchor = refl; levels = count; room = (let r = rise.room in omega (arith, count)) }, is_anchor))

  refuse_turn : {what : Missed} (got : ℕ → Page) (rise : Rise) (s : State Page) → know (w.proc p) ≡ know_growth carried level key got (growth.Taking rise) → know b ≡ know_growth carried level key got growth.OpeningRefused → Does w.now p (Miss what) s → Turned know w p (Miss what) s b
  refuse_turn {what} got rise s before then does =
      let is : IsSure w p (know_growth carried level key got (growth.Taking rise)) = rw before at (g.sure p) in
      watched know w g p b _ _ before then (Miss what) None None s tt tt does tt refl (λ y h. h) (λ it e. cc) (λ j. refl)
      (holds_anchor w _ p (Miss what) None carried None _ is.stage is.said is.goes (does.changes.1 0 ∙ is.holds.0.owner) is.holds.0.status tt tt)

  take_turn : (got : ℕ → Page) (rise : Rise) (y : ℕ) (r : Raising) (s : State Page) → know (w.proc p) ≡ know_growth carried level key got (growth.Taking rise) → know b ≡ know_growth carried level key got (growth.PuttingTop r) → w.now.owner y ≡ Released → y < w.size → (r.new ≡ y) → Raises rise.anchor.leftmost.items y r.top r.anchor → Does w.now p (Take y) s → Turned know w p (Take y) s b
  take_turn got rise y r s before then free within new raises does =
      let is : IsSure w p (know_growth carried level key got (growth.Taking rise)) = rw before at (g.sure p) in
      let m : Mark = silent p (Take y) in
      let next : World P = after w s m b (put_at y Fresh w.status) w.sep w.map in
      let status = is_put_at y Fresh w.status in
      let was : w.status y ≡ Free = g.owned.released y free in
      let n : 0 ≢ y = λ e. (let a : Anchored ≡ Free = sym g.tree.anchored ∙ (ap w.status e ∙ was) in cc) in
      let aside : Aside w next y = record { dead = rw was free_dead; owner = does.changes.1.others; contents = λ z i. does.changes.0 z; status = status.others; sep = λ z i. refl } in
      let known : got 0 ≡ Anchor rise.anchor = is.sound.2 in
      let still : IsHeld next p (anchor_known (Some (Anchor rise.anchor))) = aside_held w next p y (anchor_known (Some (Anchor rise.anchor))) aside n is.holds.0 in
      taken know w g p b _ _ before then y s free within does refl
      (inr (inl new)) (λ z h. elim h [ inl e ↦ inl e | inr e ↦ absurd e ])
      (record {
        stage = rw (does.changes.2 p) is.stage;
        said = HasSaid-silent w.trail m p carried.said refl is.said;
        holds = (
          record { owner = still.owner; status = still.status; sep = tt; page = still.page ∙ sym known },
          (record { owner = ap s.owner new ∙ does.changes.1.at; status = ap next.status new ∙ status.at; sep = tt; page = tt }, tt),
        );
        goes = goes_still w next p carried.goes (take_steady w next p y does free was status) is.goes;
        children = tt;
        passed = tt;
        sound = (is.sound.0, (rise.anchor.leftmost.items, rw known is.sound.1, rw new raises));
      })

  -- the new top page is put, which nobody names yet
  top_turn : (got : ℕ → Page) (r : Raising) (s : State Page) → know (w.proc p) ≡ know_growth carried level key got (growth.PuttingTop r) → know b ≡ know_growth carried level key got (growth.PuttingAnchor r) → Does w.now p (Put r.new r.top) s → Turned know w p (Put r.new r.top) s b
  top_turn got r s before then does =
      let is : IsSure w p (know_growth carried level key got (growth.PuttingTop r)) = rw before at (g.sure p) in
      let m : Mark = put_mark p r.new r.top None in
      let next : World P = after w s m b w.status (put_at r.new 0 w.sep) w.map in
      let fresh = is.holds.1.0 in
      let sep = is_put_at r.new 0 w.sep in
      let extends = Extends-after w s m b w.status (put_at r.new 0 w.sep) w.map (record { enabled = fresh.owner; changes = does.changes; on = does.on }) tt in
      let aside : Aside w next r.new = record { dead = rw fresh.status fresh_dead; owner = λ z n. does.changes.1 z; contents = does.changes.0.others; status = λ z n. refl; sep = sep.others } in
      let n : 0 ≢ r.new = λ e. (let a : Anchored ≡ Fresh = sym g.tree.anchored ∙ (ap w.status e ∙ fresh.status) in cc) in
      record {
        next = next;
        saw = None;
        said = None;
        extends = extends;
        now = refl;
        good = PutsFresh-keeps know w next p r.new 0 r.top b (record {
          owes = record {
            extends = extends;
            no_dead = not_gone know w g p b _ _ before then (λ e. cc, (λ e. cc, tt));
            places = λ y h. rw then (rw before at h);
            point = λ it e. cc;
            maps = λ j. refl;
            bounded = g.bounded;
            own = rw then (record {
              stage = rw (does.changes.2 p) is.stage;
              said = HasSaid-silent w.trail m p carried.said refl is.said;
              holds = (
                aside_held w next p r.new (anchor_known (Some (got 0))) aside n is.holds.0,
                (record { owner = does.changes.1 r.new ∙ fresh.owner; status = fresh.status; sep = sep.at; page = does.changes.0.at }, tt),
              );
              goes = goes_still w next p carried.goes (put_steady w next p r.new r.top does (λ y h. h) (λ h. was_fresh (w.status r.new) fresh.status h)) is.goes;
              children = tt;
              passed = tt;
              sound = is.sound;
            });
          };
          fresh = fresh.status;
          only = λ z o h. of_held know w g p b _ _ before then (λ y a. a ≡ Fresh → y ≡ r.new) (λ e. absurd (let c : Anchored ≡ Fresh = e in cc), (λ e. refl, tt)) z o h;
          no_middle = rw before refl;
          status = refl;
          sep = sep;
          map = refl;
        }) g;
      }

  -- then the anchor, which names it
  anchor_turn : (got : ℕ → Page) (r : Raising) (s : State Page) → know (w.proc p) ≡ know_growth carried level key got (growth.PuttingAnchor r) → know b ≡ know_growth carried level key got (growth.OpeningTop r.new) → Does w.now p (Put 0 r.anchor) s → Turned know w p (Put 0 r.anchor) s b
  anchor_turn got r s before then does =
      let is : IsSure w p (know_growth carried level key got (growth.PuttingAnchor r)) = rw before at (g.sure p) in
      let m : Mark = put_mark p 0 r.anchor None in
      let fresh = is.holds.1.0 in
      let held = is.holds.0 in
      let leftmost = is.sound.1.0 in
      let may = is.sound.1.1 in
      let raises = is.sound.1.2 in
      let old : w.now.contents 0 ≡ got 0 = held.page in
      let new : w.now.contents r.new ≡ r.top = fresh.page in
      let levels : (roots_of (w.now.contents 0)).levels ≡ level = ap (λ z. (roots_of z).levels) old ∙ (anchor_levels leftmost (got 0) may.anchor ∙ may.levels) in
      let pages : (roots_of (w.now.contents 0)).leftmost ≡ (λ l. get_or leftmost l 0) = ap (λ z. (roots_of z).leftmost) old ∙ anchor_leftmost leftmost (got 0) may.anchor in
      let says = top_says (length leftmost) (get_or leftmost (length leftmost - 1) 0) r.top raises.0 in
      let look = (nodes w.now r.new).look in
      let map = put_at level look w.map in
      let status = is_put_at r.new Live w.status in
      let n : 0 ≢ r.new = λ e. (let a : Anchored ≡ Fresh = sym g.tree.anchored ∙ (ap w.status e ∙ fresh.status) in cc) in
      let some = g.tree.some_level in
      let next : World P = after w s m b (put_at r.new Live w.status) w.sep map in
      let extends = Extends-after w s m b (put_at r.new Live w.status) w.sep map (record { enabled = held.owner; changes = does.changes; on = does.on }) tt in
      let rows : map 0 ≡ w.map 0 = (is_put_at level look w.map).others 0 (λ e. (let u = some in omega (arith, levels, e))) in
      let grown : (roots_of r.anchor).levels ≡ suc level = anchor_levels _ r.anchor raises.1 ∙ pushed_length leftmost r.new level may.levels in
      record {
        next = next;
        saw = None;
        said = None;
        extends = extends;
        now = refl;
        good = PutsTop-keeps know w next p r.new r.anchor b (record {
          owes = record {
            extends = extends;
            no_dead = not_gone know w g p b _ _ before then (λ e. cc, (λ e. cc, tt));
            places = λ y h. rw then (rw before at h);
            point = λ it e. cc;
            maps = λ k. ap (λ f. f k) rows;
            bounded = subst IsBounded (sym rows) g.bounded;
            own = rw then (record {
              stage = rw (does.changes.2 p) is.stage;
              said = HasSaid-silent w.trail m p carried.said refl is.said;
              holds = (
                record { owner = does.changes.1 0 ∙ held.owner; status = status.others 0 n ∙ held.status; sep = tt; page = tt },
                (record { owner = does.changes.1 r.new ∙ fresh.owner; status = status.at; sep = tt; page = tt }, tt),
              );
              goes = goes_still w next p carried.goes (put_steady w next p 0 r.anchor does (was_put r.new w.status next.status status) (λ h. was_anchored (w.status 0) g.tree.anchored h)) is.goes;
              children = tt;
              passed = tt;
              sound = (is.sound.0, n);
            });
          };
          fresh = fresh.status;
          held = fresh.owner;
          only = λ z o h. of_held know w g p b _ _ before then (λ y a. a ≡ Fresh → y ≡ r.new) (λ e. absurd (let c : Anchored ≡ Fresh = e in cc), (λ e. refl, tt)) z o h;
          room = let q = may.room in omega (arith, levels);
          level = ap (λ z. (node_of z).shape.level) new ∙ (says.level_is ∙ (may.levels ∙ sym levels));
          low = ap (λ z. (node_of z).shape.low) new ∙ says.low;
          end = ap (λ z. (node_of z).shape.end) new ∙ says.end;
          right = ap (λ z. (node_of z).shape.right) new ∙ says.right;
          y_sep = fresh.sep;
          none_uprooted = λ z o h. of_held know w g p b _ _ before then (λ y a. a ≢ Uprooted) (λ e. cc, (λ e. cc, tt)) z o h;
          first = λ l e. ap (λ z. (node_of z).look 0) new ∙ (says.first ∙ ap Some (ap (λ i. get_or leftmost i 0) (let c = may.levels in omega (arith, levels, e)) ∙ sym (ap (λ f. f l) pages)));
          others = λ k i. ap (λ z. (node_of z).look k) new ∙ says.others k i;
          levels = grown ∙ ap suc (sym levels);
          leftmost = names leftmost r.new level (roots_of (w.now.contents 0)).levels _ _ may.levels levels pages (anchor_leftmost _ r.anchor raises.1);
          no_middle = rw before refl;
          status = status;
          sep = refl;
          map = subst (λ l. IsAt l look w.map map) (sym levels) (is_put_at level look w.map);
        }) g;
      }
    where
      pushed_length : (xs : List ℕ) (y n : ℕ) → length xs ≡ n → length (xs ++ y ∷ []) ≡ suc n
      pushed_length xs y n e = count xs ∙ ap suc e
        where
          count : (xs : List ℕ) → length (xs ++ y ∷ []) ≡ suc (length xs)
          count [] = refl
          count (x ∷ xs) = ap suc (count xs)

      names : (xs : List ℕ) (y level levels : ℕ) (f f' : ℕ → ℕ) → length xs ≡ level → levels ≡ level → f ≡ (λ l. get_or xs l 0) → f' ≡ (λ l. get_or (xs ++ y ∷ []) l 0) → IsAt levels y f f'
      names xs y level levels f f' e d old new =
          let h = pushed_at xs y in
          record {
            at = ap (λ u. u levels) new ∙ (ap (λ l. get_or (xs ++ y ∷ []) l 0) (d ∙ sym e) ∙ h.at);
            others = λ l n. ap (λ u. u l) new ∙ (h.others l (λ i. n (i ∙ (e ∙ sym d))) ∙ sym (ap (λ u. u l) old));
          }

  open_top_turn : (got : ℕ → Page) (x : ℕ) (s : State Page) → know (w.proc p) ≡ know_growth carried level key got (growth.OpeningTop x) → know b ≡ know_growth carried level key got growth.OpeningGrown → Does w.now p (Act.Open x) s → Turned know w p (Act.Open x) s b
  open_top_turn got x s before then does =
      let is : IsSure w p (know_growth carried level key got (growth.OpeningTop x)) = rw before at (g.sure p) in
      opened know w g p b _ _ before then x s is.holds.1.0.owner does (inl is.holds.1.0.status) refl refl ((λ e. cc, λ e. cc), ((λ e. cc, λ e. cc), tt))
      (λ z i h. elim h [ inl e ↦ inl e | inr r ↦ elim r [ inl e ↦ absurd (i (sym e)) | inr u ↦ inr u ] ])
      (holds_anchor w _ p (Act.Open x) None carried None _ is.stage is.said is.goes (does.changes.1.others 0 is.sound.1 ∙ is.holds.0.owner) is.holds.0.status tt is.sound.0)

  -- the anchor is opened
  pub anchor_open_turn : (S S' : Type 0) (s : State Page) → know (w.proc p) ≡ record (carrying carried) { holds = anchor_known None ∷ []; sound = S } → know b ≡ record (carrying carried) { sound = S' } → (S → S') → Does w.now p (Act.Open 0) s → Turned know w p (Act.Open 0) s b
  anchor_open_turn S S' s before then on does =
      let is : IsSure w p (record (carrying carried) { holds = anchor_known None ∷ []; sound = S }) = rw before at (g.sure p) in
      opened know w g p b _ _ before then 0 s is.holds.0.owner does (inr is.holds.0.status) refl refl ((λ e. cc, λ e. cc), tt)
      (λ z i h. elim h [ inl e ↦ absurd (i (sym e)) | inr u ↦ absurd u ])
      (walks w _ p (Act.Open 0) None carried.said carried.goes S' is.stage is.said is.goes (on is.sound))

  -- every turn of a growth that does not end it
  pub growth_turn : {a a' : Growth} {what : Seen} → GrowthCase level a what (On a') → (got : ℕ → Page) (s : State Page) → know (w.proc p) ≡ know_growth carried level key got a → know b ≡ know_growth carried level key (post_got got (Growing a) what) a' → IsObserved w.now w.size (growth_next a) what → Does w.now p (event_of None (growth_next a) what) s → Turned know w p (event_of None (growth_next a) what) s b
  growth_turn (GrowthCase.LatchedAnchor h t) got s before then observed does = latch_turn got s before (subst (λ z. know b ≡ know_growth carried level key got z) t then) observed does
  growth_turn (GrowthCase.Missed h t) got s before then observed does = miss_turn got s before (subst (λ z. know b ≡ know_growth carried level key got z) t then) does
  growth_turn (GrowthCase.Rises c rise t) got s before then observed does = rise_turn got rise c s before then observed t.0 t.1 does
  growth_turn (GrowthCase.Stands c t) got s before then observed does = grown_turn got (λ z. c) s before then does
  growth_turn (GrowthCase.TookTop rise y r t) got s before then observed does = take_turn got rise y r s before then observed.0 observed.1 t.0 t.1 does
  growth_turn (GrowthCase.TopRefused rise h t) got s before then observed does = refuse_turn got rise s before (subst (λ z. know b ≡ know_growth carried level key got z) t then) does
  growth_turn (GrowthCase.PutTop r h t) got s before then observed does = top_turn got r s before (subst (λ z. know b ≡ know_growth carried level key got z) t then) does
  growth_turn (GrowthCase.PutAnchor r h t) got s before then observed does = anchor_turn got r s before (subst (λ z. know b ≡ know_growth carried level key got z) t then) does
  growth_turn (GrowthCase.OpenedTop x h t) got s before then observed does = open_top_turn got x s before (subst (λ z. know b ≡ know_growth carried level key got z) t then) does

  -- a growth is over when the anchor is open
  pub over_turn : {a : Growth} {what : Seen} → GrowthCase level a what Grown → (got : ℕ → Page) (s : State Page) → know (w.proc p) ≡ know_growth carried level key got a → know b ≡ know_approach carried level key Start → Does w.now p (event_of None (growth_next a) what) s → Turned know w p (event_of None (growth_next a) what) s b
  over_turn GrowthCase.OpenedGrown got s before then does = anchor_open_turn _ _ s before then (λ h. h) does

  pub no_room_turn : {a : Growth} {what : Seen} → GrowthCase level a what Refused → (got : ℕ → Page) (s : State Page) → know (w.proc p) ≡ know_growth carried level key got a → know b ≡ record (ending carried.said) { goes = carried.goes } → Does w.now p (event_of None (growth_next a) what) s → Turned know w p (event_of None (growth_next a) what) s b
  no_room_turn GrowthCase.OpenedRefused got s before then does = anchor_open_turn _ _ s before then (λ h. tt) does
