-- A process changes one pair of a page that it holds: each of its turns keeps a world good.
use Rattle.std.proofs.Common.{ℕ, ◌≡◌, ◌≢◌, ◌<◌, ◌≤◌, ◌++◌, true, false, Option, Some, None, List, [], ◌∷◌, length, arith, ap, sym, ◌∙◌, refl, subst, inl, inr}
use Rattle.std.proofs.lemmas.Bool.{cases_eq, false≢true}
use Rattle.bl_page.specs.declared.page.Page.{Page}
use Rattle.bl_page.specs.declared.machine.Missed.{Missed}
use Rattle.bl_page.specs.Machine.{Name, State, Act}
use Rattle.bl_page.specs.Machine.Owner.{Released}
use Rattle.bl_page.specs.Machine.Act.{Put, Take, Miss}
use Rattle.bl_rearrange.specs.declared.fitted.Fitted.TheVariants.{Split}
use Rattle.bl_rearrange.specs.Rearranged.{IsFitted}
use Rattle.bl_model.specs.Map.{Map}
use Rattle.bl_page.specs.Nodes.{unbounded, node_of}
use Rattle.bl_tree.specs.Trees.{Status, is_live, IsLive}
use Rattle.bl_tree.specs.Trees.Status.{Free, Fresh, Live}
use Rattle.bl_tree.specs.Moves.{IsMapRow, IsRow, IsCut}
use Rattle.bl_tree.proofs.Statuses.{live_live, free_dead, fresh_dead}
use Rattle.bl_claims.specs.Trails.{Said, Mark, HasSaid}
use Rattle.bl_tree_worlds.proofs.Pushes.{HasSaid-silent, SaysAt-last}
use Rattle.bl_tree_worlds.specs.Worlds.{Hold, Child, Know, World, nodes, MapsTo, IsHeld, IsRelied, IsSure, IsBounded, IsGood, silent, put_mark}
use Rattle.bl_tree_worlds.proofs.Frames.{Each-map}
use Rattle.bl_tree_worlds.proofs.After.{after, Extends-after, put_at, is_put_at}
use Rattle.bl_tree_worlds.proofs.Moves.{PutsFresh-keeps, PutsRow-keeps, PutsSplit-keeps}
use Rattle.bl_tree_worlds.proofs.Fitted.{split_cut}
use Rattle.bl_proc_steps.specs.declared.acts.Seen.{Seen}
use Rattle.bl_proc_steps.specs.declared.edit.Edited.TheVariants.{On, Over}
use Rattle.bl_proc_steps.specs.Edits.{edit_next}
use Rattle.bl_proc_invariant.specs.Turns.{event_of, IsObserved, Does, Turned}
use Rattle.bl_proc_steps.specs.declared.edit.Outcome.{Outcome}
use Rattle.bl_proc_steps.specs.declared.edit.Outcome.TheVariants as outcome
use Rattle.bl_proc_steps.specs.declared.edit.Full.{Full}
use Rattle.bl_proc_steps.specs.declared.edit.Splitting.{Splitting}
use Rattle.bl_proc_steps.specs.declared.edit.Edit.{Edit}
use Rattle.bl_proc_steps.specs.declared.edit.Edit.TheVariants.{Putting, Taking, PuttingNew, PuttingOld, OpeningNew, Opening}
use Rattle.bl_proc_invariant.specs.Tables.{carrying, holds_known, Aim, IsAim, IsDue, IsBelow, know_edit}
use Rattle.bl_proc_invariant.proofs.Acts.{of_held, not_gone, watched, opened, taken}
use Rattle.bl_proc_invariant.proofs.Holdings.{cut_low}
use Rattle.bl_proc_invariant.proofs.Going.{goes_still, put_steady, take_steady, was_put, was_fresh}
use Rattle.bl_proc_deterministic.proofs.WayCases.{EditCase}

-- one row of one level
abbrev pub row_at : ℕ → ℕ → Option ℕ → (ℕ → Map) → ℕ → Map
row_at level key word map = put_at level (put_at key word (map level)) map

pub is_row_at : (level key : ℕ) (word : Option ℕ) (map : ℕ → Map) → IsMapRow level key word map (row_at level key word map)
is_row_at level key word map =
    let whole = is_put_at level (put_at key word (map level)) map in
    let part = is_put_at key word (map level) in
    record {
      here = ap (λ f. f key) whole.at ∙ part.at;
      rest = λ j n. ap (λ f. f j) whole.at ∙ part.others j n;
      others = whole.others;
    }

-- a process that has said nothing says this at an event
pub says : {P : Type 0} (w : World P) (m : Mark) → HasSaid w.trail m.event.process None → HasSaid (w.trail ++ m ∷ []) m.event.process m.said
says w m none = by_said m.said refl
  where
    by_said : (said : Option Said) → m.said ≡ said → HasSaid (w.trail ++ m ∷ []) m.event.process said
    by_said None e = HasSaid-silent w.trail m m.event.process None e none
    by_said (Some it) e = (length w.trail, SaysAt-last w.trail m e)

-- who says something by a change has said nothing before
pub said_none : {P : Type 0} (w : World P) (p : Name) (aim : Aim) (o : Outcome) (it : Said) → IsAim aim → aim.says o ≡ Some it → HasSaid w.trail p aim.carried.said → HasSaid w.trail p None
said_none w p aim o it fine e h = elim (fine.once o) [
  | inl n ↦ absurd (let c : None ≡ Some it = sym n.0 ∙ e in cc)
  | inr n ↦ subst (HasSaid w.trail p) n.0 h
]

-- what it has said after it
pub said_after : {P : Type 0} (w : World P) (m : Mark) (aim : Aim) (o : Outcome) → IsAim aim → m.said ≡ aim.says o → HasSaid w.trail m.event.process aim.carried.said → HasSaid (w.trail ++ m ∷ []) m.event.process (aim.said o)
said_after w m aim o fine e h =
    let Has = HasSaid (w.trail ++ m ∷ []) m.event.process in
    elim (fine.once o) [
      | inl n ↦ subst Has (sym n.1) (HasSaid-silent w.trail m m.event.process aim.carried.said (e ∙ n.0) h)
      | inr n ↦ subst Has (sym n.1) (subst Has e (says w m (subst (HasSaid w.trail m.event.process) n.0 h)))
    ]

-- what a page that is not in the tree has to do with pages that are
pub record Aside {P : Type 0} (w w' : World P) (y : ℕ) : Type 0 where
  pub dead : is_live (w.status y) ≡ false
  pub owner : (z : ℕ) → z ≢ y → w'.now.owner z ≡ w.now.owner z
  pub contents : (z : ℕ) → z ≢ y → w'.now.contents z ≡ w.now.contents z
  pub status : (z : ℕ) → z ≢ y → w'.status z ≡ w.status z
  pub sep : (z : ℕ) → z ≢ y → w'.sep z ≡ w.sep z

pub live_aside : (a : Status) (x y : ℕ) (status : ℕ → Status) → IsLive (status x) → is_live (status y) ≡ false → x ≢ y
live_aside a x y status live dead e = false≢true (sym dead ∙ (ap (λ z. is_live (status z)) (sym e) ∙ live))

pub aside_held : {P : Type 0} (w w' : World P) (p : Name) (y : ℕ) (h : Hold) → Aside w w' y → h.at ≢ y → IsHeld w p h → IsHeld w' p h
aside_held w w' p y h a n is = record {
  owner = a.owner h.at n ∙ is.owner;
  status = a.status h.at n ∙ is.status;
  sep = rw (a.sep h.at n) is.sep;
  page = rw (a.contents h.at n) is.page;
}

pub aside_relied : {P : Type 0} (w w' : World P) (p : Name) (y : ℕ) (c : Child) → Aside w w' y → IsRelied w p c → IsRelied w' p c
aside_relied w w' p y c a is =
    let n : c.parent ≢ y = live_aside Live c.parent y w.status (rw is.status live_live) a.dead in
    let i : c.at ≢ y = live_aside Live c.at y w.status is.alive a.dead in
    record {
      owner = a.owner c.parent n ∙ is.owner;
      status = a.status c.parent n ∙ is.status;
      covers = rw (a.contents c.parent n) is.covers;
      level = rw (a.contents c.parent n, a.contents c.at i) is.level;
      alive = rw (a.status c.at i) is.alive;
      sep = a.sep c.at i ∙ is.sep;
    }

-- what a page that lists a pair more or less says to the map
pub row_maps : {P : Type 0} (know : P → Know) (w : World P) (aim : Aim) (o : Outcome) (x : ℕ) → IsGood know w → IsAim aim → o ≢ outcome.Refused → w.status x ≡ Live → IsDue aim (w.now.contents x) → MapsTo (w.map 0) (row_at aim.level aim.key aim.word w.map 0) (aim.says o)
row_maps know w aim o x g fine n live due =
    let row = is_row_at aim.level aim.key aim.word w.map in
    let before : w.map aim.level aim.key ≡ aim.was =
    (let e = g.tree.agree x aim.key (rw live live_live) due.covers in let l = due.level in sym (rw l at e) ∙ due.was) in
    fine.changed o n (w.map 0) (row_at aim.level aim.key aim.word w.map 0)
    (λ zero. (rw zero at before, subst (λ l. row_at aim.level aim.key aim.word w.map l aim.key ≡ aim.word) zero row.here))
    (λ above. ap (λ f. f aim.key) (row.others 0 (λ e. above (sym e))))
    (λ j i. elim (cases_eq aim.level 0) [
      | inl zero ↦ subst (λ l. row_at aim.level aim.key aim.word w.map l j ≡ w.map l j) zero (row.rest j i)
      | inr above ↦ ap (λ f. f j) (row.others 0 (λ e. above (sym e)))
    ])

-- the key of a pair that a page lists is one that the page covers
row_bounded : {P : Type 0} (know : P → Know) (w : World P) (aim : Aim) (x : ℕ) → IsGood know w → w.status x ≡ Live → IsDue aim (w.now.contents x) → IsBounded (row_at aim.level aim.key aim.word w.map 0)
row_bounded know w aim x g live due k v h =
    let row = is_row_at aim.level aim.key aim.word w.map in
    let end = g.tree.side.within x (rw live live_live) in
    elim (cases_eq k aim.key) [
      | inl same ↦ (let covers = due.covers in omega arith)
      | inr other ↦ elim (cases_eq aim.level 0) [
        | inl zero ↦ g.bounded k v (sym (subst (λ l. row_at aim.level aim.key aim.word w.map l k ≡ w.map l k) zero (row.rest k other)) ∙ h)
        | inr above ↦ g.bounded k v (sym (ap (λ f. f k) (row.others 0 (λ e. above (sym e)))) ∙ h)
      ]
    ]

pub refused_maps : {P : Type 0} (know : P → Know) (w : World P) (aim : Aim) (x : ℕ) → IsGood know w → IsAim aim → w.status x ≡ Live → IsDue aim (w.now.contents x) → MapsTo (w.map 0) (w.map 0) (aim.says outcome.Refused)
refused_maps know w aim x g fine live due =
    let before : w.map aim.level aim.key ≡ aim.was =
    (let e = g.tree.agree x aim.key (rw live live_live) due.covers in let l = due.level in sym (rw l at e) ∙ due.was) in
    fine.refused (w.map 0) due.changes (λ zero. rw zero at before)

module _ {P : Type 0} (know : P → Know) (w : World P) (g : IsGood know w) (p : Name) (b : P) (aim : Aim) (fine : IsAim aim) (got : ℕ → Page) where
  -- the page is put, with the pair
  pub row_turn : (x : ℕ) (page : Page) (s : State Page) → know (w.proc p) ≡ know_edit aim got (Putting x page) → know b ≡ know_edit aim got (Opening x outcome.Edited) → Does w.now p (Put x page) s → Turned know w p (Put x page) s b
  row_turn x page s before then does =
      let is : IsSure w p (know_edit aim got (Putting x page)) = rw before at (g.sure p) in
      let m : Mark = put_mark p x page (aim.says outcome.Edited) in
      let next : World P = after w s m b w.status w.sep (row_at aim.level aim.key aim.word w.map) in
      let held = is.holds.0 in
      let extends = Extends-after w s m b w.status w.sep (row_at aim.level aim.key aim.word w.map) (record { enabled = held.owner; changes = does.changes; on = does.on }) tt in
      let same : w.now.contents x ≡ got x = held.page in
      let due : IsDue aim (w.now.contents x) = rw (← same) at is.sound.0 in
      let row : IsRow aim.key aim.word (nodes w.now x) (node_of page) = rw (← same) at is.sound.1 in
      record {
        next = next;
        saw = None;
        said = aim.says outcome.Edited;
        extends = extends;
        now = refl;
        good = PutsRow-keeps know w next p x aim.key aim.word page (aim.says outcome.Edited) b (record {
          owes = record {
            extends = extends;
            no_dead = not_gone know w g p b _ _ before then (λ e. cc, tt);
            places = λ y h. rw then (rw before at h);
            point = λ it e. (is.stage, said_none w p aim outcome.Edited it fine e is.said);
            maps = row_maps know w aim outcome.Edited x g fine (λ e. cc) held.status due;
            bounded = row_bounded know w aim x g held.status due;
            own = rw then (record {
              stage = rw (does.changes.2 p) is.stage;
              said = said_after w m aim outcome.Edited fine refl is.said;
              holds = (record { owner = does.changes.1 x ∙ held.owner; status = held.status; sep = tt; page = tt }, tt);
              goes = goes_still w next p aim.carried.goes (put_steady w next p x page does (λ y h. h) (λ h. ap (λ n. n.level) row.shape)) is.goes;
              children = tt;
              passed = tt;
              sound = (due.changes, tt);
            });
          };
          live = held.status;
          row = row;
          child = rw due.level (fine.lists w p x due.level is.children);
          none_fresh = λ z o. of_held know w g p b _ _ before then (λ y a. a ≢ Fresh) (λ e. cc, tt) z o;
          middle = rw (before, then) refl;
          status = refl;
          sep = refl;
          map = subst (λ l. IsMapRow l aim.key aim.word w.map (row_at aim.level aim.key aim.word w.map)) (sym due.level) (is_row_at aim.level aim.key aim.word w.map);
        }) g;
      }

  -- there is no room, and the page stays as it is
  pub refuse_turn : {what : Missed} (x : ℕ) (c : Page) (kids : List Child) (S : Type 0) (s : State Page) → know (w.proc p) ≡ record (carrying aim.carried) { holds = holds_known x c ∷ []; children = kids; sound = S } → know b ≡ know_edit aim got (Opening x outcome.Refused) → IsDue aim c → Does w.now p (Miss what) s → Turned know w p (Miss what) s b
  refuse_turn {what} x c kids S s before then due does =
      let is : IsSure w p (record (carrying aim.carried) { holds = holds_known x c ∷ []; children = kids; sound = S }) = rw before at (g.sure p) in
      let held = is.holds.0 in
      let m : Mark = record { event = record { process = p; act = Miss what }; saw = None; said = aim.says outcome.Refused } in
      let here : IsDue aim (w.now.contents x) = rw (← held.page) at due in
      watched know w g p b _ _ before then (Miss what) None (aim.says outcome.Refused) s tt tt does tt refl (λ y h. h) (λ it e. (is.stage, said_none w p aim outcome.Refused it fine e is.said))
      (refused_maps know w aim x g fine held.status here)
      (record {
        stage = is.stage;
        said = said_after w m aim outcome.Refused fine refl is.said;
        holds = ((does.changes.1 x ∙ held.owner, held.status, tt, tt), tt);
        goes = is.goes;
        children = tt;
        passed = tt;
        sound = (due.changes, tt);
      })

  -- a page is taken for the upper half
  pub take_turn : (full : Full) (y : ℕ) (t : Splitting) (s : State Page) → know (w.proc p) ≡ know_edit aim got (Taking full) → know b ≡ know_edit aim got (PuttingNew t) → w.now.owner y ≡ Released → y < w.size → (t.at ≡ full.at) → (t.new ≡ y) → IsFitted full.page full.key full.word y (Split t.left t.right t.separator) → Does w.now p (Take y) s → Turned know w p (Take y) s b
  take_turn full y t s before then free within at new fitted does =
      let is : IsSure w p (know_edit aim got (Taking full)) = rw before at (g.sure p) in
      let m : Mark = silent p (Take y) in
      let next : World P = after w s m b (put_at y Fresh w.status) w.sep w.map in
      let held = is.holds.0 in
      let status = is_put_at y Fresh w.status in
      let was : w.status y ≡ Free = g.owned.released y free in
      let aside : Aside w next y = record { dead = rw was free_dead; owner = does.changes.1.others; contents = λ z n. does.changes.0 z; status = status.others; sep = λ z n. refl } in
      let n : full.at ≢ y = live_aside Live full.at y w.status (rw held.status live_live) aside.dead in
      let due : IsDue aim full.page = is.sound.0 in
      let key : full.key ≡ aim.key = is.sound.1 in
      let word : Some full.word ≡ aim.word = is.sound.2 in
      let known : got full.at ≡ full.page = is.sound.3 in
      let cut : IsCut y full.key (Some full.word) (node_of full.page) (node_of t.left) (node_of t.right) =
      split_cut full.page t.left t.right full.key full.word y t.separator fitted (rw key due.covers) in
      let cut_here : IsCut y aim.key aim.word (node_of (got full.at)) (node_of t.left) (node_of t.right) = rw known (rw (key, word) at cut) in
      let low : (node_of t.right).shape.low ≡ t.separator = cut_low full.page t.left t.right full.key full.word y t.separator fitted in
      let end : (node_of full.page).shape.end ≤ unbounded = subst (λ v. (node_of v).shape.end ≤ unbounded) held.page (g.tree.side.within full.at (rw held.status live_live)) in
      let below : t.separator < unbounded = (let c = cut.below in omega (arith, low, end)) in
      let still : IsHeld next p (holds_known full.at full.page) = aside_held w next p y (holds_known full.at full.page) aside n held in
      taken know w g p b _ _ before then y s free within does refl
      (inr (inl new)) (λ z h. elim h [ inl e ↦ inl (at ∙ e) | inr e ↦ absurd e ])
      (record {
        stage = rw (does.changes.2 p) is.stage;
        said = HasSaid-silent w.trail m p aim.carried.said refl is.said;
        holds = (
          record { owner = ap s.owner at ∙ still.owner; status = ap next.status at ∙ still.status; sep = tt; page = ap s.contents at ∙ (still.page ∙ (sym known ∙ ap got (sym at))) },
          (record { owner = ap s.owner new ∙ does.changes.1.at; status = ap next.status new ∙ status.at; sep = tt; page = tt }, tt),
        );
        goes = goes_still w next p aim.carried.goes (take_steady w next p y does free was status) is.goes;
        children = rw at (Each-map (IsRelied w p) (IsRelied next p) (aim.children full.at) (λ c r. aside_relied w next p y c aside r) is.children);
        passed = tt;
        sound = (rw (at, known) due, rw (at, new) cut_here, (is.sound.4, below));
      })

  -- the upper half is put first, in the page that nobody names yet
  pub fresh_turn : (t : Splitting) (s : State Page) → know (w.proc p) ≡ know_edit aim got (PuttingNew t) → know b ≡ know_edit aim got (PuttingOld t) → Does w.now p (Put t.new t.right) s → Turned know w p (Put t.new t.right) s b
  fresh_turn t s before then does =
      let is : IsSure w p (know_edit aim got (PuttingNew t)) = rw before at (g.sure p) in
      let m : Mark = put_mark p t.new t.right None in
      let low = (node_of t.right).shape.low in
      let next : World P = after w s m b w.status (put_at t.new low w.sep) w.map in
      let held = is.holds.0 in
      let fresh = is.holds.1.0 in
      let sep = is_put_at t.new low w.sep in
      let extends = Extends-after w s m b w.status (put_at t.new low w.sep) w.map (record { enabled = fresh.owner; changes = does.changes; on = does.on }) tt in
      let aside : Aside w next t.new = record { dead = rw fresh.status fresh_dead; owner = λ z n. does.changes.1 z; contents = does.changes.0.others; status = λ z n. refl; sep = sep.others } in
      let n : t.at ≢ t.new = live_aside Live t.at t.new w.status (rw held.status live_live) aside.dead in
      record {
        next = next;
        saw = None;
        said = None;
        extends = extends;
        now = refl;
        good = PutsFresh-keeps know w next p t.new low t.right b (record {
          owes = record {
            extends = extends;
            no_dead = not_gone know w g p b _ _ before then (λ e. cc, (λ e. cc, tt));
            places = λ y h. rw then (rw before at h);
            point = λ it e. cc;
            maps = λ j. refl;
            bounded = g.bounded;
            own = rw then (record {
              stage = rw (does.changes.2 p) is.stage;
              said = HasSaid-silent w.trail m p aim.carried.said refl is.said;
              holds = (
                aside_held w next p t.new (holds_known t.at (got t.at)) aside n held,
                (record { owner = does.changes.1 t.new ∙ fresh.owner; status = fresh.status; sep = sep.at; page = does.changes.0.at }, tt),
              );
              goes = goes_still w next p aim.carried.goes (put_steady w next p t.new t.right does (λ y h. h) (λ h. was_fresh (w.status t.new) fresh.status h)) is.goes;
              children = Each-map (IsRelied w p) (IsRelied next p) (aim.children t.at) (λ c r. aside_relied w next p t.new c aside r) is.children;
              passed = tt;
              sound = is.sound;
            });
          };
          fresh = fresh.status;
          only = λ z o h. of_held know w g p b _ _ before then (λ y a. a ≡ Fresh → y ≡ t.new) (λ e. absurd (let c : Live ≡ Fresh = e in cc), (λ e. refl, tt)) z o h;
          no_middle = rw before refl;
          status = refl;
          sep = sep;
          map = refl;
        }) g;
      }

  -- then the lower half in the old page, which names the new one
  pub split_turn : (t : Splitting) (s : State Page) → know (w.proc p) ≡ know_edit aim got (PuttingOld t) → know b ≡ know_edit aim got (OpeningNew t.at t.new t.separator) → Does w.now p (Put t.at t.left) s → Turned know w p (Put t.at t.left) s b
  split_turn t s before then does =
      let is : IsSure w p (know_edit aim got (PuttingOld t)) = rw before at (g.sure p) in
      let said = aim.says (outcome.SplitAt t.separator) in
      let m : Mark = put_mark p t.at t.left said in
      let map = row_at aim.level aim.key aim.word w.map in
      let next : World P = after w s m b (put_at t.new Live w.status) w.sep map in
      let held = is.holds.0 in
      let fresh = is.holds.1.0 in
      let status = is_put_at t.new Live w.status in
      let n : t.at ≢ t.new = live_aside Live t.at t.new w.status (rw held.status live_live) (rw fresh.status fresh_dead) in
      let extends = Extends-after w s m b (put_at t.new Live w.status) w.sep map (record { enabled = held.owner; changes = does.changes; on = does.on }) tt in
      let old : w.now.contents t.at ≡ got t.at = held.page in
      let right : w.now.contents t.new ≡ t.right = fresh.page in
      let due : IsDue aim (w.now.contents t.at) = rw (← old) at is.sound.0 in
      let cut : IsCut t.new aim.key aim.word (nodes w.now t.at) (node_of t.left) (nodes w.now t.new) = rw (old, right) is.sound.1 in
      record {
        next = next;
        saw = None;
        said = said;
        extends = extends;
        now = refl;
        good = PutsSplit-keeps know w next p t.at t.new aim.key aim.word t.left said b (record {
          owes = record {
            extends = extends;
            no_dead = not_gone know w g p b _ _ before then (λ e. cc, (λ e. cc, tt));
            places = λ y h. rw then (rw before at h);
            point = λ it e. (is.stage, said_none w p aim (outcome.SplitAt t.separator) it fine e is.said);
            maps = row_maps know w aim (outcome.SplitAt t.separator) t.at g fine (λ e. cc) held.status due;
            bounded = row_bounded know w aim t.at g held.status due;
            own = rw then (record {
              stage = rw (does.changes.2 p) is.stage;
              said = said_after w m aim (outcome.SplitAt t.separator) fine refl is.said;
              holds = (
                record { owner = does.changes.1 t.at ∙ held.owner; status = status.others t.at n ∙ held.status; sep = tt; page = tt },
                (record { owner = does.changes.1 t.new ∙ fresh.owner; status = status.at; sep = tt; page = tt }, tt),
              );
              goes = goes_still w next p aim.carried.goes (put_steady w next p t.at t.left does (was_put t.new w.status next.status status) (λ h. cut.level)) is.goes;
              children = tt;
              passed = tt;
              sound = (n, due.changes, is.sound.2);
            });
          };
          live = held.status;
          fresh = fresh.status;
          held = fresh.owner;
          only = λ z o h. of_held know w g p b _ _ before then (λ y a. a ≡ Fresh → y ≡ t.new) (λ e. absurd (let c : Live ≡ Fresh = e in cc), (λ e. refl, tt)) z o h;
          cut = cut;
          y_sep = fresh.sep ∙ ap (λ c. (node_of c).shape.low) (sym right);
          child = rw due.level (fine.lists w p t.at due.level is.children);
          no_middle = rw before refl;
          status = status;
          sep = refl;
          map = subst (λ l. IsMapRow l aim.key aim.word w.map map) (sym due.level) (is_row_at aim.level aim.key aim.word w.map);
        }) g;
      }

  -- the new page is opened
  pub open_new_turn : (x y separator : ℕ) (s : State Page) → know (w.proc p) ≡ know_edit aim got (OpeningNew x y separator) → know b ≡ know_edit aim got (Opening x (outcome.SplitAt separator)) → Does w.now p (Act.Open y) s → Turned know w p (Act.Open y) s b
  open_new_turn x y separator s before then does =
      let is : IsSure w p (know_edit aim got (OpeningNew x y separator)) = rw before at (g.sure p) in
      opened know w g p b _ _ before then y s is.holds.1.0.owner does (inl is.holds.1.0.status) refl refl ((λ e. cc, λ e. cc), ((λ e. cc, λ e. cc), tt))
      (λ z i h. elim h [ inl e ↦ inl e | inr r ↦ elim r [ inl e ↦ absurd (i (sym e)) | inr u ↦ inr u ] ])
      (record {
        stage = is.stage;
        said = HasSaid-silent w.trail (silent p (Act.Open y)) p (aim.said (outcome.SplitAt separator)) refl is.said;
        holds = ((does.changes.1.others x is.sound.0 ∙ is.holds.0.owner, is.holds.0.status, tt, tt), tt);
        goes = is.goes;
        children = tt;
        passed = tt;
        sound = (is.sound.1, is.sound.2);
      })

  -- the old page is opened, and the change is over
  pub over_turn : (x : ℕ) (o : Outcome) (S : Type 0) (s : State Page) → know (w.proc p) ≡ know_edit aim got (Opening x o) → know b ≡ record (carrying aim.carried) { said = aim.said o; sound = S } → ((aim.changes ≡ true) × IsBelow aim o → S) → Does w.now p (Act.Open x) s → Turned know w p (Act.Open x) s b
  over_turn x o S s before then on does =
      let is : IsSure w p (know_edit aim got (Opening x o)) = rw before at (g.sure p) in
      opened know w g p b _ _ before then x s is.holds.0.owner does (inl is.holds.0.status) refl refl ((λ e. cc, λ e. cc), tt)
      (λ z i h. elim h [ inl e ↦ absurd (i (sym e)) | inr u ↦ absurd u ])
      (record {
        stage = is.stage;
        said = HasSaid-silent w.trail (silent p (Act.Open x)) p (aim.said o) refl is.said;
        holds = tt;
        goes = is.goes;
        children = tt;
        passed = tt;
        sound = on is.sound;
      })

  -- every turn of a change that does not end it
  pub edit_turn : {c d : Edit} {what : Seen} → EditCase c what (On d) → (s : State Page) → know (w.proc p) ≡ know_edit aim got c → know b ≡ know_edit aim got d → IsObserved w.now w.size (edit_next c) what → Does w.now p (event_of None (edit_next c) what) s → Turned know w p (event_of None (edit_next c) what) s b
  edit_turn (EditCase.Put x page d t) s before then observed does = row_turn x page s before (subst (λ e. know b ≡ know_edit aim got e) t then) does
  edit_turn (EditCase.PutRefused x page d t) s before then observed does =
      let is : IsSure w p (know_edit aim got (Putting x page)) = rw before at (g.sure p) in
      refuse_turn x (got x) (aim.children x) _ s before (subst (λ e. know b ≡ know_edit aim got e) t then) is.sound.0 does
  edit_turn (EditCase.Took full y u t) s before then observed does = take_turn full y u s before then observed.0 observed.1 t.0 t.1 t.2 does
  edit_turn (EditCase.TakeRefused full d t) s before then observed does =
      let is : IsSure w p (know_edit aim got (Taking full)) = rw before at (g.sure p) in
      refuse_turn full.at full.page (aim.children full.at) _ s before (subst (λ e. know b ≡ know_edit aim got e) t then) is.sound.0 does
  edit_turn (EditCase.PutNew u d t) s before then observed does = fresh_turn u s before (subst (λ e. know b ≡ know_edit aim got e) t then) does
  edit_turn (EditCase.PutOld u d t) s before then observed does = split_turn u s before (subst (λ e. know b ≡ know_edit aim got e) t then) does
  edit_turn (EditCase.OpenedNew x y separator d t) s before then observed does = open_new_turn x y separator s before (subst (λ e. know b ≡ know_edit aim got e) t then) does

  -- every turn that ends a change
  pub finish_turn : {c : Edit} {o : Outcome} {what : Seen} → EditCase c what (Over o) → (S : Type 0) (s : State Page) → know (w.proc p) ≡ know_edit aim got c → know b ≡ record (carrying aim.carried) { said = aim.said o; sound = S } → ((aim.changes ≡ true) × IsBelow aim o → S) → Does w.now p (event_of None (edit_next c) what) s → Turned know w p (event_of None (edit_next c) what) s b
  finish_turn (EditCase.Opened x u o t) S s before then on does =
      over_turn x u S s before (subst (λ z. know b ≡ record (carrying aim.carried) { said = aim.said z; sound = S }) t then) (λ h. on (h.0, subst (IsBelow aim) (sym t) h.1)) does
