-- A writer on its way to the page of its level that covers its key: each of its turns keeps a world good.
use Rattle.std.proofs.Common.{ℕ, ◌≡◌, ◌≢◌, ◌⊎◌, ◌≤◌, ◌<◌, ◌-◌, Option, Some, None, List, [], ◌∷◌, arith, sym, ◌∙◌, refl, subst, inl, inr}
use Rattle.bl_page.specs.declared.page.Page.{Page}
use Rattle.bl_page.specs.declared.page.Page.TheVariants.{Dead}
use Rattle.bl_page.specs.declared.machine.Missed.{Missed}
use Rattle.bl_page.specs.Machine.{Name, Owner, State, Act}
use Rattle.bl_page.specs.Machine.Owner.{Held}
use Rattle.bl_page.specs.Machine.Act.{Get, Latch, Miss}
use Rattle.bl_page.specs.Nodes.{unbounded, node_of, roots_of, IsTreePage}
use Rattle.bl_tree.specs.Trees.Status.{Live}
use Rattle.bl_claims.specs.Trails.{Said, HasSaid}
use Rattle.bl_tree_worlds.proofs.Pushes.{HasSaid-silent}
use Rattle.bl_tree_worlds.specs.Worlds.{Goes, Stage, Know, World, nodes, IsStage, MayGet, IsGoes, IsSure, IsGood}
use Rattle.bl_claims.specs.Walks.{Each}
use Rattle.bl_tree_worlds.proofs.Watches.{Learns}
use Rattle.bl_tree_worlds.proofs.Descents.{goes_leftmost, goes_on, goes_right, goes_down, not_released, anchor_not_released, open_live}
use Rattle.bl_proc_steps.specs.declared.acts.Seen.{Seen}
use Rattle.bl_proc_steps.specs.declared.acts.Seen.TheVariants as seen
use Rattle.bl_proc_routes.specs.declared.routes.Step.{Step}
use Rattle.bl_proc_routes.specs.declared.routes.Step.TheVariants.{Again, Right, Down, Here}
use Rattle.bl_proc_steps.specs.declared.approach.Approach.{Approach}
use Rattle.bl_proc_steps.specs.declared.approach.Approach.TheVariants.{Start, At, Latching, Latched, Leaving}
use Rattle.bl_proc_steps.specs.declared.approach.Approached.TheVariants as came
use Rattle.bl_proc_routes.specs.Routes.{IsDead, Leads}
use Rattle.bl_proc_steps.specs.Approaches.{approach_next, Enters, Turns, Quits, Approaches}
use Rattle.bl_proc_invariant.specs.Turns.{event_of, IsObserved, Does, Turned}
use Rattle.bl_proc_invariant.specs.Tables.{idle, Carried, carrying, holds_live, goes_to, know_approach}
use Rattle.bl_proc_invariant.specs.Knowing.{ending}
use Rattle.bl_proc_invariant.proofs.Acts.{watched, latched, opened}

pub dead_end : (c : Page) → IsDead c → (node_of c).shape.end ≡ 0
dead_end (Dead d) h = refl
dead_end old h = absurd h

-- A process that holds no page, or one, and may go to some.
pub walks : {P : Type 0} (w w' : World P) (p : Name) (a : Act Page _) (saw : Option Page) (it : Option Said) (goes : List Goes) (S : Type 0) → IsStage Stage.Busy (w.now.phase p) → HasSaid w.trail p it → Each (IsGoes w p) goes → S → Learns w w' (record { event = record { process = p; act = a }; saw = saw; said = None }) (record (idle Stage.Busy) { said = it; goes = goes; sound = S })
walks w w' p a saw it goes S stage said may s = record {
  stage = stage;
  said = HasSaid-silent w.trail (record { event = record { process = p; act = a }; saw = saw; said = None }) p it refl said;
  holds = tt;
  goes = may;
  children = tt;
  passed = tt;
  sound = s;
}

pub walks_held : {P : Type 0} (w w' : World P) (p : Name) (a : Act Page _) (saw : Option Page) (it : Option Said) (x : ℕ) (goes : List Goes) (S : Type 0) → IsStage Stage.Busy (w.now.phase p) → HasSaid w.trail p it → w'.now.owner x ≡ Held p → w.status x ≡ Live → Each (IsGoes w p) goes → S → Learns w w' (record { event = record { process = p; act = a }; saw = saw; said = None }) (record (idle Stage.Busy) { said = it; holds = holds_live x ∷ []; goes = goes; sound = S })
walks_held w w' p a saw it x goes S stage said held live may s = record {
  stage = stage;
  said = HasSaid-silent w.trail (record { event = record { process = p; act = a }; saw = saw; said = None }) p it refl said;
  holds = ((held, live, tt, tt), tt);
  goes = may;
  children = tt;
  passed = tt;
  sound = s;
}

module _ {P : Type 0} (know : P → Know) (w : World P) (g : IsGood know w) (p : Name) where
  -- where a page leads, by its own level
  pub to_right : (x key : ℕ) → MayGet w p x → (IsDead (w.now.contents x) × ((nodes w.now x).shape.right ≢ 0)) ⊎ (IsTreePage (w.now.contents x) × ((nodes w.now x).shape.end ≤ key)) → key < unbounded → IsGoes w p (goes_to (nodes w.now x).shape.right (nodes w.now x).shape.level (nodes w.now x).shape.level)
  to_right x key may h below =
      let here : IsGoes w p (goes_to x (nodes w.now x).shape.level (nodes w.now x).shape.level) = record { may = may; least = omega arith; most = omega arith } in
      elim h [
        | inl d ↦ goes_on know w g p x _ _ here (dead_end (w.now.contents x) d.0) d.1
        | inr t ↦ goes_right know w g p x _ _ key here t.0 t.1 below
      ]

  pub wider : (x least most lower upper : ℕ) → lower ≤ least → most ≤ upper → IsGoes w p (goes_to x least most) → IsGoes w p (goes_to x lower upper)
  wider x least most lower upper l u h = record { may = h.may; least = let e = h.least in omega arith; most = let e = h.most in omega arith }

  -- from a page that is got without a latch
  pub turns_goes : (level key x z : ℕ) (o : Step) → IsGoes w p (goes_to x level 12) → key < unbounded → Leads (w.now.contents x) key level o → (Turns level x (w.now.contents x) o (At z) → IsGoes w p (goes_to z level 12)) × (Turns level x (w.now.contents x) o (Latching z) → IsGoes w p (goes_to z level level))
  turns_goes level key x z Again h below l = (λ t. absurd t, λ t. absurd t)
  turns_goes level key x z (Right y) h below l =
      let to = to_right x key h.may l.1 below in (
        λ t. let same : z ≡ (nodes w.now x).shape.right = t.0 ∙ l.0 in rw same (wider _ _ _ level 12 h.least h.most to),
        λ t. let same : z ≡ (nodes w.now x).shape.right = t.0 ∙ l.0 in rw same (wider _ _ _ level level h.least (omega (arith, t.1)) to),
      )
  turns_goes level key x z (Down y) h below l =
      let to = goes_down know w g p x ((nodes w.now x).shape.level - 1) key y h.may l.0 (let u = l.2 in omega arith) l.3 in
      let u = l.2 in
      let m = h.most in (
        λ t. rw t.0 (wider _ _ _ level 12 (omega arith) (omega arith) to),
        λ t. rw t.0 (wider _ _ _ level level (omega arith) (omega (arith, t.1)) to),
      )
  turns_goes level key x z Here h below l = (
    λ t. absurd t,
    λ t. rw t (record { may = h.may; least = omega (arith, l.2); most = omega (arith, l.2) }),
  )

  -- from the anchor
  pub enters_goes : (level x : ℕ) → IsStage Stage.Busy (w.now.phase p) → (Enters level (roots_of (w.now.contents 0)) (At x) → IsGoes w p (goes_to x level 12)) × (Enters level (roots_of (w.now.contents 0)) (Latching x) → IsGoes w p (goes_to x level level))
  enters_goes level x stage =
      let few = g.tree.few_levels in
      let top = (roots_of (w.now.contents 0)).levels - 1 in (
        λ e. rw e.1 (wider _ top top level 12 (let u = e.0 in omega arith) (omega arith) (goes_leftmost know w g p stage.0 top stage.1 (let u = e.0 in omega arith))),
        λ e. rw e.1 (goes_leftmost know w g p stage.0 level stage.1 (let u = e.0 in omega arith)),
      )

  module _ (b : P) (carried : Carried) (level key : ℕ) where
    -- after a get without a latch
    pub got_goes : (k : Know) (x : ℕ) (s : State Page) (gs : List Goes) → know (w.proc p) ≡ k → k.holds ≡ [] → k.middle ≡ None → know b ≡ record (carrying carried) { goes = gs; sound = key < unbounded } → IsStage Stage.Busy (w.now.phase p) → HasSaid w.trail p carried.said → w.now.owner x ≢ Owner.Released → Does w.now p (Get x) s → key < unbounded → Each (IsGoes w p) gs → Turned know w p (Get x) s b
    got_goes k x s gs before none mid then stage said there does below may =
        watched know w g p b k (record (carrying carried) { goes = gs; sound = key < unbounded }) before then (Get x) (Some (w.now.contents x)) None s tt (stage, there) does refl (sym mid)
        (λ y h. absurd (rw none at h)) (λ it e. cc) (λ j. refl)
        (walks w _ p (Get x) (Some (w.now.contents x)) carried.said gs (key < unbounded) stage said may below)

    pub start_turn : (a : Approach) (c : Page) (s : State Page) → know (w.proc p) ≡ know_approach carried level key Start → know b ≡ know_approach carried level key a → c ≡ w.now.contents 0 → Enters level (roots_of c) a → Does w.now p (Get 0) s → Turned know w p (Get 0) s b
    start_turn Start c s before then observed e does =
        let sure : IsSure w p (know_approach carried level key Start) = rw before at (g.sure p) in
        got_goes _ 0 s carried.goes before refl refl then sure.stage sure.said (anchor_not_released know w g) does sure.sound sure.goes
    start_turn (At x) c s before then observed e does =
        let sure : IsSure w p (know_approach carried level key Start) = rw before at (g.sure p) in
        got_goes _ 0 s (goes_to x level 12 ∷ carried.goes) before refl refl then sure.stage sure.said (anchor_not_released know w g) does sure.sound ((enters_goes level x sure.stage).0 (rw observed at e), sure.goes)
    start_turn (Latching x) c s before then observed e does =
        let sure : IsSure w p (know_approach carried level key Start) = rw before at (g.sure p) in
        got_goes _ 0 s (goes_to x level level ∷ carried.goes) before refl refl then sure.stage sure.said (anchor_not_released know w g) does sure.sound ((enters_goes level x sure.stage).1 (rw observed at e), sure.goes)
    start_turn (Latched x) c s before then observed e does = absurd e
    start_turn (Leaving x to) c s before then observed e does = absurd e

    pub at_turn : (x : ℕ) (a : Approach) (c : Page) (o : Step) (s : State Page) → know (w.proc p) ≡ know_approach carried level key (At x) → know b ≡ know_approach carried level key a → c ≡ w.now.contents x → Leads c key level o → Turns level x c o a → Does w.now p (Get x) s → Turned know w p (Get x) s b
    at_turn x Start c o s before then observed l t does =
        let sure : IsSure w p (know_approach carried level key (At x)) = rw before at (g.sure p) in
        got_goes _ x s carried.goes before refl refl then sure.stage sure.said (not_released know w g p x sure.goes.0.may) does sure.sound sure.goes.1
    at_turn x (At z) c o s before then observed l t does =
        let sure : IsSure w p (know_approach carried level key (At x)) = rw before at (g.sure p) in
        got_goes _ x s (goes_to z level 12 ∷ carried.goes) before refl refl then sure.stage sure.said (not_released know w g p x sure.goes.0.may) does sure.sound ((turns_goes level key x z o sure.goes.0 sure.sound (rw observed at l)).0 (rw observed at t), sure.goes.1)
    at_turn x (Latching z) c o s before then observed l t does =
        let sure : IsSure w p (know_approach carried level key (At x)) = rw before at (g.sure p) in
        got_goes _ x s (goes_to z level level ∷ carried.goes) before refl refl then sure.stage sure.said (not_released know w g p x sure.goes.0.may) does sure.sound ((turns_goes level key x z o sure.goes.0 sure.sound (rw observed at l)).1 (rw observed at t), sure.goes.1)
    at_turn x (Latched z) c o s before then observed l t does = absurd (no_latched o t)
      where
        no_latched : (o : Step) → Turns level x c o (Latched z) → ⊥
        no_latched Again h = h
        no_latched (Right y) h = h
        no_latched (Down y) h = h
        no_latched Here h = h
    at_turn x (Leaving z to) c o s before then observed l t does = absurd (no_leaving o t)
      where
        no_leaving : (o : Step) → Turns level x c o (Leaving z to) → ⊥
        no_leaving Again h = h
        no_leaving (Right y) h = h
        no_leaving (Down y) h = h
        no_leaving Here h = h

    pub latch_turn : (x : ℕ) (s : State Page) → know (w.proc p) ≡ know_approach carried level key (Latching x) → know b ≡ know_approach carried level key (Latched x) → w.now.owner x ≡ Owner.Open → Does w.now p (Latch x) s → Turned know w p (Latch x) s b
    latch_turn x s before then observed does =
        let sure : IsSure w p (know_approach carried level key (Latching x)) = rw before at (g.sure p) in
        latched know w g p b _ _ before then x s observed does refl (inl refl) (λ y h. absurd h)
        (walks_held w _ p (Latch x) None carried.said x (goes_to x level level ∷ carried.goes) (key < unbounded) sure.stage sure.said does.changes.1.at (open_live know w g p x sure.goes.0.may observed) sure.goes sure.sound)

    pub miss_turn : {what : Missed} (x : ℕ) (s : State Page) → know (w.proc p) ≡ know_approach carried level key (Latching x) → know b ≡ know_approach carried level key (At x) → level ≤ 12 → Does w.now p (Miss what) s → Turned know w p (Miss what) s b
    miss_turn {what} x s before then low does =
        let sure : IsSure w p (know_approach carried level key (Latching x)) = rw before at (g.sure p) in
        watched know w g p b _ _ before then (Miss what) None None s tt tt does tt refl (λ y h. h) (λ it e. cc) (λ j. refl)
        (walks w _ p (Miss what) None carried.said (goes_to x level 12 ∷ carried.goes) (key < unbounded) sure.stage sure.said (wider x level level level 12 (omega arith) low sure.goes.0, sure.goes.1) sure.sound)

    pub leave_turn : (x : ℕ) (to : Option ℕ) (c : Page) (o : Step) (s : State Page) → know (w.proc p) ≡ know_approach carried level key (Latched x) → know b ≡ know_approach carried level key (Leaving x to) → c ≡ w.now.contents x → Leads c key level o → Quits o to → Does w.now p (Get x) s → Turned know w p (Get x) s b
    leave_turn x None c o s before then observed l q does =
        let sure : IsSure w p (know_approach carried level key (Latched x)) = rw before at (g.sure p) in
        watched know w g p b _ _ before then (Get x) (Some (w.now.contents x)) None s tt (sure.stage, not_released know w g p x sure.goes.0.may) does refl refl (λ y h. h) (λ it e. cc) (λ j. refl)
        (walks_held w _ p (Get x) (Some (w.now.contents x)) carried.said x carried.goes (key < unbounded) sure.stage sure.said (does.changes.1 x ∙ sure.holds.0.owner) sure.holds.0.status sure.goes.1 sure.sound)
    leave_turn x (Some y) c o s before then observed l q does =
        let sure : IsSure w p (know_approach carried level key (Latched x)) = rw before at (g.sure p) in
        watched know w g p b _ _ before then (Get x) (Some (w.now.contents x)) None s tt (sure.stage, not_released know w g p x sure.goes.0.may) does refl refl (λ y h. h) (λ it e. cc) (λ j. refl)
        (walks_held w _ p (Get x) (Some (w.now.contents x)) carried.said x (goes_to y level level ∷ carried.goes) (key < unbounded) sure.stage sure.said (does.changes.1 x ∙ sure.holds.0.owner) sure.holds.0.status (goes o (rw observed at l) q sure, sure.goes.1) sure.sound)
      where
        goes : (o : Step) → Leads (w.now.contents x) key level o → Quits o (Some y) → IsSure w p (know_approach carried level key (Latched x)) → IsGoes w p (goes_to y level level)
        goes (Right z) l q sure =
            let same : y ≡ (nodes w.now x).shape.right = (let e : Some y ≡ Some z = q in let f : y ≡ z = cc in f ∙ l.0) in
            let h = sure.goes.0 in
            rw same (wider _ _ _ level level h.least h.most (to_right x key h.may l.1 sure.sound))
        goes (Down z) l q sure = absurd (let e : Some y ≡ None = q in cc)
        goes Again l q sure = absurd (let e : Some y ≡ None = q in cc)
        goes Here l q sure = absurd q

    pub open_turn : (x : ℕ) (to : Option ℕ) (a : Approach) (s : State Page) → know (w.proc p) ≡ know_approach carried level key (Leaving x to) → know b ≡ know_approach carried level key a → Approaches level key (Leaving x to) seen.Done (came.On a) → Does w.now p (Act.Open x) s → Turned know w p (Act.Open x) s b
    open_turn x None a s before then t does =
        let sure : IsSure w p (know_approach carried level key (Leaving x None)) = rw before at (g.sure p) in
        opened know w g p b _ (know_approach carried level key Start) before (rw t at then) x s sure.holds.0.owner does (inl sure.holds.0.status) refl refl ((λ e. cc, λ e. cc), tt) (λ y n h. elim h [ inl e ↦ absurd (n (sym e)) | inr i ↦ absurd i ])
        (walks w _ p (Act.Open x) None carried.said carried.goes (key < unbounded) sure.stage sure.said sure.goes sure.sound)
    open_turn x (Some y) a s before then t does =
        let sure : IsSure w p (know_approach carried level key (Leaving x (Some y))) = rw before at (g.sure p) in
        opened know w g p b _ (know_approach carried level key (Latching y)) before (rw t at then) x s sure.holds.0.owner does (inl sure.holds.0.status) refl refl ((λ e. cc, λ e. cc), tt) (λ z n h. elim h [ inl e ↦ absurd (n (sym e)) | inr i ↦ absurd i ])
        (walks w _ p (Act.Open x) None carried.said (goes_to y level level ∷ carried.goes) (key < unbounded) sure.stage sure.said sure.goes sure.sound)

    leaving_turn : (x : ℕ) (to : Option ℕ) (a' : Approach) (what : Seen) (s : State Page) → know (w.proc p) ≡ know_approach carried level key (Leaving x to) → know b ≡ know_approach carried level key a' → Approaches level key (Leaving x to) what (came.On a') → Does w.now p (event_of None (approach_next (Leaving x to)) what) s → Turned know w p (event_of None (approach_next (Leaving x to)) what) s b
    leaving_turn x to a' seen.Done s before then t does = open_turn x to a' s before then t does
    leaving_turn x None a' what s before then t does = absurd t
    leaving_turn x (Some y) a' what s before then t does = absurd t

    -- every turn of the way that does not end it
    pub approach_turn : (a a' : Approach) (what : Seen) (s : State Page) → level ≤ 12 → know (w.proc p) ≡ know_approach carried level key a → know b ≡ know_approach carried level key a' → Approaches level key a what (came.On a') → IsObserved w.now w.size (approach_next a) what → Does w.now p (event_of None (approach_next a) what) s → Turned know w p (event_of None (approach_next a) what) s b
    approach_turn Start a' (seen.Words c) s low before then t observed does = start_turn a' c s before then observed t does
    approach_turn (At x) a' (seen.Words c) s low before then t observed does = at_turn x a' c t.0 s before then observed t.1 t.2 does
    approach_turn (Latching x) a' seen.Done s low before then t observed does = latch_turn x s before (rw t at then) observed does
    approach_turn (Latching x) a' seen.Missed s low before then t observed does = miss_turn x s before (rw t at then) low does
    approach_turn (Latched x) (Leaving y to) (seen.Words c) s low before then t observed does = leave_turn x to c t.1.0 s before (subst (λ z. know b ≡ know_approach carried level key (Leaving z to)) t.0 then) observed t.1.1 t.1.2 does
    approach_turn (Leaving x to) a' what s low before then t observed does = leaving_turn x to a' what s before then t does
    approach_turn a a' (seen.Words c) s low before then t observed does = absurd t
    approach_turn a a' what s low before then t observed does = absurd t

    -- A process on its way to a parent gives up at the anchor.
    pub give_up_turn : (s : State Page) → know (w.proc p) ≡ know_approach carried level key Start → know b ≡ record (ending carried.said) { goes = carried.goes } → Does w.now p (Get 0) s → Turned know w p (Get 0) s b
    give_up_turn s before then does =
        let is : IsSure w p (know_approach carried level key Start) = rw before at (g.sure p) in
        watched know w g p b _ _ before then (Get 0) (Some (w.now.contents 0)) None s tt (is.stage, anchor_not_released know w g) does refl refl (λ y h. h) (λ it e. cc) (λ j. refl)
        (walks w _ p (Get 0) (Some (w.now.contents 0)) carried.said carried.goes (Unit {0}) is.stage is.said is.goes tt)

    -- The parent is to stay as it is, and is opened.
    pub kept_turn : (x : ℕ) (s : State Page) → know (w.proc p) ≡ know_approach carried level key (Latched x) → know b ≡ record (carrying carried) { holds = holds_live x ∷ [] } → Does w.now p (Get x) s → Turned know w p (Get x) s b
    kept_turn x s before then does =
        let is : IsSure w p (know_approach carried level key (Latched x)) = rw before at (g.sure p) in
        watched know w g p b _ _ before then (Get x) (Some (w.now.contents x)) None s tt (is.stage, not_released know w g p x is.goes.0.may) does refl refl (λ y h. h) (λ it e. cc) (λ j. refl)
        (walks_held w _ p (Get x) (Some (w.now.contents x)) carried.said x carried.goes (Unit {0}) is.stage is.said (does.changes.1 x ∙ is.holds.0.owner) is.holds.0.status is.goes.1 tt)

    pub stay_turn : (x : ℕ) (S : Type 0) (s : State Page) → know (w.proc p) ≡ record (carrying carried) { holds = holds_live x ∷ []; sound = S } → know b ≡ record (ending carried.said) { goes = carried.goes; sound = S } → Does w.now p (Act.Open x) s → Turned know w p (Act.Open x) s b
    stay_turn x S s before then does =
        let is : IsSure w p (record (carrying carried) { holds = holds_live x ∷ []; sound = S }) = rw before at (g.sure p) in
        opened know w g p b _ _ before then x s is.holds.0.owner does (inl is.holds.0.status) refl refl ((λ e. cc, λ e. cc), tt)
        (λ z n h. elim h [ inl e ↦ absurd (n (sym e)) | inr u ↦ absurd u ])
        (walks w _ p (Act.Open x) None carried.said carried.goes S is.stage is.said is.goes is.sound)
