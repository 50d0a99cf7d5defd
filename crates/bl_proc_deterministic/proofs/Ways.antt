-- A writer on its way goes on, and in one way.
use Rattle.std.proofs.Common.{ℕ, suc, ◌≡◌, ◌≢◌, ◌<◌, ◌≤◌, Some, None, refl, sym, ap, subst, inl, inr, arith, ◌∙◌, Option}
use Rattle.std.proofs.lemmas.Bool.{cases_lt, cases_eq}
use Rattle.bl_page.specs.declared.page.Page.{Page}
use Rattle.bl_page.specs.declared.page.Page.TheVariants as page
use Rattle.bl_page.specs.declared.page.Inner.{Inner}
use Rattle.bl_page.specs.Nodes.{Roots, node_of, roots_of}
use Rattle.bl_proc_steps.specs.declared.acts.Seen.{Seen}
use Rattle.bl_proc_steps.specs.declared.acts.Seen.TheVariants as seen
use Rattle.bl_proc_routes.specs.declared.routes.Step.{Step}
use Rattle.bl_proc_routes.specs.declared.routes.Step.TheVariants.{Again, Right, Down, Here}
use Rattle.bl_proc_steps.specs.declared.approach.Approach.{Approach}
use Rattle.bl_proc_steps.specs.declared.approach.Approach.TheVariants.{Start, At, Latching, Latched, Leaving}
use Rattle.bl_proc_steps.specs.declared.approach.Approached.{Approached}
use Rattle.bl_proc_steps.specs.declared.approach.Approached.TheVariants as came
use Rattle.bl_proc_steps.specs.declared.approach.Came.{Came}
use Rattle.bl_proc_steps.specs.declared.approach.Came.TheVariants as come
use Rattle.bl_proc_steps.specs.Given.{Gives}
use Rattle.bl_proc_routes.specs.Routes.{Leads}
use Rattle.bl_page.specs.Tops.{top_of}
use Rattle.bl_proc_steps.specs.Approaches.{approach_next, Enters, Turns, Quits, Approaches, HasLevel, CountsLevels, Comes}
use Rattle.bl_proc_steps.proofs.Ways.{here_leads}
use Rattle.bl_proc_deterministic.specs.One.{One}
use Rattle.bl_proc_deterministic.proofs.Cases.{came_on, not_both}
use Rattle.bl_proc_deterministic.proofs.Onwards.{leads_some, leads_one}
use Rattle.bl_proc_deterministic.proofs.WayCases.{ApproachCase, approach_case}

start_only : (level : ℕ) (roots : Roots) → roots.levels ≤ level → (other : Approach) → Enters level roots other → other ≡ Start
start_only level roots h Start t = refl
start_only level roots h (At z) t = absurd (let x = t.0 in omega arith)
start_only level roots h (Latching z) t = absurd (let x = t.0 in omega arith)
start_only level roots h old t = absurd t

above_only : (level : ℕ) (roots : Roots) → suc level < roots.levels → (other : Approach) → Enters level roots other → other ≡ At (top_of roots)
above_only level roots h Start t = absurd (omega arith)
above_only level roots h (At z) t = ap At t.1
above_only level roots h (Latching z) t = absurd (let x = t.0 in omega arith)
above_only level roots h old t = absurd t

top_only : (level : ℕ) (roots : Roots) → suc level ≡ roots.levels → (other : Approach) → Enters level roots other → other ≡ Latching (roots.leftmost level)
top_only level roots h Start t = absurd (omega arith)
top_only level roots h (At z) t = absurd (let x = t.0 in omega arith)
top_only level roots h (Latching z) t = ap Latching t.1
top_only level roots h old t = absurd t

enter_one : (level : ℕ) (roots : Roots) → One (Enters level roots)
enter_one level roots = elim (cases_lt level roots.levels) [
  | inr le ↦ record { new = Start; goes = le; only = start_only level roots le }
  | inl lt ↦ elim (cases_eq (suc level) roots.levels) [
    | inl e ↦ record { new = Latching (roots.leftmost level); goes = (e, refl); only = top_only level roots e }
    | inr ne ↦ (let more : suc level < roots.levels = omega arith in record { new = At (top_of roots); goes = (more, refl); only = above_only level roots more })
  ]
]

module _ (level x : ℕ) (c : Page) where
  again_turn : (other : Approach) → Turns level x c Again other → other ≡ Start
  again_turn Start t = refl
  again_turn old t = absurd t

  here_turn : (other : Approach) → Turns level x c Here other → other ≡ Latching x
  here_turn (Latching z) t = ap Latching t
  here_turn old t = absurd t

  right_latch : (y : ℕ) → (node_of c).shape.level ≡ level → (other : Approach) → Turns level x c (Right y) other → other ≡ Latching y
  right_latch y h (At z) t = absurd (t.1 h)
  right_latch y h (Latching z) t = ap Latching t.0
  right_latch y h old t = absurd t

  right_at : (y : ℕ) → (node_of c).shape.level ≢ level → (other : Approach) → Turns level x c (Right y) other → other ≡ At y
  right_at y h (At z) t = ap At t.0
  right_at y h (Latching z) t = absurd (h t.1)
  right_at y h old t = absurd t

  down_latch : (y : ℕ) → (node_of c).shape.level ≡ suc level → (other : Approach) → Turns level x c (Down y) other → other ≡ Latching y
  down_latch y h (At z) t = absurd (t.1 h)
  down_latch y h (Latching z) t = ap Latching t.0
  down_latch y h old t = absurd t

  down_at : (y : ℕ) → (node_of c).shape.level ≢ suc level → (other : Approach) → Turns level x c (Down y) other → other ≡ At y
  down_at y h (At z) t = ap At t.0
  down_at y h (Latching z) t = absurd (h t.1)
  down_at y h old t = absurd t

  turn_one : (o : Step) → One (Turns level x c o)
  turn_one Again = record { new = Start; goes = tt; only = again_turn }
  turn_one Here = record { new = Latching x; goes = refl; only = here_turn }
  turn_one (Right y) = elim (cases_eq (node_of c).shape.level level) [
    | inl e ↦ record { new = Latching y; goes = (refl, e); only = right_latch y e }
    | inr ne ↦ record { new = At y; goes = (refl, ne); only = right_at y ne }
  ]
  turn_one (Down y) = elim (cases_eq (node_of c).shape.level (suc level)) [
    | inl e ↦ record { new = Latching y; goes = (refl, e); only = down_latch y e }
    | inr ne ↦ record { new = At y; goes = (refl, ne); only = down_at y ne }
  ]

-- What two turns lead to where the same was seen.
quit_same : (level key : ℕ) (c : Page) (o o' : Step) (to to' : Option ℕ) → Leads c key level o → Quits o to → Leads c key level o' → Quits o' to' → to' ≡ to
quit_same level key c (Right y) o' to to' h q h' q' = subst (λ (v : Step). Quits v to') (leads_one c key level o' (Right y) h' h) q' ∙ sym q
quit_same level key c (Down y) o' to to' h q h' q' = subst (λ (v : Step). Quits v to') (leads_one c key level o' (Down y) h' h) q' ∙ sym q
quit_same level key c Again o' to to' h q h' q' = subst (λ (v : Step). Quits v to') (leads_one c key level o' Again h' h) q' ∙ sym q
quit_same level key c Here o' to to' h q h' q' = absurd q

approach_same : {level key : ℕ} {a : Approach} {what : Seen} {m n : Approached} → ApproachCase level key a what m → ApproachCase level key a what n → n ≡ m
approach_same {level = level} (ApproachCase.Entered c a s) (ApproachCase.Entered _ b t) = (let one = enter_one level (roots_of c) in ap came.On (one.only b t ∙ sym (one.only a s)))
approach_same {level = level} {key = key} (ApproachCase.Turned x c a o h s) (ApproachCase.Turned _ _ b o' h' t) =
    let one = turn_one level x c o in
    ap came.On (one.only b (subst (λ (v : Step). Turns level x c v b) (leads_one c key level o' o h' h) t) ∙ sym (one.only a s))
approach_same (ApproachCase.LatchedPage x a s) (ApproachCase.LatchedPage _ b t) = ap came.On (t ∙ sym s)
approach_same (ApproachCase.MissedPage x a s) (ApproachCase.MissedPage _ b t) = ap came.On (t ∙ sym s)
approach_same {level = level} {key = key} (ApproachCase.Quitted x c y to s) (ApproachCase.Quitted _ _ z to' t) =
    let e = quit_same level key c s.1.0 t.1.0 to to' s.1.1 s.1.2 t.1.1 t.1.2 in
    λ i. came.On (Leaving ((t.0 ∙ sym s.0) i) (e i))
approach_same {level = level} {key = key} (ApproachCase.Quitted x c y to s) (ApproachCase.Arrived _ _ z d t) = absurd (subst (λ (v : Step). Quits v to) (leads_one c key level s.1.0 Here s.1.1 t.2) s.1.2)
approach_same {level = level} {key = key} (ApproachCase.Arrived x c y d s) (ApproachCase.Quitted _ _ z to t) = absurd (subst (λ (v : Step). Quits v to) (leads_one c key level t.1.0 Here t.1.1 s.2) t.1.2)
approach_same (ApproachCase.Arrived x c y d s) (ApproachCase.Arrived _ _ z e t) = λ i. came.Here ((t.0 ∙ sym s.0) i) ((t.1 ∙ sym s.1) i)
approach_same (ApproachCase.OpenedFor x y a s) (ApproachCase.OpenedFor _ _ b t) = ap came.On (t ∙ sym s)
approach_same (ApproachCase.OpenedLost x a s) (ApproachCase.OpenedLost _ b t) = ap came.On (t ∙ sym s)

approaches : (level key : ℕ) (a : Approach) (what : Seen) (new : Approached) → Approaches level key a what new → One (Approaches level key a what)
approaches level key a what new goes = record { new = new; goes = goes; only = λ other t. approach_same (approach_case level key a what new goes) (approach_case level key a what other t) }

-- from a page that is held
quit_one : (level key x : ℕ) (c : Page) (o : Step) → Leads c key level o → One (Approaches level key (Latched x) (seen.Words c))
quit_one level key x c Here h = approaches level key (Latched x) (seen.Words c) (came.Here x c) (refl, refl, h)
quit_one level key x c (Right y) h = approaches level key (Latched x) (seen.Words c) (came.On (Leaving x (Some y))) (refl, (Right y, h, refl))
quit_one level key x c (Down y) h = approaches level key (Latched x) (seen.Words c) (came.On (Leaving x None)) (refl, (Down y, h, refl))
quit_one level key x c Again h = approaches level key (Latched x) (seen.Words c) (came.On (Leaving x None)) (refl, (Again, h, refl))

pub approach_one : (level key : ℕ) (a : Approach) (what : Seen) → Gives (approach_next a) None what → One (Approaches level key a what)
approach_one level key Start (seen.Words c) g = (let one = enter_one level (roots_of c) in approaches level key Start (seen.Words c) (came.On one.new) one.goes)
approach_one level key (At x) (seen.Words c) g = (let o = leads_some c key level in let one = turn_one level x c o.0 in approaches level key (At x) (seen.Words c) (came.On one.new) (o.0, o.1, one.goes))
approach_one level key (Latching x) seen.Done g = approaches level key (Latching x) seen.Done (came.On (Latched x)) refl
approach_one level key (Latching x) seen.Missed g = approaches level key (Latching x) seen.Missed (came.On (At x)) refl
approach_one level key (Latched x) (seen.Words c) g = (let o = leads_some c key level in quit_one level key x c o.0 o.1)
approach_one level key (Leaving x (Some z)) seen.Done g = approaches level key (Leaving x (Some z)) seen.Done (came.On (Latching z)) refl
approach_one level key (Leaving x None) seen.Done g = approaches level key (Leaving x None) seen.Done (came.On Start) refl
approach_one level key old what g = absurd g

-- On the way to a parent, past the anchor: it goes on as the approach does.
came_same : (x y : ℕ) (p q : Inner) → came.Here x (page.Inner p) ≡ came.Here y (page.Inner q) → come.ToParent x p ≡ come.ToParent y q
came_same x y p q e = cc

module _ (level key : ℕ) (a : Approach) (what : Seen) (has : HasLevel level a what) (none : (n : ℕ) → CountsLevels a what n → ⊥) where
  onward_only : (b : Approach) → ((o : Approached) → Approaches level key a what o → o ≡ came.On b) → (other : Came) → Comes level key a what other → other ≡ come.On b
  onward_only b is (come.NoLevel n) t = absurd (none n t.1)
  onward_only b is (come.On d) t = ap come.On (came_on d b (is (came.On d) t.1))
  onward_only b is (come.ToParent y q) t = absurd (not_both b y (page.Inner q) (sym (is (came.Here y (page.Inner q)) t)))

  there_only : (x : ℕ) (p : Inner) → ((o : Approached) → Approaches level key a what o → o ≡ came.Here x (page.Inner p)) → (other : Came) → Comes level key a what other → other ≡ come.ToParent x p
  there_only x p is (come.NoLevel n) t = absurd (none n t.1)
  there_only x p is (come.On d) t = absurd (not_both d x (page.Inner p) (is (came.On d) t.1))
  there_only x p is (come.ToParent y q) t = came_same y x q p (is (came.Here y (page.Inner q)) t)

  near_by : 0 < level → (o : Approached) → Approaches level key a what o → ((z : Approached) → Approaches level key a what z → z ≡ o) → One (Comes level key a what)
  near_by least (came.On b) h is = record { new = come.On b; goes = (has, h); only = onward_only b is }
  near_by least (came.Here x (page.Inner p)) h is = record { new = come.ToParent x p; goes = h; only = there_only x p is }
  near_by least (came.Here x (page.Leaf l)) h is = absurd (let e = (here_leads level key a what x (page.Leaf l) h).2 in omega arith)
  near_by least (came.Here x (page.Anchor c)) h is = absurd (here_leads level key a what x (page.Anchor c) h).0
  near_by least (came.Here x (page.Dead d)) h is = absurd (here_leads level key a what x (page.Dead d) h).0

  near_one : 0 < level → Gives (approach_next a) None what → One (Comes level key a what)
  near_one least g = (let one = approach_one level key a what g in near_by least one.new one.goes one.only)

-- At the anchor.
module _ (level key : ℕ) (c : Page) where
  begun_only : (b : Approach) → level < (roots_of c).levels → ((z : Approach) → Enters level (roots_of c) z → z ≡ b) → (other : Came) → Comes level key Start (seen.Words c) other → other ≡ come.On b
  begun_only b more is (come.NoLevel n) t = absurd (let few = t.0 in let e = t.1 in omega arith)
  begun_only b more is (come.On d) t = ap come.On (is d t.1)
  begun_only b more is (come.ToParent y q) t = absurd t

  lacking_only : (roots_of c).levels ≤ level → (other : Came) → Comes level key Start (seen.Words c) other → other ≡ come.NoLevel (roots_of c).levels
  lacking_only few (come.NoLevel n) t = ap come.NoLevel t.1
  lacking_only few (come.On d) t = absurd (let more = t.0 in omega arith)
  lacking_only few (come.ToParent y q) t = absurd t

  begun_one : One (Comes level key Start (seen.Words c))
  begun_one = elim (cases_lt level (roots_of c).levels) [
    | inl more ↦ (let one = enter_one level (roots_of c) in record { new = come.On one.new; goes = (more, one.goes); only = begun_only one.new more one.only })
    | inr few ↦ record { new = come.NoLevel (roots_of c).levels; goes = (few, refl); only = lacking_only few }
  ]

pub come_one : (level key : ℕ) (a : Approach) (what : Seen) → 0 < level → Gives (approach_next a) None what → One (Comes level key a what)
come_one level key Start (seen.Words c) least g = begun_one level key c
come_one level key (At x) what least g = near_one level key (At x) what tt (λ n h. h) least g
come_one level key (Latching x) what least g = near_one level key (Latching x) what tt (λ n h. h) least g
come_one level key (Latched x) what least g = near_one level key (Latched x) what tt (λ n h. h) least g
come_one level key (Leaving x to) what least g = near_one level key (Leaving x to) what tt (λ n h. h) least g
come_one level key old what least g = absurd g
