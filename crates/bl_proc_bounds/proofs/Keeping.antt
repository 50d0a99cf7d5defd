-- Every turn of every process keeps the bound of each search.
use Rattle.std.proofs.Common.{ℕ, ◌≡◌, ◌≢◌, ◌⊎◌, ◌≤◌, ◌<◌, ◌*◌, ◌++◌, true, Option, suc, [], ◌∷◌, arith, ap, sym, ◌∙◌, refl, inl, inr, subst}
use Rattle.std.proofs.Math.Path.{fun_ext}
use Rattle.bl_model.specs.declared.operation.Reply.{Reply}
use Rattle.bl_page.specs.declared.page.Page.{Page}
use Rattle.bl_page.specs.Machine.{Name, Owner, State, Act, Changes}
use Rattle.bl_page.specs.Machine.Looked.{Page as OfPage}
use Rattle.bl_page.specs.Machine.Act.{Begin, End, Get, Put, Take, Latch, Retire, Look, Release, Miss}
use Rattle.bl_page.specs.Machine.Phase.{Waiting}
use Rattle.bl_page.specs.Nodes.{unbounded}
use Rattle.bl_claims.specs.Trails.{Mark, IsPhase}
use Rattle.bl_claims.specs.Walks.{Each}
use Rattle.bl_tree_worlds.proofs.Pushes.{name_cases}
use Rattle.bl_tree_worlds.specs.Worlds.{World, IsGoes, IsSure, IsGood, Extends}
use Rattle.bl_proc_steps.specs.declared.acts.Seen.{Seen}
use Rattle.bl_proc_steps.specs.declared.acts.Seen.TheVariants as seen
use Rattle.bl_proc_steps.specs.declared.descent.Descent.{Descent}
use Rattle.bl_proc_steps.specs.declared.descent.Descent.TheVariants.{AtAnchor}
use Rattle.bl_proc_steps.specs.declared.descent.Descended.TheVariants as descended
use Rattle.bl_proc_steps.specs.Descents.{descent_page, Descends}
use Rattle.bl_proc.specs.declared.searching.FindStage.{FindStage}
use Rattle.bl_proc.specs.declared.searching.FindStage.TheVariants as find
use Rattle.bl_proc.specs.declared.parts.PartStage.{PartStage}
use Rattle.bl_proc.specs.declared.parts.PartStart.{PartStart}
use Rattle.bl_proc.specs.declared.parts.PartStage.TheVariants as part
use Rattle.bl_proc.specs.declared.kinds.Proc.{Proc}
use Rattle.bl_proc.specs.declared.kinds.Proc.TheVariants as proc
use Rattle.bl_proc.specs.Searches.{find_next_in, FindGoes}
use Rattle.bl_proc.specs.Parts.{part_next_in, way_by, PartGoes}
use Rattle.bl_proc.specs.Processes.{next_of, Takes}
use Rattle.bl_proc_invariant.specs.Turns.{event_of, IsObserved}
use Rattle.bl_proc_invariant.specs.Tables.{descent_goes}
use Rattle.bl_proc_invariant.specs.Knowing.{Run, know_find, know_part, know_of, know, find_end, part_end, end_of_proc}
use Rattle.bl_claims.specs.Bounds.{gets_in, puts_in}
use Rattle.bl_proc_bounds.proofs.Counts.{own_gets, other_puts, gets_on, own_gets_own, own_gets_other, other_puts_own, other_puts_other}
use Rattle.bl_proc_bounds.specs.Paces.{Place, AreLeft, Spends, find_place, part_place, place_of, sought, IsKept, AllPaced}
use Rattle.bl_proc_bounds.specs.Paces.Place.{Nowhere, Before, Trying, Going, After}
use Rattle.bl_proc_bounds.proofs.Ahead.{ahead_some, ahead_on}
use Rattle.bl_proc_bounds.proofs.Reach.{anchor_near, descent_near, probed_near}
use Rattle.bl_proc_bounds.proofs.Spending.{spends_still, spends_put, spends_get, spends_first, none_got, spends_begin}

-- What a good world knows of a search

abbrev pub Knows : World Run → Name → ℕ → Place → Type 0
Knows w p k Nowhere = Unit {0}
Knows w p k Before = (w.now.phase p ≡ Waiting) × (k < unbounded)
Knows w p k (Trying x) = k < unbounded
Knows w p k (Going d) = Each (IsGoes w p) (descent_goes d) × (k < unbounded)
Knows w p k After = Unit {0}

find_knows : (w : World Run) (p : Name) (k : ℕ) (a : FindStage) → IsSure w p (know_find k a) → Knows w p k (find_place a)
find_knows w p k find.New is = (is.stage, is.sound)
find_knows w p k (find.Near x) is = (is.stage, is.sound)
find_knows w p k (find.Probing x) is = is.sound
find_knows w p k (find.Descending d) is = (is.goes, is.sound)
find_knows w p k (find.Ending v) is = tt
find_knows w p k (find.Over v) is = tt

part_knows : (w : World Run) (p : Name) (k : PartStart) (a : PartStage) → IsSure w p (know_part k a) → Knows w p k.key (part_place a)
part_knows w p k part.New is = (is.stage, is.sound)
part_knows w p k (part.Near x) is = (is.stage, is.sound)
part_knows w p k (part.Probing x) is = is.sound
part_knows w p k (part.Descending d) is = (is.goes, is.sound)
part_knows w p k (part.Ending r) is = tt
part_knows w p k (part.Over r) is = tt

knows_of : (w : World Run) (p : Name) (got : ℕ → Page) (child time : ℕ) (a : Proc) → IsSure w p (know_of got child time a) → Knows w p (sought a) (place_of a)
knows_of w p got child time (proc.Find a) is = find_knows w p a.key a.stage is
knows_of w p got child time (proc.Write a) is = tt
knows_of w p got child time (proc.Post a) is = tt
knows_of w p got child time (proc.Part a) is = part_knows w p a.from a.stage is
knows_of w p got child time (proc.Compress a) is = tt
knows_of w p got child time (proc.Reclaim a) is = tt
knows_of w p got child time (proc.Lower a) is = tt
knows_of w p got child time (proc.InsertPost a) is = tt

pub knows : (w : World Run) (p : Name) → IsGood know w → Knows w p (sought (w.proc p).state) (place_of (w.proc p).state)
knows w p g = knows_of w p (w.proc p).got (w.proc p).child (w.proc p).time (w.proc p).state (g.sure p)

-- How a search goes on

abbrev PlaceGoes : ℕ → Place → Seen → Place → Type 0
PlaceGoes k Nowhere what Nowhere = Unit {0}
PlaceGoes k Before seen.Done (Going d) = d ≡ AtAnchor
PlaceGoes k Before seen.Done (Trying x) = Unit {0}
PlaceGoes k (Trying x) (seen.Probed free) (Going d) = d ≡ way_by x free
PlaceGoes k (Going d) (seen.Words c) (Going e) = Descends k d c (descended.On e)
PlaceGoes k (Going d) (seen.Words c) After = Unit {0}
PlaceGoes k After seen.Done After = Unit {0}
PlaceGoes k old what new = ⊥

abbrev PlaceAct : Place → Act Page Reply → Type 0
PlaceAct Nowhere a = Unit {0}
PlaceAct Before a = a ≡ Begin
PlaceAct (Trying x) a = a ≡ Look (OfPage x)
PlaceAct (Going d) a = a ≡ Get (descent_page d)
PlaceAct After a = (reply : Option Reply) × (a ≡ End reply)

abbrev PlaceObserved : State Page → Place → Seen → Type 0
PlaceObserved s (Trying x) (seen.Probed free) = free ≡ true → s.owner x ≡ Owner.Open
PlaceObserved s (Going d) (seen.Words c) = c ≡ s.contents (descent_page d)
PlaceObserved s place what = Unit {0}

record Moved (s : State Page) (k : ℕ) (old : Place) (what : Seen) (a : Act Page Reply) (new : Place) : Type 0 where
  pub goes : PlaceGoes k old what new
  pub act : PlaceAct old a
  pub observed : PlaceObserved s old what

find_moved : (s : State Page) (size k : ℕ) (old : FindStage) (what : Seen) (new : FindStage) → FindGoes k old what new → IsObserved s size (find_next_in old) what → Moved s k (find_place old) what (event_of (find_end old) (find_next_in old) what) (find_place new)
find_moved s size k find.New seen.Done (find.Descending d) h observed = record { goes = h; act = refl; observed = tt }
find_moved s size k (find.Near x) seen.Done (find.Probing y) h observed = record { goes = tt; act = refl; observed = tt }
find_moved s size k (find.Probing x) (seen.Probed free) (find.Descending d) h observed = record { goes = h; act = refl; observed = observed }
find_moved s size k (find.Descending d) (seen.Words c) (find.Descending e) h observed = record { goes = h; act = refl; observed = observed }
find_moved s size k (find.Descending d) (seen.Words c) (find.Ending v) h observed = record { goes = tt; act = refl; observed = observed }
find_moved s size k (find.Ending v) seen.Done (find.Over u) h observed = record { goes = tt; act = (_, refl); observed = tt }
find_moved s size k old what new h observed = absurd h

part_moved : (s : State Page) (size : ℕ) (k : PartStart) (old : PartStage) (what : Seen) (new : PartStage) → PartGoes k old what new → IsObserved s size (part_next_in old) what → Moved s k.key (part_place old) what (event_of (part_end old) (part_next_in old) what) (part_place new)
part_moved s size k part.New seen.Done (part.Descending d) h observed = record { goes = h; act = refl; observed = tt }
part_moved s size k (part.Near x) seen.Done (part.Probing y) h observed = record { goes = tt; act = refl; observed = tt }
part_moved s size k (part.Probing x) (seen.Probed free) (part.Descending d) h observed = record { goes = h; act = refl; observed = observed }
part_moved s size k (part.Descending d) (seen.Words c) (part.Descending e) h observed = record { goes = h; act = refl; observed = observed }
part_moved s size k (part.Descending d) (seen.Words c) (part.Ending v) h observed = record { goes = tt; act = refl; observed = observed }
part_moved s size k (part.Ending v) seen.Done (part.Over u) h observed = record { goes = tt; act = (_, refl); observed = tt }
part_moved s size k old what new h observed = absurd h

moved : (s : State Page) (size : ℕ) (old : Proc) (what : Seen) (new : Proc) → Takes old what new → IsObserved s size (next_of old) what → (sought new ≡ sought old) × Moved s (sought old) (place_of old) what (event_of (end_of_proc old) (next_of old) what) (place_of new)
moved s size (proc.Find a) what (proc.Find c) t observed = (t.0, find_moved s size a.key a.stage what c.stage t.1 observed)
moved s size (proc.Part a) what (proc.Part c) t observed = (ap (λ (z : PartStart). z.key) t.0, part_moved s size a.from a.stage what c.stage t.1 observed)
moved s size (proc.Write a) what (proc.Write c) t observed = (refl, record { goes = tt; act = tt; observed = tt })
moved s size (proc.Post a) what (proc.Post c) t observed = (refl, record { goes = tt; act = tt; observed = tt })
moved s size (proc.Compress a) what (proc.Compress c) t observed = (refl, record { goes = tt; act = tt; observed = tt })
moved s size (proc.Reclaim a) what (proc.Reclaim c) t observed = (refl, record { goes = tt; act = tt; observed = tt })
moved s size (proc.Lower a) what (proc.Lower c) t observed = (refl, record { goes = tt; act = tt; observed = tt })
moved s size (proc.InsertPost a) what (proc.InsertPost c) t observed = (refl, record { goes = tt; act = tt; observed = tt })
moved s size old what new t observed = absurd t

-- Events

put_cases : (a : Act Page Reply) → (puts_in a ≡ 0) ⊎ (puts_in a ≡ 1)
put_cases Begin = inl refl
put_cases (End answer) = inl refl
put_cases (Get x) = inl refl
put_cases (Put x c) = inr refl
put_cases (Take x) = inl refl
put_cases (Latch x) = inl refl
put_cases (Act.Open x) = inl refl
put_cases (Retire x) = inl refl
put_cases (Look it) = inl refl
put_cases (Release x) = inl refl
put_cases (Miss what) = inl refl

-- only a put changes what pages hold
same_contents : (s s' : State Page) (p : Name) (a : Act Page Reply) → puts_in a ≡ 0 → Changes s p a s' → s'.contents ≡ s.contents
same_contents s s' p Begin h c = fun_ext c.0
same_contents s s' p (End answer) h c = fun_ext c.0
same_contents s s' p (Get x) h c = fun_ext c.0
same_contents s s' p (Put x d) h c = absurd (omega (arith, h))
same_contents s s' p (Take x) h c = fun_ext c.0
same_contents s s' p (Latch x) h c = fun_ext c.0
same_contents s s' p (Act.Open x) h c = fun_ext c.0
same_contents s s' p (Retire x) h c = fun_ext c.3.0
same_contents s s' p (Look it) h c = fun_ext c.0
same_contents s s' p (Release x) h c = fun_ext c.0
same_contents s s' p (Miss what) h c = fun_ext c.0

module _ (w w' : World Run) (m : Mark) (b : Run) (e : Extends w w' m b) (g : IsGood know w) (g' : IsGood know w') where
  abbrev pub IsKeptThen : Name → ℕ → Place → Type 0
  IsKeptThen p k place = IsKept w.size w'.now.contents (w.trail ++ m ∷ []) p k place

  unchanged : puts_in m.event.act ≡ 0 → w'.now.contents ≡ w.now.contents
  unchanged none = same_contents w.now w'.now m.event.process m.event.act none e.steps.changes

  -- on its way
  on_way : (p : Name) (k : ℕ) (d : Descent) → own_gets p m ≡ 0 → (puts_in m.event.act ≡ 1 → other_puts p m ≡ 1) → Each (IsGoes w' p) (descent_goes d) → k < unbounded → Spends w.size w.now.contents w.trail p k (Going d) → Spends w.size w'.now.contents (w.trail ++ m ∷ []) p k (Going d)
  on_way p k d none put may low h = elim (put_cases m.event.act) [
    | inl same ↦ spends_still w.size w.now.contents w'.now.contents w.trail m p k (Going d) h none (subst (λ c. AreLeft c k (Going d) h.left) (sym (unchanged same)) h.ahead)
    | inr changed ↦
        let t = descent_near know w' g' k low p d may in
        let few : t.gets ≤ 2 * w.size = subst (λ n. t.gets ≤ 2 * n) e.size t.few in
        spends_put w.size w.now.contents w'.now.contents w.trail m p k (Going d) h none (put changed) t.gets few t.ahead
  ]

  -- an event at which p gets nothing leaves it where it was
  pub stays : (p : Name) (k : ℕ) (place : Place) → own_gets p m ≡ 0 → (puts_in m.event.act ≡ 1 → other_puts p m ≡ 1) → Knows w' p k place → IsKept w.size w.now.contents w.trail p k place → IsKeptThen p k place
  stays p k Nowhere none put sure h = tt
  stays p k Before none put sure h = tt
  stays p k After none put sure h = spends_still w.size w.now.contents w'.now.contents w.trail m p k After h none h.ahead
  stays p k (Trying x) none put sure h = (on_way p k AtAnchor none put tt sure h.0, (let more = gets_on p w.trail m h.0.begin h.0.begun in let got = h.1 in omega (arith, more, got, none)))
  stays p k (Going d) none put sure h = on_way p k d none put sure.0 sure.1 h

  -- its own get
  gets : (p : Name) (k : ℕ) (old new : Place) (x left : ℕ) → m.event.process ≡ p → m.event.act ≡ Get x → (s : Spends w.size w.now.contents w.trail p k old) → suc left ≤ s.left → AreLeft w.now.contents k new left → Spends w.size w'.now.contents (w.trail ++ m ∷ []) p k new
  gets p k old new x left own act s less ahead =
      let one : own_gets p m ≡ 1 = own_gets_own p m own ∙ ap gets_in act in
      spends_get w.size w.now.contents w'.now.contents w.trail m p k old s one (other_puts_own p m own) new left less (subst (λ c. AreLeft c k new left) (sym (unchanged (ap puts_in act))) ahead)

  -- its own turn
  goes : (p : Name) (k : ℕ) (old : Place) (what : Seen) (new : Place) → m.event.process ≡ p → Moved w.now k old what m.event.act new → Knows w p k old → IsKept w.size w.now.contents w.trail p k old → IsKeptThen p k new
  goes p k Nowhere what Nowhere own d sure h = tt
  goes p k Before seen.Done (Going to) own d sure h =
      let phase : IsPhase w.trail p Waiting = subst (IsPhase w.trail p) sure.0 (g.recorded.phases p) in
      let t = anchor_near know w' g' k sure.1 in
      let few : t.gets ≤ w.size = subst (λ n. t.gets ≤ n) e.size t.few in
      subst (λ v. IsKeptThen p k (Going v)) (sym d.goes) (spends_begin w.size w'.now.contents w.trail m p k (Going AtAnchor) t.gets own d.act phase.0 few t.ahead)
  goes p k Before seen.Done (Trying x) own d sure h =
      let phase : IsPhase w.trail p Waiting = subst (IsPhase w.trail p) sure.0 (g.recorded.phases p) in
      let t = anchor_near know w' g' k sure.1 in
      let few : t.gets ≤ w.size = subst (λ n. t.gets ≤ n) e.size t.few in
      (spends_begin w.size w'.now.contents w.trail m p k (Going AtAnchor) t.gets own d.act phase.0 few t.ahead, none_got w.trail m p phase.0)
  goes p k (Trying x) (seen.Probed free) (Going to) own d sure h =
      let t = probed_near know w g k sure x free d.observed in
      let none : own_gets p m ≡ 0 = own_gets_own p m own ∙ ap gets_in d.act in
      let ahead : AreLeft w'.now.contents k (Going (way_by x free)) t.gets = subst (λ c. AreLeft c k (Going (way_by x free)) t.gets) (sym (unchanged (ap puts_in d.act))) t.ahead in
      subst (λ v. IsKeptThen p k (Going v)) (sym d.goes) (spends_first w.size w.now.contents w'.now.contents w.trail m p k (Going AtAnchor) h.0 none h.1 (Going (way_by x free)) t.gets t.few ahead)
  goes p k (Going from) (seen.Words c) (Going to) own d sure h =
      let r = ahead_on w.now.contents k from to h.left (subst (λ v. Descends k from v (descended.On to)) d.observed d.goes) h.ahead in
      gets p k (Going from) (Going to) (descent_page from) r.left own d.act h (let l = r.less in omega arith) r.ahead
  goes p k (Going from) (seen.Words c) After own d sure h = gets p k (Going from) After (descent_page from) 0 own d.act h (ahead_some w.now.contents k from h.left h.ahead) refl
  goes p k After seen.Done After own d sure h = spends_still w.size w.now.contents w'.now.contents w.trail m p k After h (own_gets_own p m own ∙ ap gets_in d.act.1) h.ahead
  goes p k old what new own d sure h = absurd d.goes

  -- what the others keep, and the process after its turn
  pub then_paced : ((p : Name) → p ≡ m.event.process → IsKeptThen p (sought b.state) (place_of b.state)) → AllPaced w → AllPaced w'
  then_paced own all p =
      let there : IsKeptThen p (sought (w'.proc p).state) (place_of (w'.proc p).state) = elim (name_cases p m.event.process) [
        | inl i ↦ subst (λ (r : Run). IsKeptThen p (sought r.state) (place_of r.state)) (sym (ap w'.proc i ∙ e.proc.at)) (own p i)
        | inr n ↦
            let same : w'.proc p ≡ w.proc p = e.proc.others p n in
            let other : m.event.process ≢ p = λ i. n (sym i) in
            let known : Knows w' p (sought (w.proc p).state) (place_of (w.proc p).state) = subst (λ (r : Run). Knows w' p (sought r.state) (place_of r.state)) same (knows w' p g') in
            subst (λ (r : Run). IsKeptThen p (sought r.state) (place_of r.state)) (sym same) (stays p (sought (w.proc p).state) (place_of (w.proc p).state) (own_gets_other p m other) (λ put. other_puts_other p m other ∙ put) known (all p))
      ] in
      subst (λ t. IsKept w'.size w'.now.contents t p (sought (w'.proc p).state) (place_of (w'.proc p).state)) (sym e.trail) (subst (λ n. IsKept n w'.now.contents (w.trail ++ m ∷ []) p (sought (w'.proc p).state) (place_of (w'.proc p).state)) (sym e.size) there)

-- A turn of a process that is told something of its next action, truly.
pub turn_paced : (w w' : World Run) (m : Mark) (b : Run) (what : Seen) → Extends w w' m b → IsGood know w → IsGood know w' → Takes (w.proc m.event.process).state what b.state → IsObserved w.now w.size (next_of (w.proc m.event.process).state) what → m.event.act ≡ event_of (end_of_proc (w.proc m.event.process).state) (next_of (w.proc m.event.process).state) what → AllPaced w → AllPaced w'
turn_paced w w' m b what e g g' t observed act all =
    let old = (w.proc m.event.process).state in
    let d = moved w.now w.size old what b.state t observed in
    let did : Moved w.now (sought old) (place_of old) what m.event.act (place_of b.state) = subst (λ a. Moved w.now (sought old) (place_of old) what a (place_of b.state)) (sym act) d.1 in
    then_paced w w' m b e g g'
    (λ p i. subst (λ k. IsKept w.size w'.now.contents (w.trail ++ m ∷ []) p k (place_of b.state)) (sym d.0)
    (goes w w' m b e g g' p (sought old) (place_of old) what (place_of b.state) (sym i) did
    (subst (λ q. Knows w q (sought old) (place_of old)) (sym i) (knows w m.event.process g))
    (subst (λ q. IsKept w.size w.now.contents w.trail q (sought old) (place_of old)) (sym i) (all m.event.process)))) all
