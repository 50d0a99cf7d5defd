-- The trail of a world goes on: its steps are legal, its points are points, and its history is legal.
use Rattle.std.proofs.Common.{ℕ, ◌≡◌, ◌≢◌, ◌≤◌, ◌++◌, Option, Some, None, List, [], ◌∷◌, length, subst, arith, ap, sym, ◌∙◌, refl, inl, inr, append-nil}
use Rattle.std.proofs.Math.Path.{fun_ext}
use Rattle.bl_model.specs.declared.operation.Reply.{Reply}
use Rattle.bl_model.specs.declared.operation.Entry.{Entry}
use Rattle.bl_model.specs.Map.{Map, MayAnswer, map_step, SameMap}
use Rattle.bl_model.specs.History.{IsLegalFrom, final_map}
use Rattle.bl_model.proofs.Histories.{final_map-push, legal_push}
use Rattle.bl_page.specs.declared.page.Page.{Page}
use Rattle.bl_page.specs.Machine.{Name, State, Act, Changes}
use Rattle.bl_page.specs.Machine.Act.{Begin, End, Get, Put, Take, Latch, Retire, Look, Release, Miss}
use Rattle.bl_page.specs.Machine.Phase.{Waiting, Running, Ended}
use Rattle.bl_claims.specs.Trails.{Said, Mark, entries_at, history_of, Answered, IsPhase}
use Rattle.bl_tree_worlds.specs.Worlds.{World, MapsTo, IsRecorded, silent, Extends}
use Rattle.bl_tree_worlds.proofs.Pushes.{name_cases, MaySay, IsMarked-push, LeadsOn-push, history_of-push, IsPhase-other, IsPhase-inner, DoesAt-push, DoesAt-last, DoesAt-cases}

-- an event that is neither begin nor end
abbrev pub IsInner : Act Page Reply → Type 0
IsInner a = (a ≢ Begin) × ((answer : Option Reply) → a ≢ End answer)

pub same_phases : (s s' : State Page) (p : Name) (a : Act Page Reply) → IsInner a → Changes s p a s' → SameMap s.phase s'.phase
same_phases s s' p Begin i c = absurd (i.0 refl)
same_phases s s' p (End answer) i c = absurd (i.1 answer refl)
same_phases s s' p (Get x) i c = c.2
same_phases s s' p (Put x d) i c = c.2
same_phases s s' p (Take x) i c = c.2
same_phases s s' p (Latch x) i c = c.2
same_phases s s' p (Act.Open x) i c = c.2
same_phases s s' p (Retire x) i c = c.3.2
same_phases s s' p (Look it) i c = c.2
same_phases s s' p (Release x) i c = c.2
same_phases s s' p (Miss what) i c = c.2

history_said : (first : Map) (history : List Entry) (p : Name) (said : Option Said) (m m' : Map) → IsLegalFrom first history → ((k : ℕ) → m k ≡ final_map first history k) → MapsTo m m' said → IsLegalFrom first (history ++ entries_at p said) × ((k : ℕ) → m' k ≡ final_map first (history ++ entries_at p said) k)
history_said first history p None m m' legal is t = rw (append-nil history) (legal, λ k. t k ∙ is k)
history_said first history p (Some said) m m' legal is t =
    let e : Entry = record { pass = p.pass; op = said.op; reply = said.reply } in
    let may : MayAnswer (final_map first history) said.op said.reply = subst (λ n. MayAnswer n said.op said.reply) (fun_ext is) t.0 in
    (legal_push first history e legal may, λ k. t.1 k ∙ (ap (λ n. map_step said.op said.reply n k) (fun_ext is) ∙ ap (λ n. n k) (sym (final_map-push first history e))))

history_step : {P : Type 0} (w : World P) (m : Mark) (map' : Map) → IsRecorded w → MapsTo (w.map 0) map' m.said → IsLegalFrom w.first (history_of (w.trail ++ m ∷ [])) × ((k : ℕ) → map' k ≡ final_map w.first (history_of (w.trail ++ m ∷ [])) k)
history_step w m map' g t = rw (history_of-push w.trail m) (history_said w.first (history_of w.trail) m.event.process m.said (w.map 0) map' g.legal g.map t)

-- the record goes on, where the phases do
record_step : {P : Type 0} (w w' : World P) (m : Mark) (b : P) → Extends w w' m b → MaySay w.trail m → MapsTo (w.map 0) (w'.map 0) m.said → ((p : Name) → IsPhase (w.trail ++ m ∷ []) p (w'.now.phase p)) → ((p : Name) (since : ℕ) → w'.now.phase p ≡ Running since → since ≤ w'.now.clock) → IsRecorded w → IsRecorded w'
record_step w w' m b e say maps phases since g =
    let h = history_step w m (w'.map 0) g maps in
    record {
      leads = rw (e.start, e.trail) (LeadsOn-push w.start w.now w'.now w.trail m g.leads e.steps e.saw);
      marked = rw e.trail (IsMarked-push w.trail m say g.marked);
      phases = rw e.trail phases;
      legal = rw (e.trail, e.first) h.0;
      map = rw (e.trail, e.first) h.1;
      since = since;
    }

pub record_inner : {P : Type 0} (w w' : World P) (m : Mark) (b : P) → Extends w w' m b → IsInner m.event.act → MaySay w.trail m → MapsTo (w.map 0) (w'.map 0) m.said → IsRecorded w → IsRecorded w'
record_inner w w' m b e i say maps g =
    let same = same_phases w.now w'.now m.event.process m.event.act i e.steps.changes in
    record_step w w' m b e say maps
    (λ p. rw (same p) (IsPhase-inner w.trail m p (w.now.phase p) i.0 i.1 (g.phases p)))
    (λ p since h. let old = g.since p since (sym (same p) ∙ h) in omega (arith, e.steps.on))
    g

-- p begins
pub record_begin : {P : Type 0} (w w' : World P) (p : Name) (b : P) → Extends w w' (silent p Begin) b → ((k : ℕ) → w'.map 0 k ≡ w.map 0 k) → IsRecorded w → IsRecorded w'
record_begin w w' p b e maps g =
    let m : Mark = silent p Begin in
    let steps = e.steps.changes in
    let none : IsPhase w.trail p Waiting = rw e.steps.enabled at (g.phases p) in
    record_step w w' m b e (record { point = λ said h. cc; end = λ a h. cc }) maps
    (λ q. elim (name_cases q p) [
      | inl i ↦ rw (i, steps.2.3.at) (
        (length w.trail, DoesAt-last w.trail m),
        λ j a d. elim (DoesAt-cases w.trail m d) [
          | inl o ↦ none.1 j a o
          | inr o ↦ let f : Begin ≡ End a = ap (λ v. v.act) o.1 in cc
        ],
      )
      | inr i ↦ rw (steps.2.3.others q i) (IsPhase-other w.trail m q (w.now.phase q) (λ v. i (sym v)) (g.phases q))
    ])
    (λ q since h. elim (name_cases q p) [
      | inl i ↦ let f : Running since ≡ Running steps.2.0 = sym h ∙ (ap w'.now.phase i ∙ steps.2.3.at) in let v : since ≡ steps.2.0 = cc in omega (arith, steps.2.2)
      | inr i ↦ let old = g.since q since (sym (steps.2.3.others q i) ∙ h) in omega (arith, e.steps.on)
    ])
    g

-- p ends, with the answer that it said, or with none
pub record_end : {P : Type 0} (w w' : World P) (p : Name) (answer : Option Reply) (b : P) → Extends w w' (silent p (End answer)) b → Answered w.trail p answer → ((k : ℕ) → w'.map 0 k ≡ w.map 0 k) → IsRecorded w → IsRecorded w'
record_end w w' p answer b e observed maps g =
    let m : Mark = silent p (End answer) in
    let steps = e.steps.changes in
    let runs = e.steps.enabled.0 in
    let began : IsPhase w.trail p (Running runs.0) = rw runs.1 at (g.phases p) in
    record_step w w' m b e (record { point = λ said h. cc; end = λ a h. (refl, (let i : a ≡ answer = cc in rw i observed)) }) maps
    (λ q. elim (name_cases q p) [
      | inl i ↦ rw (i, steps.2.at) (began.0.0, DoesAt-push w.trail m began.0.1)
      | inr i ↦ rw (steps.2.others q i) (IsPhase-other w.trail m q (w.now.phase q) (λ v. i (sym v)) (g.phases q))
    ])
    (λ q since h. elim (name_cases q p) [
      | inl i ↦ let f : Running since ≡ Ended = sym h ∙ (ap w'.now.phase i ∙ steps.2.at) in cc
      | inr i ↦ let old = g.since q since (sym (steps.2.others q i) ∙ h) in omega (arith, e.steps.on)
    ])
    g
