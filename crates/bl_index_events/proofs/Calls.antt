-- What a pass knows of its call, event by event.
use Rattle.std.proofs.Common.{ℕ, ◌≡◌, ◌≢◌, ◌+◌, ◌++◌, Option, List, [], ◌∷◌, refl, sym, ap, ◌∙◌, subst, append_assoc}
use Rattle.std.specs.Prelude.{slice_get}
use Rattle.bl_model.specs.declared.operation.Reply.{Reply}
use Rattle.bl_page.specs.declared.page.Page.{Page}
use Rattle.bl_page.specs.Machine.{Name, Act}
use Rattle.bl_page.specs.Machine.Act.{End}
use Rattle.bl_claims.specs.Trails.{Said, Mark, Trail, DoesAt, entries_at, marks_of}
use Rattle.bl_tree_worlds.proofs.Pushes.{DoesAt-push}
use Rattle.bl_tree_worlds.proofs.Frames.{Each-map}
use Rattle.bl_proc.specs.declared.kinds.Proc.{Proc}
use Rattle.bl_proc_invariant.specs.Knowing.{Run, know}
use Rattle.bl_claims.specs.Latches.{OnlyLooks}
use Rattle.bl_index_rule.specs.declared.known.PassState.{PassState}
use Rattle.bl_claims.specs.Seeing.{IsLinearizable, AreElse, AreOnlyOf, own, Holds, name}
use Rattle.bl_index_rule.specs.Observed.{Steps, Begins, Finishes}
use Rattle.bl_index_rule.proofs.Marks.{each_append}
use Rattle.bl_index_events.specs.Runs.{IsSince}

-- an event stays where it is when others follow
pub does_on : (xs ys : Trail) (i : ℕ) (p : Name) (a : Act Page Reply) → DoesAt xs i p a → DoesAt (xs ++ ys) i p a
does_on xs [] i p a h = record { mark = h.mark; is = ap (λ (z : Trail). slice_get z i) (append_none xs) ∙ h.is; event = h.event }
  where
    append_none : (xs : Trail) → xs ++ [] ≡ xs
    append_none [] = refl
    append_none (x ∷ xs) = ap (λ (z : Trail). x ∷ z) (append_none xs)
does_on xs (y ∷ ys) i p a h =
    let one : DoesAt (xs ++ y ∷ []) i p a = DoesAt-push xs y h in
    let all : DoesAt ((xs ++ y ∷ []) ++ ys) i p a = does_on (xs ++ y ∷ []) ys i p a one in
    subst (λ (z : Trail). DoesAt z i p a) (append_assoc xs (y ∷ []) ys) all

-- a trail with an event in it goes on
longer : (old before : Trail) (first : Mark) (since tail : Trail) → (old ++ (before ++ first ∷ since)) ++ tail ≡ old ++ (before ++ first ∷ (since ++ tail))
longer old before first since tail = append_assoc old (before ++ first ∷ since) tail ∙ ap (λ (z : Trail). old ++ z) (append_assoc before (first ∷ since) tail)

-- events of other passes
others_only : (p : Name) (marks : Trail) → AreElse p.pass marks → AreOnlyOf p marks
others_only p marks h = Each-map _ _ marks (λ (m : Mark) (ne : m.event.process.pass ≢ p.pass) (e : m.event.process.pass ≡ p.pass). absurd (ne e)) h

pub since_begin : (pass pages passes : ℕ) (process : Proc) (old d : PassState) → Begins pass pages passes process old d → IsSince pass old d
since_begin pass pages passes process old d b =
    record {
      named = b.notes.pass;
      number = b.notes.number;
      beginning = b.notes.first;
      past = b.past;
      own = b.own;
      before = b.notes.between;
      first = b.notes.last;
      since = [];
      begins = b.notes.trail;
      begun = b.notes.event;
      none = b.notes.others;
      only = tt;
    }

pub since_step : (pass : ℕ) (act : Act Page Reply) (old d e : PassState) → IsSince pass old d → Steps act d e → IsSince pass old e
since_step pass act old d e s t =
    let tail : Trail = t.notes.between ++ t.notes.last ∷ [] in
    let p = name pass (old.number + 1) in
    let here : AreOnlyOf p tail = each_append _ t.notes.between (t.notes.last ∷ []) (others_only p t.notes.between (subst (λ (z : ℕ). AreElse z t.notes.between) s.named t.notes.others)) ((λ e. ap (λ v. v.process) t.notes.event ∙ (λ i. name (s.named i) (s.number i))), tt) in
    record {
      named = t.notes.pass ∙ s.named;
      number = t.notes.number ∙ s.number;
      beginning = t.notes.first ∙ s.beginning;
      past = t.past ∙ s.past;
      own = t.own;
      before = s.before;
      first = s.first;
      since = s.since ++ tail;
      begins = t.notes.trail ∙ (ap (λ (z : Trail). z ++ tail) s.begins ∙ longer old.trail s.before s.first s.since tail);
      begun = s.begun;
      none = s.none;
      only = each_append _ s.since tail s.only here;
    }

-- its end stands last
pub since_end : (pass : ℕ) (answer : Option Reply) (old d e : PassState) → IsSince pass old d → Finishes answer d e → Holds (name pass (old.number + 1)) answer old.trail e.trail
since_end pass answer old d e s t =
    let p = name pass (old.number + 1) in
    let tail : Trail = t.notes.between ++ t.notes.last ∷ [] in
    let here : AreOnlyOf p tail = each_append _ t.notes.between (t.notes.last ∷ []) (others_only p t.notes.between (subst (λ (z : ℕ). AreElse z t.notes.between) s.named t.notes.others)) ((λ e. ap (λ v. v.process) t.notes.event ∙ (λ i. name (s.named i) (s.number i))), tt) in
    let rest : AreOnlyOf p (s.first ∷ (s.since ++ tail)) = ((λ e. ap (λ v. v.process) s.begun), each_append _ s.since tail s.only here) in
    record {
      more = s.before ++ s.first ∷ (s.since ++ tail);
      begins = t.notes.trail ∙ (ap (λ (z : Trail). z ++ tail) s.begins ∙ longer old.trail s.before s.first s.since tail);
      alone = each_append _ s.before (s.first ∷ (s.since ++ tail)) (others_only p s.before s.none) rest;
      first = (s.before, s.first, s.since ++ tail, refl, s.begun, s.none);
      last = (
        s.before ++ s.first ∷ (s.since ++ t.notes.between),
        t.notes.last,
        sym (append_assoc s.before (s.first ∷ (s.since ++ t.notes.between)) (t.notes.last ∷ []) ∙ ap (λ (z : Trail). s.before ++ s.first ∷ z) (append_assoc s.since t.notes.between (t.notes.last ∷ []))),
        t.notes.event ∙ (λ i. record { process = name (s.named i) (s.number i); act = End answer }),
      );
    }

-- what the index began with, and what the pass has seen by then
pub end_seen : (pass : ℕ) (answer : Option Reply) (old d e : PassState) (first : List (Option Page)) → IsSince pass old d → Finishes answer d e → old.first ≡ first → (e.first ≡ first) × IsLinearizable first e.trail
end_seen pass answer old d e first s t is = let same : e.first ≡ first = t.notes.first ∙ (s.beginning ∙ is) in (same, subst (λ (z : List (Option Page)). IsLinearizable z e.trail) same t.notes.seen.linear)

-- what the pass has said by then
pub since_said : (pass : ℕ) (answer : Option Reply) (old d e : PassState) (said : Option Said) → IsSince pass old d → Finishes answer d e → ((r : Run) → r.state ≡ d.state → (know r).said ≡ said) → own pass e.trail ≡ own pass old.trail ++ entries_at (name pass (old.number + 1)) said
since_said pass answer old d e said s t says =
    let h = s.own in
    let here : own pass e.trail ≡ own pass d.trail = subst (λ (z : ℕ). own z e.trail ≡ own z d.trail) s.named t.own in
    let there : own pass d.trail ≡ d.past ++ entries_at (name pass (old.number + 1)) (know h.run).said = subst (λ (z : Name). own z.pass d.trail ≡ d.past ++ entries_at z (know h.run).said) (λ i. name (s.named i) (s.number i)) h.own in
    here ∙ (there ∙ ((λ i. s.past i ++ entries_at (name pass (old.number + 1)) (says h.run h.state i))))

-- what it has done, by its name in the call
pub own_looks : (pass : ℕ) (old d : PassState) (trail : Trail) → IsSince pass old d → OnlyLooks (marks_of (name d.pass d.number) trail) → OnlyLooks (marks_of (name pass (old.number + 1)) trail)
own_looks pass old d trail s looks = subst (λ (p : Name). OnlyLooks (marks_of p trail)) (λ i. name (s.named i) (s.number i)) looks
