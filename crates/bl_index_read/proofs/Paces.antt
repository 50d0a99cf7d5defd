-- How far a search is: what it has got by each turn, within its bound.
use Rattle.std.proofs.Common.{ℕ, ◌≡◌, ◌≢◌, ◌+◌, ◌≤◌, ◌++◌, zero, suc, Option, Some, [], ◌∷◌, length, refl, sym, ap, ◌∙◌, subst, arith, append_assoc}
use Rattle.std.specs.Prelude.{slice_get}
use Rattle.bl_model.specs.declared.operation.Reply.{Reply}
use Rattle.bl_page.specs.declared.page.Page.{Page}
use Rattle.bl_page.specs.Machine.{Name, Looked, Act}
use Rattle.bl_page.specs.Machine.Act.{Begin, End, Get, Look}
use Rattle.bl_claims.specs.Trails.{Mark, Trail, DoesAt}
use Rattle.bl_tree_worlds.proofs.Pushes.{DoesAt-last}
use Rattle.bl_claims.specs.Walks.{Each}
use Rattle.bl_tree_worlds.proofs.Frames.{Each-map}
use Rattle.bl_proc.specs.declared.kinds.Proc.{Proc}
use Rattle.bl_claims.specs.Bounds.{gets_in, gets_by, gets_of, IsWithinBound, IsBelowBound}
use Rattle.bl_proc_bounds.specs.Searches.{IsSearch, IsUnderWay}
use Rattle.bl_proc_bounds.proofs.Counts.{since_first, own_gets, own_gets_own, gets_on}
use Rattle.bl_proc_bounds.proofs.Others.{others_get, Quiet, quiet, quiet_below}
use Rattle.bl_index_rule.specs.declared.known.PassState.{PassState}
use Rattle.bl_claims.specs.Seeing.{AreElse, name}
use Rattle.bl_index_rule.specs.Observed.{Notes, Steps, Begins, Finishes}
use Rattle.bl_index_rule.proofs.Marks.{each_append}
use Rattle.bl_index_read.specs.Turns.{IsAtTurn, IsAtLast}
use Rattle.bl_index_events.proofs.Calls.{does_on}

-- a process that did none of these events has not begun there
not_there : (p : Name) (ms : Trail) → Each (λ (m : Mark). m.event.process ≢ p) ms → (i : ℕ) (m : Mark) → slice_get ms i ≡ Some m → m.event.process ≡ p → ⊥
not_there p [] h i m is e = cc (is)
not_there p (d ∷ ms) h zero m is e = (let same : d ≡ m = (let f = is in cc) in h.0 (ap (λ (v : Mark). v.event.process) same ∙ e))
not_there p (d ∷ ms) h (suc i) m is e = not_there p ms h.1 i m is e

not_begun : (p : Name) (ms : Trail) → Each (λ (m : Mark). m.event.process ≢ p) ms → (i : ℕ) → DoesAt ms i p Begin → ⊥
not_begun p ms h i d = not_there p ms h i d.mark d.is (ap (λ e. e.process) d.event)

-- events of other passes are of other processes
else_other : (p : Name) (by : ℕ) (ms : Trail) → p.pass ≡ by → AreElse by ms → Each (λ (m : Mark). m.event.process ≢ p) ms
else_other p by ms same h = Each-map _ _ ms (λ (m : Mark) (ne : m.event.process.pass ≢ by) (e : m.event.process ≡ p). ne (ap (λ (q : Name). q.pass) e ∙ same)) h

module _ (pages : ℕ) (p : Name) (by count : ℕ) (act : Act Page Reply) (d e : PassState) (is : name by count ≡ p) (n : Notes by count act d e) where
  own_pass : p.pass ≡ by
  own_pass = ap (λ (q : Name). q.pass) (sym is)

  own_last : n.last.event.process ≡ p
  own_last = ap (λ v. v.process) n.event ∙ is

  -- what the others did before it
  before : (i : ℕ) → DoesAt d.trail i p Begin → Quiet pages p d.trail n.between
  before i begun = quiet pages p n.between d.trail i begun (others_get p n.between (else_other p by n.between own_pass n.others))

  one_more : e.trail ≡ (d.trail ++ n.between) ++ n.last ∷ []
  one_more = n.trail ∙ sym (append_assoc d.trail n.between (n.last ∷ []))

  -- it had begun, and has
  begun_on : (i : ℕ) → DoesAt d.trail i p Begin → DoesAt e.trail i p Begin
  begun_on i begun = subst (λ (t : Trail). DoesAt t i p Begin) (sym n.trail) (does_on d.trail (n.between ++ n.last ∷ []) i p Begin begun)

  gets_more : (i : ℕ) → DoesAt d.trail i p Begin → gets_of p e.trail ≡ gets_of p d.trail + gets_in act
  gets_more i begun =
      let q = before i begun in
      let there : DoesAt (d.trail ++ n.between) i p Begin = does_on d.trail n.between i p Begin begun in
      let adds = gets_on p (d.trail ++ n.between) n.last i there in
      let own : own_gets p n.last ≡ gets_in act = own_gets_own p n.last own_last ∙ ap (λ v. gets_in v.act) n.event in
      let gets = q.gets in
      ap (gets_of p) one_more ∙ (let z : gets_of p ((d.trail ++ n.between) ++ n.last ∷ []) ≡ gets_of p d.trail + gets_in act = omega (arith, adds, own, gets) in z)

  -- an event of its own that is no get
  whole : (i : ℕ) → DoesAt d.trail i p Begin → gets_in act ≡ 0 → Quiet pages p d.trail (n.between ++ n.last ∷ [])
  whole i begun none =
      let others = others_get p n.between (else_other p by n.between own_pass n.others) in
      let own : own_gets p n.last ≡ 0 = own_gets_own p n.last own_last ∙ (ap (λ v. gets_in v.act) n.event ∙ none) in
      quiet pages p (n.between ++ n.last ∷ []) d.trail i begun (each_append _ n.between (n.last ∷ []) others (own, tt))

-- it has begun, and got nothing yet
pub at_begin : (pages passes pass : ℕ) (process : Proc) (old d : PassState) → Begins pass pages passes process old d → IsSearch d.state → IsUnderWay d.state → IsAtTurn pages pass (old.number + 1) 0 d.trail
at_begin pages passes pass process old d b search on =
    let p = name pass (old.number + 1) in
    let n = b.notes in
    let all : Each (λ (m : Mark). m.event.process ≢ p) (old.trail ++ n.between) = each_append _ old.trail n.between (Each-map _ _ old.trail (λ (m : Mark) (up : m.event.process.pass ≡ pass → m.event.process.number ≤ old.number) (e : m.event.process ≡ p). (let few = up (ap (λ (q : Name). q.pass) e) in let is : m.event.process.number ≡ old.number + 1 = ap (λ (q : Name). q.number) e in absurd (omega arith))) b.fresh) (else_other p pass n.between refl n.others) in
    let trail : d.trail ≡ (old.trail ++ n.between) ++ n.last ∷ [] = n.trail ∙ sym (append_assoc old.trail n.between (n.last ∷ [])) in
    let last = DoesAt-last (old.trail ++ n.between) n.last in
    let none = since_first p (old.trail ++ n.between) n.last (not_begun p (old.trail ++ n.between) all) in
    record {
      begin = length (old.trail ++ n.between);
      begun = subst (λ (t : Trail). DoesAt t (length (old.trail ++ n.between)) p Begin) (sym trail) (record { mark = last.mark; is = last.is; event = last.event ∙ n.event });
      bounded = subst (λ (z : ℕ). IsWithinBound z p d.trail) b.pages (n.bounded search);
      below = subst (λ (z : ℕ). IsBelowBound z p d.trail) b.pages (n.below on);
      gets = ap (gets_of p) trail ∙ ap (gets_by p) none;
    }

module _ (pages pass number turns : ℕ) (d : PassState) (named : d.pass ≡ pass) (counted : d.number ≡ number) (t : IsAtTurn pages pass number turns d.trail) where
  abbrev is_p : name d.pass d.number ≡ name pass number
  is_p = λ i. name (named i) (counted i)

  -- a get after which it is to get another page
  pub at_step : (x : ℕ) (e : PassState) → e.pages ≡ pages → Steps (Get x) d e → IsSearch e.state → IsUnderWay e.state → IsAtTurn pages pass number (turns + 1) e.trail
  at_step x e size s search on =
      let p = name pass number in
      let n = s.notes in record {
        begin = t.begin;
        begun = begun_on pages p d.pass d.number (Get x) d e is_p n t.begin t.begun;
        bounded = subst (λ (q : Name). IsWithinBound pages q e.trail) is_p (subst (λ (z : ℕ). IsWithinBound z (name d.pass d.number) e.trail) size (n.bounded search));
        below = subst (λ (q : Name). IsBelowBound pages q e.trail) is_p (subst (λ (z : ℕ). IsBelowBound z (name d.pass d.number) e.trail) size (n.below on));
        gets = gets_more pages p d.pass d.number (Get x) d e is_p n t.begin t.begun ∙ ap (λ (z : ℕ). z + 1) t.gets;
      }

  -- a look, after which it has got no more
  pub at_look : (it : Looked) (e : PassState) → e.pages ≡ pages → Steps (Look it) d e → IsSearch e.state → IsUnderWay e.state → IsAtTurn pages pass number turns e.trail
  at_look it e size s search on =
      let p = name pass number in
      let n = s.notes in record {
        begin = t.begin;
        begun = begun_on pages p d.pass d.number (Look it) d e is_p n t.begin t.begun;
        bounded = subst (λ (q : Name). IsWithinBound pages q e.trail) is_p (subst (λ (z : ℕ). IsWithinBound z (name d.pass d.number) e.trail) size (n.bounded search));
        below = subst (λ (q : Name). IsBelowBound pages q e.trail) is_p (subst (λ (z : ℕ). IsBelowBound z (name d.pass d.number) e.trail) size (n.below on));
        gets = (let more = gets_more pages p d.pass d.number (Look it) d e is_p n t.begin t.begun in let got = t.gets in omega (arith, more, got));
      }

  -- it has ended with no answer
  pub at_end : (answer : Option Reply) (e : PassState) → Finishes answer d e → IsWithinBound pages (name pass number) e.trail × (gets_of (name pass number) e.trail ≡ turns) × IsBelowBound pages (name pass number) e.trail
  at_end answer e f =
      let p = name pass number in
      let n = f.notes in
      let q = whole pages p d.pass d.number (End answer) d e is_p n t.begin t.begun refl in (
        subst (IsWithinBound pages p) (sym n.trail) (q.within t.bounded),
        ap (gets_of p) n.trail ∙ (q.gets ∙ t.gets),
        subst (IsBelowBound pages p) (sym n.trail) (quiet_below pages p d.trail (n.between ++ n.last ∷ []) q t.below),
      )

  -- a get by which it has found its leaf
  pub at_last : (x : ℕ) (e : PassState) → e.pages ≡ pages → Steps (Get x) d e → IsSearch e.state → (most : ℕ) → turns + 1 ≤ most → IsAtLast pages pass number most e.trail
  at_last x e size s search most le = record {
    begin = t.begin;
    begun = begun_on pages (name pass number) d.pass d.number (Get x) d e is_p s.notes t.begin t.begun;
    bounded = subst (λ (q : Name). IsWithinBound pages q e.trail) is_p (subst (λ (z : ℕ). IsWithinBound z (name d.pass d.number) e.trail) size (s.notes.bounded search));
    few = (let more : gets_of (name pass number) e.trail ≡ gets_of (name pass number) d.trail + 1 = gets_more pages (name pass number) d.pass d.number (Get x) d e is_p s.notes t.begin t.begun in let got = t.gets in omega (arith, more, got, le));
  }

-- and then its end
pub at_answer : (pages pass number most : ℕ) (answer : Option Reply) (e f : PassState) → e.pass ≡ pass → e.number ≡ number → IsAtLast pages pass number most e.trail → Finishes answer e f → IsWithinBound pages (name pass number) f.trail × (gets_of (name pass number) f.trail ≤ most)
at_answer pages pass number most answer e f named counted last done =
    let p = name pass number in
    let n = done.notes in
    let then : name e.pass e.number ≡ p = λ i. name (named i) (counted i) in
    let q = whole pages p e.pass e.number (End answer) e f then n last.begin last.begun refl in
    let same = ap (gets_of p) n.trail ∙ q.gets in
    (subst (IsWithinBound pages p) (sym n.trail) (q.within last.bounded), subst (λ (z : ℕ). z ≤ most) (sym same) last.few)
