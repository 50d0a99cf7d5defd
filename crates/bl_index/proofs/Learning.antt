-- A pass that knows more of what has happened: this keeps the rule.
use Rattle.std.proofs.Common.{ℕ, ◌≡◌, ◌≢◌, ◌++◌, Option, List, [], ◌∷◌, set, refl, sym, ap, ◌∙◌, subst, ⊎_elim, inl, inr, append-nil, append_assoc}
use Rattle.std.proofs.lemmas.Bool.{cases_eq}
use Rattle.std.proofs.lemmas.List.{append_cancel_left}
use mathlib.Core.Option.{some}
use lib.ListN.{get_elem?}
use Rattle.std.proofs.Math.ListN.{length-set}
use Rattle.atomic_table.proofs.Lists.{at_set, set_else}
use Rattle.bl_page.specs.declared.page.Page.{Page}
use Rattle.bl_page.specs.Machine.{Name}
use Rattle.bl_claims.specs.Trails.{Mark, Trail, marks_of}
use Rattle.bl_tree_worlds.specs.Worlds.{World}
use Rattle.bl_claims.specs.Walks.{Each}
use Rattle.bl_tree_worlds.proofs.Frames.{Each-map}
use Rattle.bl_tree_worlds.proofs.Pushes.{marks_of-other}
use Rattle.bl_proc_invariant.specs.Knowing.{Run}
use Rattle.bl_layout.specs.declared.layout.Layout.{Layout}
use Rattle.bl_store_rule.specs.Pages.{Stage, Idle, Running, Pages, Stands, observed, Meets}
use Rattle.bl_index_rule.specs.declared.known.PassState.{PassState}
use Rattle.bl_claims.specs.Seeing.{IsSeen, AreWithin, AreElse, own, GoesOnFrom, name}
use Rattle.bl_index_rule.specs.Simulation.{AreUpTo, IsAtStage, IsHand, IsRun, Simulates}
use Rattle.bl_index_rule.proofs.Entries.{own-other}
use Rattle.bl_index_rule.proofs.Marks.{each_append}
use Rattle.bl_index_rule.proofs.Sights.{world_seen}
use Rattle.bl_index_rule.proofs.Shown.{same_owner, set_there}
use Rattle.bl_index_rule.proofs.Runners.{one_hand}
use Rattle.bl_index.specs.Meetings.{IsStill, learned, heard}

-- ---- events of other passes

pub own_else : (pass : ℕ) (trail rest : Trail) → AreElse pass rest → own pass (trail ++ rest) ≡ own pass trail
own_else pass trail [] none = ap (own pass) (append-nil trail)
own_else pass trail (m ∷ rest) none = ap (own pass) (sym (append_assoc trail (m ∷ []) rest)) ∙ (own_else pass (trail ++ m ∷ []) rest none.1 ∙ own-other pass trail m none.0)

-- nor has a process of this one done anything
pub marks_else : (p : Name) (trail rest : Trail) → AreElse p.pass rest → marks_of p (trail ++ rest) ≡ marks_of p trail
marks_else p trail [] none = ap (marks_of p) (append-nil trail)
marks_else p trail (m ∷ rest) none = ap (marks_of p) (sym (append_assoc trail (m ∷ []) rest))
    ∙ (marks_else p (trail ++ m ∷ []) rest none.1 ∙ marks_of-other p trail m (λ e. none.0 (ap (λ (q : Name). q.pass) e)))

pub still_else : (pass : ℕ) (old new more : Trail) → new ≡ old ++ more → AreElse pass more → IsStill pass old new
still_else pass old new more is none = λ number. ap (marks_of (name pass number)) is ∙ marks_else (name pass number) old more none

each_parts : {A : Type 0} (P : A → Type 0) (xs ys : List A) → Each P (xs ++ ys) → Each P xs × Each P ys
each_parts P [] ys h = (tt, h)
each_parts P (x ∷ xs) ys h = let r = each_parts P xs ys h.1 in ((h.0, r.0), r.1)

up_to_more : (pass number : ℕ) (old rest : Trail) → AreUpTo pass number old → AreElse pass rest → AreUpTo pass number (old ++ rest)
up_to_more pass number old rest up other = each_append _ old rest up (Each-map _ _ rest (λ (k : Mark) (h : k.event.process.pass ≢ pass) (e : k.event.process.pass ≡ pass). absurd (h e)) other)

-- ---- one hand knows more

module _ (s : Pages PassState) (f : Simulates s) (n : ℕ) (st : Stage) (d : PassState) (at : Stands s n st d) (d' : PassState) (number : d'.number ≡ d.number) (passes : d'.passes ≡ d.passes) (first : d'.first ≡ d.first) (hand : IsHand f.world n st d') where
  abbrev after : List (Stage × PassState)
  after = set s.hands n (st, d')

  runs_in : (p : Name) (since : ℕ) → IsRun s.hands p since → IsRun after p since
  runs_in p since r = elim (cases_eq p.pass n) [
    | inl e ↦
        let one : ◌≡◌ {A = Stage × PassState} (st, d) (Running r.1.0, r.0) = one_hand s.hands n (st, d) (Running r.1.0, r.0) at (ap (get_elem? s.hands) (sym e) ∙ r.1.2) in
        let here : get_elem? after n ≡ some (st, d') = set_there s.hands n (st, d) (st, d') at in (
          d',
          (r.1.0, r.1.1, ap (get_elem? after) e ∙ (here ∙ ap (λ (z : Stage × PassState). some (z.0, d')) one)),
          r.2 ∙ (ap (λ (z : Stage × PassState). z.1.number) (sym one) ∙ sym number),
        )
    | inr ne ↦ (r.0, (r.1.0, r.1.1, set_else s.hands n p.pass (st, d') ne ∙ r.1.2), r.2)
  ]

  pub knows_more : Simulates (observed s n st d')
  knows_more = record {
    world = f.world;
    good = f.good;
    kept = f.kept;
    image = f.image;
    opening = f.opening;
    first = f.first;
    moments = f.moments;
    size = f.size;
    clock = f.clock;
    pages = f.pages;
    owners = λ x o e. f.owners x o e ∙ sym (same_owner s.hands n (st, d) (st, d') o at number);
    hands = λ k sg g at_k. ⊎_elim
        (λ (z : (k ≡ n) × ((st, d') ≡ (sg, g))). subst (λ (u : ℕ × (Stage × PassState)). IsHand f.world u.0 u.1.0 u.1.1) (λ i. (sym z.0 i, z.1 i)) hand)
        (λ (z : (k ≢ n) × (get_elem? s.hands k ≡ some (sg, g))). f.hands k sg g z.1)
        (at_set s.hands n k (st, d') (sg, g) at_k);
    within = subst (λ (z : ℕ). AreWithin z f.world.trail) (sym (length-set s.hands n (st, d'))) f.within;
    counts = λ k sg g at_k begun. ⊎_elim
        (λ (z : (k ≡ n) × ((st, d') ≡ (sg, g))). let same : d' ≡ g = ap (λ (u : Stage × PassState). u.1) z.1 in
        ap (λ (u : PassState). u.passes) (sym same) ∙ (passes ∙ (f.counts n st d at (λ none. begun (ap (λ (u : PassState). u.number) (sym same) ∙ (number ∙ none))) ∙ sym (length-set s.hands n (st, d')))))
        (λ (z : (k ≢ n) × (get_elem? s.hands k ≡ some (sg, g))). f.counts k sg g z.1 begun ∙ sym (length-set s.hands n (st, d')))
        (at_set s.hands n k (st, d') (sg, g) at_k);
    firsts = λ k sg g at_k. ⊎_elim
        (λ (z : (k ≡ n) × ((st, d') ≡ (sg, g))). ap (λ (u : Stage × PassState). u.1.first) (sym z.1) ∙ (first ∙ f.firsts n st d at))
        (λ (z : (k ≢ n) × (get_elem? s.hands k ≡ some (sg, g))). f.firsts k sg g z.1)
        (at_set s.hands n k (st, d') (sg, g) at_k);
    busy = λ p since runs. runs_in p since (f.busy p since runs);
    versions = f.versions;
    firm = f.firm;
  }

-- a hand that knows the trail up to a place behind which no event is of its pass
module _ (w : World Run) (n : ℕ) (d : PassState) (trail : Trail) (more : Trail) (is : trail ≡ d.trail ++ more) (rest : Trail) (all : w.trail ≡ trail ++ rest) (other : AreElse n more) (behind : AreElse n rest) where
  stage_same : (st : Stage) → IsAtStage w n st d → IsAtStage w n st (record d { trail = trail })
  stage_same Idle h = h
  stage_same (Running since) h = h

  pub hand_more : (st : Stage) → IsHand w n st d → IsHand w n st (record d { trail = trail })
  hand_more st h = record {
    named = h.named;
    stage = stage_same st h.stage;
    later = h.later;
    begins = (rest, all, behind);
    counted = subst (AreUpTo n d.number) (sym is) (up_to_more n d.number d.trail more h.counted other);
    mine = ap (own n) all ∙ own_else n trail rest behind;
  }

-- ---- it learns all that has happened

pub learns_all : (l : Layout) (n m : ℕ) (d e : PassState) → Meets Simulates l n d m e (learned n m l.passes)
learns_all l n m d e s st f o at at_m ne =
    let w = f.world in let h = f.hands n st d at in let k = f.hands m Idle e at_m in
    let mine : w.trail ≡ d.trail ++ h.begins.0 = h.begins.1 in
    let theirs : w.trail ≡ e.trail ++ k.begins.0 = k.begins.1 in
    let d' : PassState = record d { trail = w.trail } in (
      d',
      knows_more s f n st d at d' refl refl refl (hand_more w n d w.trail h.begins.0 mine [] (sym (append-nil w.trail)) h.begins.2 tt st h),
      record {
        learns = record {
          begins = (h.begins.0, mine);
          begins_theirs = (k.begins.0, theirs);
          none = h.mine;
          none_theirs = k.mine;
          still = still_else n d.trail w.trail h.begins.0 mine h.begins.2;
          still_theirs = still_else m e.trail w.trail k.begins.0 theirs k.begins.2;
        };
        first = refl;
        seen = subst (λ (z : List (Option Page)). IsSeen z w.trail) (sym (f.firsts n st d at)) (world_seen w f.image f.good f.opening f.first f.moments);
        within = subst (λ (z : ℕ). AreWithin z w.trail) o.hands f.within;
        runs = refl;
      },
    )

-- ---- it is told what another knows

pub hears_all : (l : Layout) (n m : ℕ) (d e : PassState) → GoesOnFrom d.trail e.trail → Meets Simulates l n d m e (heard n)
hears_all l n m d e on s st f o at at_m ne =
    let w = f.world in let h = f.hands n st d at in let k = f.hands m Idle e at_m in let more : Trail = on.0 in
    let rest : h.begins.0 ≡ more ++ k.begins.0 = append_cancel_left d.trail h.begins.0 (more ++ k.begins.0)
    (sym h.begins.1 ∙ (k.begins.1 ∙ (ap (λ (z : Trail). z ++ k.begins.0) on.1 ∙ append_assoc d.trail more k.begins.0))) in
    let parts = each_parts _ more k.begins.0 (subst (AreElse n) rest h.begins.2) in
    let d' : PassState = record d { trail = e.trail } in (
      d',
      knows_more s f n st d at d' refl refl refl (hand_more w n d e.trail more on.1 k.begins.0 k.begins.1 parts.0 parts.1 st h),
      record {
        hears = record { is = refl; none = ap (own n) on.1 ∙ own_else n d.trail more parts.0; still = still_else n d.trail e.trail more on.1 parts.0 };
        first = refl;
        runs = refl;
      },
    )
