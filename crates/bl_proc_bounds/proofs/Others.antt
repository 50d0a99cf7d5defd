-- Events at which a process gets nothing leave it within its bound.
use Rattle.std.proofs.Common.{ℕ, ◌≡◌, ◌≢◌, ◌≤◌, ◌+◌, ◌++◌, [], ◌∷◌, arith, sym, ap, ◌∙◌, subst, append-nil, append_assoc}
use Rattle.bl_page.specs.Machine.{Name}
use Rattle.bl_page.specs.Machine.Act.{Begin}
use Rattle.bl_claims.specs.Trails.{Mark, Trail, DoesAt}
use Rattle.bl_tree_worlds.proofs.Pushes.{DoesAt-push}
use Rattle.bl_claims.specs.Walks.{Each}
use Rattle.bl_tree_worlds.proofs.Frames.{Each-map}
use Rattle.bl_claims.specs.Bounds.{gets_of, puts_near, IsWithinBound, IsBelowBound}
use Rattle.bl_proc_bounds.proofs.Counts.{own_gets, own_gets_other, gets_on, puts_on, within_on, within_now}
use Rattle.bl_proc_bounds.proofs.Spending.{most_rises}

-- it gets nothing at any of these
abbrev pub GetsNothing : Name → Trail → Type 0
GetsNothing p marks = Each (λ (m : Mark). own_gets p m ≡ 0) marks

pub others_get : (p : Name) (marks : Trail) → Each (λ (m : Mark). m.event.process ≢ p) marks → GetsNothing p marks
others_get p marks h = Each-map _ _ marks (λ (m : Mark) (ne : m.event.process ≢ p). own_gets_other p m ne) h

pub record Quiet (pages : ℕ) (p : Name) (trail more : Trail) : Type 0 where
  pub gets : gets_of p (trail ++ more) ≡ gets_of p trail
  pub puts : puts_near p trail ≤ puts_near p (trail ++ more)
  pub within : IsWithinBound pages p trail → IsWithinBound pages p (trail ++ more)

pub quiet : (pages : ℕ) (p : Name) (more trail : Trail) (i : ℕ) → DoesAt trail i p Begin → GetsNothing p more → Quiet pages p trail more
quiet pages p [] trail i begun h = (let e = sym (append-nil trail) in record {
  gets = ap (gets_of p) (append-nil trail);
  puts = subst (λ t. puts_near p trail ≤ puts_near p t) e (omega arith);
  within = λ w. subst (IsWithinBound pages p) e w;
})
quiet pages p (m ∷ more) trail i begun h =
    let r = quiet pages p more (trail ++ m ∷ []) i (DoesAt-push trail m begun) h.1 in
    let e = append_assoc trail (m ∷ []) more in
    let none = h.0 in
    let gets : gets_of p (trail ++ m ∷ []) ≡ gets_of p trail = gets_on p trail m i begun ∙ (let z : gets_of p trail + own_gets p m ≡ gets_of p trail = omega (arith, none) in z) in
    let puts : puts_near p trail ≤ puts_near p (trail ++ m ∷ []) = (let f = puts_on p trail m i begun in omega (arith, f)) in
    let later = r.puts in
    record {
      gets = ap (gets_of p) (sym e) ∙ (r.gets ∙ gets);
      puts = subst (λ t. puts_near p trail ≤ puts_near p t) e (omega (arith, puts, later));
      within = λ w.
          let now = within_now pages p trail w in
          let rise = most_rises pages (puts_near p trail) (puts_near p (trail ++ m ∷ [])) puts in
          subst (IsWithinBound pages p) e (r.within (within_on pages p trail m w (omega (arith, gets, now, rise))));
    }

-- and below it
pub quiet_below : (pages : ℕ) (p : Name) (trail more : Trail) → Quiet pages p trail more → IsBelowBound pages p trail → IsBelowBound pages p (trail ++ more)
quiet_below pages p trail more q h = (let gets = q.gets in let rise = most_rises pages (puts_near p trail) (puts_near p (trail ++ more)) q.puts in omega (arith, gets, rise, h))
