-- Where the bounds of all searches begin, and what they say.
use Rattle.std.proofs.Common.{ℕ, ◌≡◌, ◌++◌, [], ◌∷◌, arith, ap, sym, ◌∙◌, inl, inr, subst}
use Rattle.bl_page.specs.declared.page.Page.{Page}
use Rattle.bl_page.specs.Machine.{Name}
use Rattle.bl_page.specs.Machine.Phase.{Waiting}
use Rattle.bl_claims.specs.Trails.{Mark, Trail, IsPhase}
use Rattle.bl_tree_worlds.proofs.Pushes.{name_cases}
use Rattle.bl_tree_worlds.specs.Worlds.{Stage, World, IsGood, Extends}
use Rattle.bl_tree_worlds.proofs.After.{is_put_name}
use Rattle.bl_proc.specs.declared.searching.FindStage.{FindStage}
use Rattle.bl_proc.specs.declared.searching.FindStage.TheVariants as find
use Rattle.bl_proc.specs.declared.parts.PartStage.{PartStage}
use Rattle.bl_proc.specs.declared.parts.PartStart.{PartStart}
use Rattle.bl_proc.specs.declared.parts.PartStage.TheVariants as part
use Rattle.bl_proc.specs.declared.kinds.Proc.{Proc}
use Rattle.bl_proc.specs.declared.kinds.Proc.TheVariants as proc
use Rattle.bl_proc_invariant.specs.Knowing.{Run, know_find, know_part, know_of, know}
use Rattle.bl_proc_invariant.proofs.Instead.{with_proc}
use Rattle.bl_proc_invariant.proofs.OffWalk.{off_run}
use Rattle.bl_proc_writes.specs.declared.walking.Walk.{Walk}
use Rattle.bl_proc_writes.specs.declared.post.Post.{Post}
use Rattle.bl_claims.specs.Bounds.{gets_in, puts_in, IsWithinBound, IsBelowBound}
use Rattle.bl_proc_bounds.specs.Searches.{IsSearch, IsGoing, IsUnderWay}
use Rattle.bl_proc_bounds.proofs.Counts.{own_gets_own, within_none}
use Rattle.bl_proc_bounds.proofs.Ahead.{ahead_some}
use Rattle.bl_proc_bounds.specs.Paces.{Place, find_place, part_place, place_of, sought, IsKept, AllPaced}
use Rattle.bl_proc_steps.specs.declared.descent.Descent.TheVariants.{AtAnchor}
use Rattle.bl_proc_bounds.specs.Paces.Place.{Nowhere, Trying, Going}
use Rattle.bl_proc_bounds.proofs.Keeping.{Knows, knows, IsKeptThen, stays, then_paced}

-- A turn at which the process stays as it is, and neither gets nor puts.
pub idle_paced : (w w' : World Run) (m : Mark) → Extends w w' m (w.proc m.event.process) → IsGood know w → IsGood know w' → gets_in m.event.act ≡ 0 → puts_in m.event.act ≡ 0 → AllPaced w → AllPaced w'
idle_paced w w' m e g g' no_get no_put all =
    then_paced w w' m (w.proc m.event.process) e g g'
    (λ p i.
    let same : w'.proc p ≡ w.proc p = ap w'.proc i ∙ (e.proc.at ∙ ap w.proc (sym i)) in
    let known : Knows w' p (sought (w.proc p).state) (place_of (w.proc p).state) = subst (λ (r : Run). Knows w' p (sought r.state) (place_of r.state)) same (knows w' p g') in
    subst (λ (r : Run). IsKeptThen w w' m (w.proc m.event.process) e g g' p (sought r.state) (place_of r.state)) (ap w.proc i)
    (stays w w' m (w.proc m.event.process) e g g' p (sought (w.proc p).state) (place_of (w.proc p).state) (own_gets_own p m (sym i) ∙ no_get) (λ put. absurd (omega (arith, no_put, put))) known (all p))) all

-- A turn after which the process searches no more.
pub left_paced : (w w' : World Run) (m : Mark) (b : Run) → Extends w w' m b → IsGood know w → IsGood know w' → place_of b.state ≡ Nowhere → AllPaced w → AllPaced w'
left_paced w w' m b e g g' none all = then_paced w w' m b e g g' (λ p i. subst (λ place. IsKept w.size w'.now.contents (w.trail ++ m ∷ []) p (sought b.state) place) (sym none) tt) all

-- A process that has not begun

find_early : (size : ℕ) (contents : ℕ → Page) (trail : Trail) (p : Name) (k : ℕ) (a : FindStage) → (know_find k a).stage ≡ Stage.Early → IsKept size contents trail p k (find_place a)
find_early size contents trail p k find.New e = tt
find_early size contents trail p k (find.Near x) e = tt
find_early size contents trail p k old e = absurd (cc e)

part_early : (size : ℕ) (contents : ℕ → Page) (trail : Trail) (p : Name) (k : PartStart) (a : PartStage) → (know_part k a).stage ≡ Stage.Early → IsKept size contents trail p k.key (part_place a)
part_early size contents trail p k part.New e = tt
part_early size contents trail p k (part.Near x) e = tt
part_early size contents trail p k old e = absurd (cc e)

early_of : (size : ℕ) (contents : ℕ → Page) (trail : Trail) (p : Name) (got : ℕ → Page) (child time : ℕ) (a : Proc) → (know_of got child time a).stage ≡ Stage.Early → IsKept size contents trail p (sought a) (place_of a)
early_of size contents trail p got child time (proc.Find a) e = find_early size contents trail p a.key a.stage e
early_of size contents trail p got child time (proc.Write a) e = tt
early_of size contents trail p got child time (proc.Post a) e = tt
early_of size contents trail p got child time (proc.Part a) e = part_early size contents trail p a.from a.stage e
early_of size contents trail p got child time (proc.Compress a) e = tt
early_of size contents trail p got child time (proc.Reclaim a) e = tt
early_of size contents trail p got child time (proc.Lower a) e = tt
early_of size contents trail p got child time (proc.InsertPost a) e = tt

early : (size : ℕ) (contents : ℕ → Page) (trail : Trail) (p : Name) (b : Run) → (know b).stage ≡ Stage.Early → IsKept size contents trail p (sought b.state) (place_of b.state)
early size contents trail p b e = early_of size contents trail p b.got b.child b.time b.state e

-- a world in which none has begun
pub first_paced : (w : World Run) → ((p : Name) → (know (w.proc p)).stage ≡ Stage.Early) → AllPaced w
first_paced w blank p = early w.size w.now.contents w.trail p (w.proc p) (blank p)

-- a world that one enters
pub enter_paced : (w : World Run) (p : Name) (b : Run) → (know b).stage ≡ Stage.Early → AllPaced w → AllPaced (with_proc w p b)
enter_paced w p b e all q = elim (name_cases q p) [
  | inl i ↦ subst (λ (r : Run). IsKept w.size w.now.contents w.trail q (sought r.state) (place_of r.state)) (sym (ap (with_proc w p b).proc i ∙ (is_put_name p b w.proc).at)) (early w.size w.now.contents w.trail q b e)
  | inr n ↦ subst (λ (r : Run). IsKept w.size w.now.contents w.trail q (sought r.state) (place_of r.state)) (sym ((is_put_name p b w.proc).others q n)) (all q)
]

-- a world in which a post has given up its walk: it searches nowhere
pub off_paced : (w : World Run) (p : Name) (a : Post) (v : Walk) → AllPaced w → AllPaced (with_proc w p (off_run (w.proc p) a v))
off_paced w p a v all q = elim (name_cases q p) [
  | inl i ↦ subst (λ (r : Run). IsKept w.size w.now.contents w.trail q (sought r.state) (place_of r.state)) (sym (ap (with_proc w p (off_run (w.proc p) a v)).proc i ∙ (is_put_name p (off_run (w.proc p) a v) w.proc).at)) tt
  | inr n ↦ subst (λ (r : Run). IsKept w.size w.now.contents w.trail q (sought r.state) (place_of r.state)) (sym ((is_put_name p (off_run (w.proc p) a v) w.proc).others q n)) (all q)
]

-- What they say

not_begun : (w : World Run) (p : Name) → IsGood know w → w.now.phase p ≡ Waiting → IsWithinBound w.size p w.trail
not_begun w p g phase = (let none : IsPhase w.trail p Waiting = subst (IsPhase w.trail p) phase (g.recorded.phases p) in within_none w.size p w.trail none.0)

find_within : (w : World Run) (p : Name) (k : ℕ) (a : FindStage) → IsGood know w → Knows w p k (find_place a) → IsKept w.size w.now.contents w.trail p k (find_place a) → IsWithinBound w.size p w.trail
find_within w p k find.New g is h = not_begun w p g is.0
find_within w p k (find.Near x) g is h = not_begun w p g is.0
find_within w p k (find.Probing x) g is h = h.0.within
find_within w p k (find.Descending d) g is h = h.within
find_within w p k (find.Ending v) g is h = h.within
find_within w p k (find.Over v) g is h = h.within

part_within : (w : World Run) (p : Name) (k : ℕ) (a : PartStage) → IsGood know w → Knows w p k (part_place a) → IsKept w.size w.now.contents w.trail p k (part_place a) → IsWithinBound w.size p w.trail
part_within w p k part.New g is h = not_begun w p g is.0
part_within w p k (part.Near x) g is h = not_begun w p g is.0
part_within w p k (part.Probing x) g is h = h.0.within
part_within w p k (part.Descending d) g is h = h.within
part_within w p k (part.Ending r) g is h = h.within
part_within w p k (part.Over r) g is h = h.within

within_of : (w : World Run) (p : Name) (a : Proc) → IsGood know w → Knows w p (sought a) (place_of a) → IsKept w.size w.now.contents w.trail p (sought a) (place_of a) → IsSearch a → IsWithinBound w.size p w.trail
within_of w p (proc.Find a) g is h s = find_within w p a.key a.stage g is h
within_of w p (proc.Part a) g is h s = part_within w p a.from.key a.stage g is h
within_of w p old g is h s = absurd s

-- each search has been within its bound at every moment so far
pub search_within : (w : World Run) (p : Name) → IsGood know w → AllPaced w → IsSearch (w.proc p).state → IsWithinBound w.size p w.trail
search_within w p g all s = within_of w p (w.proc p).state g (knows w p g) (all p) s

below_at : (w : World Run) (p : Name) (k : ℕ) (place : Place) → IsKept w.size w.now.contents w.trail p k place → IsGoing place → IsBelowBound w.size p w.trail
below_at w p k (Trying x) h s = (let enough = h.0.enough in let some = ahead_some w.now.contents k AtAnchor h.0.left h.0.ahead in omega arith)
below_at w p k (Going d) h s = (let enough = h.enough in let some = ahead_some w.now.contents k d h.left h.ahead in omega arith)
below_at w p k old h s = absurd s

-- and below it, while it is to get another page
pub search_below : (w : World Run) (p : Name) → AllPaced w → IsUnderWay (w.proc p).state → IsBelowBound w.size p w.trail
search_below w p all s = below_at w p (sought (w.proc p).state) (place_of (w.proc p).state) (all p) s
