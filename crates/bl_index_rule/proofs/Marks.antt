-- Whose events stand in a trail, as it goes on.
use Rattle.std.proofs.Common.{ℕ, ◌≡◌, ◌≢◌, ◌+◌, ◌≤◌, ◌++◌, Bool, if◌then◌else◌, true, false, List, [], ◌∷◌, length, refl, ap, ◌∙◌, arith}
use Rattle.bl_page.specs.Machine.{Name}
use Rattle.bl_claims.specs.Trails.{Mark, Trail, same_name, marks_of}
use Rattle.bl_tree_worlds.proofs.Pushes.{not_same}
use Rattle.bl_claims.specs.Walks.{Each}
use Rattle.bl_tree_worlds.proofs.Frames.{Each-map}
use Rattle.bl_claims.specs.Seeing.{AreElse}
use Rattle.bl_index_rule.specs.Simulation.{AreUpTo}

pub each_append : {A : Type 0} (P : A → Type 0) (xs ys : List A) → Each P xs → Each P ys → Each P (xs ++ ys)
each_append P [] ys h k = k
each_append P (x ∷ xs) ys h k = (h.0, each_append P xs ys h.1 k)

-- who did none of these events has no marks there
pub no_marks : (p : Name) (ms : Trail) → Each (λ (m : Mark). m.event.process ≢ p) ms → marks_of p ms ≡ []
no_marks p [] h = refl
no_marks p (m ∷ ms) h = (let same = not_same m.event.process p h.0 in ap (λ (z : Bool). if z then m ∷ marks_of p ms else marks_of p ms) same ∙ no_marks p ms h.1)

-- how many of both are of one process
count_on : (b : Bool) (m : Mark) (all first rest : Trail) → length all ≡ length first + length rest → length (if b then m ∷ all else all) ≡ length (if b then m ∷ first else first) + length rest
count_on true m all first rest e = omega arith
count_on false m all first rest e = e

pub many-append : (p : Name) (xs ys : Trail) → length (marks_of p (xs ++ ys)) ≡ length (marks_of p xs) + length (marks_of p ys)
many-append p [] ys = omega arith
many-append p (m ∷ ms) ys = count_on (same_name m.event.process p) m (marks_of p (ms ++ ys)) (marks_of p ms) (marks_of p ys) (many-append p ms ys)

-- a trail of processes up to one number goes on by events of others and then one up to a number that is no less
pub up_to_on : (pass number more : ℕ) (old rest : Trail) (m : Mark) → AreUpTo pass number old → AreElse pass rest → number ≤ more → (m.event.process.pass ≡ pass → m.event.process.number ≤ more) → AreUpTo pass more ((old ++ rest) ++ m ∷ [])
up_to_on pass number more old rest m up others le last =
    let within : AreUpTo pass more old = Each-map _ _ old (λ (k : Mark) (h : k.event.process.pass ≡ pass → k.event.process.number ≤ number) (e : k.event.process.pass ≡ pass). (let low = h e in omega arith)) up in
    let none : AreUpTo pass more rest = Each-map _ _ rest (λ (k : Mark) (h : k.event.process.pass ≢ pass) (e : k.event.process.pass ≡ pass). absurd (h e)) others in
    each_append _ (old ++ rest) (m ∷ []) (each_append _ old rest within none) (last, tt)
