-- One event more is one moment more.
use Rattle.std.proofs.Common.{ℕ, ◌≡◌, ◌≤◌, ◌++◌, zero, suc, List, [], ◌∷◌, length, take, arith, ap, ◌∙◌, refl, inl, inr}
use Rattle.std.proofs.lemmas.Bool.{cases_lt}
use Rattle.bl_model.specs.Map.{Map}
use Rattle.bl_page.specs.declared.page.Page.{Page}
use Rattle.bl_page.specs.Machine.{State}
use Rattle.bl_claims.specs.Trails.{Mark, Trail}
use Rattle.bl_claims.specs.States.{Moment, HasMoments}

push_length : {A : Type 0} (xs : List A) (y : A) → length (xs ++ y ∷ []) ≡ suc (length xs)
push_length [] y = refl
push_length (x ∷ xs) y = ap suc (push_length xs y)

take_front : {A : Type 0} (xs : List A) (y : A) (i : ℕ) → i ≤ length xs → take i (xs ++ y ∷ []) ≡ take i xs
take_front xs y zero le = refl
take_front [] y (suc i) le = absurd (omega arith)
take_front (x ∷ xs) y (suc i) le = ap (λ z. x ∷ z) (take_front xs y i (omega arith))

take_all : {A : Type 0} (xs : List A) (i : ℕ) → length xs ≤ i → take i xs ≡ xs
take_all [] zero le = refl
take_all [] (suc i) le = refl
take_all (x ∷ xs) zero le = absurd (omega arith)
take_all (x ∷ xs) (suc i) le = ap (λ z. x ∷ z) (take_all xs i (omega arith))

pub moments_on : (first : Map) (start start' : State Page) (trail trail' : Trail) (m : Mark) → start' ≡ start → trail' ≡ trail ++ m ∷ [] → HasMoments first start trail → Moment first start' trail' → HasMoments first start' trail'
moments_on first start start' trail trail' m es et all last i le = elim (cases_lt (length trail) i) [
  | inl l ↦
      let longer : length trail' ≡ suc (length trail) = ap length et ∙ push_length trail m in
      rw (take_all trail' i (omega (arith, longer))) last
  | inr l ↦ rw (es, et, take_front trail m i (omega (arith, l))) (all i (omega (arith, l)))
]

-- nothing has happened yet
pub moments_first : (first : Map) (start : State Page) → Moment first start [] → HasMoments first start []
moments_first first start m i le = rw (take_all {A = Mark} [] i (omega arith)) m
