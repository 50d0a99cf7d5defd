-- What is told of two outcomes that are the same.
use Rattle.std.proofs.Common.{ℕ, ◌≡◌, subst}
use Rattle.bl_page.specs.declared.page.Page.{Page}
use Rattle.bl_proc_steps.specs.declared.approach.Approach.{Approach}
use Rattle.bl_proc_steps.specs.declared.approach.Approached.TheVariants as came
use Rattle.bl_proc_deterministic.specs.One.{One}

pub came_on : (a b : Approach) → came.On a ≡ came.On b → a ≡ b
came_on a b e = cc

pub came_at : (x y : ℕ) (c d : Page) → came.Here x c ≡ came.Here y d → x ≡ y
came_at x y c d e = cc

pub came_as : (x y : ℕ) (c d : Page) → came.Here x c ≡ came.Here y d → c ≡ d
came_as x y c d e = cc

pub not_both : (a : Approach) (x : ℕ) (c : Page) → came.On a ≡ came.Here x c → ⊥
not_both a x c e = cc

-- there is one after one
pub one_after : {A B : Type 0} {R : A → Type 0} {S : A → B → Type 0} (first : One R) → One (S first.new) → One (λ b. (a : A) × R a × S a b)
one_after {S = S} first then = record { new = then.new; goes = (first.new, first.goes, then.goes); only = λ b t. then.only b (subst (λ a. S a b) (first.only t.0 t.1) t.2) }
