-- What is left to do of all processes together: turns and puts, in lists.
use Rattle.std.proofs.Common.{ℕ, zero, suc, ◌≡◌, ◌+◌, ◌*◌, ◌<◌, ◌≤◌, Some, None, List, [], ◌∷◌, length, slice_get, slice_set, arith, refl, subst}
use Rattle.std.proofs.lemmas.Nat.{mul-le}
use Rattle.bl_proc.specs.declared.kinds.Proc.{Proc}
use Rattle.bl_proc_ends.specs.Budget.{puts_of}
use Rattle.bl_proc_ends.proofs.FewPuts.{puts_few}

-- a number for each process
abbrev pub Each2 : (Proc → ℕ → Type 0) → List Proc → List ℕ → Type 0
Each2 P [] [] = Unit {0}
Each2 P (p ∷ ps) (n ∷ ns) = P p n × Each2 P ps ns
Each2 P ps ns = ⊥

abbrev pub total : List ℕ → ℕ
total [] = 0
total (n ∷ ns) = n + total ns

abbrev pub puts_in : List Proc → ℕ
puts_in [] = 0
puts_in (p ∷ ps) = puts_of p + puts_in ps

none_some : {A : Type 0} (a : A) → None ≡ Some a → ⊥
none_some a e = cc

same_some : {A : Type 0} (a b : A) → Some a ≡ Some b → a ≡ b
same_some a b e = cc

-- one of them goes on, and has fewer turns left
pub set_each : (P : Proc → ℕ → Type 0) (ps : List Proc) (ns : List ℕ) (i : ℕ) (old new : Proc) → Each2 P ps ns → slice_get ps i ≡ Some old → ((n : ℕ) → P old n → (m : ℕ) × P new m × (m < n)) → (ms : List ℕ) × Each2 P (slice_set ps i new) ms × (total ms < total ns)
set_each P [] [] i old new h is f = absurd (none_some old is)
set_each P [] (n ∷ ns) i old new h is f = absurd h
set_each P (p ∷ ps) [] i old new h is f = absurd h
set_each P (p ∷ ps) (n ∷ ns) zero old new h is f =
    let r = f n (subst (λ z. P z n) (same_some p old is) h.0) in
    let less = r.2 in
    (r.0 ∷ ns, (r.1, h.1), omega (arith, less))
set_each P (p ∷ ps) (n ∷ ns) (suc i) old new h is f =
    let r = set_each P ps ns i old new h.1 is f in
    let less = r.2 in
    (n ∷ r.0, (h.0, r.1), omega (arith, less))

times_more : (k m : ℕ) → suc k * m ≡ m + k * m
times_more k m = grind arith

-- each has few
pub all_each : (P : Proc → ℕ → Type 0) (most : ℕ) (ps : List Proc) → ((i : ℕ) (p : Proc) → slice_get ps i ≡ Some p → (n : ℕ) × P p n × (n ≤ most)) → (ns : List ℕ) × Each2 P ps ns × (total ns ≤ length ps * most)
all_each P most [] f = ([], tt, omega arith)
all_each P most (p ∷ ps) f =
    let one = f 0 p refl in
    let rest = all_each P most ps (λ i q e. f (suc i) q e) in
    let few = one.2 in
    let less = rest.2 in
    let more = times_more (length ps) most in
    (one.0 ∷ rest.0, (one.1, rest.1), omega (arith, few, less, more))

pub set_puts : (ps : List Proc) (i : ℕ) (old new : Proc) → slice_get ps i ≡ Some old → puts_in (slice_set ps i new) + puts_of old ≡ puts_in ps + puts_of new
set_puts [] i old new is = absurd (none_some old is)
set_puts (p ∷ ps) zero old new is = subst (λ z. puts_of new + puts_in ps + puts_of z ≡ puts_of p + puts_in ps + puts_of new) (same_some p old is) (omega arith)
set_puts (p ∷ ps) (suc i) old new is = (let r = set_puts ps i old new is in omega (arith, r))

pub puts_most : (ps : List Proc) → puts_in ps ≤ 26 * length ps
puts_most [] = omega arith
puts_most (p ∷ ps) = (let few = puts_few p in let rest = puts_most ps in omega (arith, few, rest))

-- puts count more than turns
abbrev pub weight : ℕ → ℕ → ℕ → ℕ
weight unit puts turns = puts * unit + turns

pub fewer_turns : (unit puts puts' turns turns' : ℕ) → puts' ≤ puts → turns' < turns → weight unit puts' turns' < weight unit puts turns
fewer_turns unit puts puts' turns turns' few less = (let m = mul-le puts' unit puts unit few (omega arith) in omega (arith, m, less))

pub fewer_puts : (unit puts puts' turns turns' : ℕ) → puts' < puts → turns' < unit → weight unit puts' turns' < weight unit puts turns
fewer_puts unit puts puts' turns turns' few less =
    let m : suc puts' * unit ≤ puts * unit = mul-le (suc puts') unit puts unit (omega (arith, few)) (omega arith) in
    let one = times_more puts' unit in
    omega (arith, m, one, less)

pub weight_less : (unit puts most turns : ℕ) → puts ≤ most → turns < unit → weight unit puts turns < suc most * unit
weight_less unit puts most turns few less =
    let m : puts * unit ≤ most * unit = mul-le puts unit most unit few (omega arith) in
    let one = times_more most unit in
    omega (arith, m, one, less)
