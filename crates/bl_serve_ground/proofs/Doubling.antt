-- Pages that are doubled some times.
use Rattle.std.proofs.Common.{◌≡◌, ℕ, zero, suc, ◌*◌, ◌≤◌, refl, sym, ap, subst, arith}
use Rattle.std.specs.Prelude.{min}
use Rattle.bl_serve_ground.specs.Growing.{IsDoubled, doubled}

pub not_at_all : (pages most : ℕ) → IsDoubled pages most pages
not_at_all pages most = record { times = 0; is = refl }

more_times : (pages most mid : ℕ) → IsDoubled pages most mid → (times : ℕ) → IsDoubled pages most (doubled mid most times)
more_times pages most mid d zero = d
more_times pages most mid d (suc times) = let before = more_times pages most mid d times in record { times = suc before.times; is = ap (λ (n : ℕ). min most (2 * n)) before.is }

-- twice some times
pub doubled_then : (pages most mid size : ℕ) → IsDoubled pages most mid → IsDoubled mid most size → IsDoubled pages most size
doubled_then pages most mid size d e = subst (IsDoubled pages most) (sym e.is) (more_times pages most mid d e.times)

least_doubled : (pages most times : ℕ) → pages ≤ most → pages ≤ doubled pages most times
least_doubled pages most zero few = omega arith
least_doubled pages most (suc times) few = let before = least_doubled pages most times few in omega (arith, before, few)

most_doubled : (pages most times : ℕ) → pages ≤ most → doubled pages most times ≤ most
most_doubled pages most zero few = few
most_doubled pages most (suc times) few = omega arith

-- they are no fewer, and no more than there may be
pub no_fewer : (pages most size : ℕ) → pages ≤ most → IsDoubled pages most size → pages ≤ size
no_fewer pages most size few d = let least = least_doubled pages most d.times few in let is = d.is in omega (arith, least, is)

pub no_more : (pages most size : ℕ) → pages ≤ most → IsDoubled pages most size → size ≤ most
no_more pages most size few d = let least = most_doubled pages most d.times few in let is = d.is in omega (arith, least, is)
