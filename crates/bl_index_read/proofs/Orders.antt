-- Keys in a direction: before an end, and from a key on.
use Rattle.std.proofs.Common.{◌≡◌, ◌⊎◌, ℕ, ◌+◌, ◌-◌, ◌^◌, ◌<◌, ◌≤◌, true, false, Option, Some, None, refl, arith}
use Rattle.std.proofs.lemmas.Bool.{cases_lt}
use Rattle.std.proofs.lemmas.Bool.Decides.{nat_tests}
use Rattle.bl_proc.specs.declared.parts.Direction.{Direction}
use Rattle.bl_proc.specs.declared.parts.Direction.TheVariants.{Up, Down}
use Rattle.bl_index_read.specs.LeafRows.{IsBefore, is_before, IsFrom, IsPast, first_above}

-- a key comes before another one, or from it on
pub before_or_from : (direction : Direction) (n key : ℕ) → IsBefore direction (Some n) key ⊎ IsFrom direction n key
before_or_from Up n key = cases_lt key n
before_or_from Down n key = cases_lt n key

-- and not both
pub never_both : (direction : Direction) (n key : ℕ) → IsBefore direction (Some n) key → IsFrom direction n key → ⊥
never_both Up n key before from = omega arith
never_both Down n key before from = omega arith

pub from_itself : (direction : Direction) (n : ℕ) → IsFrom direction n n
from_itself Up n = omega arith
from_itself Down n = omega arith

pub from_on : (direction : Direction) (a b c : ℕ) → IsFrom direction a b → IsFrom direction b c → IsFrom direction a c
from_on Up a b c one two = omega arith
from_on Down a b c one two = omega arith

pub from_behind : (direction : Direction) (a b : ℕ) → IsBefore direction (Some b) a → IsFrom direction a b
from_behind Up a b before = omega arith
from_behind Down a b before = omega arith

-- what comes before a key comes before an end that the key comes before
pub before_on : (direction : Direction) (end : Option ℕ) (at key : ℕ) → IsBefore direction end at → IsBefore direction (Some at) key → IsBefore direction end key
before_on Up None at key further before = tt
before_on Up (Some end) at key further before = omega arith
before_on Down None at key further before = tt
before_on Down (Some end) at key further before = omega arith

pub before_none : (direction : Direction) (key : ℕ) → IsBefore direction None key
before_none Up key = tt
before_none Down key = tt

-- a key comes before another one that comes from one behind it
pub before_from : (direction : Direction) (n a b : ℕ) → IsBefore direction (Some n) a → IsFrom direction n b → IsBefore direction (Some b) a
before_from Up n a b before from = omega arith
before_from Down n a b before from = omega arith

-- ---- the test

pub before_true : (direction : Direction) (end : Option ℕ) (key : ℕ) → IsBefore direction end key → is_before direction end key ≡ true
before_true Up None key is = refl
before_true Up (Some end) key is = grind (arith, nat_tests, is)
before_true Down None key is = refl
before_true Down (Some end) key is = grind (arith, nat_tests, is)

pub before_so : (direction : Direction) (end : Option ℕ) (key : ℕ) → is_before direction end key ≡ true → IsBefore direction end key
before_so Up None key is = tt
before_so Up (Some end) key is = grind (arith, nat_tests, is)
before_so Down None key is = tt
before_so Down (Some end) key is = grind (arith, nat_tests, is)

pub past : (direction : Direction) (end : Option ℕ) (key : ℕ) → is_before direction end key ≡ false → IsPast direction end (Some key)
past Up None key fails = let none : ⊥ = cc in absurd none
past Up (Some end) key fails = grind (arith, nat_tests, fails)
past Down None key fails = let none : ⊥ = cc in absurd none
past Down (Some end) key fails = grind (arith, nat_tests, fails)

pub not_past : (direction : Direction) (end : Option ℕ) (key : ℕ) → is_before direction end key ≡ true → IsPast direction end (Some key) → ⊥
not_past Up None key is over = over
not_past Up (Some end) key is over = grind (arith, nat_tests, is, over)
not_past Down None key is over = over
not_past Down (Some end) key is over = grind (arith, nat_tests, is, over)

-- ---- the least key above an end

pub above_less : (end : Option ℕ) (key : ℕ) → key < 2 ^ 64 → IsBefore Down end key → IsBefore Down end (2 ^ 64 - 1)
above_less None key fits is = tt
above_less (Some end) key fits is = omega (arith, fits, is)

pub above_first : (end : Option ℕ) (key : ℕ) → IsBefore Down end key → first_above end ≤ key
above_first None key is = omega arith
above_first (Some end) key is = omega (arith, is)

pub above_into : (end : Option ℕ) (key : ℕ) → is_before Down end key ≡ true → first_above end ≤ key
above_into None key is = omega arith
above_into (Some end) key is = grind (arith, nat_tests, is)

pub above_out : (end : Option ℕ) (key : ℕ) → first_above end ≤ key → is_before Down end key ≡ true
above_out None key le = refl
above_out (Some end) key le = grind (arith, nat_tests, le)
