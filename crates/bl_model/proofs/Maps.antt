-- Maps that agree at every key, and maps changed at one.
use Rattle.std.proofs.Common.{◌≡◌, ◌≢◌, ℕ, Some, None, refl, arith}
use Rattle.std.proofs.lemmas.Bool.Decides.{nat_tests}
use Rattle.bl_model.specs.Map.{Map, SameMap, with_pair, without_key}

pub same_map-refl : (m : Map) → SameMap m m
same_map-refl m key = refl

pub with_pair-same : (m : Map) (key value : ℕ) → with_pair m key value key ≡ Some value
with_pair-same m key value = grind (arith, nat_tests)

pub with_pair-other : (m : Map) (key value j : ℕ) → j ≢ key → with_pair m key value j ≡ m j
with_pair-other m key value j other = grind (arith, nat_tests)

pub without_key-same : (m : Map) (key : ℕ) → without_key m key key ≡ None
without_key-same m key = grind (arith, nat_tests)

pub without_key-other : (m : Map) (key j : ℕ) → j ≢ key → without_key m key j ≡ m j
without_key-other m key j other = grind (arith, nat_tests)
