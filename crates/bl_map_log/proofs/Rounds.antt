-- The first handle meets each of the others, twice.
use Rattle.std.proofs.Common.{◌≡◌, ℕ, ◌+◌, ◌<◌, ◌≤◌, List, length, get_or, set, sym, ◌∙◌, subst, arith}
use Rattle.std.specs.Prelude.{All}
use Rattle.bl_claims.specs.Seeing.{GoesOnFrom}
use Rattle.bl_map.specs.Handles.{seen_by}
use Rattle.bl_map_log.specs.declared.handle.NotingHandle.{NotingHandle}
use Rattle.bl_map_log.specs.Meetings.{HasSeenMore, HasMetBetween, MeetsEach, HasMet, HaveMet, AreOfOneMap}
use Rattle.bl_map_log.proofs.Seen.{goes_on, goes_self, seen_self, seen_then, of_one_still}
use Rattle.bl_map_log.proofs.Each.{zip_then, zip_goes, ChangedUpTo, changed_none, changed_one, changed_less, changed_all, next_same}

-- ---- once

-- the first one has met so many of the others
pub record MeetsUpTo (one one' : NotingHandle) (others others' : List NotingHandle) (i : ℕ) : Type 0 where
  pub mine : HasSeenMore one one'
  pub theirs : ChangedUpTo (HasMetBetween (seen_by one.handle) (seen_by one'.handle)) others others' i

pub meets_none : (one : NotingHandle) (others : List NotingHandle) → MeetsUpTo one one others others 0
meets_none one others = record { mine = seen_self one; theirs = changed_none (HasMetBetween (seen_by one.handle) (seen_by one.handle)) others }

pub meets_one : (one mid new d other other' : NotingHandle) (others now : List NotingHandle) (i : ℕ) → length now ≡ length others → MeetsUpTo one mid others now i → i < length now → other ≡ get_or now i d
    → HasSeenMore mid new → HasSeenMore other other' → seen_by other'.handle ≡ seen_by new.handle → MeetsUpTo one new others (set now i other') (i + 1)
meets_one one mid new d other other' others now i long m low at mine theirs same =
    let all = seen_then one mid new m.mine mine in
    let met : HasMetBetween (seen_by one.handle) (seen_by new.handle) other other' = record {
      more = theirs;
      begins = subst (GoesOnFrom (seen_by one.handle)) (sym same) all.begins;
      ends = subst (GoesOnFrom (seen_by other'.handle)) same (goes_self (seen_by other'.handle));
    } in record {
      mine = all;
      theirs = changed_one (HasMetBetween (seen_by one.handle) (seen_by new.handle)) others now i d other other' long
          (changed_less (HasMetBetween (seen_by one.handle) (seen_by mid.handle)) (HasMetBetween (seen_by one.handle) (seen_by new.handle)) others now i
          (λ x y h. record { more = h.more; begins = h.begins; ends = goes_on (seen_by y.handle) (seen_by mid.handle) (seen_by new.handle) h.ends mine.begins }) m.theirs)
          low at met;
    }

pub meets_all : (one one' : NotingHandle) (others others' : List NotingHandle) (i : ℕ) → length others' ≡ length others → length others' ≤ i → MeetsUpTo one one' others others' i → MeetsEach one one' others others'
meets_all one one' others others' i long end m = record { mine = m.mine; theirs = changed_all (HasMetBetween (seen_by one.handle) (seen_by one'.handle)) others others' i long end m.theirs }

-- the next one is of the map of the first one
pub next_of_one : (one mid d other : NotingHandle) (others now : List NotingHandle) (i : ℕ) → length now ≡ length others → MeetsUpTo one mid others now i → i < length now → other ≡ get_or now i d → All (AreOfOneMap one) others → AreOfOneMap mid other
next_of_one one mid d other others now i long m low at all =
    let was = next_same (HasMetBetween (seen_by one.handle) (seen_by mid.handle)) others now i d other m.theirs low at in
    of_one_still one other mid m.mine (subst (AreOfOneMap one) (sym was) (all i d (omega (arith, low, long))))

-- ---- twice

-- all are of one map when they meet again
pub all_of_one : (one mid : NotingHandle) (others mids : List NotingHandle) → MeetsEach one mid others mids → All (AreOfOneMap one) others → All (AreOfOneMap mid) mids
all_of_one one mid others mids m all = zip_goes (AreOfOneMap one) (AreOfOneMap mid) (HasMetBetween (seen_by one.handle) (seen_by mid.handle)) others mids (λ x y of met. of_one_still one y mid m.mine (moves x y of met)) all m.theirs
  where
    moves : (x y : NotingHandle) → AreOfOneMap one x → HasMetBetween (seen_by one.handle) (seen_by mid.handle) x y → AreOfOneMap one y
    moves x y of met = let s = met.more.same.1 in (s.0 ∙ of.0, s.1 ∙ of.1, s.3 ∙ of.2)

pub met_twice : (one mid one' : NotingHandle) (others mids others' : List NotingHandle) → MeetsEach one mid others mids → MeetsEach mid one' mids others' → HaveMet one one' others others'
met_twice one mid one' others mids others' m n = record {
  mid = mid;
  before = m.mine;
  behind = n.mine;
  theirs = zip_then (HasMetBetween (seen_by one.handle) (seen_by mid.handle)) (HasMetBetween (seen_by mid.handle) (seen_by one'.handle)) (HasMet (seen_by mid.handle)) others mids others'
      (λ x y z h k. record {
        more = seen_then x y z h.more k.more;
        begins = goes_on (seen_by x.handle) (seen_by y.handle) (seen_by mid.handle) h.more.begins h.ends;
        ends = k.begins;
      }) m.theirs n.theirs;
}
