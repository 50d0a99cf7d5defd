-- The levels above one.
use Rattle.std.proofs.Common.{◌≡◌, ℕ, zero, suc, ◌+◌, ◌-◌, ◌/◌, ◌<◌, ◌≤◌, refl, ap, sym, subst, ◌∙◌, arith}
use Rattle.std.specs.Prelude.{max, nat_lt, if◌then◌else◌}
use Rattle.std.proofs.lemmas.Nat.{div-add-mod', mul-le}
use Rattle.std.proofs.lemmas.Bool.Decides.{nat_tests}
use Rattle.bl_load.specs.Sizes.{pages_for, pages_above, pages_on_top}
use Rattle.bl_load.specs.Trees.{fan_for, HasRoomAbove}
use Rattle.bl_load.proofs.Stepping.{fan_above}

when_lt : (a b x y : ℕ) → a < b → (if nat_lt a b then x else y) ≡ x
when_lt a b x y lt = grind (arith, nat_tests)

when_ge : (a b x y : ℕ) → b ≤ a → (if nat_lt a b then x else y) ≡ y
when_ge a b x y le = grind (arith, nat_tests)

pub div_le : (n k : ℕ) → 0 < k → n / k ≤ n
div_le n k some = let a = div-add-mod' n k in let b = mul-le (n / k) 1 (n / k) k (omega arith) (omega arith) in omega (arith, a, b)

pub above_none : (levels fan count : ℕ) → count ≤ 1 → pages_above levels fan count ≡ 0
unfolding pages_above
above_none zero fan count le = refl
above_none (suc levels) fan count le = when_ge 1 count _ 0 le

pub above_zero : (fan count : ℕ) → pages_above 0 fan count ≡ 0
unfolding pages_above
above_zero fan count = refl

above_suc : (levels fan count : ℕ) → 1 < count → pages_above (suc levels) fan count ≡ pages_for fan count + pages_above levels fan (pages_for fan count)
unfolding pages_above
above_suc levels fan count lt = when_lt 1 count _ 0 lt

pub above_more : (left rest fan count : ℕ) → left ≡ suc rest → 1 < count → pages_above left fan count ≡ pages_for fan count + pages_above rest fan (pages_for fan count)
above_more left rest fan count is lt = ap (λ n. pages_above n fan count) is ∙ above_suc rest fan count lt

pub top_none : (levels fan count : ℕ) → count ≤ 1 → pages_on_top levels fan count ≡ count
unfolding pages_on_top
top_none zero fan count le = refl
top_none (suc levels) fan count le = when_ge 1 count _ count le

pub top_zero : (fan count : ℕ) → pages_on_top 0 fan count ≡ count
unfolding pages_on_top
top_zero fan count = refl

top_suc : (levels fan count : ℕ) → 1 < count → pages_on_top (suc levels) fan count ≡ pages_on_top levels fan (pages_for fan count)
unfolding pages_on_top
top_suc levels fan count lt = when_lt 1 count _ count lt

pub top_more : (left rest fan count : ℕ) → left ≡ suc rest → 1 < count → pages_on_top left fan count ≡ pages_on_top rest fan (pages_for fan count)
top_more left rest fan count is lt = ap (λ n. pages_on_top n fan count) is ∙ top_suc rest fan count lt

-- where a level has more than one page there is room for the one above it, and for those above that
pub room_next : (fan left rest built most count : ℕ) → HasRoomAbove fan left built most count → left ≡ suc rest → 1 < count
    → (built + pages_for fan count ≤ most) × HasRoomAbove fan rest (built + pages_for fan count) most (pages_for fan count)
room_next fan left rest built most count h is some =
    let more = above_more left rest fan count is some in
    let top = top_more left rest fan count is some in
    let room = h.room in
    let one = h.one in
    (omega (arith, more, room), record { room = omega (arith, more, room); one = omega (arith, top, one) })

-- the same of a level above the leaves, below the twelfth
pub level_room : (fill level built most count : ℕ) → HasRoomAbove (fan_for fill 1) (12 - level) built most count → 0 < level → level < 12 → 1 < count
    → (built + pages_for (fan_for fill level) count ≤ most) × HasRoomAbove (fan_for fill 1) (12 - (level + 1)) (built + pages_for (fan_for fill level) count) most (pages_for (fan_for fill level) count)
level_room fill level built most count h some lt more =
    let next = room_next (max fill 2) (12 - level) (12 - (level + 1)) built most count h (omega arith) more in
    subst (λ fan. (built + pages_for fan count ≤ most) × HasRoomAbove (max fill 2) (12 - (level + 1)) (built + pages_for fan count) most (pages_for fan count)) (sym (fan_above fill level some)) next

-- where no level may stand above one, this has one page at most
pub last_alone : (fill level built most count : ℕ) → HasRoomAbove (fan_for fill 1) (12 - level) built most count → 12 ≤ level → count ≤ 1
last_alone fill level built most count h le =
    let none : 12 - level ≡ 0 = omega arith in
    let one = h.one in
    let top = ap (λ n. pages_on_top n (fan_for fill 1) count) none ∙ top_zero (fan_for fill 1) count in
    omega (arith, one, top)
