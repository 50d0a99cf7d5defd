-- How many pages a tree of rows has.
use Rattle.std.specs.Prelude.{ℕ, zero, suc, ◌+◌, ◌-◌, ◌/◌, ◌==◌, nat_lt, if◌then◌else◌, max}

-- how many pages hold so many pairs, with so many of them a page: at least one
abbrev pub pages_for : ℕ → ℕ → ℕ
pages_for fill pairs = if pairs == 0 then 1 else (pairs - 1) / fill + 1

-- The pages of the levels above one, which has so many: each level lists the one below, up to a level of one page; so many levels
-- at most.
unfoldable pub pages_above : ℕ → ℕ → ℕ → ℕ
pages_above zero fan count = 0
pages_above (suc levels) fan count = if nat_lt 1 count then pages_for fan count + pages_above levels fan (pages_for fan count) else 0

-- the pages of the highest of these levels
unfoldable pub pages_on_top : ℕ → ℕ → ℕ → ℕ
pages_on_top zero fan count = count
pages_on_top (suc levels) fan count = if nat_lt 1 count then pages_on_top levels fan (pages_for fan count) else count

-- The anchor, the leaves, and the levels above them, whose pages have as many children as leaves have rows, but at least two.
abbrev pub size_for : ℕ → ℕ → ℕ
size_for fill rows = 1 + pages_for fill rows + pages_above 11 (max fill 2) (pages_for fill rows)

-- the pages of the highest of 12 levels, or one
abbrev pub top_for : ℕ → ℕ → ℕ
top_for fill rows = pages_on_top 11 (max fill 2) (pages_for fill rows)
