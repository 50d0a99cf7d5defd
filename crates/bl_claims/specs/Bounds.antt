-- How long a search may go on: what it has got since its begin, beside what all others have put since then.
use Rattle.std.specs.Prelude.{ℕ, ◌+◌, ◌*◌, ◌≤◌, ◌<◌, Bool, true, false, ◌&&◌, if◌then◌else◌, [], ◌∷◌, length, take}
use Rattle.bl_model.specs.declared.operation.Reply.{Reply}
use Rattle.bl_page.specs.declared.page.Page.{Page}
use Rattle.bl_page.specs.Machine.{Name, Act}
use Rattle.bl_page.specs.Machine.Act.{Begin, Get, Put}
use Rattle.bl_claims.specs.Trails.{Mark, Trail, same_name}

abbrev pub is_begin : Act Page Reply → Bool
is_begin Begin = true
is_begin act = false

abbrev pub gets_in : Act Page Reply → ℕ
gets_in (Get x) = 1
gets_in act = 0

abbrev pub puts_in : Act Page Reply → ℕ
puts_in (Put x c) = 1
puts_in act = 0

-- the begin of p
abbrev pub begins : Name → Mark → Bool
begins p m = same_name m.event.process p && is_begin m.event.act

-- what has happened since then
abbrev pub since_begin : Name → Trail → Trail
since_begin p [] = []
since_begin p (m ∷ ms) = if begins p m then ms else since_begin p ms

-- the gets of p among these events
abbrev pub gets_by : Name → Trail → ℕ
gets_by p [] = 0
gets_by p (m ∷ ms) = (if same_name m.event.process p then gets_in m.event.act else 0) + gets_by p ms

-- the puts of all others
abbrev pub puts_beside : Name → Trail → ℕ
puts_beside p [] = 0
puts_beside p (m ∷ ms) = (if same_name m.event.process p then 0 else puts_in m.event.act) + puts_beside p ms

-- since its begin
abbrev pub gets_of : Name → Trail → ℕ
gets_of p trail = gets_by p (since_begin p trail)

abbrev pub puts_near : Name → Trail → ℕ
puts_near p trail = puts_beside p (since_begin p trail)

-- as many gets as a search needs at most in so many pages, beside so many puts
abbrev pub most_gets : ℕ → ℕ → ℕ
most_gets pages puts = pages * (2 * puts + 1)

-- At every moment so far p has got no more than that.
abbrev pub IsWithinBound : ℕ → Name → Trail → Type 0
IsWithinBound pages p trail = (i : ℕ) → i ≤ length trail → gets_of p (take i trail) ≤ most_gets pages (puts_near p (take i trail))

-- It may still get one page more.
abbrev pub IsBelowBound : ℕ → Name → Trail → Type 0
IsBelowBound pages p trail = gets_of p trail < most_gets pages (puts_near p trail)
