-- What a walk along a chain finds.
use Rattle.std.specs.Prelude.{◌≡◌, ◌≢◌, ◌<◌, ℕ, min, List, Bool, false, IsTrue, IfSome, Option, Some, None, slice_index_or}
use Rattle.bl_page.specs.declared.page.Page.{Page}
use Rattle.bl_check.specs.declared.span.Span.{Span}
use Rattle.bl_check.specs.declared.chains.Link.{Link}
use Rattle.bl_check.specs.declared.chains.Link.TheVariants.{To, End, Wrong}
use Rattle.bl_check.specs.Spans.{span_at, leftmost}
use Rattle.bl_check.specs.Rules.{HasNext, LinkFits, Reaches}

-- where the chain goes from a page with that span
abbrev pub GoesOn : Link → List (Option Page) → Span → Type 0
GoesOn (To y) pages s = (y ≡ s.right) × HasNext pages s
GoesOn End pages s = (s.high ≡ 0) × (s.right ≡ 0)
GoesOn Wrong pages s = ¬ LinkFits pages s

-- the link of page x fits, if it is live
abbrev pub FitsAt : List (Option Page) → ℕ → Type 0
FitsAt pages x = IfSome (span_at pages x) (λ s. LinkFits pages s)

-- of the pages that a walk from first meets: each link fits, or that of one page alone does not
abbrev pub Stops : Option ℕ → List (Option Page) → ℕ → Type 0
Stops None pages first = (y : ℕ) → Reaches pages first y → FitsAt pages y
Stops (Some x) pages first = Reaches pages first x × ¬ FitsAt pages x × ((y : ℕ) → Reaches pages first y → y ≢ x → FitsAt pages y)

-- page x is on the chain of a level below that one
abbrev pub MetBelow : List (Option Page) → ℕ → ℕ → Type 0
MetBelow pages levels x = (level : ℕ) × (level < levels) × Reaches pages (leftmost pages level) x

-- the least of the pages on the chains below a level whose link does not fit
abbrev pub LeastWrong : Option ℕ → List (Option Page) → ℕ → Type 0
LeastWrong None pages levels = (y : ℕ) → MetBelow pages levels y → FitsAt pages y
LeastWrong (Some x) pages levels = MetBelow pages levels x × ¬ FitsAt pages x × ((y : ℕ) → y < x → MetBelow pages levels y → FitsAt pages y)

-- page x is marked
abbrev pub IsMarked : List Bool → ℕ → Type 0
IsMarked marks x = IsTrue (slice_index_or marks x false)

-- the marked pages are those on the chains below a level
pub record MarksChains (marks : List Bool) (pages : List (Option Page)) (levels : ℕ) : Type 0 where
  pub only : (y : ℕ) → IsMarked marks y → MetBelow pages levels y
  pub all : (y : ℕ) → MetBelow pages levels y → IsMarked marks y

-- the lesser of two pages, where there are two
abbrev pub IsLesser : Option ℕ → Option ℕ → Option ℕ → Type 0
IsLesser None b c = c ≡ b
IsLesser (Some x) None c = c ≡ Some x
IsLesser (Some x) (Some y) c = c ≡ Some (min x y)
