-- A store at its end.
use Rattle.std.specs.Prelude.{◌≡◌, ◌⊎◌, ℕ, ◌%◌, ◌<◌, List, length, replicate, slice_index}
use mathlib.Core.Option.{some}
use lib.ListN.{get_elem?}
use Rattle.bl_layout.specs.declared.layout.Layout.{Layout}
use Rattle.bl_store_rule.specs.Pages.{Owner, Released, Open, Held, Retired, Idle, Pages, Stands, IsPage, IsOrderly}
use Rattle.bl_store_rule.specs.Frames.{page_at, owner_at}
use Rattle.bl_store.specs.Hands.{known}
use Rattle.bl_store.specs.declared.store.Hand.{Hand}

-- the hand of each number is among them
abbrev pub HasEach : {D : Type 0} → ℕ → List (Hand D) → Type 0
HasEach passes hands = (n : ℕ) → n < passes → (k : ℕ) × (hand : Hand _) × (get_elem? hands k ≡ some hand) × (hand.number ≡ n)

-- what is left of a page: its words, and zeros where nobody uses it
abbrev pub left_of : Owner → List ℕ → List ℕ
left_of Released words = replicate 32 0
left_of Open words = words
left_of (Held n) words = words
left_of (Retired time) words = replicate 32 0

-- The rule holds of pages in which no process runs and each hand knows what it knew, and the result is what is left of them.
pub record IsClosed {D : Type 0} (holds : Pages D → Type 0) (l : Layout) (hands : List (Hand D)) (result : List (List ℕ)) : Type 0 where
  pub pages : Pages D
  pub orderly : IsOrderly l pages
  pub kept : holds pages
  pub stand : (k : ℕ) (hand : Hand D) → get_elem? hands k ≡ some hand → Stands pages hand.number Idle (known hand.seat)
  pub count : length result ≡ l.pages
  pub words : (x : ℕ) (words : List ℕ) (owner : Owner) → IsPage pages x words owner → get_elem? result x ≡ some (left_of owner words)

-- the words of the table show that the page is not used, or was never put
abbrev pub IsGone : List ℕ → Layout → ℕ → Type 0
IsGone ws l x = (slice_index ws (owner_at l x) ≡ 0) ⊎ (slice_index ws (owner_at l x) % 4 ≡ 3) ⊎ (slice_index ws (page_at l x) ≡ 0)
