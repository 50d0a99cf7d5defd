-- What a call that found no room was refused, by the page that its process held.
use Rattle.std.specs.Prelude.{◌≡◌, ◌≢◌, ◌⊎◌, ℕ, ◌<◌, ◌≤◌, ◌++◌, Option, Some, ◌∷◌, length}
use Rattle.bl_model.specs.declared.deciding.KeyWrite.{KeyWrite}
use Rattle.bl_model.specs.declared.deciding.Effect.{Effect}
use Rattle.bl_model.specs.declared.deciding.Effect.TheVariants.{Keep, Enter, Remove, Replace}
use Rattle.bl_model.specs.Writes.{effect_of}
use Rattle.bl_page.specs.declared.page.Page.{Page}
use Rattle.bl_page.specs.Machine.Act.{Get, Latch}
use Rattle.bl_page.specs.Nodes.{Covers, node_of, roots_of}
use Rattle.bl_claims.specs.Trails.{Mark, Trail}
use Rattle.bl_claims.specs.Walks.{Each}
use Rattle.bl_rearrange.specs.Rearranged.{pairs_of}

-- the page that the process latched last was x, and next it got that page, which then was c
pub record GotLatched (marks : Trail) (x : ℕ) (c : Page) : Type 0 where
  pub before : Trail
  pub latch : Mark
  pub get : Mark
  pub since : Trail
  pub split : marks ≡ before ++ latch ∷ get ∷ since
  pub latched : latch.event.act ≡ Latch x
  pub got : (get.event.act ≡ Get x) × (get.saw ≡ Some c)
  pub no_more : Each (λ (m : Mark). (y : ℕ) → m.event.act ≢ Latch y) since

-- The page that the process held, as it got it, was of that level, covered the key, and was so.
pub record GotHeld (level key : ℕ) (marks : Trail) (WasSo : Page → Type 0) : Type 0 where
  pub at : ℕ
  pub page : Page
  pub got : GotLatched marks at page
  pub level_is : (node_of page).shape.level ≡ level
  pub covers : Covers (node_of page).shape key
  pub was : WasSo page

-- It held the anchor of a tree with that many levels, which was to have one more.
pub record GotAnchor (level : ℕ) (marks : Trail) : Type 0 where
  pub anchor : Page
  pub got : GotLatched marks 0 anchor
  pub levels : (roots_of anchor).levels ≡ level

-- A frame was refused, where the page that the process held had room for one pair more; or a page and two frames, where that
-- page had 14 pairs, rows of a leaf or children of an inner page, and was to be split. How many pages and frames were refused is
-- said by WasRefused.
abbrev pub LacksForPage : ℕ → ℕ → Trail → (ℕ → ℕ → Type 0) → Type 0
LacksForPage level key marks WasRefused =
    (WasRefused 0 1 × GotHeld level key marks (λ page. length (pairs_of page) < 14))
    ⊎ (WasRefused 1 2 × GotHeld level key marks (λ page. 14 ≤ length (pairs_of page)))

-- The same where a pair enters a leaf; or a frame, where it leaves or gets another value, whatever the leaf had room for. A leaf that
-- stays lacks nothing.
abbrev pub LacksForEffect : Effect → ℕ → Trail → (ℕ → ℕ → Type 0) → Type 0
LacksForEffect Keep key marks WasRefused = ⊥
LacksForEffect (Enter value) key marks WasRefused = LacksForPage 0 key marks WasRefused
LacksForEffect Remove key marks WasRefused = WasRefused 0 1
LacksForEffect (Replace value) key marks WasRefused = WasRefused 0 1

-- of a write, by what the leaf listed with the key
abbrev pub LacksForWrite : ℕ → KeyWrite → Trail → (ℕ → ℕ → Type 0) → Type 0
LacksForWrite key does marks WasRefused = (there : Option ℕ) × LacksForEffect (effect_of does there) key marks WasRefused

-- The same for a post; or a page and two frames, where it held the anchor, for a new top level.
abbrev pub LacksForPost : ℕ → ℕ → Trail → (ℕ → ℕ → Type 0) → Type 0
LacksForPost level key marks WasRefused = LacksForPage level key marks WasRefused ⊎ (WasRefused 1 2 × GotAnchor level marks)
