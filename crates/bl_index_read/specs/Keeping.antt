-- What a hand keeps in mind on its ways to leaves, for one who wants to know later whether a leaf was put meanwhile.
use Rattle.std.specs.Prelude.{◌≡◌, ◌<◌, ◌++◌, ℕ, Some, [], ◌∷◌}
use Rattle.atomic_table.specs.declared.shared.Seat.{Seat}
use Rattle.bl_page.specs.declared.page.Page.{Page}
use Rattle.bl_page.specs.Machine.{Act}
use Rattle.bl_page.specs.Words.{words_of}
use Rattle.bl_claims.specs.Trails.{Mark, Trail}
use Rattle.bl_claims.specs.Seeing.{own, GoesOnFrom}
use Rattle.bl_one_moment.specs.Moments.{puts_at}
use Rattle.bl_store.specs.declared.store.Glance.{Glance}
use Rattle.bl_store_rule.specs.declared.view.View.{View}
use Rattle.bl_store.specs.Hands.{known, read_words, Keeps}
use Rattle.bl_index_rule.specs.declared.known.PassState.{PassState}
use Rattle.bl_index_rule.specs.Observed.{HasFirmTrail}
use Rattle.bl_index_read.specs.declared.leaf_ways.Reached.{Reached}
use Rattle.bl_index_read.specs.declared.leaf_ways.Reached.TheVariants as reached

-- The hand keeps each look in mind that it kept, and its pass has seen what it had seen, and what came then.
pub record KeepsStill (h h' : Seat (Unit {0}) (View PassState)) : Type 0 where
  pub looks : (page version : ℕ) (glance : Glance) → Keeps h page version glance → Keeps h' page version glance
  pub on : GoesOnFrom (known h).trail (known h').trail

-- That look at the page is kept in mind, with how often the page had been put by then.
abbrev pub KeepsPage : ℕ → Seat (Unit {0}) (View PassState) → Glance → Type 0
KeepsPage page h glance = Keeps h page (puts_at page (known h).trail) glance × HasFirmTrail (known h)

-- so is the page that it got, where that is its leaf
abbrev pub KeepsLeaf : ℕ → Seat (Unit {0}) (View PassState) → Reached → Type 0
KeepsLeaf page h (reached.Further next) = Unit {0}
KeepsLeaf page h (reached.Leaf glance) = KeepsPage page h glance

-- The leaf is that page: the pass, which knew old before its process began, got it at its last event, with the words that it has read, and
-- had said nothing before. The hand keeps it in mind.
pub record IsKeptLeaf (pages pass : ℕ) (old : PassState) (page : ℕ) (h : Seat (Unit {0}) (View PassState)) (glance : Glance) : Type 0 where
  pub near : page < pages
  pub before : Trail
  pub get : Mark
  pub split : (known h).trail ≡ before ++ get ∷ []
  pub begins : GoesOnFrom old.trail before
  pub act : get.event.act ≡ Act.Get page
  pub content : Page
  pub words : read_words h ≡ words_of content
  pub saw : get.saw ≡ Some content
  pub silent : own pass before ≡ own pass old.trail
  pub keeps : KeepsPage page h glance
