-- A store at its start.
use Rattle.std.specs.Prelude.{◌≡◌, ℕ, ◌+◌, ◌-◌, ◌++◌, ◌<◌, ◌≤◌, if◌then◌else◌, List, length, map, replicate}
use mathlib.Core.Option.{some}
use lib.ListN.{get_elem?}
use Rattle.bl_layout.specs.declared.layout.Layout.{Layout}
use Rattle.bl_layout.specs.Words.{frame_count}
use Rattle.bl_room.specs.Blanks.{is_blank}
use Rattle.bl_store_rule.specs.Pages.{Owner, Released, Open, Idle, Pages, IsOrderly}
use Rattle.bl_store_rule.specs.Frames.{Frame, free, Shows, share}
use Rattle.atomic_table.specs.Seated.{TableId}
use Rattle.bl_store.specs.declared.store.Hand.{Hand}

abbrev pub first_owner : List ℕ → Owner
first_owner words = if is_blank words then Released else Open

-- The pages at the start: each has its first words, those with only zeros are released and the others open, none was put, and no hand has begun.
abbrev pub first_pages : {D : Type 0} → List (List ℕ) → ℕ → D → Pages D
first_pages contents passes d = record { contents = contents; owners = map first_owner contents; versions = replicate (length contents) 0; clock = 0; hands = replicate passes (Idle, d) }

-- the words of so many pages, of which these are the first, and all others have only zeros
abbrev pub padded : ℕ → List (List ℕ) → List (List ℕ)
padded pages contents = contents ++ replicate (pages - length contents) (replicate 32 0)

-- The words show the first x of the pages.
pub record Laid (l : Layout) (contents : List (List ℕ)) (ws : List ℕ) (x : ℕ) : Type 0 where
  pub pages : Pages (Unit {0})
  pub frames : List Frame
  pub orderly : IsOrderly l pages
  pub shows : Shows l ws pages frames
  pub hands : pages.hands ≡ replicate l.passes (Idle, tt)
  pub versions : pages.versions ≡ replicate l.pages 0
  pub clock : pages.clock ≡ 0
  pub done : (y : ℕ) (words : List ℕ) → y < x → get_elem? contents y ≡ some words
      → (get_elem? pages.contents y ≡ some words) × (get_elem? pages.owners y ≡ some (first_owner words))
  pub rest : (y : ℕ) → x ≤ y → y < l.pages → (get_elem? pages.contents y ≡ some (replicate 32 0)) × (get_elem? pages.owners y ≡ some Released)
  pub free : (f : ℕ) → x ≤ f → f < frame_count l → get_elem? frames f ≡ some free

-- One hand for each pass, in the order of their numbers. None has begun, has anything reserved, or knows more than at first.
pub record IsDealt {D : Type 0} (table : TableId) (l : Layout) (first : D) (passes : ℕ) (hands : List (Hand D)) : Type 0 where
  pub count : length hands ≡ passes
  pub each : (n : ℕ) (hand : Hand D) → get_elem? hands n ≡ some hand → (hand.number ≡ n) × (hand.seat.table_id ≡ table)
      × (hand.seat.me.0 ≡ share l first n (n + 1))
