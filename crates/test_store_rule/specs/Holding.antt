-- A rule of the tests' own: each hand holds one page or none and knows which, all words of a page are one number, and pages 0 and 1 are never released or retired.
use Rattle.std.specs.Prelude.{◌≡◌, ◌≢◌, ℕ, zero, suc, ◌<◌, List, length, replicate, slice_index, Option, Some, None}
use mathlib.Core.Option.{some}
use lib.ListN.{get_elem?}
use Rattle.bl_store_rule.specs.Pages.{Owner, Released, Open, Held, Retired, Stage, Pages, Stands}
use Rattle.atomic_table.specs.Seated.{TableId}
use Rattle.bl_layout.specs.declared.layout.Layout.{Layout}
use Rattle.bl_store.specs.Hands.{known, IsOf, IsIdle, HasNoStock}
use Rattle.bl_store.specs.declared.store.Hand.{Hand}
use Rattle.test_store_rule.specs.declared.Mine.{Mine}

abbrev pub AllSame : List ℕ → Type 0
AllSame words = (k : ℕ) → k < length words → slice_index words k ≡ slice_index words 0

abbrev pub holding : Option ℕ → Mine
holding page = record { held = page }

abbrev pub IsUsed : Owner → Type 0
IsUsed Released = ⊥
IsUsed Open = Unit {0}
IsUsed (Held n) = Unit {0}
IsUsed (Retired t) = ⊥

pub record Fits (s : Pages Mine) : Type 0 where
  pub whole : (x : ℕ) (words : List ℕ) → get_elem? s.contents x ≡ some words → AllSame words
  pub fixed : (x : ℕ) (owner : Owner) → x < 2 → get_elem? s.owners x ≡ some owner → IsUsed owner
  pub held : (n x : ℕ) (st : Stage) (d : Mine) → Stands s n st d → d.held ≡ Some x → get_elem? s.owners x ≡ some (Held n)
  pub known : (n x : ℕ) (st : Stage) (d : Mine) → Stands s n st d → get_elem? s.owners x ≡ some (Held n) → d.held ≡ Some x

-- what each event tells
abbrev pub same_at_time : Mine → ℕ → Mine → Type 0
same_at_time d time e = e ≡ d

-- the two hold no page together
abbrev pub IsApart : Mine → Mine → Type 0
IsApart d e = (x : ℕ) → d.held ≡ Some x → e.held ≢ Some x

abbrev pub same_apart : Mine → Mine → Mine → Type 0
same_apart d e d' = (d' ≡ d) × IsApart d' e

abbrev pub saw : Mine → ℕ → Owner → List ℕ → Mine → Type 0
saw d x owner words e = (e ≡ d) × AllSame words

abbrev pub took : Mine → ℕ → Owner → List ℕ → Mine → Type 0
took d x owner words e = e ≡ holding (Some x)

abbrev pub tried : Mine → ℕ → Owner → List ℕ → Mine → Type 0
tried d x owner words e = (owner ≡ Open → e ≡ holding (Some x)) × (owner ≢ Open → e ≡ d)

abbrev pub lost : Mine → ℕ → Owner → List ℕ → Mine → Type 0
lost d x owner words e = e ≡ holding None

abbrev pub lost_at_time : Mine → ℕ → Mine → Type 0
lost_at_time d time e = e ≡ holding None

abbrev pub same_after : Mine → ℕ → Mine → Type 0
same_after d released e = e ≡ d

-- a hand that has done nothing
abbrev pub IsFresh : TableId → Layout → Hand Mine → Type 0
IsFresh table l hand = IsOf table l hand.seat × IsIdle hand.seat × HasNoStock hand.seat × (known hand.seat ≡ holding None)

-- the words of a page at the start
abbrev pub first_words : ℕ → List ℕ
first_words zero = replicate 32 1
first_words (suc zero) = replicate 32 1
first_words (suc (suc n)) = replicate 32 0
