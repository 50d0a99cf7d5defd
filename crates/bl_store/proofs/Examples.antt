-- Worked examples of the definitions.
use Rattle.std.proofs.Common.{◌≡◌, ℕ, [], ◌∷◌, replicate, refl, inl}
use Rattle.bl_layout.specs.Cells.{cell_count}
use Rattle.bl_store_rule.specs.Pages.{Released, Open, Held, Retired, Idle, Running, Pages, Stands, IsPage, observed, owned, written, later}
use Rattle.bl_store_rule.specs.Frames.{process_at, page_at, owner_at, state_at, place_at, smallest, OwnerIs, share, taking_in, giving_back, given_back, joined}
use Rattle.bl_store.specs.Opening.{first_pages}
use Rattle.bl_store_rule.specs.Observed.{draft, lower}
use Rattle.bl_store.specs.Hands.{drafts}
use Rattle.bl_store.specs.Closing.{left_of}
use Rattle.bl_store_rule.specs.declared.view.View.{View}

-- Two pages, of which the second has only zeros, and two hands that know the number 7.
abbrev start : Pages ℕ
start = first_pages ((5 ∷ 0 ∷ []) ∷ (0 ∷ 0 ∷ []) ∷ []) 2 7

opens : start ≡ record { contents = (5 ∷ 0 ∷ []) ∷ (0 ∷ 0 ∷ []) ∷ []; owners = Open ∷ Released ∷ []; versions = 0 ∷ 0 ∷ []; clock = 0; hands = (Idle, 7) ∷ (Idle, 7) ∷ [] }
opens = refl

-- Hand 1 begins, and is told 8.
abbrev begun : Pages ℕ
begun = observed start 1 (Running 0) 8

stands : Stands begun 1 (Running 0) 8
stands = refl

other_stands : Stands begun 0 Idle 7
other_stands = refl

-- It takes page 1, puts it, and retires it at the time 0.
abbrev retired_page : Pages ℕ
retired_page = later (owned (written (owned begun 1 (Held 1)) 1 (3 ∷ 4 ∷ [])) 1 (Retired 0))

retires : IsPage retired_page 1 (3 ∷ 4 ∷ []) (Retired 0)
retires = (refl, refl)

goes_on : retired_page.clock ≡ 1
goes_on = refl

-- What is left of pages at the end: the words of an open or a held one, and zeros of a released or a retired one.
left_open : left_of Open (3 ∷ []) ≡ 3 ∷ []
left_open = refl

left_held : left_of (Held 2) (3 ∷ []) ≡ 3 ∷ []
left_held = refl

left_retired : left_of (Retired 9) (3 ∷ []) ≡ replicate 32 0
left_retired = refl

-- With 4 pages and 1 pass: the table has 598 cells, the words of pages from 30 on, the owner of page 0 at 34, that of frame 0 at 38,
-- its words from 54 on, and the process word at 582.
cells : cell_count smallest ≡ 598
cells = refl

places : (page_at smallest 0 ≡ 30) × (owner_at smallest 0 ≡ 34) × (state_at smallest 0 ≡ 38) × (place_at smallest 0 0 ≡ 54) × (process_at smallest 0 ≡ 582)
places = (refl, refl, refl, refl, refl)

-- the owner words of a page that is held by pass 3, and of one that was retired at 5
held : OwnerIs 14 (Held 3)
held = refl

retired_word : OwnerIs 23 (Retired 5)
retired_word = inl refl

-- of 3 reserved frames the last is used first
stock : drafts (7 ∷ 8 ∷ 9 ∷ []) 2 ≡ draft 8 [] ∷ draft 7 [] ∷ []
stock = refl

-- a look at an idle hand, at one that read the clock at 5, and at one that read it later than the sweep
looks : (lower 9 0 ≡ 9) × (lower 9 6 ≡ 5) × (lower 9 12 ≡ 9)
looks = (refl, refl, refl)

-- hand 1 is taken in by hand 0 and given back
abbrev one : View ℕ
one = share smallest 7 0 1

abbrev two : View ℕ
two = share smallest 8 1 2

takes_in : (taking_in one two).joined ≡ joined 1 8 ∷ []
takes_in = refl

gives_back : (giving_back (taking_in one two) ≡ one) × (given_back (taking_in one two) ≡ two)
gives_back = (refl, refl)
