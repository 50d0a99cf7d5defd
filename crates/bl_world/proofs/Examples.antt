-- Turns on an opening index of four pages, with one search for the key 5.
use Rattle.std.proofs.Common.{◌≡◌, ◌<◌, Some, None, zero, suc, List, [], ◌∷◌, slice_get, arith, refl, inl, inr}
use Rattle.bl_page.specs.declared.page.Page.{Page}
use Rattle.bl_page.specs.declared.page.Page.TheVariants as page
use Rattle.bl_proc_steps.specs.declared.descent.Descent.{Descent}
use Rattle.bl_proc_steps.specs.declared.descent.Descent.TheVariants as descent
use Rattle.bl_proc.specs.declared.searching.FindStage.{FindStage}
use Rattle.bl_proc.specs.declared.searching.FindStage.TheVariants as find
use Rattle.bl_proc.specs.declared.kinds.Proc.{Proc}
use Rattle.bl_proc.specs.declared.kinds.Proc.TheVariants as proc
use Rattle.bl_world.specs.declared.turns.Act.{Act}
use Rattle.bl_world.specs.declared.turns.Act.TheVariants as shown
use Rattle.bl_world.specs.declared.turns.Event.{Event}
use Rattle.bl_world.specs.declared.turns.Turn.TheVariants as turn
use Rattle.bl_world.specs.declared.owners.Owner.TheVariants as own
use Rattle.bl_world.specs.Views.{View}
use Rattle.bl_world.specs.Turns.{RunsTo}
use Rattle.bl_world.specs.WorldSteps.{IsOpening}

abbrev anchor : Page
anchor = page.Anchor (record { leftmost = record { items = 1 ∷ [] }; some = omega arith; few = omega arith; pages = ((omega arith, omega arith), tt) })

abbrev leaf : Page
leaf = page.Leaf (record { low = 0; high = 0; right = 0; rows = record { items = [] }; bounds = omega arith; link = omega arith; few = omega arith; order = tt; cover = tt })

abbrev search : FindStage → Proc
search stage = proc.Find (record { key = 5; stage = stage })

abbrev going : Descent → Proc
going d = search (find.Descending d)

-- the search is there, and this has happened
abbrev standing : List Proc → List Event → View
standing processes events = record { pages = anchor ∷ leaf ∷ leaf ∷ leaf ∷ []; owners = own.Open ∷ own.Open ∷ own.Released ∷ own.Released ∷ []; processes = processes; events = events }

opening : IsOpening 4 (standing [] [])
opening = record {
  count = refl;
  owners = refl;
  anchor = (anchor, refl, refl);
  leaf = (leaf, refl, (refl, refl, refl, refl));
  anchor_open = refl;
  leaf_open = refl;
  others = others;
  processes = refl;
  events = refl;
}
  where
    others : (x : _) → 1 < x → x < 4 → slice_get (own.Open ∷ own.Open ∷ own.Released ∷ own.Released ∷ []) x ≡ Some own.Released
    others (suc (suc zero)) far near = refl
    others (suc (suc (suc zero))) far near = refl
    others old far near = absurd (omega arith)

abbrev did : Act → Event
did what = record { process = 1; act = what }

-- It begins, is given a page that it does not ask for, and gets page 0 and page 1, where it finds that no row has its key.
runs : RunsTo (standing (search find.New ∷ []) []) (turn.Step 1 ∷ turn.Take 1 2 ∷ turn.Step 1 ∷ turn.Step 1 ∷ []) (standing (search (find.Ending None) ∷ []) (did shown.Begin ∷ did shown.Miss ∷ did (shown.Get 0) ∷ did (shown.Get 1) ∷ []))
runs = (
  standing (going descent.AtAnchor ∷ []) (did shown.Begin ∷ []),
  record { place = 0; number = refl; process = search find.New; stood = refl; does = inl ((refl, λ e. cc), ((refl, refl), record { new = going descent.AtAnchor; takes = (refl, refl); processes = refl; events = refl })) },
  (
    standing (going descent.AtAnchor ∷ []) (did shown.Begin ∷ did shown.Miss ∷ []),
    record { place = 0; number = refl; process = going descent.AtAnchor; stood = refl; does = inr (λ m. (let e = m.0.1 in cc), refl) },
    (
      standing (going (descent.At 1) ∷ []) (did shown.Begin ∷ did shown.Miss ∷ did (shown.Get 0) ∷ []),
      record { place = 0; number = refl; process = going descent.AtAnchor; stood = refl; does = inl ((refl, λ e. cc), (anchor, refl, (refl, refl), record { new = going (descent.At 1); takes = (refl, refl); processes = refl; events = refl })) },
      (
        standing (search (find.Ending None) ∷ []) (did shown.Begin ∷ did shown.Miss ∷ did (shown.Get 0) ∷ did (shown.Get 1) ∷ []),
        record { place = 0; number = refl; process = going (descent.At 1); stood = refl; does = inl ((refl, λ e. cc), (leaf, refl, (refl, refl), record { new = search (find.Ending None); takes = (refl, ((tt, (omega arith, omega arith), refl), refl)); processes = refl; events = refl })) },
        refl,
      ),
    ),
  ),
)
