-- What a process knows in each of its states.
use Rattle.std.specs.Prelude.{◌≡◌, ◌≢◌, ◌⊎◌, ℕ, ◌<◌, Bool, true, Option, Some, None, List, [], ◌∷◌}
use Rattle.bl_page.specs.declared.page.Page.{Page}
use Rattle.bl_page.specs.Nodes.{Covers, unbounded, node_of}
use Rattle.bl_tree.specs.Trees.Status.{Fresh, Live, Anchored}
use Rattle.bl_tree.specs.Moves.{IsRow, IsCut, MayList}
use Rattle.bl_claims.specs.Trails.{Said}
use Rattle.bl_model.specs.Map.{Map}
use Rattle.bl_page.specs.Machine.{Name}
use Rattle.bl_tree_worlds.specs.Worlds.{Hold, Goes, Child, Stage, Know, World, IsRelied, MapsTo, nodes, tree_of}
use Rattle.bl_claims.specs.Walks.{Each}
use Rattle.bl_proc_steps.specs.declared.descent.Descent.{Descent}
use Rattle.bl_proc_steps.specs.declared.descent.Descent.TheVariants as descent
use Rattle.bl_proc_steps.specs.declared.approach.Approach.{Approach}
use Rattle.bl_proc_steps.specs.declared.approach.Approach.TheVariants.{Start, At, Latching, Latched, Leaving}
use Rattle.bl_proc_steps.specs.declared.edit.Outcome.{Outcome}
use Rattle.bl_proc_steps.specs.declared.edit.Outcome.TheVariants as outcome
use Rattle.bl_proc_steps.specs.declared.edit.Edit.{Edit}
use Rattle.bl_proc_steps.specs.declared.edit.Edit.TheVariants.{Putting, Taking, PuttingNew, PuttingOld, OpeningNew, Opening}

-- nothing but where it stands
abbrev pub idle : Stage → Know
idle stage = record { stage = stage; said = None; holds = []; goes = []; children = []; middle = None; passed = None; sound = Unit {0} }

-- a page of the tree that it holds, and one of which it knows what it got
abbrev pub holds_live : ℕ → Hold
holds_live x = record { at = x; status = Live; sep = None; page = None }

abbrev pub holds_known : ℕ → Page → Hold
holds_known x c = record { at = x; status = Live; sep = None; page = Some c }

-- page 0, of which it may know what it got
abbrev pub anchor_known : Option Page → Hold
anchor_known c = record { at = 0; status = Anchored; sep = None; page = c }

-- it may go to the page, of a level within these bounds
abbrev pub goes_to : ℕ → ℕ → ℕ → Goes
goes_to x least most = record { page = x; least = least; most = most }

-- A search on its way, which may go to a page of any level.
abbrev pub descent_goes : Descent → List Goes
descent_goes descent.AtAnchor = []
descent_goes (descent.At x) = goes_to x 0 12 ∷ []

abbrev pub know_descent : ℕ → Descent → Know
know_descent key d = record (idle Stage.Busy) { goes = descent_goes d; sound = key < unbounded }

-- What a process carries along beside what it is at: what it has said before, and pages that it may still go to.
pub record Carried : Type 0 where
  pub said : Option Said
  pub goes : List Goes

-- it has said nothing; and it has nothing of both
abbrev pub unsaid : List Goes → Carried
unsaid goes = record { said = None; goes = goes }

abbrev pub alone : Carried
alone = unsaid []

abbrev pub carrying : Carried → Know
carrying carried = record (idle Stage.Busy) { said = carried.said; goes = carried.goes }

-- A writer on its way. Every page that it may get is of its level or above; those that it latches are of its level.
abbrev pub know_approach : Carried → ℕ → ℕ → Approach → Know
know_approach carried level key Start = record (carrying carried) { sound = key < unbounded }
know_approach carried level key (At x) = record (carrying carried) { goes = goes_to x level 12 ∷ carried.goes; sound = key < unbounded }
know_approach carried level key (Latching x) = record (carrying carried) { goes = goes_to x level level ∷ carried.goes; sound = key < unbounded }
know_approach carried level key (Latched x) =
    record (carrying carried) { holds = holds_live x ∷ []; goes = goes_to x level level ∷ carried.goes; sound = key < unbounded }
know_approach carried level key (Leaving x None) = record (carrying carried) { holds = holds_live x ∷ []; sound = key < unbounded }
know_approach carried level key (Leaving x (Some y)) =
    record (carrying carried) { holds = holds_live x ∷ []; goes = goes_to y level level ∷ carried.goes; sound = key < unbounded }

-- What a change is to do: on that level the key had this listed with it, and is to have that. Whether it is a change that may be
-- refused, what the process carries along, what it says by the change, what it has said by the end, and the children that it
-- relies on until then.
pub record Aim : Type 0 where
  pub level : ℕ
  pub key : ℕ
  pub was : Option ℕ
  pub word : Option ℕ
  pub changes : Bool
  pub carried : Carried
  pub says : Outcome → Option Said
  pub said : Outcome → Option Said
  pub children : ℕ → List Child

-- What is said fits what is done, to the map on level 0, and to nothing that the map knows above it. Only who has said nothing
-- before says something.
pub record IsAim (aim : Aim) : Type 1 where
  pub once : (o : Outcome) → ((aim.says o ≡ None) × (aim.said o ≡ aim.carried.said)) ⊎ ((aim.carried.said ≡ None) × (aim.said o ≡ aim.says o))
  pub changed : (o : Outcome) → o ≢ outcome.Refused → (m m' : Map) → (aim.level ≡ 0 → (m aim.key ≡ aim.was) × (m' aim.key ≡ aim.word))
      → (aim.level ≢ 0 → m' aim.key ≡ m aim.key) → ((j : ℕ) → j ≢ aim.key → m' j ≡ m j) → MapsTo m m' (aim.says o)
  pub refused : (m : Map) → aim.changes ≡ true → (aim.level ≡ 0 → m aim.key ≡ aim.was) → MapsTo m m (aim.says outcome.Refused)
  -- what is to be listed on a level above 0 is a child that the process relies on
  pub lists : {P : Type 0} (w : World P) (p : Name) (x : ℕ) → (nodes w.now x).shape.level ≡ aim.level → Each (IsRelied w p) (aim.children x)
      → MayList (tree_of w) aim.level aim.key aim.word

-- a page that is to be changed
pub record IsDue (aim : Aim) (c : Page) : Type 0 where
  pub level : (node_of c).shape.level ≡ aim.level
  pub covers : Covers (node_of c).shape aim.key
  pub was : (node_of c).look aim.key ≡ aim.was
  pub changes : aim.changes ≡ true

-- only a key that was not listed splits a page, and the separator is a key of the tree
abbrev pub SplitsAt : Aim → ℕ → Type 0
SplitsAt aim separator = (aim.was ≡ None) × (separator < unbounded)

abbrev pub IsBelow : Aim → Outcome → Type 0
IsBelow aim outcome.Edited = Unit {0}
IsBelow aim (outcome.SplitAt separator) = SplitsAt aim separator
IsBelow aim outcome.Refused = Unit {0}

-- got is what the process got of the page under its latch.
abbrev pub know_edit : Aim → (ℕ → Page) → Edit → Know
know_edit aim got (Putting x page) =
    record (carrying aim.carried) {
      holds = holds_known x (got x) ∷ [];
      children = aim.children x;
      sound = IsDue aim (got x) × IsRow aim.key aim.word (node_of (got x)) (node_of page);
    }
know_edit aim got (Taking full) =
    record (carrying aim.carried) {
      holds = holds_known full.at full.page ∷ [];
      children = aim.children full.at;
      sound = IsDue aim full.page × (full.key ≡ aim.key) × (Some full.word ≡ aim.word) × (got full.at ≡ full.page) × (aim.was ≡ None);
    }
know_edit aim got (PuttingNew p) =
    record (carrying aim.carried) {
      holds = holds_known p.at (got p.at) ∷ record { at = p.new; status = Fresh; sep = None; page = None } ∷ [];
      children = aim.children p.at;
      sound = IsDue aim (got p.at) × IsCut p.new aim.key aim.word (node_of (got p.at)) (node_of p.left) (node_of p.right) × SplitsAt aim p.separator;
    }
know_edit aim got (PuttingOld p) =
    record (carrying aim.carried) {
      holds = holds_known p.at (got p.at) ∷ record {
        at = p.new;
        status = Fresh;
        sep = Some (node_of p.right).shape.low;
        page = Some p.right;
      } ∷ [];
      children = aim.children p.at;
      sound = IsDue aim (got p.at) × IsCut p.new aim.key aim.word (node_of (got p.at)) (node_of p.left) (node_of p.right) × SplitsAt aim p.separator;
    }
know_edit aim got (OpeningNew x new separator) =
    record (carrying aim.carried) {
      said = aim.said (outcome.SplitAt separator);
      holds = holds_live x ∷ holds_live new ∷ [];
      sound = (x ≢ new) × (aim.changes ≡ true) × SplitsAt aim separator;
    }
know_edit aim got (Opening x o) = record (carrying aim.carried) { said = aim.said o; holds = holds_live x ∷ []; sound = (aim.changes ≡ true) × IsBelow aim o }
