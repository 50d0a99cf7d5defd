-- What the answers of a post mean, told of what its process has done: what it latched, what it got, and what it wrote.
use Rattle.std.specs.Prelude.{◌≡◌, ◌≢◌, ◌⊎◌, ℕ, suc, ◌<◌, ◌++◌, Option, None, Some, List, [], ◌∷◌, Contains, flat_map}
use Rattle.bl_model.specs.declared.operation.Reply.{Reply}
use Rattle.bl_page.specs.declared.page.Page.{Page}
use Rattle.bl_page.specs.Machine.{Act}
use Rattle.bl_page.specs.Machine.Act.{Begin, Get, Put, Take, Latch, Retire, Release, Miss}
use Rattle.bl_page.specs.declared.machine.Missed.TheVariants as missed
use Rattle.bl_page.specs.Nodes.{Covers, node_of, roots_of}
use Rattle.bl_claims.specs.Trails.{Mark, Trail}

-- one of these is a get of page x, which then was c
pub record HasGot (marks : Trail) (x : ℕ) (c : Page) : Type 0 where
  pub mark : Mark
  pub is : Contains marks mark
  pub act : mark.event.act ≡ Get x
  pub saw : mark.saw ≡ Some c

-- what of this writes: pages taken, put, retired and released
abbrev pub writes_in : Act Page Reply → List (Act Page Reply)
writes_in (Take x) = Take x ∷ []
writes_in (Put x c) = Put x c ∷ []
writes_in (Retire x) = Retire x ∷ []
writes_in (Release x) = Release x ∷ []
writes_in act = []

abbrev pub writes_of : Trail → List (Act Page Reply)
writes_of marks = flat_map (λ (m : Mark). writes_in m.event.act) marks

-- the process has begun, and what it has written since is so
pub record Wrote (marks : Trail) (Is : List (Act Page Reply) → Type 0) : Type 0 where
  pub earlier : Trail
  pub begin : Mark
  pub since : Trail
  pub split : marks ≡ earlier ++ begin ∷ since
  pub begun : begin.event.act ≡ Begin
  pub is : Is (writes_of since)

-- the process has begun, and has written nothing
abbrev pub Unwritten : Trail → Type 0
Unwritten marks = ((begin : Mark) × Contains marks begin × (begin.event.act ≡ Begin)) × (writes_of marks ≡ [])

-- Page x is to be the top page of a new level, and this the anchor that names it there, as its last level.
pub record IsNewTop (level x : ℕ) (top anchor : Page) : Type 0 where
  pub top_level : (node_of top).shape.level ≡ level
  pub levels : (roots_of anchor).levels ≡ suc level
  pub named : (roots_of anchor).leftmost level ≡ x

-- These write new top levels alone, one or more or none: each time a page is taken and put, and then the anchor that names it.
pub data RaisesOnly (level : ℕ) : List (Act Page Reply) → Type 0 where
  Never : RaisesOnly level []
  Again : {acts : List (Act Page Reply)} (x : ℕ) (top anchor : Page) → RaisesOnly level acts → IsNewTop level x top anchor
      → RaisesOnly level (acts ++ Take x ∷ Put x top ∷ Put 0 anchor ∷ [])

-- it has begun, and has written nothing since but new top levels
abbrev pub HasRaised : ℕ → Trail → Type 0
HasRaised level marks = Wrote marks (RaisesOnly level)

-- These acts write page x back, as these pages: whole; or split at that separator. Then a page is taken and put as the upper one,
-- whose low the separator is, before x is put as the lower one.
pub data WritesBack (x : ℕ) : Option ℕ → List Page → List (Act Page Reply) → Type 0 where
  Whole : (page : Page) → WritesBack x None (page ∷ []) (Put x page ∷ [])
  Split : (new separator : ℕ) (upper lower : Page) → (node_of upper).shape.low ≡ separator
      → WritesBack x (Some separator) (upper ∷ lower ∷ []) (Take new ∷ Put new upper ∷ Put x lower ∷ [])

-- The time during which the process held page x for its work: it latched the page, when it had written nothing but new top
-- levels, and has not opened it in what it did then; and it has written nothing since.
pub record UnderLatch (level : ℕ) (marks : Trail) (x : ℕ) : Type 0 where
  pub before : Trail
  pub latch : Mark
  pub during : Trail
  pub after : Trail
  pub split : marks ≡ before ++ latch ∷ (during ++ after)
  pub first : HasRaised level before
  pub latched : latch.event.act ≡ Latch x
  pub kept : (mark : Mark) → Contains during mark → mark.event.act ≢ Act.Open x
  pub no_more : writes_of after ≡ []

-- The process latched page x when it had written nothing, and has written this since.
pub record WroteHeld (marks : Trail) (x : ℕ) (acts : List (Act Page Reply)) : Type 0 where
  pub before : Trail
  pub first : Unwritten before
  pub latch : Mark
  pub since : Trail
  pub split : marks ≡ before ++ latch ∷ since
  pub latched : latch.event.act ≡ Latch x
  pub writes_are : writes_of since ≡ acts

-- The process held a page of that level that covers the key, and got it then.
pub record AtParent (level key : ℕ) (marks : Trail) : Type 0 where
  pub at : ℕ
  pub under : UnderLatch level marks at
  pub parent : Page
  pub got : HasGot under.during at parent
  pub level_is : (node_of parent).shape.level ≡ level
  pub covers : Covers (node_of parent).shape key

-- While it held the parent, it got a page one level lower that covers the key.
pub record AtChild (level key : ℕ) (during : Trail) : Type 0 where
  pub at : ℕ
  pub child : Page
  pub got : HasGot during at child
  pub level_is : suc (node_of child).shape.level ≡ level
  pub covers : Covers (node_of child).shape key

-- Together these pages list what the old one listed, and the child by the key, and nothing else.
pub record ListTogether (pages : List Page) (old : Page) (key child : ℕ) : Type 0 where
  pub no_other : (j c : ℕ) (page : Page) → Contains pages page → (node_of page).look j ≡ Some c → ((node_of old).look j ≡ Some c) ⊎ ((j ≡ key) × (c ≡ child))
  pub kept : (j c : ℕ) → (node_of old).look j ≡ Some c → (page : Page) × Contains pages page × ((node_of page).look j ≡ Some c)
  pub listed : (page : Page) × Contains pages page × ((node_of page).look key ≡ Some child)

-- Done: the page below has the key as its low; and all that the process wrote, but for new top levels, is the parent, whole or
-- split at that separator, which lists the page below with all that the parent listed.
pub record MeansDone (level key : ℕ) (separator : Option ℕ) (marks : Trail) : Type 0 where
  pub parent : AtParent level key marks
  pub child : AtChild level key parent.under.during
  pub low : (node_of child.child).shape.low ≡ key
  pub pages : List Page
  pub writes : WritesBack parent.at separator pages (writes_of parent.under.during)
  pub lists : ListTogether pages parent.parent key child.at

-- Already: the parent listed the key, and nothing was written.
pub record MeansAlready (level key : ℕ) (marks : Trail) : Type 0 where
  pub parent : AtParent level key marks
  pub none : writes_of parent.under.during ≡ []
  pub child : ℕ
  pub listed : (node_of parent.parent).look key ≡ Some child

-- the tree had too few levels
pub record HasTooFewLevels (level : ℕ) (marks : Trail) : Type 0 where
  pub first : HasRaised level marks
  pub anchor : Page
  pub got : HasGot marks 0 anchor
  pub few : (roots_of anchor).levels < level

-- the page below has another low
pub record HasOtherLow (level key : ℕ) (marks : Trail) : Type 0 where
  pub parent : AtParent level key marks
  pub none : writes_of parent.under.during ≡ []
  pub child : AtChild level key parent.under.during
  pub low : (node_of child.child).shape.low ≢ key

-- Stale: nothing was written but new top levels, and the tree had too few levels, or the page below the parent has another low.
abbrev pub MeansStale : ℕ → ℕ → Trail → Type 0
MeansStale level key marks = HasTooFewLevels level marks ⊎ HasOtherLow level key marks

-- TooTall: the tree had all 12 levels, and was to have one more.
pub record MeansTooTall (level : ℕ) (marks : Trail) : Type 0 where
  pub last : level ≡ 12
  pub first : HasRaised level marks
  pub anchor : Page
  pub got : HasGot marks 0 anchor
  pub full : (roots_of anchor).levels ≡ 12

-- NoRoom: the process was refused a reservation while it held a page, and wrote nothing then.
pub record MeansNoRoom (level : ℕ) (marks : Trail) : Type 0 where
  pub at : ℕ
  pub under : UnderLatch level marks at
  pub none : writes_of under.during ≡ []
  pub mark : Mark
  pub is : Contains under.during mark
  pub refused : mark.event.act ≡ Miss missed.Reservation
