-- What the answers of a lowering mean, told of what its process has done from the latch of the anchor on.
use Rattle.std.specs.Prelude.{◌≡◌, ◌⊎◌, ℕ, ◌<◌, ◌-◌, ◌++◌, List, [], ◌∷◌, length, take}
use Rattle.bl_model.specs.declared.operation.Reply.{Reply}
use Rattle.bl_page.specs.declared.page.Page.{Page}
use Rattle.bl_page.specs.declared.page.Page.TheVariants.{Anchor}
use Rattle.bl_page.specs.declared.page.Anchor.{Anchor as AnchorPage}
use Rattle.bl_page.specs.Machine.{Act}
use Rattle.bl_page.specs.Machine.Act.{Get, Put, Latch, Retire, Miss}
use Rattle.bl_page.specs.declared.machine.Missed.TheVariants as missed
use Rattle.bl_page.specs.Nodes.{roots_of}
use Rattle.bl_claims.specs.Trails.{Mark, Trail}
use Rattle.bl_claims.specs.Meanings.{HasGot}
use Rattle.bl_answers.specs.declared.answers.Lowered.{Lowered}
use Rattle.bl_answers.specs.declared.answers.Lowered.TheVariants as lowered
use Rattle.bl_page.specs.Tops.{top_of, IsSole, IsFallen, IsAnchor}
use Rattle.bl_claims.specs.Squeezed.{Since, Once, HasNoLevel}

-- The anchor was latched and got, and names more than one level; then the leftmost page of the last one was latched and got.
pub record AtTop (marks : Trail) (anchor : AnchorPage) (top : Page) (acts : List (Act Page Reply)) : Type 0 where
  pub since : Since marks 0 acts
  pub got : HasGot since.during 0 (Anchor anchor)
  pub tall : 1 < (roots_of (Anchor anchor)).levels
  pub got_top : HasGot since.during (top_of (roots_of (Anchor anchor))) top

-- what is done of a lowering after the latch of the anchor, up to the get of the top page, and up to the retirement
abbrev pub to_top : ℕ → List (Act Page Reply)
to_top x = Get 0 ∷ Latch x ∷ Get x ∷ []

abbrev pub to_sunk : ℕ → Page → Page → List (Act Page Reply)
to_sunk x lower dead = Get 0 ∷ Latch x ∷ Get x ∷ Put 0 lower ∷ Put x dead ∷ Retire x ∷ []

-- Page x, the top page that was got, is not needed.
pub record IsToLower (marks : Trail) (x : ℕ) (anchor : AnchorPage) (acts : List (Act Page Reply)) : Type 0 where
  pub top : Page
  pub at : AtTop marks anchor top acts
  pub is : x ≡ top_of (roots_of (Anchor anchor))
  pub sole : IsSole top

-- Lowered: the anchor was put without its last level, then the top page as a dead page of that level, which was then retired.
pub record HasLowered (marks : Trail) : Type 0 where
  pub x : ℕ
  pub anchor : AnchorPage
  pub lower : Page
  pub dead : Page
  pub is : IsToLower marks x anchor (to_sunk x lower dead)
  pub lower_is : IsAnchor (take (length anchor.leftmost.items - 1) anchor.leftmost.items) lower
  pub dead_is : IsFallen (length anchor.leftmost.items - 1) dead

-- Needed: nothing was written; the anchor that was got names one level, or the top page that was got is needed.
pub record HasNeed (marks : Trail) : Type 0 where
  pub anchor : AnchorPage
  pub top : Page
  pub at : AtTop marks anchor top (to_top (top_of (roots_of (Anchor anchor))))
  pub need : ¬ IsSole top

-- NoRoom: the top page that was got is not needed, and next a reservation was refused.
pub record LacksFrames (marks : Trail) : Type 0 where
  pub until : Trail
  pub mark : Mark
  pub split : marks ≡ until ++ mark ∷ []
  pub refused : mark.event.act ≡ Miss missed.Reservation
  pub x : ℕ
  pub anchor : AnchorPage
  pub is : IsToLower until x anchor (to_top x)

abbrev pub MeansLowered : Lowered → Trail → Type 0
MeansLowered lowered.Lowered marks = Once marks HasLowered
MeansLowered lowered.Needed marks = Once marks (λ ms. HasNoLevel 1 ms ⊎ HasNeed ms)
MeansLowered lowered.NoRoom marks = Once marks LacksFrames
