-- Why an image is not sound.
use Rattle.std.specs.Prelude.{◌≡◌, ℕ, ◌<◌, List, Option, Some}
use Rattle.bl_page.specs.declared.page.Page.{Page}
use Rattle.bl_image.specs.Images.{IsImage, AreWithin, IsFault as IsImageFault}
use Rattle.bl_image.specs.declared.fault.ImageFault.TheVariants as image
use Rattle.bl_check.specs.declared.fault.Fault.{Fault}
use Rattle.bl_check.specs.declared.fault.Fault.TheVariants as fault
use Rattle.bl_check.specs.Rules.{Rule, rule_number, AllKeep, AreSound, IsFirst}

-- all pages keep the rules with lesser numbers
abbrev pub KeptBefore : ℕ → List (Option Page) → Type 0
KeptBefore number pages = (rule : Rule) → rule_number rule < number → AllKeep rule pages

-- The least rule that a page breaks has that number, and the least page that breaks it is x.
pub record IsBroken (pages : List (Option Page)) (number x : ℕ) : Type 0 where
  pub rule : Rule
  pub named : number ≡ rule_number rule
  pub least : IsFirst rule pages (Some x)
  pub earlier : KeptBefore number pages

-- What is wrong with these pages. Memory says nothing of them.
abbrev pub IsPageFault : Fault → List (Option Page) → Type 0
IsPageFault (fault.Rule number x) pages = IsBroken pages number x
IsPageFault fault.Memory pages = Unit {0}

-- The first rule that bytes break: there is no head of an image; or page x is the least whose bytes are no page's; or a
-- page breaks a rule.
pub data Breaks (bytes : List ℕ) (number x : ℕ) : Type 0 where
  Head : number ≡ 1 → x ≡ 0 → IsImageFault image.Head bytes → Breaks bytes number x
  Words : number ≡ 2 → IsImageFault (image.Page x) bytes → Breaks bytes number x
  Pages : (pages : List (Option Page)) → IsImage pages bytes → AreWithin pages → IsBroken pages number x → Breaks bytes number x

-- What is wrong with these bytes. Memory says nothing of them.
abbrev pub IsCheckFault : Fault → List ℕ → Type 0
IsCheckFault (fault.Rule number x) bytes = Breaks bytes number x
IsCheckFault fault.Memory bytes = Unit {0}

-- The bytes are the image of sound pages.
abbrev pub AreSoundImage : List ℕ → Type 0
AreSoundImage bytes = (pages : List (Option Page)) × IsImage pages bytes × AreSound pages
