-- The change of one pair of a page that a process holds and has got.
use Rattle.std.specs.Prelude.{◌≡◌, ℕ, Option, None, Some}
use Rattle.bl_page.specs.declared.page.Page.{Page}
use Rattle.bl_rearrange.specs.declared.fitted.Fitted.TheVariants.{Fits, Split}
use Rattle.bl_rearrange.specs.Rearranged.{IsFitted, IsWithout, IsWithValue}
use Rattle.bl_proc_steps.specs.declared.acts.Action.{Action}
use Rattle.bl_proc_steps.specs.declared.acts.Action.TheVariants as act
use Rattle.bl_proc_steps.specs.declared.acts.Seen.{Seen}
use Rattle.bl_proc_steps.specs.declared.acts.Seen.TheVariants as seen
use Rattle.bl_proc_steps.specs.declared.edit.Outcome.TheVariants as outcome
use Rattle.bl_proc_steps.specs.declared.edit.Edit.{Edit}
use Rattle.bl_proc_steps.specs.declared.edit.Edit.TheVariants.{Putting, Taking, PuttingNew, PuttingOld, OpeningNew, Opening}
use Rattle.bl_proc_steps.specs.declared.edit.Edited.{Edited}
use Rattle.bl_proc_steps.specs.declared.edit.Edited.TheVariants.{On, Over}

-- A split puts the new page first, then the old one.
abbrev pub edit_next : Edit → Action
edit_next (Putting x page) = act.Put x page
edit_next (Taking full) = act.Take
edit_next (PuttingNew p) = act.Put p.new p.right
edit_next (PuttingOld p) = act.Put p.at p.left
edit_next (OpeningNew x new separator) = act.Open new
edit_next (Opening x what) = act.Open x

-- pages and frames
abbrev pub edit_needs : Edit → Option (ℕ × ℕ)
edit_needs (Putting x page) = Some (0, 1)
edit_needs (Taking full) = Some (1, 2)
edit_needs (PuttingNew p) = None
edit_needs (PuttingOld p) = None
edit_needs (OpeningNew x new separator) = None
edit_needs (Opening x what) = None

-- A pair is to enter page x, which is c: the page is put with it where it has room, and else split. (What fits takes no
-- new page, and 0 stands for it.)
abbrev pub EntersPair : ℕ → Page → ℕ → ℕ → Edit → Type 0
EntersPair x c key word (Putting y page) = (y ≡ x) × IsFitted c key word 0 (Fits page)
EntersPair x c key word (Taking full) = (full.at ≡ x) × (full.key ≡ key) × (full.word ≡ word) × (full.page ≡ c)
EntersPair x c key word edit = ⊥

-- The pair of the key is to leave page x, which is c.
abbrev pub DropsPair : ℕ → Page → ℕ → Edit → Type 0
DropsPair x c key (Putting y page) = (y ≡ x) × IsWithout c key page
DropsPair x c key edit = ⊥

-- The key, which page x lists, which is c, is to have that value in place of its own.
abbrev pub GivesValue : ℕ → Page → ℕ → ℕ → Edit → Type 0
GivesValue x c key value (Putting y page) = (y ≡ x) × IsWithValue c key value page
GivesValue x c key value edit = ⊥

abbrev pub Changes : Edit → Seen → Edited → Type 0
Changes (Putting x page) seen.Done (On new) = new ≡ Opening x outcome.Edited
Changes (Putting x page) seen.Refused (On new) = new ≡ Opening x outcome.Refused
Changes (Taking full) (seen.Took y) (On (PuttingNew p)) =
    (p.at ≡ full.at) × (p.new ≡ y) × IsFitted full.page full.key full.word y (Split p.left p.right p.separator)
Changes (Taking full) seen.Refused (On new) = new ≡ Opening full.at outcome.Refused
Changes (PuttingNew p) seen.Done (On new) = new ≡ PuttingOld p
Changes (PuttingOld p) seen.Done (On new) = new ≡ OpeningNew p.at p.new p.separator
Changes (OpeningNew x new separator) seen.Done (On next) = next ≡ Opening x (outcome.SplitAt separator)
Changes (Opening x what) seen.Done (Over o) = o ≡ what
Changes old what new = ⊥
