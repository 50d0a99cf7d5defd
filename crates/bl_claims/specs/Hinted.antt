-- What a write of one key has written, and what the hint beside its reply means.
use Rattle.std.specs.Prelude.{◌≡◌, ℕ, Option, None, List, [], ◌∷◌}
use Rattle.bl_model.specs.declared.operation.Reply.{Reply}
use Rattle.bl_model.specs.Writes.{Deed, deed_told}
use Rattle.bl_model.specs.Writes.Deed.{Entered, Removed, Replaced}
use Rattle.bl_page.specs.declared.page.Page.{Page}
use Rattle.bl_page.specs.Machine.{Act}
use Rattle.bl_page.specs.Machine.Act.{Put}
use Rattle.bl_claims.specs.Trails.{Trail}
use Rattle.bl_claims.specs.Meanings.{Unwritten, WroteHeld, WritesBack}
use Rattle.bl_answers.specs.declared.answers.Hint.{Hint}
use Rattle.bl_answers.specs.Thin.{thin_low, thin_hint}
use Rattle.bl_answers.specs.Hints.{post_hint}

-- It has written back the page that it latched, whole or split at that separator, and has written nothing else.
abbrev pub WroteLeaf : Option ℕ → Trail → Type 0
WroteLeaf separator marks = (x : ℕ) × (acts : List (Act Page Reply)) × (pages : List Page) × WroteHeld marks x acts × WritesBack x separator pages acts

-- What an insertion has written, and its hint, by what was done with the pair. Entered: the leaf was written back, and where it was
-- split, the hint is that the upper half is to be listed, by its low. Else nothing was written. There is no other hint.
abbrev pub InsertedSo : Deed → Option Hint → Trail → Type 0
InsertedSo Entered hint marks = (separator : Option ℕ) × WroteLeaf separator marks × (hint ≡ post_hint 1 separator)
InsertedSo deed hint marks = Unwritten marks × (hint ≡ None)

-- The same of any write. Removed: the leaf was put, and nothing else was written; where it is thin now, the hint is that it is to be
-- merged or evened out, by its low. Replaced: the leaf was put, and nothing else was written, and there is no hint.
abbrev pub WrittenSo : Deed → Option Hint → Trail → Type 0
WrittenSo Removed hint marks = (x : ℕ) × (page : Page) × WroteHeld marks x (Put x page ∷ []) × (hint ≡ thin_hint 1 (thin_low page))
WrittenSo Replaced hint marks = (x : ℕ) × (page : Page) × WroteHeld marks x (Put x page ∷ []) × (hint ≡ None)
WrittenSo deed hint marks = InsertedSo deed hint marks

-- By the reply, which tells what was done.
abbrev pub MeansInserted : Reply → Option Hint → Trail → Type 0
MeansInserted reply = InsertedSo (deed_told reply)

abbrev pub MeansWritten : Reply → Option Hint → Trail → Type 0
MeansWritten reply = WrittenSo (deed_told reply)
