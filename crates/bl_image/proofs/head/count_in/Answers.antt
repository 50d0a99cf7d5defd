use Rattle.std.proofs.Common.{◌≡◌, ◌-◌, ap, sym, length, take, drop, ◌∙◌, subst, Some, arith}
use Rattle.std.proofs.lemmas.Bool.{false≢true}
use Rattle.byteorder.specs.Endian.{little_number}
use Rattle.bl_image.specs.Images.{IsCount}
use Rattle.bl_image.proofs.Wholes.{count_told}
use Rattle.bl_image.proofs.head.count_in.Goals as goal

-- a head with such a number of pages has it there
pub returns-then-not-is_count-clause-only : goal.returns-then-not-is_count-clause-only
returns-then-not-is_count-clause-only c count kept is fits =
    let same : c.read_u32-count.result ≡ count = c.read_u32-count.ensures ∙ ap (λ t. little_number 4 (take (length t - 12) (drop 12 t))) is ∙ count_told count kept (omega (arith, fits.1)) in
    absurd (false≢true (sym c.if-not-is_count.true ∙ c.is_count.ensures.1 (subst IsCount (sym same) fits)))

pub returns-clause-only : goal.returns-clause-only
returns-clause-only c count kept is fits = ap Some (c.read_u32-count.ensures ∙ ap (λ t. little_number 4 (take (length t - 12) (drop 12 t))) is ∙ count_told count kept (omega (arith, fits.1)))
