use Rattle.std.proofs.Common.{◌≡◌, ℕ, ◌+◌, ◌*◌, ◌-◌, take, drop, sym, ap, ◌∙◌, arith}
use lib.Pointwise.{bytes_decides}
use Rattle.bl_image.proofs.head.ends_blank.Goals as goal

pub returns : goal.returns
returns c =
    let at : ℕ = 32 + 256 * (c.args.stored - 1) in
    let whole : at + 256 - at ≡ 256 = omega arith in
    let same = ap (λ n. take n (drop at c.args.bytes.now)) whole in (
      λ h. sym same ∙ ((bytes_decides _ _).0 (sym c.eq.ensures ∙ h) ∙ c.as_slice.ensures),
      λ h. c.eq.ensures ∙ (bytes_decides _ _).1 (same ∙ (h ∙ sym c.as_slice.ensures)),
    )
