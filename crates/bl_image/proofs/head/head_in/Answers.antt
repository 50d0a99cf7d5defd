use Rattle.std.proofs.Common.{◌≡◌, ℕ, ◌+◌, ◌*◌, ap, sym, subst, ◌∙◌}
use Rattle.std.proofs.lemmas.Bool.{true≢false, false≢true}
use Rattle.std.specs.Prelude.{not}
use lib.Pointwise.{bytes_decides}
use Rattle.bl_image.specs.Images.{head_bytes, IsStored}
use Rattle.bl_image.proofs.Wholes.{stored_read, same_value}
use Rattle.bl_image.proofs.head.head_in.Goals as goal

pub returns-in_default : goal.returns-in_default
returns-in_default c n k head = let none = c.in_default.ensures.only n k head.head head.count_fits in absurd cc

-- the numbers that were read are those of any head that the bytes begin with
pub returns-then-not-fits : goal.returns-then-not-fits
returns-then-not-fits c n k head =
    let bytes = c.args.bytes.now in
    let count : c.in-Some.count ≡ n = same_value c.in-Some.count n (c.in-Some.ensures.only n k head.head head.count_fits) in
    let stored : c.stored_in-stored.result ≡ k = stored_read bytes c.in-Some.count c.stored_in-stored.result n k count head c.stored_in-stored.ensures.large c.stored_in-stored.ensures.small in
    absurd (false≢true (sym c.if-not-fits.true ∙ c.fits.ensures.1
    (subst (λ (z : ℕ × ℕ). IsStored bytes z.0 z.1) (sym (λ i. (count i, stored i))) head.kept_fits, head.long ∙ ap (λ n. 32 + 256 * n) (sym stored))))

pub returns-then-ne : goal.returns-then-ne
returns-then-ne c n k head =
    let bytes = c.args.bytes.now in
    let count : c.in-Some.count ≡ n = same_value c.in-Some.count n (c.in-Some.ensures.only n k head.head head.count_fits) in
    let stored : c.stored_in-stored.result ≡ k = stored_read bytes c.in-Some.count c.stored_in-stored.result n k count head c.stored_in-stored.ensures.large c.stored_in-stored.ensures.small in
    absurd (true≢false (sym c.if-ne.true ∙ c.ne.ensures
    ∙ ap not ((bytes_decides _ _).1 (head.head ∙ (sym (λ i. head_bytes (count i) (stored i)) ∙ (sym c.head_of.ensures ∙ sym c.as_slice.ensures))))))
