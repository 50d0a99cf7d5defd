use Rattle.std.proofs.Common.{arith, rules, ℕ, ◌≢◌, ◌+◌, ◌-◌, ◌*◌, ◌<◌, ◌^◌, ◌∙◌, Option, IfNone, ap, decimal, drop, get_or, drop_of_length-le, subst, sym}
use Rattle.std.specs.Str.{all_ascii_digits}
use Rattle.bl_serve_lines.proofs.Numbers.{read_on, read_on-le, value_more, no_empty, no_zero_front, no_digits, digit_stop, too_large, is_decimal}
use Rattle.bl_serve_lines.proofs.number.number.Goals as goal

pub returns-then-is_empty-clause-none : goal.returns-then-is_empty-clause-none
returns-then-is_empty-clause-none c = λ n small e. no_empty _ n (search rules) small e

pub returns-then-text-gt1-clause-none : goal.returns-then-text-gt1-clause-none
returns-then-text-gt1-clause-none c = λ n small e. no_zero_front _ n (search rules) (search rules) small e

pub returns-then-byte-lt48-clause-none : goal.returns-then-byte-lt48-clause-none
returns-then-byte-lt48-clause-none c = λ n small e.
    no_digits _ n (digit_stop _ c.loop-byte.byte-index (search rules) c.loop-byte.invariant.digits (λ low high. grind (arith, c.then-byte-lt48.branch))) small e

pub returns-clause-found : goal.returns-clause-found
returns-clause-found c = is_decimal _ c.loop-byte.value
    (c.loop-byte.invariant.digits ∙ ap all_ascii_digits (drop_of_length-le c.args.text.now c.loop-byte-test.false))
    (c.loop-byte.invariant.value ∙ ap (read_on c.loop-byte.value) (drop_of_length-le c.args.text.now c.loop-byte-test.false))
    (search rules) (λ z. grind (arith, c.else-text-eq48.either)) c.loop-byte.invariant.small

pub returns-in_err-checked_mul-clause-none : goal.returns-in_err-checked_mul-clause-none
returns-in_err-checked_mul-clause-none c = subst (λ (z : Option ℕ). IfNone z ((n : ℕ) → n < 2 ^ 64 → c.args.text.now ≢ decimal n)) (sym c.from_residual.ensures) (λ n small e. too_large _ n
    (let more = read_on-le (drop (c.loop-byte.byte-index + 1) c.args.text.now) (c.loop-byte.value * 10 + (get_or c.args.text.now c.loop-byte.byte-index 0 - 48)) in
    let step = value_more c.args.text.now c.loop-byte.byte-index c.loop-byte.value c.loop-byte-test.true in
    let large : c.loop-byte.value * 10 < 18446744073709551616 → ⊥ = c.in_err-checked_mul.ensures in
    omega (arith, c.loop-byte.invariant.value, step, more, large)) small e)

pub returns-in_err-value-clause-none : goal.returns-in_err-value-clause-none
returns-in_err-value-clause-none c = subst (λ (z : Option ℕ). IfNone z ((n : ℕ) → n < 2 ^ 64 → c.args.text.now ≢ decimal n)) (sym c.from_residual-in_err-value.ensures) (λ n small e. too_large _ n
    (let more = read_on-le (drop (c.loop-byte.byte-index + 1) c.args.text.now) (c.loop-byte.value * 10 + (get_or c.args.text.now c.loop-byte.byte-index 0 - 48)) in
    let step = value_more c.args.text.now c.loop-byte.byte-index c.loop-byte.value c.loop-byte-test.true in
    let large : c.in_ok-checked_mul.field-0 + c.from-digit.result < 18446744073709551616 → ⊥ = c.in_err-value.ensures in
    omega (arith, c.loop-byte.invariant.value, step, more, large, c.in_ok-checked_mul.ensures, c.from-digit.ensures, c.if-byte-gt57.false)) small e)
