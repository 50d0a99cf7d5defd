use Rattle.std.proofs.Common.{◌≡◌, ◌+◌, ◌^◌, ◌/◌, ◌%◌, ◌∷◌, ℕ, List, length, sum, ◌∙◌, ap, arith}
use Rattle.bl_journal.specs.Records.{body_words}
use Rattle.bl_journal.proofs.Told.{writes}
use Rattle.bl_journal.proofs.record.record_of.Goals as goal

pub returns : goal.returns
returns c =
    let body = body_words c.args.came.now c.args.went.now in
    let wanting = c.complement_of-wanting.result in
    let is_body : c.as_slice-2.result.now ≡ body = c.as_slice-2.ensures.value ∙ c.in_ok-body.ensures in
    let is_first : c.as_slice.result.now ≡ body = c.as_slice.ensures.value ∙ c.in_ok-body.ensures in
    let same_length : length c.as_slice-2.result.now ≡ length body = ap length is_body in
    let same_sum : sum c.as_slice.result.now ≡ sum body = ap sum is_first in
    let size : 4 + c.len.result ≡ 4 + length body = omega (arith, c.len.ensures, c.as_slice-2.ensures.len, same_length) in
    let completes : (4 + c.len.result) + c.args.salt + sum body + wanting + 1 ≡ 2 ^ 128 = omega (arith, c.complement_of-wanting.ensures, same_sum) in
    writes c.args.salt c.in_ok-words.words.items body (4 + c.len.result) wanting
    (c.in_ok-words.ensures ∙ ap (λ (l : List ℕ). (4 + c.len.result) ∷ (wanting % 2 ^ 64) ∷ (wanting / 2 ^ 64) ∷ c.args.salt ∷ l) is_body) size (omega arith) completes
