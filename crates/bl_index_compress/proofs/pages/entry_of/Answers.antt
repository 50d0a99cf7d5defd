use Rattle.std.proofs.Common.{◌≡◌, ℕ, ◌+◌, ◌*◌, ◌-◌, ◌%◌, ◌<◌, ◌≤◌, length, get_or, sym, ap, ◌∙◌, arith}
use Rattle.bl_rearrange.specs.Rearranged.{pairs_of}
use Rattle.bl_proc_routes.proofs.Spellings.{pairs_counted}
use Rattle.bl_index_compress.proofs.Parted.{entry_at, entry_below, entry_above}
use Rattle.bl_index_compress.proofs.pages.entry_of.Goals as goal

pub returns-then-at-split : goal.returns-then-at-split
returns-then-at-split c = λ p q tree also e f.
    let count = pairs_counted p c.args.left.now tree e in
    let lt : c.args.at < 2 * length (pairs_of p) = (let below = c.if-at-split.true in omega (arith, below, count)) in
    entry_at p c.args.left.now c.args.at tree e ∙ sym (entry_below (pairs_of p) (pairs_of q) c.args.at lt)

pub returns-else-at-split : goal.returns-else-at-split
returns-else-at-split c = λ p q tree also e f.
    let count = pairs_counted p c.args.left.now tree e in
    let ge : 2 * length (pairs_of p) ≤ c.args.at = (let past = c.if-at-split.false in omega (arith, past, count)) in
    let same : 2 * (get_or c.args.left.now 0 0 % 65536) ≡ 2 * length (pairs_of p) = omega (arith, count) in
    ap (λ (n : ℕ). get_or c.args.right.now (4 + (c.args.at - n)) 0) same ∙ (entry_at q c.args.right.now (c.args.at - 2 * length (pairs_of p)) also f ∙ sym (entry_above (pairs_of p) (pairs_of q) c.args.at ge))
