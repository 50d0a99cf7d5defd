use Rattle.std.proofs.Common.{◌≡◌, rules}
use Rattle.bl_journal.proofs.memory.exchange.Goals as goal

pub returns-clause-past : goal.returns-clause-past
returns-clause-past c =
    let same : c.in_ok-to_vec.field-0.items ≡ c.args.bytes.now.items = search rules in
    (c.in_ok-to_vec.field-0, same, c.in_ok-push.ensures.items)
