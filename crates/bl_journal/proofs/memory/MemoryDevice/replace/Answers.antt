use Rattle.std.proofs.Common.{◌≡◌, ◌∙◌, ◌++◌, inl, inr, length, refl, arith, rules}
use Rattle.std.specs.Prelude.{replicate}
use Rattle.bl_journal.specs.Files.{Replaces}
use Rattle.bl_journal.proofs.Past.{at_now, goes_to}
use Rattle.bl_journal.proofs.memory.MemoryDevice.replace.Goals as goal

pub returns-clause-durable : goal.returns-clause-durable
returns-clause-durable c = λ modelled f left.
    let is : c.exchange.new.bytes.items ≡ c.args.bytes.now ++ replicate c.args.zeros 0 = search rules in
    left ∙ at_now c.exchange.new.past.items c.exchange.new.bytes.items (length c.exchange.new.past.items) (omega arith) ∙ is

pub returns-clause-crash : goal.returns-clause-crash
returns-clause-crash c = λ modelled.
    let is : c.exchange.new.bytes.items ≡ c.args.bytes.now ++ replicate c.args.zeros 0 = search rules in
    let past = c.in_ok-exchange.ensures.past in
    goes_to c.args.self.now.past.items c.exchange.new.past.items past.0 c.args.self.now.bytes.items c.exchange.new.bytes.items (Replaces (c.args.bytes.now ++ replicate c.args.zeros 0))
    past.1 past.2 (inl refl) (inr is)
