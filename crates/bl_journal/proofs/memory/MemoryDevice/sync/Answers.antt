use Rattle.std.proofs.Common.{◌∙◌, length, arith}
use Rattle.bl_journal.proofs.Past.{at_now}
use Rattle.bl_journal.proofs.memory.MemoryDevice.sync.Goals as goal

pub returns-clause-durable : goal.returns-clause-durable
returns-clause-durable c = λ modelled f left. left ∙ at_now c.args.self.now.past.items c.args.self.now.bytes.items (length c.args.self.now.past.items) (omega arith)
