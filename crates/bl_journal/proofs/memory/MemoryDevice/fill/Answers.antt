use Rattle.std.proofs.Common.{refl, arith}
use Rattle.std.proofs.lemmas.Grind.{common_steps}
use Rattle.bl_journal.specs.Files.{IsFilled, Fills}
use Rattle.bl_journal.proofs.Past.{goes_nowhere, goes_to, left_alone, left_whole}
use Rattle.bl_journal.proofs.memory.MemoryDevice.fill.Goals as goal

pub returns-in_err-next-clause-crash : goal.returns-in_err-next-clause-crash
returns-in_err-next-clause-crash c = λ modelled.
    goes_nowhere c.args.self.now.past.items c.args.self.now.past.items c.args.self.now.bytes.items c.args.self.now.bytes.items (Fills c.args.at c.args.bytes.now) refl refl
    (left_alone c.args.self.now.bytes.items c.args.bytes.now c.args.at (c.requires.zeros tt))

pub returns-in_err-extend_from_slice-clause-crash : goal.returns-in_err-extend_from_slice-clause-crash
returns-in_err-extend_from_slice-clause-crash c = λ modelled.
    goes_nowhere c.args.self.now.past.items c.args.self.now.past.items c.args.self.now.bytes.items c.args.self.now.bytes.items (Fills c.args.at c.args.bytes.now) refl refl
    (left_alone c.args.self.now.bytes.items c.args.bytes.now c.args.at (c.requires.zeros tt))

pub returns-in_err-extend_from_slice-2-clause-crash : goal.returns-in_err-extend_from_slice-2-clause-crash
returns-in_err-extend_from_slice-2-clause-crash c = λ modelled.
    goes_nowhere c.args.self.now.past.items c.args.self.now.past.items c.args.self.now.bytes.items c.args.self.now.bytes.items (Fills c.args.at c.args.bytes.now) refl refl
    (left_alone c.args.self.now.bytes.items c.args.bytes.now c.args.at (c.requires.zeros tt))

pub returns-in_err-exchange-clause-crash : goal.returns-in_err-exchange-clause-crash
returns-in_err-exchange-clause-crash c = λ modelled.
    goes_nowhere c.args.self.now.past.items c.exchange.new.past.items c.args.self.now.bytes.items c.exchange.new.bytes.items (Fills c.args.at c.args.bytes.now)
    c.in_err-exchange.ensures.past_err c.in_err-exchange.ensures.err (left_alone c.args.self.now.bytes.items c.args.bytes.now c.args.at (c.requires.zeros tt))

pub returns-clause-crash : goal.returns-clause-crash
returns-clause-crash c = λ modelled.
    let past = c.in_ok-exchange.ensures.past in
    let filled : IsFilled c.args.self.now.bytes.items c.args.at c.args.bytes.now c.exchange.new.bytes.items = grind (arith, common_steps) in
    goes_to c.args.self.now.past.items c.exchange.new.past.items past.0 c.args.self.now.bytes.items c.exchange.new.bytes.items (Fills c.args.at c.args.bytes.now)
    past.1 past.2 (left_alone c.args.self.now.bytes.items c.args.bytes.now c.args.at (c.requires.zeros tt))
    (left_whole c.args.self.now.bytes.items c.args.bytes.now c.exchange.new.bytes.items c.args.at filled)
