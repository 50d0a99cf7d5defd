use Rattle.std.proofs.Common.{ℕ, get_or, ap}
use Rattle.bl_answers.specs.declared.answers.Hint.TheVariants as hint
use Rattle.bl_proc_compress.specs.declared.compression.Decision.TheVariants.{Unposted}
use Rattle.bl_index_compress.proofs.children.unposted_at.Goals as goal

pub new-requires-clause-least : goal.new-requires-clause-least
new-requires-clause-least c = c.args.target.least

pub new-requires-clause-most : goal.new-requires-clause-most
new-requires-clause-most c = c.args.target.most

pub returns-then-left-kin-clause-some : goal.returns-then-left-kin-clause-some
returns-then-left-kin-clause-some c = (c.if-left-kin.true, ap (λ (n : ℕ). Unposted (hint.Post n (get_or c.args.left.now 2 0))) c.new.ensures)

pub returns-clause-none : goal.returns-clause-none
returns-clause-none c = c.if-left-kin.false
