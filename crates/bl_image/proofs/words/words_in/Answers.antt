use Rattle.std.proofs.Common.{arith}
use Rattle.bl_image.proofs.Bytes.{words_again}
use Rattle.bl_image.proofs.words.words_in.Goals as goal

pub returns-clause-bytes : goal.returns-clause-bytes
returns-clause-bytes c = words_again c.read_u64_into.new.dst c.args.bytes.now (omega (arith, c.requires, c.read_u64_into.auto.dst)) (λ i. omega (arith, c.type_inv.bytes i)) c.read_u64_into.ensures
