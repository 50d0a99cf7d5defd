-- No process has many puts to do.
use Rattle.std.proofs.Common.{◌≤◌, arith}
use Rattle.bl_proc_steps.specs.declared.growth.Growth.{Growth}
use Rattle.bl_proc_steps.specs.declared.growth.Growth.TheVariants as growth
use Rattle.bl_proc_steps.specs.declared.lowering.Lowering.{Lowering}
use Rattle.bl_proc_steps.specs.declared.lowering.Lowering.TheVariants as lowering
use Rattle.bl_proc_compress.specs.declared.compression.Compression.{Compression}
use Rattle.bl_proc_compress.specs.declared.compression.Compression.TheVariants as compression
use Rattle.bl_proc_compress.specs.declared.compress.CompressStage.{CompressStage}
use Rattle.bl_proc_compress.specs.declared.compress.CompressStage.TheVariants as compress
use Rattle.bl_proc_writes.specs.declared.writing.WriteStage.{WriteStage}
use Rattle.bl_proc_writes.specs.declared.writing.WriteStage.TheVariants as write
use Rattle.bl_proc_writes.specs.declared.post.PostStage.{PostStage}
use Rattle.bl_proc_writes.specs.declared.post.PostStage.TheVariants as post
use Rattle.bl_proc_writes.specs.declared.insert_post.ClimbStage.{ClimbStage}
use Rattle.bl_proc_writes.specs.declared.insert_post.ClimbStage.TheVariants as climb
use Rattle.bl_proc.specs.declared.lowering.LowerStage.{LowerStage}
use Rattle.bl_proc.specs.declared.lowering.LowerStage.TheVariants as lower
use Rattle.bl_proc.specs.declared.kinds.Proc.{Proc}
use Rattle.bl_proc.specs.declared.kinds.Proc.TheVariants as proc
use Rattle.bl_proc_ends.specs.Budget.{growth_puts, lowering_puts, compression_puts, write_puts, post_puts, compress_puts, lower_puts, climb_puts, puts_of}
use Rattle.bl_proc_ends.proofs.Spending.{edit_two, decision_three}

growth_two : (g : Growth) → growth_puts g ≤ 2
growth_two growth.Latching = omega arith
growth_two growth.Latched = omega arith
growth_two (growth.Taking rise) = omega arith
growth_two (growth.PuttingTop r) = omega arith
growth_two (growth.PuttingAnchor r) = omega arith
growth_two (growth.OpeningTop x) = omega arith
growth_two growth.OpeningGrown = omega arith
growth_two growth.OpeningRefused = omega arith

lowering_four : (l : Lowering) → lowering_puts l ≤ 4
lowering_four lowering.Looking = omega arith
lowering_four lowering.LatchingAnchor = omega arith
lowering_four lowering.LatchedAnchor = omega arith
lowering_four (lowering.LatchingTop t) = omega arith
lowering_four (lowering.LatchedTop t) = omega arith
lowering_four (lowering.PuttingAnchor s) = omega arith
lowering_four (lowering.PuttingDead s) = omega arith
lowering_four (lowering.Retiring x) = omega arith
lowering_four (lowering.OpeningTop x what) = omega arith
lowering_four (lowering.OpeningAnchor what) = omega arith

compression_six : (c : Compression) → compression_puts c ≤ 6
compression_six (compression.LatchingLeft f) = omega arith
compression_six (compression.LatchedLeft f) = omega arith
compression_six (compression.LatchingRight f c) = omega arith
compression_six (compression.LatchedRight f c) = omega arith
compression_six (compression.PuttingFirst p) = (let few = decision_three p.decision in omega (arith, few))
compression_six (compression.PuttingParent p) = (let few = decision_three p.decision in omega (arith, few))
compression_six (compression.PuttingLast p) = (let few = decision_three p.decision in omega (arith, few))
compression_six (compression.Retiring at what) = (let few = decision_three what in omega (arith, few))
compression_six (compression.OpeningRight at what) = (let few = decision_three what in omega (arith, few))
compression_six (compression.OpeningLeft at what) = (let few = decision_three what in omega (arith, few))
compression_six (compression.OpeningParent x what) = (let few = decision_three what in omega (arith, few))

write_two : (a : WriteStage) → write_puts a ≤ 2
write_two write.New = omega arith
write_two (write.Coming a) = omega arith
write_two (write.Keeping x there) = omega arith
write_two (write.Editing noted c) = edit_two c
write_two (write.Ending r) = omega arith
write_two (write.Over r) = omega arith

post_two : (a : PostStage) → post_puts a ≤ 2
post_two post.New = omega arith
post_two (post.Coming a) = omega arith
post_two (post.Growing g) = growth_two g
post_two (post.Walking w) = omega arith
post_two (post.Editing c) = edit_two c
post_two (post.Staying x r) = omega arith
post_two (post.Ending r) = omega arith
post_two (post.Over r) = omega arith

compress_six : (a : CompressStage) → compress_puts a ≤ 6
compress_six compress.New = omega arith
compress_six (compress.Coming a) = omega arith
compress_six (compress.Compressing c) = compression_six c
compress_six (compress.Staying x) = omega arith
compress_six (compress.Ending r) = omega arith
compress_six (compress.Over r) = omega arith

lower_four : (a : LowerStage) → lower_puts a ≤ 4
lower_four lower.New = omega arith
lower_four (lower.Sinking l) = lowering_four l
lower_four (lower.Ending r) = omega arith
lower_four (lower.Over r) = omega arith

climb_most : (a : ClimbStage) → climb_puts a ≤ 26
climb_most (climb.Writing w) = (let few = write_two w.stage in omega (arith, few))
climb_most (climb.Posting p) = (let few = post_two p.stage in omega (arith, few))
climb_most (climb.Ending r) = omega arith
climb_most (climb.Over r) = omega arith

pub puts_few : (p : Proc) → puts_of p ≤ 26
puts_few (proc.Find p) = omega arith
puts_few (proc.Write p) = (let few = write_two p.stage in omega (arith, few))
puts_few (proc.Post p) = (let few = post_two p.stage in omega (arith, few))
puts_few (proc.Part p) = omega arith
puts_few (proc.Compress p) = (let few = compress_six p.stage in omega (arith, few))
puts_few (proc.Reclaim p) = omega arith
puts_few (proc.Lower p) = (let few = lower_four p.stage in omega (arith, few))
puts_few (proc.InsertPost p) = climb_most p.stage
