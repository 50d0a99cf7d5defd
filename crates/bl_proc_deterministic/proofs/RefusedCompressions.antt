-- A compression goes on without room only by being refused.
use Rattle.std.proofs.Common.{ℕ, ◌≡◌, ◌⊎◌, None, Some, refl, subst, inl, inr, Bool}
use Rattle.bl_page.specs.declared.page.Page.{Page}
use Rattle.bl_proc_steps.specs.declared.acts.Seen.{Seen}
use Rattle.bl_proc_steps.specs.declared.acts.Seen.TheVariants as seen
use Rattle.bl_rearrange.specs.declared.families.Siblings.{Siblings}
use Rattle.bl_rearrange.specs.declared.families.Family.{Family}
use Rattle.bl_proc_compress.specs.declared.compression.Decision.{Decision}
use Rattle.bl_proc_compress.specs.declared.compression.Decision.TheVariants as decision
use Rattle.bl_proc_compress.specs.declared.compression.Compression.{Compression}
use Rattle.bl_proc_compress.specs.declared.compression.Compression.TheVariants.{LatchingLeft, LatchedLeft, LatchingRight, LatchedRight, PuttingFirst, PuttingParent, PuttingLast, Retiring, OpeningRight, OpeningLeft, OpeningParent}
use Rattle.bl_proc_compress.specs.declared.compression.Compressed.{Compressed}
use Rattle.bl_proc_compress.specs.declared.compression.Compressed.TheVariants as step
use Rattle.bl_proc_compress.specs.Compressions.{Links, Decides, after_puts}
use Rattle.bl_proc_compress.specs.declared.compress.CompressReply.{CompressReply}
use Rattle.bl_proc_compress.specs.declared.compress.CompressStage.{CompressStage}
use Rattle.bl_proc_deterministic.specs.Refusals.{DecisionRefused, CompressionRefused, CompressNoRoom, CompressRefused, CompressionPuts, CompressPuts}
use Rattle.bl_proc_compress.specs.Compresses.{compress_reply}
use Rattle.bl_proc_deterministic.proofs.WayCases.{CompressionCase, compression_case}
use Rattle.bl_proc_deterministic.proofs.KindCases.{CompressCase}

-- Steps of the compression of two children

links_not : (f : Family) (c : Page) (d : Compression) → Links f c d → CompressionRefused d → ⊥
links_not f c (LatchingLeft g) h r = h
links_not f c (LatchedLeft g) h r = h
links_not f c (LatchingRight g page) h r = r
links_not f c (LatchedRight g page) h r = h
links_not f c (PuttingFirst u) h r = h
links_not f c (PuttingParent u) h r = h
links_not f c (PuttingLast u) h r = h
links_not f c (Retiring at end) h r = h
links_not f c (OpeningRight at end) h r = h
links_not f c (OpeningLeft at end) h r = subst DecisionRefused h.2 r
links_not f c (OpeningParent x end) h r = h

decides_not : (f : Family) (c d : Page) (new : Compression) → Decides f c d new → CompressionRefused new → ⊥
decides_not f c d (LatchingLeft g) h r = h
decides_not f c d (LatchedLeft g) h r = h
decides_not f c d (LatchingRight g page) h r = h
decides_not f c d (LatchedRight g page) h r = h
decides_not f c d (PuttingFirst u) h r = elim h [ inl m ↦ subst DecisionRefused m.1.decision r | inr e ↦ subst DecisionRefused e.decision r ]
decides_not f c d (PuttingParent u) h r = h
decides_not f c d (PuttingLast u) h r = h
decides_not f c d (Retiring at end) h r = h
decides_not f c d (OpeningRight at (decision.Merged s)) h r = r
decides_not f c d (OpeningRight at decision.Evened) h r = r
decides_not f c d (OpeningRight at decision.Enough) h r = r
decides_not f c d (OpeningRight at (decision.Unposted s)) h r = r
decides_not f c d (OpeningRight at decision.Refused) h r = h
decides_not f c d (OpeningRight at decision.Lost) h r = r
decides_not f c d (OpeningLeft at end) h r = h
decides_not f c d (OpeningParent x end) h r = h

after_refused : (at : Siblings) (end : Decision) → CompressionRefused (after_puts at end) → DecisionRefused end
after_refused at (decision.Merged hint) r = r
after_refused at decision.Evened r = r
after_refused at decision.Enough r = r
after_refused at (decision.Unposted hint) r = r
after_refused at decision.Refused r = r
after_refused at decision.Lost r = r

abbrev StepRefused : Compressed → Type 0
StepRefused (step.On d) = CompressionRefused d
StepRefused (step.Over end) = DecisionRefused end

compressions_refused : {c : Compression} {what : Seen} {new : Compressed} → CompressionCase c what new → StepRefused new → CompressionRefused c ⊎ (what ≡ seen.Refused)
compressions_refused (CompressionCase.GotLeft f c d t) r = inl (links_not f c d t r)
compressions_refused (CompressionCase.GotRight f c e d t) r = inl (decides_not f c e d t r)
compressions_refused (CompressionCase.FirstRefused u d t) r = inr refl
compressions_refused (CompressionCase.PutLast u d t) r = inl (after_refused u.at u.decision (subst CompressionRefused t r))
compressions_refused (CompressionCase.OpenedParent x end _ t) r = inl (subst DecisionRefused t r)
compressions_refused (CompressionCase.LatchLeft f d t) r = inl (subst CompressionRefused t r)
compressions_refused (CompressionCase.MissLeft f d t) r = inl (subst CompressionRefused t r)
compressions_refused (CompressionCase.LeaveLeft f d t) r = inl (subst CompressionRefused t r)
compressions_refused (CompressionCase.LatchRight f c d t) r = inl (subst CompressionRefused t r)
compressions_refused (CompressionCase.MissRight f c d t) r = inl (subst CompressionRefused t r)
compressions_refused (CompressionCase.LeaveRight f c d t) r = inl (subst CompressionRefused t r)
compressions_refused (CompressionCase.PutFirst u d t) r = inl (subst CompressionRefused t r)
compressions_refused (CompressionCase.PutParent u d t) r = inl (subst CompressionRefused t r)
compressions_refused (CompressionCase.Retired at end d t) r = inl (subst CompressionRefused t r)
compressions_refused (CompressionCase.OpenedRight at end d t) r = inl (subst CompressionRefused t r)
compressions_refused (CompressionCase.OpenedLeft at end d t) r = inl (subst CompressionRefused t r)

-- What is decided is never refused.
after_puts_not : (at : Siblings) (end : Decision) → CompressionPuts (after_puts at end) → ⊥
after_puts_not at (decision.Merged hint) r = r
after_puts_not at decision.Evened r = r
after_puts_not at decision.Enough r = r
after_puts_not at (decision.Unposted hint) r = r
after_puts_not at decision.Refused r = r
after_puts_not at decision.Lost r = r

puts_are : (c : Compression) → CompressionPuts c → CompressionRefused c
puts_are (PuttingFirst u) r = r
puts_are (PuttingParent u) r = r
puts_are (PuttingLast u) r = r
puts_are (Retiring at end) r = r
puts_are old r = absurd r

compressions_puts : {c d : Compression} {what : Seen} → CompressionCase c what (step.On d) → CompressionPuts d → CompressionPuts c
compressions_puts (CompressionCase.LatchLeft f d t) r = subst CompressionPuts t r
compressions_puts (CompressionCase.MissLeft f d t) r = subst CompressionPuts t r
compressions_puts (CompressionCase.LeaveLeft f d t) r = absurd (subst CompressionPuts t r)
compressions_puts (CompressionCase.GotLeft f c d t) r = links_not f c d t (puts_are d r)
compressions_puts (CompressionCase.LatchRight f c d t) r = subst CompressionPuts t r
compressions_puts (CompressionCase.MissRight f c d t) r = subst CompressionPuts t r
compressions_puts (CompressionCase.LeaveRight f c d t) r = absurd (subst CompressionPuts t r)
compressions_puts (CompressionCase.GotRight f c e d t) r = decides_not f c e d t (puts_are d r)
compressions_puts (CompressionCase.PutFirst u d t) r = subst CompressionPuts t r
compressions_puts (CompressionCase.FirstRefused u d t) r = absurd (subst CompressionPuts t r)
compressions_puts (CompressionCase.PutParent u d t) r = subst CompressionPuts t r
compressions_puts (CompressionCase.PutLast u d t) r = absurd (after_puts_not u.at u.decision (subst CompressionPuts t r))
compressions_puts (CompressionCase.Retired at end d t) r = absurd (subst CompressionPuts t r)
compressions_puts (CompressionCase.OpenedRight at end d t) r = subst CompressionPuts t r
compressions_puts (CompressionCase.OpenedLeft at end d t) r = subst CompressionPuts t r

-- Steps of its process

some_reply : (a b : CompressReply) → Some a ≡ Some b → CompressNoRoom b → CompressNoRoom a
some_reply a b e r = (let f : b ≡ a = cc in subst CompressNoRoom f r)

refused_decision : (end : Decision) (r : CompressReply) → compress_reply end ≡ Some r → CompressNoRoom r → DecisionRefused end
refused_decision (decision.Merged hint) r e none = some_reply _ r e none
refused_decision decision.Evened r e none = some_reply _ r e none
refused_decision decision.Enough r e none = some_reply _ r e none
refused_decision (decision.Unposted hint) r e none = some_reply _ r e none
refused_decision decision.Refused r e none = tt
refused_decision decision.Lost r e none = absurd (let f : None ≡ Some r = e in cc)

pub compress_refused : {level key : ℕ} {waits : Bool} {a b : CompressStage} {what : Seen} → CompressCase level key waits a what b → CompressRefused b → CompressRefused a ⊎ (what ≡ seen.Refused)
compress_refused (CompressCase.WentOn c what d t) r = compressions_refused (compression_case _ c what _ t) r
compress_refused (CompressCase.Lost c what a t) r = absurd r
compress_refused (CompressCase.Finished c what q t) r = compressions_refused (compression_case _ c what _ t.1) (refused_decision t.0 q t.2 r)
compress_refused (CompressCase.Opened x q t) r = inl (subst CompressNoRoom t r)
compress_refused (CompressCase.Ended q last t) r = inl (subst CompressNoRoom t r)
compress_refused other r = inl r

pub compress_puts : {level key : ℕ} {waits : Bool} {a b : CompressStage} {what : Seen} → CompressCase level key waits a what b → CompressPuts b → CompressPuts a
compress_puts (CompressCase.WentOn c what d t) r = compressions_puts (compression_case _ c what _ t) r
compress_puts (CompressCase.Lost c what a t) r = absurd r
compress_puts (CompressCase.Finished c what q t) r = absurd r
compress_puts other r = r
