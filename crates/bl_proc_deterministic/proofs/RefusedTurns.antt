-- A process comes to go on without room only by being refused.
use Rattle.std.proofs.Common.{ℕ, ◌≡◌, ◌⊎◌, refl, subst, inl, inr}
use Rattle.bl_page.specs.declared.page.Page.TheVariants.{Inner}
use Rattle.bl_proc_steps.specs.declared.acts.Seen.{Seen}
use Rattle.bl_proc_steps.specs.declared.acts.Seen.TheVariants as seen
use Rattle.bl_proc_steps.specs.declared.edit.Outcome.{Outcome}
use Rattle.bl_proc_steps.specs.declared.edit.Outcome.TheVariants as outcome
use Rattle.bl_model.specs.declared.deciding.KeyWrite.{KeyWrite}
use Rattle.bl_proc_writes.specs.declared.writing.Noted.{Noted}
use Rattle.bl_proc_writes.specs.declared.writing.WriteStage.{WriteStage}
use Rattle.bl_proc_writes.specs.declared.post.PostStage.{PostStage}
use Rattle.bl_proc_steps.specs.declared.lowering.Lowering.{Lowering}
use Rattle.bl_proc_steps.specs.declared.lowering.Sank.{Sank}
use Rattle.bl_proc_steps.specs.declared.lowering.Sank.TheVariants.{On, Over}
use Rattle.bl_proc.specs.declared.lowering.LowerStage.{LowerStage}
use Rattle.bl_proc_writes.specs.declared.paths.Path.{Path}
use Rattle.bl_proc_writes.specs.declared.insert_post.ClimbStage.{ClimbStage}
use Rattle.bl_proc.specs.declared.kinds.Proc.{Proc}
use Rattle.bl_proc.specs.declared.kinds.Proc.TheVariants as proc
use Rattle.bl_proc.specs.Processes.{Takes}
use Rattle.bl_proc_writes.specs.Writes.{write_reply}
use Rattle.bl_proc_writes.specs.Posts.{post_reply}
use Rattle.bl_proc_deterministic.specs.Refusals.{OutcomeRefused, WriteNoRoom, WriteRefused, PostNoRoom, PostRefused, LowerNoRoom, LoweringRefused, LowerRefused, ClimbNoRoom, ClimbRefused, IsRefused, PutsRefused}
use Rattle.bl_proc_deterministic.proofs.RefusedCompressions.{compress_refused, compress_puts}
use Rattle.bl_proc_deterministic.proofs.Refusals.{changes_refused, changes_over, grows_refused, grows_over, enters_not, performs_not}
use Rattle.bl_proc_deterministic.proofs.WayCases.{edit_case, growth_case}
use Rattle.bl_proc_deterministic.proofs.KindCases.{WriteCase, write_case, PostCase, post_case, compress_case, LowerCase, lower_case, ClimbCase, climb_case}
use Rattle.bl_proc_deterministic.proofs.Lowerings.{LoweringCase, lowering_case}

write_outcome : (noted : Noted) (o : Outcome) → WriteNoRoom (write_reply noted o) → OutcomeRefused o
write_outcome noted outcome.Edited r = r
write_outcome noted (outcome.SplitAt k) r = r
write_outcome noted outcome.Refused r = tt

write_refused : {key : ℕ} {does : KeyWrite} {a b : WriteStage} {what : Seen} → WriteCase key does a what b → WriteRefused b → WriteRefused a ⊎ (what ≡ seen.Refused)
write_refused (WriteCase.Changed x c noted d l t) r = inl (performs_not _ x c _ d t.1 r)
write_refused (WriteCase.Opened x there q t) r = inl (subst WriteNoRoom t r)
write_refused (WriteCase.Edited noted c what same d t) r = changes_refused (edit_case c what _ t.1) r
write_refused (WriteCase.Finished noted c what q t) r = inl (changes_over (edit_case c what _ t.1) (write_outcome noted t.0 (subst WriteNoRoom t.2 r)))
write_refused (WriteCase.Ended q last t) r = inl (subst WriteNoRoom t r)
write_refused other r = inl r

post_outcome : (o : Outcome) → PostNoRoom (post_reply o) → OutcomeRefused o
post_outcome outcome.Edited r = r
post_outcome (outcome.SplitAt k) r = r
post_outcome outcome.Refused r = tt

post_refused : {level key : ℕ} {a b : PostStage} {what : Seen} → PostCase level key a what b → PostRefused b → PostRefused a ⊎ (what ≡ seen.Refused)
post_refused {level = level} (PostCase.Grew g what h t) r = grows_refused (growth_case level g what _ t) r
post_refused (PostCase.Grown g what a t) r = absurd r
post_refused {level = level} (PostCase.NoRoom g what q t) r = inl (grows_over (growth_case level g what _ t.0))
post_refused (PostCase.Entered w c d t) r = inl (enters_not w.at (Inner w.parent) w.key w.child d t.2 r)
post_refused (PostCase.Edited c what d t) r = changes_refused (edit_case c what _ t) r
post_refused (PostCase.Finished c what q t) r = inl (changes_over (edit_case c what _ t.1) (post_outcome t.0 (subst PostNoRoom t.2 r)))
post_refused (PostCase.Opened x q last t) r = inl (subst PostNoRoom t r)
post_refused (PostCase.Ended q last t) r = inl (subst PostNoRoom t r)
post_refused other r = inl r

abbrev SankRefused : Sank → Type 0
SankRefused (On l) = LoweringRefused l
SankRefused (Over r) = LowerNoRoom r

lowers_refused : {l : Lowering} {what : Seen} {new : Sank} → LoweringCase l what new → SankRefused new → LoweringRefused l ⊎ (what ≡ seen.Refused)
lowers_refused (LoweringCase.SawOne c r t) s = absurd (subst LowerNoRoom t.0 s)
lowers_refused (LoweringCase.SawMore c m t) s = inl (subst LoweringRefused t.0 s)
lowers_refused (LoweringCase.Latched m t) s = inl (subst LoweringRefused t s)
lowers_refused (LoweringCase.Missed m t) s = inl (subst LoweringRefused t s)
lowers_refused (LoweringCase.IsTall c u t) s = inl s
lowers_refused (LoweringCase.IsLow c r t) s = absurd (subst LowerNoRoom t.0 s)
lowers_refused (LoweringCase.LatchedUpper u m t) s = inl (subst LoweringRefused t s)
lowers_refused (LoweringCase.MissedUpper u m t) s = inl (subst LoweringRefused t s)
lowers_refused (LoweringCase.IsSpare u c k t) s = inl s
lowers_refused (LoweringCase.IsNeeded u c x r t) s = absurd (subst LowerNoRoom t.1 s)
lowers_refused (LoweringCase.PutAnchor k m t) s = inl (subst LoweringRefused t s)
lowers_refused (LoweringCase.Refused k m t) s = inr refl
lowers_refused (LoweringCase.PutDead k m t) s = inl (subst LoweringRefused t s)
lowers_refused (LoweringCase.Retired x m t) s = inl (subst LoweringRefused t s)
lowers_refused (LoweringCase.OpenedTop x r m t) s = inl (subst LoweringRefused t s)
lowers_refused (LoweringCase.OpenedAnchor r last t) s = inl (subst LowerNoRoom t s)

lower_refused : {a b : LowerStage} {what : Seen} → LowerCase a what b → LowerRefused b → LowerRefused a ⊎ (what ≡ seen.Refused)
lower_refused (LowerCase.Began l t) r = inl (subst LoweringRefused t r)
lower_refused (LowerCase.Sank l what m t) r = lowers_refused (lowering_case l what _ t) r
lower_refused (LowerCase.Finished l what q t) r = lowers_refused (lowering_case l what _ t) r
lower_refused (LowerCase.Ended q last t) r = inl (subst LowerNoRoom t r)

-- a post that is to begin goes on with room
climb_refused : {path : Path} {a b : ClimbStage} {what : Seen} → ClimbCase path a what b → ClimbRefused b → ClimbRefused a ⊎ (what ≡ seen.Refused)
climb_refused (ClimbCase.Wrote w what v h t) r = write_refused h r
climb_refused (ClimbCase.Split w what there level separator p h t) r = absurd (subst PostRefused t.2 r)
climb_refused (ClimbCase.Unsplit w what q last h t) r = write_refused h (subst ClimbNoRoom t.1 r)
climb_refused (ClimbCase.Posted p what q h t) r = post_refused h r
climb_refused (ClimbCase.Higher p what separator q h t) r = absurd (subst PostRefused t.2 r)
climb_refused (ClimbCase.Finished p what q last h t) r = post_refused h (subst ClimbNoRoom t.1 r)
climb_refused (ClimbCase.Ended q last t) r = inl (subst ClimbNoRoom t r)

pub takes_refused : (p : Proc) (what : Seen) (q : Proc) → Takes p what q → IsRefused q → IsRefused p ⊎ (what ≡ seen.Refused)
takes_refused p what (proc.Find q) t r = absurd r
takes_refused p what (proc.Part q) t r = absurd r
takes_refused p what (proc.Reclaim q) t r = absurd r
takes_refused (proc.Write p) what (proc.Write q) t r = write_refused (write_case p.key p.write p.stage what q.stage t.2) r
takes_refused (proc.Post p) what (proc.Post q) t r = post_refused (post_case p.level p.key p.stage what q.stage t.2) r
takes_refused (proc.Compress p) what (proc.Compress q) t r = compress_refused (compress_case p.level p.key p.waits p.stage what q.stage t.3) r
takes_refused (proc.Lower p) what (proc.Lower q) t r = lower_refused (lower_case p.stage what q.stage t) r
takes_refused (proc.InsertPost p) what (proc.InsertPost q) t r = climb_refused (climb_case q.path p.stage what q.stage t.3) r
takes_refused p what old t r = absurd t

-- nor does one come to such puts
pub takes_puts : (p : Proc) (what : Seen) (q : Proc) → Takes p what q → PutsRefused q → PutsRefused p
takes_puts (proc.Compress p) what (proc.Compress q) t r = compress_puts (compress_case p.level p.key p.waits p.stage what q.stage t.3) r
takes_puts p what (proc.Compress q) t r = absurd t
takes_puts p what q t r = absurd r
