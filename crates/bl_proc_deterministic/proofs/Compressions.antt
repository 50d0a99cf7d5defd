-- A process that compresses goes on, and in one way.
use Rattle.std.proofs.Common.{ℕ, ◌≡◌, ◌<◌, ◌≤◌, length, Option, Some, None, refl, sym, ap, ◌∙◌, subst, inl, inr, arith, Bool}
use Rattle.std.specs.Coded.{le_prop}
use Rattle.std.proofs.lemmas.Bool.{cases_lt}
use mathlib.Core.HLevel.{is_prop→PathP}
use Rattle.bl_page.specs.declared.page.Page.TheVariants as page
use Rattle.bl_page.specs.declared.page.Inner.{Inner}
use Rattle.bl_page.specs.Pairs.{IsWithin}
use Rattle.bl_proc_steps.specs.declared.acts.Seen.{Seen}
use Rattle.bl_proc_steps.specs.declared.acts.Seen.TheVariants as seen
use Rattle.bl_proc_steps.specs.declared.approach.Approach.{Approach}
use Rattle.bl_proc_steps.specs.declared.approach.Approach.TheVariants.{Start}
use Rattle.bl_proc_steps.specs.declared.approach.Came.{Came}
use Rattle.bl_proc_steps.specs.declared.approach.Came.TheVariants as come
use Rattle.bl_proc_steps.specs.Given.{Gives}
use Rattle.bl_proc_steps.specs.Approaches.{Comes}
use Rattle.bl_proc_steps.proofs.Ways.{here_leads}
use Rattle.bl_rearrange.specs.declared.families.Family.{Family}
use Rattle.bl_proc_compress.specs.declared.compression.Decision.{Decision}
use Rattle.bl_proc_compress.specs.declared.compression.Compression.{Compression}
use Rattle.bl_proc_compress.specs.declared.compression.Compression.TheVariants.{LatchingLeft}
use Rattle.bl_proc_compress.specs.declared.compression.Compressed.{Compressed}
use Rattle.bl_proc_compress.specs.declared.compression.Compressed.TheVariants as step
use Rattle.bl_proc_compress.specs.declared.compress.Compress.{Compress}
use Rattle.bl_proc_compress.specs.declared.compress.CompressStage.{CompressStage}
use Rattle.bl_proc_compress.specs.declared.compress.CompressStage.TheVariants.{New, Coming, Compressing, Staying, Ending, Over}
use Rattle.bl_proc_compress.specs.declared.compress.CompressReply.{CompressReply}
use Rattle.bl_proc_compress.specs.declared.compress.CompressReply.TheVariants as reply
use Rattle.bl_proc_compress.specs.Compressions.{AreSiblings, Compresses}
use Rattle.bl_proc_compress.specs.Compresses.{compress_reply, compress_next_in, compress_needs_in, compress_answer_in, CompressArrives, CompressComes, CompressGoes}
use Rattle.bl_proc.specs.declared.kinds.Proc.{Proc}
use Rattle.bl_proc.specs.declared.kinds.Proc.TheVariants as proc
use Rattle.bl_proc.specs.Processes.{Takes}
use Rattle.bl_proc_deterministic.specs.Courses.{GoesOn}
use Rattle.bl_proc_deterministic.specs.One.{One}
use Rattle.bl_proc_deterministic.proofs.Cases.{one_after}
use Rattle.bl_proc_deterministic.proofs.Ways.{come_one}
use Rattle.bl_proc_deterministic.proofs.Families.{family_one, family_some}
use Rattle.bl_proc_deterministic.proofs.CompressionSteps.{compression_one}
use Rattle.bl_proc_deterministic.proofs.KindCases.{CompressCase, compress_case}

-- At the parent.
module _ (key x : ℕ) (parent : Inner) where
  arrives_by : (Goal : CompressStage → Type 0) → ((f : Family) → AreSiblings x key parent (Some f) → Goal (Compressing (LatchingLeft f))) → (AreSiblings x key parent None → Goal (Staying x)) → (other : CompressStage) → CompressArrives key x parent other → Goal other
  arrives_by Goal two one (Compressing (LatchingLeft f)) t = two f t
  arrives_by Goal two one (Staying y) t = subst (λ (z : ℕ). Goal (Staying z)) (sym t.0) (one t.1)
  arrives_by Goal two one old t = absurd t

  arrive_one : IsWithin parent.low parent.high key → One (CompressArrives key x parent)
  arrive_one in_it = elim (cases_lt (length parent.children.items) 2) [
    | inl few ↦ record { new = Staying x; goes = (refl, few); only = arrives_by (λ z. z ≡ Staying x) (λ g s. absurd (let two = s.0 in omega arith)) (λ s. refl) }
    | inr two ↦ (
        let f = family_some x key parent in_it two in
        record {
          new = Compressing (LatchingLeft f.0);
          goes = (two, f.1);
          only = arrives_by (λ z. z ≡ Compressing (LatchingLeft f.0))
              (λ g s. ap (λ (z : Family). Compressing (LatchingLeft z)) (family_one x key parent g f.0 s.1 f.1))
              (λ s. absurd (omega arith));
        })
  ]

-- By what became of the way to the parent.
after_way : (level key : ℕ) (a : Approach) (what : Seen) (m : Came) → Comes level key a what m → One (CompressComes key m)
after_way level key a what (come.NoLevel levels) h = record { new = Ending reply.Alone; goes = refl; only = λ other e. e }
after_way level key a what (come.On b) h = record { new = Coming b; goes = refl; only = λ other e. e }
after_way level key a what (come.ToParent x parent) h = (let one = arrive_one key x parent (here_leads level key a what x (page.Inner parent) h).1 in record { new = one.new; goes = one.goes; only = one.only })

-- By what becomes of the children.
abbrev after_decision : Option CompressReply → CompressStage
after_decision None = Coming Start
after_decision (Some r) = Ending r

abbrev after_step : Compressed → CompressStage
after_step (step.On d) = Compressing d
after_step (step.Over decision) = after_decision (compress_reply decision)

over_goes : (level key : ℕ) (waits : Bool) (c : Compression) (what : Seen) (decision : Decision) (r : Option CompressReply) → compress_reply decision ≡ r → Compresses waits c what (step.Over decision) → CompressGoes level key waits (Compressing c) what (after_decision r)
over_goes level key waits c what decision None e t = (decision, t, e, refl)
over_goes level key waits c what decision (Some r) e t = (decision, t, e)

step_goes : (level key : ℕ) (waits : Bool) (c : Compression) (what : Seen) (n : Compressed) → Compresses waits c what n → CompressGoes level key waits (Compressing c) what (after_step n)
step_goes level key waits c what (step.On d) t = t
step_goes level key waits c what (step.Over decision) t = over_goes level key waits c what decision (compress_reply decision) refl t

step_only : {level key : ℕ} {waits : Bool} {c : Compression} {what : Seen} {b : CompressStage} (n : Compressed) → ((o : Compressed) → Compresses waits c what o → o ≡ n) → CompressCase level key waits (Compressing c) what b → b ≡ after_step n
step_only n is (CompressCase.WentOn c what d t) = ap after_step (is (step.On d) t)
step_only n is (CompressCase.Lost c what a t) = ap Coming t.3 ∙ (ap after_decision (sym t.2) ∙ ap after_step (is (step.Over t.0) t.1))
step_only n is (CompressCase.Finished c what r t) = ap after_decision (sym t.2) ∙ ap after_step (is (step.Over t.0) t.1)

module _ (level key : ℕ) (waits : Bool) where
  begun_only : {b : CompressStage} → CompressCase level key waits New seen.Done b → b ≡ Coming Start
  begun_only (CompressCase.Began a t) = ap Coming t

  stays_only : {x : ℕ} {b : CompressStage} → CompressCase level key waits (Staying x) seen.Done b → b ≡ Ending reply.Alone
  stays_only (CompressCase.Opened x r t) = ap Ending t

  last_only : {q : CompressReply} {b : CompressStage} → CompressCase level key waits (Ending q) seen.Done b → b ≡ Over q
  last_only (CompressCase.Ended q last t) = ap Over t

  stage_one : 0 < level → (a : CompressStage) (what : Seen) → compress_answer_in a ≡ None → Gives (compress_next_in a) (compress_needs_in a) what → One (CompressGoes level key waits a what)
  stage_one least (Coming a) what r g =
      let way = come_one level key a what least g in
      let h = one_after way (after_way level key a what way.new way.goes) in
      record { new = h.new; goes = h.goes; only = h.only }
  stage_one least (Compressing d) what r g = (let h = compression_one waits d what g in record { new = after_step h.new; goes = step_goes level key waits d what h.new h.goes; only = λ b t. step_only h.new h.only (compress_case level key waits (Compressing d) what b t) })
  stage_one least New seen.Done r g = record { new = Coming Start; goes = refl; only = λ b t. begun_only (compress_case level key waits New seen.Done b t) }
  stage_one least (Staying x) seen.Done r g = record { new = Ending reply.Alone; goes = refl; only = λ b t. stays_only (compress_case level key waits (Staying x) seen.Done b t) }
  stage_one least (Ending q) seen.Done r g = record { new = Over q; goes = refl; only = λ b t. last_only (compress_case level key waits (Ending q) seen.Done b t) }
  stage_one least (Over q) what r g = absurd (let z : Some _ ≡ None = r in cc)
  stage_one least old what r g = absurd g

compress_only : (old : Compress) (what : Seen) (g : One (CompressGoes old.level old.key old.waits old.stage what)) (other : Proc) → Takes (proc.Compress old) what other → other ≡ proc.Compress (record { level = old.level; key = old.key; waits = old.waits; stage = g.new; least = old.least; most = old.most })
compress_only old what g (proc.Compress f) t = (let e = g.only f.stage t.3 in λ i. proc.Compress (record {
  level = t.0 i;
  key = t.1 i;
  waits = t.2 i;
  stage = e i;
  least = is_prop→PathP (λ i. 0 < t.0 i) (λ i. le_prop) f.least old.least i;
  most = is_prop→PathP (λ i. t.0 i ≤ 12) (λ i. le_prop) f.most old.most i;
}))
compress_only old what g new t = absurd t

pub compress_goes : (old : Compress) (what : Seen) → compress_answer_in old.stage ≡ None → Gives (compress_next_in old.stage) (compress_needs_in old.stage) what → GoesOn (proc.Compress old) what
compress_goes old what running given =
    let g = stage_one old.level old.key old.waits old.least old.stage what running given in
    record { new = proc.Compress (record { level = old.level; key = old.key; waits = old.waits; stage = g.new; least = old.least; most = old.most }); takes = (refl, refl, refl, g.goes); only = compress_only old what g }
