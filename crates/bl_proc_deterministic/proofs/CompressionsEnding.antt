-- A compression ends at its last action alone, and is a compression then.
use Rattle.std.proofs.Common.{ℕ, ◌≡◌, ◌≢◌, Option, Some, None, refl, ap, ◌∙◌, subst}
use Rattle.bl_proc_steps.specs.declared.acts.Action.{Action}
use Rattle.bl_proc_steps.specs.declared.acts.Action.TheVariants as act
use Rattle.bl_proc_steps.specs.declared.acts.Seen.TheVariants as seen
use Rattle.bl_proc_compress.specs.declared.compression.Compression.{Compression}
use Rattle.bl_proc_compress.specs.declared.compression.Compression.TheVariants.{LatchingLeft, LatchedLeft, LatchingRight, LatchedRight, PuttingFirst, PuttingParent, PuttingLast, Retiring, OpeningRight, OpeningLeft, OpeningParent}
use Rattle.bl_proc_compress.specs.declared.compress.Compress.{Compress}
use Rattle.bl_proc_compress.specs.Compressions.{put_of, other, compression_next}
use Rattle.bl_proc_compress.specs.Compresses.{compress_next_in, CompressGoes}
use Rattle.bl_proc.specs.declared.kinds.Proc.{Proc}
use Rattle.bl_proc.specs.declared.kinds.Proc.TheVariants as proc
use Rattle.bl_proc.specs.Processes.{next_of, Takes}
use Rattle.bl_proc_deterministic.specs.Frames.{work_of}
use Rattle.bl_proc_deterministic.specs.Retirements.{IsPutDone}
use Rattle.bl_proc_deterministic.proofs.Retirements.{put_done}

not_end_put : (a : Action) → IsPutDone a seen.Done → a ≢ act.End
not_end_put a put e = subst (λ (z : Action). IsPutDone z seen.Done) e put

pub not_end_compression : (c : Compression) → compression_next c ≢ act.End
not_end_compression (LatchingLeft f) e = cc
not_end_compression (LatchedLeft f) e = cc
not_end_compression (LatchingRight f c) e = cc
not_end_compression (LatchedRight f c) e = cc
not_end_compression (PuttingFirst p) e = not_end_put (put_of p.gains p) (put_done p.gains p) e
not_end_compression (PuttingParent p) e = cc
not_end_compression (PuttingLast p) e = not_end_put (put_of (other p.gains) p) (put_done (other p.gains) p) e
not_end_compression (Retiring at decision) e = cc
not_end_compression (OpeningRight at decision) e = cc
not_end_compression (OpeningLeft at decision) e = cc
not_end_compression (OpeningParent x decision) e = cc

-- a compression that ends at its next action, and is then q
pub record IsCompressing (before : Proc) (q : Compress) (level key : ℕ) : Type 0 where
  pub old : Compress
  pub before_is : before ≡ proc.Compress old
  pub level_is : q.level ≡ level
  pub key_is : q.key ≡ key
  pub at_end : compress_next_in old.stage ≡ act.End
  pub goes : CompressGoes old.level old.key old.waits old.stage seen.Done q.stage

-- the pair, if there is one
abbrev pair_in : Option (ℕ × ℕ) → ℕ × ℕ
pair_in (Some pair) = pair
pair_in None = (0, 0)

pub is_compressing : (before : Proc) (q : Compress) (level key : ℕ) → work_of before ≡ Some (level, key) → next_of before ≡ act.End → Takes before seen.Done (proc.Compress q) → IsCompressing before q level key
is_compressing (proc.Compress p) q level key is e t = record { old = p; before_is = refl; level_is = t.0 ∙ ap (λ z. (pair_in z).0) is; key_is = t.1 ∙ ap (λ z. (pair_in z).1) is; at_end = e; goes = t.3 }
is_compressing other q level key is e t = absurd t
