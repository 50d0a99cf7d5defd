-- A compression on its way that holds no page may give up.
use Rattle.std.proofs.Common.{ℕ, ◌≡◌, None, refl}
use Rattle.bl_page.specs.declared.page.Page.{Page}
use Rattle.bl_claims.specs.Trails.{Trail, marks_of}
use Rattle.bl_claims.specs.Seeing.{name}
use Rattle.bl_proc_steps.specs.declared.approach.Approach.{Approach}
use Rattle.bl_proc_steps.specs.declared.approach.Approach.TheVariants.{Start, At, Latching, Latched, Leaving}
use Rattle.bl_proc_compress.specs.declared.compress.CompressStage.TheVariants.{Coming}
use Rattle.bl_proc.specs.declared.kinds.Proc.{Proc}
use Rattle.bl_proc_invariant.specs.Logs.{proc_log}
use Rattle.bl_proc_invariant.specs.Knowing.{know_of}
use Rattle.bl_index_rule.specs.declared.known.PassState.{PassState}
use Rattle.bl_index_rule.specs.Observed.{Finishes, Leaves, MayGiveUp}
use Rattle.bl_index_descend.specs.Events.{HoldsNone}
use Rattle.bl_index_events.specs.Answered.{Undone, WritesNothing}
use Rattle.bl_index_events.specs.Runs.{IsSince}
use Rattle.bl_index_events.proofs.Silent.{IsSilent, may_give_up, gives_up_undone}
use Rattle.bl_index_compress.specs.declared.targets.CompressTarget.{CompressTarget}
use Rattle.bl_index_compress.specs.CompressStands.{compress_of}

compress_leaves : (j : CompressTarget) (a : Approach) → HoldsNone a → (marks : Trail) → proc_log (compress_of j (Coming a)) marks → Leaves (compress_of j (Coming a)) marks
compress_leaves j Start free marks log = log.1
compress_leaves j (At x) free marks log = log.1
compress_leaves j (Latching x) free marks log = log.1
compress_leaves j (Latched x) free marks log = absurd free
compress_leaves j (Leaving x to) free marks log = absurd free

compress_silent : (j : CompressTarget) (a : Approach) → HoldsNone a → (got : ℕ → Page) (child time : ℕ) → IsSilent (know_of got child time (compress_of j (Coming a)))
compress_silent j Start free got child time = record { busy = refl; silent = refl; empty = refl; no_middle = refl }
compress_silent j (At x) free got child time = record { busy = refl; silent = refl; empty = refl; no_middle = refl }
compress_silent j (Latching x) free got child time = record { busy = refl; silent = refl; empty = refl; no_middle = refl }
compress_silent j (Latched x) free got child time = absurd free
compress_silent j (Leaving x to) free got child time = absurd free

pub compress_may_give_up : (j : CompressTarget) (a : Approach) (state : Proc) → HoldsNone a → state ≡ compress_of j (Coming a) → MayGiveUp state
compress_may_give_up j a state free is = may_give_up state (compress_of j (Coming a)) is (compress_leaves j a free) (compress_silent j a free)

-- One that has given up in the call has not been done.
pub compress_undone : (j : CompressTarget) (a : Approach) (pass : ℕ) (old d e : PassState) → HoldsNone a → IsSince pass old d → d.state ≡ compress_of j (Coming a) → Finishes None d e → Leaves d.state (marks_of (name d.pass d.number) e.trail) → Undone WritesNothing pass old e
compress_undone j a pass old d e free since is t left = gives_up_undone WritesNothing (compress_of j (Coming a)) (λ marks leaves. leaves) pass old d e since is (compress_may_give_up j a d.state free is) t left
