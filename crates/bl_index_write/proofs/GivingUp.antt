-- A writer that holds no page may give up: on its way, and as it is to latch the anchor for a new top level.
use Rattle.std.proofs.Common.{ℕ, ◌≡◌, true, false, None, refl, sym, subst}
use Rattle.std.proofs.lemmas.Bool.{false≢true}
use Rattle.bl_model.specs.declared.deciding.KeyWrite.{KeyWrite}
use Rattle.bl_page.specs.declared.page.Page.{Page}
use Rattle.bl_claims.specs.Trails.{Trail, marks_of}
use Rattle.bl_claims.specs.Seeing.{name}
use Rattle.bl_proc_steps.specs.declared.approach.Approach.{Approach}
use Rattle.bl_proc_steps.specs.declared.approach.Approach.TheVariants.{Start, At, Latching, Latched, Leaving}
use Rattle.bl_proc_steps.specs.declared.growth.Growth.{Growth}
use Rattle.bl_proc_steps.specs.declared.growth.Growth.TheVariants as growth
use Rattle.bl_proc_writes.specs.declared.post.Post.{Post}
use Rattle.bl_proc_writes.specs.declared.post.PostStage.{PostStage}
use Rattle.bl_proc_writes.specs.declared.post.PostStage.TheVariants as post
use Rattle.bl_proc.specs.declared.kinds.Proc.{Proc}
use Rattle.bl_proc.specs.declared.kinds.Proc.TheVariants as proc
use Rattle.bl_proc_writes.specs.declared.writing.WriteStage.TheVariants as write
use Rattle.bl_claims.specs.Meanings.{HasRaised}
use Rattle.bl_proc_invariant.specs.Tables.{alone}
use Rattle.bl_proc_invariant.specs.Logs.{post_log, proc_log}
use Rattle.bl_proc_invariant.specs.Knowing.{know_post, know_of}
use Rattle.bl_index_rule.specs.declared.known.PassState.{PassState}
use Rattle.bl_index_rule.specs.Observed.{Finishes, Leaves, MayGiveUp}
use Rattle.bl_index_events.specs.Answered.{Undone, WritesNothing}
use Rattle.bl_index_write.specs.Briefs.{is_way, IsRising, IsPostBack}
use Rattle.bl_index_events.specs.Runs.{IsSince}
use Rattle.bl_index_descend.specs.Events.{HoldsNone}
use Rattle.bl_index_events.proofs.Silent.{IsSilent, may_give_up, gives_up_undone}
use Rattle.bl_index_write.specs.Events.{writing, IsOutside}

write_leaves : (key : ℕ) (does : KeyWrite) (a : Approach) → HoldsNone a → (marks : Trail) → proc_log (writing key does (write.Coming a)) marks → Leaves (writing key does (write.Coming a)) marks
write_leaves key does Start free marks log = log.1
write_leaves key does (At x) free marks log = log.1
write_leaves key does (Latching x) free marks log = log.1
write_leaves key does (Latched x) free marks log = absurd free
write_leaves key does (Leaving x to) free marks log = absurd free

write_silent : (key : ℕ) (does : KeyWrite) (a : Approach) → HoldsNone a → (got : ℕ → Page) (child time : ℕ) → IsSilent (know_of got child time (writing key does (write.Coming a)))
write_silent key does Start free got child time = record { busy = refl; silent = refl; empty = refl; no_middle = refl }
write_silent key does (At x) free got child time = record { busy = refl; silent = refl; empty = refl; no_middle = refl }
write_silent key does (Latching x) free got child time = record { busy = refl; silent = refl; empty = refl; no_middle = refl }
write_silent key does (Latched x) free got child time = absurd free
write_silent key does (Leaving x to) free got child time = absurd free

pub write_may_give_up : (key : ℕ) (does : KeyWrite) (a : Approach) (state : Proc) → HoldsNone a → state ≡ writing key does (write.Coming a) → MayGiveUp state
write_may_give_up key does a state free is = may_give_up state (writing key does (write.Coming a)) is (write_leaves key does a free) (write_silent key does a free)

-- One that has given up in the call has not been done.
pub write_undone : (key : ℕ) (does : KeyWrite) (a : Approach) (pass : ℕ) (old d e : PassState) → HoldsNone a → IsSince pass old d → d.state ≡ writing key does (write.Coming a) → Finishes None d e → Leaves d.state (marks_of (name d.pass d.number) e.trail) → Undone WritesNothing pass old e
write_undone key does a pass old d e free since is t left = gives_up_undone WritesNothing (writing key does (write.Coming a)) (λ marks leaves. leaves) pass old d e since is (write_may_give_up key does a d.state free is) t left

-- ---- a post

-- where it may give up
abbrev pub MayLeave : PostStage → Type 0
MayLeave (post.Coming a) = HoldsNone a
MayLeave (post.Growing growth.Latching) = Unit {0}
MayLeave s = ⊥

way_raised : (level key : ℕ) (a : Approach) → HoldsNone a → (marks : Trail) → post_log level key (post.Coming a) marks → HasRaised level marks
way_raised level key Start free marks log = log
way_raised level key (At x) free marks log = log
way_raised level key (Latching x) free marks log = log
way_raised level key (Latched x) free marks log = absurd free
way_raised level key (Leaving x to) free marks log = absurd free

growth_raised : (level key : ℕ) (g : Growth) → MayLeave (post.Growing g) → (marks : Trail) → post_log level key (post.Growing g) marks → HasRaised level marks
growth_raised level key growth.Latching free marks log = log
growth_raised level key growth.Latched free marks log = absurd free
growth_raised level key (growth.Taking rise) free marks log = absurd free
growth_raised level key (growth.PuttingTop r) free marks log = absurd free
growth_raised level key (growth.PuttingAnchor r) free marks log = absurd free
growth_raised level key (growth.OpeningTop x) free marks log = absurd free
growth_raised level key growth.OpeningGrown free marks log = absurd free
growth_raised level key growth.OpeningRefused free marks log = absurd free

post_raised : (level key : ℕ) (s : PostStage) → MayLeave s → (marks : Trail) → post_log level key s marks → HasRaised level marks
post_raised level key (post.Coming a) free marks log = way_raised level key a free marks log
post_raised level key (post.Growing g) free marks log = growth_raised level key g free marks log
post_raised level key post.New free marks log = absurd free
post_raised level key (post.Walking w) free marks log = absurd free
post_raised level key (post.Editing c) free marks log = absurd free
post_raised level key (post.Staying x r) free marks log = absurd free
post_raised level key (post.Ending r) free marks log = absurd free
post_raised level key (post.Over r) free marks log = absurd free

way_silent : (level key : ℕ) (a : Approach) → HoldsNone a → (got : ℕ → Page) (child : ℕ) → IsSilent (know_post alone level key got child (post.Coming a))
way_silent level key Start free got child = record { busy = refl; silent = refl; empty = refl; no_middle = refl }
way_silent level key (At x) free got child = record { busy = refl; silent = refl; empty = refl; no_middle = refl }
way_silent level key (Latching x) free got child = record { busy = refl; silent = refl; empty = refl; no_middle = refl }
way_silent level key (Latched x) free got child = absurd free
way_silent level key (Leaving x to) free got child = absurd free

growth_silent : (level key : ℕ) (g : Growth) → MayLeave (post.Growing g) → (got : ℕ → Page) (child : ℕ) → IsSilent (know_post alone level key got child (post.Growing g))
growth_silent level key growth.Latching free got child = record { busy = refl; silent = refl; empty = refl; no_middle = refl }
growth_silent level key growth.Latched free got child = absurd free
growth_silent level key (growth.Taking rise) free got child = absurd free
growth_silent level key (growth.PuttingTop r) free got child = absurd free
growth_silent level key (growth.PuttingAnchor r) free got child = absurd free
growth_silent level key (growth.OpeningTop x) free got child = absurd free
growth_silent level key growth.OpeningGrown free got child = absurd free
growth_silent level key growth.OpeningRefused free got child = absurd free

post_silent : (level key : ℕ) (s : PostStage) → MayLeave s → (got : ℕ → Page) (child : ℕ) → IsSilent (know_post alone level key got child s)
post_silent level key (post.Coming a) free got child = way_silent level key a free got child
post_silent level key (post.Growing g) free got child = growth_silent level key g free got child
post_silent level key post.New free got child = absurd free
post_silent level key (post.Walking w) free got child = absurd free
post_silent level key (post.Editing c) free got child = absurd free
post_silent level key (post.Staying x r) free got child = absurd free
post_silent level key (post.Ending r) free got child = absurd free
post_silent level key (post.Over r) free got child = absurd free

pub post_may_give_up : (p : Post) (state : Proc) → MayLeave p.stage → state ≡ proc.Post p → MayGiveUp state
post_may_give_up p state free is = may_give_up state (proc.Post p) is (post_raised p.level p.key p.stage free) (λ got child time. post_silent p.level p.key p.stage free got child)

-- One that has given up in the call leaves no more than new top levels.
pub post_undone : (p : Post) (level pass : ℕ) (old d e : PassState) → p.level ≡ level → MayLeave p.stage → IsSince pass old d → d.state ≡ proc.Post p → Finishes None d e → Leaves d.state (marks_of (name d.pass d.number) e.trail) → Undone (HasRaised level) pass old e
post_undone p level pass old d e same free since is t left =
    gives_up_undone (HasRaised level) (proc.Post p) (λ marks leaves. subst (λ z. HasRaised z marks) same leaves) pass old d e since is (post_may_give_up p d.state free is) t left

-- where it begins its way again, it may
pub begins_outside : (s : PostStage) → IsOutside s → is_way s ≡ true → MayLeave s
begins_outside (post.Coming a) out e = out
begins_outside (post.Growing g) out e = absurd (false≢true e)
begins_outside (post.Ending r) out e = absurd (false≢true e)
begins_outside post.New out e = absurd out
begins_outside (post.Walking w) out e = absurd out
begins_outside (post.Editing c) out e = absurd out
begins_outside (post.Staying x r) out e = absurd out
begins_outside (post.Over r) out e = absurd out

-- else it makes a new top level, or is to end
pub rises_outside : (s : PostStage) → IsOutside s → is_way s ≡ false → IsRising s
rises_outside (post.Coming a) out e = absurd (false≢true (sym e))
rises_outside (post.Growing g) out e = tt
rises_outside (post.Ending r) out e = tt
rises_outside post.New out e = absurd out
rises_outside (post.Walking w) out e = absurd out
rises_outside (post.Editing c) out e = absurd out
rises_outside (post.Staying x r) out e = absurd out
rises_outside (post.Over r) out e = absurd out

growth_turned : (g : Growth) → IsPostBack (post.Growing g) → MayLeave (post.Growing g)
growth_turned growth.Latching e = tt
growth_turned growth.Latched e = e
growth_turned (growth.Taking rise) e = e
growth_turned (growth.PuttingTop r) e = e
growth_turned (growth.PuttingAnchor r) e = e
growth_turned (growth.OpeningTop x) e = e
growth_turned growth.OpeningGrown e = e
growth_turned growth.OpeningRefused e = e

-- and may where it turns back
pub turned_back : (s : PostStage) → IsPostBack s → MayLeave s
turned_back (post.Coming a) back = subst HoldsNone (sym back) tt
turned_back (post.Growing g) back = growth_turned g back
turned_back post.New back = back
turned_back (post.Walking w) back = back
turned_back (post.Editing c) back = back
turned_back (post.Staying x r) back = back
turned_back (post.Ending r) back = back
turned_back (post.Over r) back = back
