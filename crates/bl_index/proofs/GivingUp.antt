-- A lowering that may not wait gives up where it holds no page.
use Rattle.std.proofs.Common.{ℕ, ◌≡◌, true, false, None, Some, List, [], Option, refl, sym, ap, ◌∙◌, subst}
use Rattle.std.proofs.lemmas.Bool.{false≢true}
use Rattle.bl_page.specs.declared.page.Page.{Page}
use Rattle.bl_claims.specs.Trails.{Trail, marks_of}
use Rattle.bl_claims.specs.Seeing.{name}
use Rattle.bl_claims.specs.Meanings.{writes_of}
use Rattle.bl_proc_steps.specs.declared.lowering.Lowering.{Lowering}
use Rattle.bl_proc_steps.specs.declared.lowering.Lowering.TheVariants as lowering
use Rattle.bl_proc_steps.specs.declared.lowering.Summit.{Summit}
use Rattle.bl_proc.specs.declared.lowering.Lower.{Lower}
use Rattle.bl_proc.specs.declared.lowering.LowerStage.{LowerStage}
use Rattle.bl_proc.specs.declared.lowering.LowerStage.TheVariants as lower
use Rattle.bl_proc.specs.declared.kinds.Proc.{Proc}
use Rattle.bl_proc.specs.declared.kinds.Proc.TheVariants as proc
use Rattle.bl_proc.specs.Lowers.{LowerTakes}
use Rattle.bl_proc_steps.specs.declared.acts.Seen.{Seen}
use Rattle.bl_proc_steps.specs.declared.acts.Seen.TheVariants as seen
use Rattle.bl_proc_deterministic.proofs.KindCases.{LowerCase, lower_case}
use Rattle.bl_proc_deterministic.specs.Refusals.{IsRefused, PutsRefused, LowerRefused}
use Rattle.bl_proc_invariant.specs.Logs.{lower_log, proc_log}
use Rattle.bl_proc_invariant.specs.Knowing.{know_lower, know_of}
use Rattle.bl_proc_invariant.specs.Walks.{at_summit}
use Rattle.bl_index_rule.specs.declared.known.PassState.{PassState}
use Rattle.bl_index_rule.specs.Observed.{Finishes, Leaves, MayGiveUp}
use Rattle.bl_index_events.specs.Answered.{Undone, WritesNothing}
use Rattle.bl_index_events.specs.Runs.{IsSince}
use Rattle.bl_index_events.proofs.Silent.{IsSilent, may_give_up, gives_up_undone}
use Rattle.bl_index_write.specs.Briefs.{IsLowerBack, IsSinkBack}
use Rattle.bl_index.specs.Calls.{LowersTree}
use Rattle.bl_index.specs.Within.{HasSunk, is_at_top}
use Rattle.bl_index.proofs.Lowerings.{lower_answered}
use Rattle.std.specs.Prelude.{IfSome}
use Rattle.bl_answers.specs.declared.answers.Lowered.{Lowered}

-- where it may
abbrev pub MayLeave : LowerStage → Type 0
MayLeave (lower.Sinking lowering.Looking) = Unit {0}
MayLeave (lower.Sinking lowering.LatchingAnchor) = Unit {0}
MayLeave s = ⊥

no : {G : Type 0} → false ≡ true → G
no e = absurd (false≢true e)

sink_leaves : (l : Lowering) → IsSinkBack l → is_at_top (lower.Sinking l) ≡ false → MayLeave (lower.Sinking l)
sink_leaves lowering.Looking back n = tt
sink_leaves lowering.LatchingAnchor back n = tt
sink_leaves (lowering.LatchingTop t) back n = no (sym n)
sink_leaves lowering.LatchedAnchor back n = absurd back
sink_leaves (lowering.LatchedTop t) back n = absurd back
sink_leaves (lowering.PuttingAnchor s) back n = absurd back
sink_leaves (lowering.PuttingDead s) back n = absurd back
sink_leaves (lowering.Retiring x) back n = absurd back
sink_leaves (lowering.OpeningTop x what) back n = absurd back
sink_leaves (lowering.OpeningAnchor what) back n = absurd back

pub turned_back : (s : LowerStage) → IsLowerBack s → is_at_top s ≡ false → MayLeave s
turned_back lower.New back n = absurd back
turned_back (lower.Sinking l) back n = sink_leaves l back n
turned_back (lower.Ending r) back n = absurd back
turned_back (lower.Over r) back n = absurd back

sink_at_top : (l : Lowering) → is_at_top (lower.Sinking l) ≡ true → (t : Summit) × (lower.Sinking l ≡ lower.Sinking (lowering.LatchingTop t))
sink_at_top (lowering.LatchingTop t) e = (t, refl)
sink_at_top lowering.Looking e = no e
sink_at_top lowering.LatchingAnchor e = no e
sink_at_top lowering.LatchedAnchor e = no e
sink_at_top (lowering.LatchedTop t) e = no e
sink_at_top (lowering.PuttingAnchor s) e = no e
sink_at_top (lowering.PuttingDead s) e = no e
sink_at_top (lowering.Retiring x) e = no e
sink_at_top (lowering.OpeningTop x what) e = no e
sink_at_top (lowering.OpeningAnchor what) e = no e

stage_at_top : (s : LowerStage) → is_at_top s ≡ true → (t : Summit) × (s ≡ lower.Sinking (lowering.LatchingTop t))
stage_at_top lower.New e = no e
stage_at_top (lower.Sinking l) e = sink_at_top l e
stage_at_top (lower.Ending r) e = no e
stage_at_top (lower.Over r) e = no e

pub at_top : (p : Lower) (state : Proc) → state ≡ proc.Lower p → is_at_top p.stage ≡ true → (t : Summit) × (state ≡ at_summit t)
at_top p state is e = let top = stage_at_top p.stage e in (top.0, is ∙ ap (λ (z : LowerStage). proc.Lower (record { stage = z })) top.1)

sink_unwritten : (l : Lowering) → MayLeave (lower.Sinking l) → (marks : Trail) → lower_log (lower.Sinking l) marks → writes_of marks ≡ []
sink_unwritten lowering.Looking free marks log = log.1
sink_unwritten lowering.LatchingAnchor free marks log = log.1
sink_unwritten lowering.LatchedAnchor free marks log = absurd free
sink_unwritten (lowering.LatchingTop t) free marks log = absurd free
sink_unwritten (lowering.LatchedTop t) free marks log = absurd free
sink_unwritten (lowering.PuttingAnchor s) free marks log = absurd free
sink_unwritten (lowering.PuttingDead s) free marks log = absurd free
sink_unwritten (lowering.Retiring x) free marks log = absurd free
sink_unwritten (lowering.OpeningTop x what) free marks log = absurd free
sink_unwritten (lowering.OpeningAnchor what) free marks log = absurd free

unwritten : (s : LowerStage) → MayLeave s → (marks : Trail) → lower_log s marks → writes_of marks ≡ []
unwritten lower.New free marks log = absurd free
unwritten (lower.Sinking l) free marks log = sink_unwritten l free marks log
unwritten (lower.Ending r) free marks log = absurd free
unwritten (lower.Over r) free marks log = absurd free

sink_silent : (got : ℕ → Page) (l : Lowering) → MayLeave (lower.Sinking l) → IsSilent (know_lower got (lower.Sinking l))
sink_silent got lowering.Looking free = record { busy = refl; silent = refl; empty = refl; no_middle = refl }
sink_silent got lowering.LatchingAnchor free = record { busy = refl; silent = refl; empty = refl; no_middle = refl }
sink_silent got lowering.LatchedAnchor free = absurd free
sink_silent got (lowering.LatchingTop t) free = absurd free
sink_silent got (lowering.LatchedTop t) free = absurd free
sink_silent got (lowering.PuttingAnchor s) free = absurd free
sink_silent got (lowering.PuttingDead s) free = absurd free
sink_silent got (lowering.Retiring x) free = absurd free
sink_silent got (lowering.OpeningTop x what) free = absurd free
sink_silent got (lowering.OpeningAnchor what) free = absurd free

silent : (got : ℕ → Page) (s : LowerStage) → MayLeave s → IsSilent (know_lower got s)
silent got lower.New free = absurd free
silent got (lower.Sinking l) free = sink_silent got l free
silent got (lower.Ending r) free = absurd free
silent got (lower.Over r) free = absurd free

pub lower_may_give_up : (p : Lower) (state : Proc) → MayLeave p.stage → state ≡ proc.Lower p → MayGiveUp state
lower_may_give_up p state free is = may_give_up state (proc.Lower p) is (unwritten p.stage free) (λ got child time. silent got p.stage free)

-- One that has given up in the call has not been done.
pub lower_undone : (p : Lower) (pass : ℕ) (old d e : PassState) → MayLeave p.stage → IsSince pass old d → d.state ≡ proc.Lower p → Finishes None d e → Leaves d.state (marks_of (name d.pass d.number) e.trail) → Undone WritesNothing pass old e
lower_undone p pass old d e free since is t left = gives_up_undone WritesNothing (proc.Lower p) (λ marks leaves. leaves) pass old d e since is (lower_may_give_up p d.state free is) t left

-- one that has just begun is to look at the anchor
begun_looks : {a b : LowerStage} {what : Seen} → LowerCase a what b → a ≡ lower.New → b ≡ lower.Sinking lowering.Looking
begun_looks (LowerCase.Began l t) e = ap lower.Sinking t
begun_looks (LowerCase.Sank l what m t) e = absurd (let z : lower.Sinking l ≡ lower.New = e in cc)
begun_looks (LowerCase.Finished l what r t) e = absurd (let z : lower.Sinking l ≡ lower.New = e in cc)
begun_looks (LowerCase.Ended r last t) e = absurd (let z : lower.Ending r ≡ lower.New = e in cc)

pub begun_free : (p q : Lower) → p.stage ≡ lower.New → LowerTakes p seen.Done q → (IsRefused (proc.Lower q) → ⊥) × (PutsRefused (proc.Lower q) → ⊥)
begun_free p q new t = (λ r. subst LowerRefused (begun_looks (lower_case p.stage seen.Done q.stage t) new) r, λ r. r)

-- what it tells of the pass
pub sunk_told : (from : List (Option Page)) (pass : ℕ) (old e : PassState) → old.first ≡ from → (r : Option Lowered) → IfSome r (HasSunk pass old e) → IfSome r (λ what. LowersTree from pass what old.trail e.trail)
sunk_told from pass old e begins None h = tt
sunk_told from pass old e begins (Some what) h = lower_answered from pass old e h.first h.last what h.done begins h.answer
