-- A process that takes the top level away goes on, and in one way; what it wants, what follows, and when it retires a page.
use Rattle.std.proofs.Common.{suc, ◌≡◌, ◌≢◌, Some, None, refl, sym, ap, arith, subst}
use Rattle.bl_proc_steps.specs.declared.acts.Action.TheVariants as act
use Rattle.bl_proc_steps.specs.declared.acts.Seen.{Seen}
use Rattle.bl_proc_steps.specs.declared.acts.Seen.TheVariants as seen
use Rattle.bl_answers.specs.declared.answers.Lowered.{Lowered}
use Rattle.bl_proc_steps.specs.declared.lowering.Lowering.{Lowering}
use Rattle.bl_proc_steps.specs.declared.lowering.Lowering.TheVariants.{Looking, LatchingAnchor, LatchedAnchor, LatchingTop, LatchedTop, PuttingAnchor, PuttingDead, Retiring, OpeningTop, OpeningAnchor}
use Rattle.bl_proc_steps.specs.declared.lowering.Sank.{Sank}
use Rattle.bl_proc_steps.specs.declared.lowering.Sank.TheVariants.{On, Over}
use Rattle.bl_proc_steps.specs.Given.{Gives}
use Rattle.bl_proc_steps.specs.Lowerings.{lowering_next, lowering_needs, Lowers}
use Rattle.bl_proc.specs.declared.lowering.Lower.{Lower}
use Rattle.bl_proc.specs.declared.lowering.LowerStage.{LowerStage}
use Rattle.bl_proc.specs.declared.lowering.LowerStage.TheVariants as lower
use Rattle.bl_proc.specs.declared.kinds.Proc.{Proc}
use Rattle.bl_proc.specs.declared.kinds.Proc.TheVariants as proc
use Rattle.bl_proc.specs.Lowers.{lower_next_in, lower_needs_in, lower_answer_in, LowerGoes}
use Rattle.bl_proc.specs.Processes.{next_of, Takes}
use Rattle.bl_proc_deterministic.specs.Courses.{GoesOn}
use Rattle.bl_proc_deterministic.specs.One.{One}
use Rattle.bl_proc_deterministic.specs.Frames.{lowering_frames, lower_frames, Wants, Leaves, Follows}
use Rattle.bl_proc_deterministic.specs.Retirements.{RetiresAfter}
use Rattle.bl_proc_deterministic.proofs.Lowerings.{LoweringCase, lowering_case, lowering_one}
use Rattle.bl_proc_deterministic.proofs.KindCases.{LowerCase, lower_case}

-- where a lowering that goes on, or is over, takes the process
abbrev stage_of : Sank → LowerStage
stage_of (On m) = lower.Sinking m
stage_of (Over r) = lower.Ending r

sank_goes : (l : Lowering) (what : Seen) (new : Sank) → Lowers l what new → LowerGoes (lower.Sinking l) what (stage_of new)
sank_goes l what (On m) t = t
sank_goes l what (Over r) t = t

lower_one : (a : LowerStage) (what : Seen) → lower_answer_in a ≡ None → Gives (lower_next_in a) (lower_needs_in a) what → One (LowerGoes a what)
lower_one lower.New seen.Done running g = record { new = lower.Sinking Looking; goes = refl; only = λ b t. only b (lower_case lower.New seen.Done b t) }
  where
    only : (b : LowerStage) → LowerCase lower.New seen.Done b → b ≡ lower.Sinking Looking
    only b (LowerCase.Began l t) = ap lower.Sinking t
lower_one (lower.Sinking l) what running g = record { new = stage_of to.new; goes = sank_goes l what to.new to.goes; only = λ b t. only b (lower_case (lower.Sinking l) what b t) }
  where
    to : One (Lowers l what)
    to = lowering_one l what g

    only : (b : LowerStage) → LowerCase (lower.Sinking l) what b → b ≡ stage_of to.new
    only b (LowerCase.Sank _ _ m t) = ap stage_of (to.only (On m) t)
    only b (LowerCase.Finished _ _ r t) = ap stage_of (to.only (Over r) t)
lower_one (lower.Ending r) seen.Done running g = record { new = lower.Over r; goes = refl; only = λ b t. only b (lower_case (lower.Ending r) seen.Done b t) }
  where
    only : (b : LowerStage) → LowerCase (lower.Ending r) seen.Done b → b ≡ lower.Over r
    only b (LowerCase.Ended _ last t) = ap lower.Over t
lower_one (lower.Over r) what running g = (let z : Some _ ≡ None = running in cc)
lower_one a what running g = absurd g

pub lower_goes : (old : Lower) (what : Seen) → lower_answer_in old.stage ≡ None → Gives (lower_next_in old.stage) (lower_needs_in old.stage) what → GoesOn (proc.Lower old) what
lower_goes old what running given = record { new = proc.Lower (record { stage = to.new }); takes = to.goes; only = only }
  where
    to : One (LowerGoes old.stage what)
    to = lower_one old.stage what running given

    only : (other : Proc) → Takes (proc.Lower old) what other → other ≡ proc.Lower (record { stage = to.new })
    only (proc.Lower f) t = (let e = to.only f.stage t in λ i. proc.Lower (record { stage = e i }))
    only other t = absurd t

lowering_wants : (l : Lowering) → Wants (lowering_next l) (lowering_needs l) (lowering_frames l)
lowering_wants Looking = refl
lowering_wants LatchingAnchor = refl
lowering_wants LatchedAnchor = refl
lowering_wants (LatchingTop t) = refl
lowering_wants (LatchedTop t) = refl
lowering_wants (PuttingAnchor s) = (refl, refl, omega arith, omega arith)
lowering_wants (PuttingDead s) = λ e. omega arith
lowering_wants (Retiring x) = refl
lowering_wants (OpeningTop x what) = refl
lowering_wants (OpeningAnchor what) = refl

pub lower_wants : (p : Lower) → Wants (lower_next_in p.stage) (lower_needs_in p.stage) (lower_frames p.stage)
lower_wants p = wants p.stage
  where
    wants : (a : LowerStage) → Wants (lower_next_in a) (lower_needs_in a) (lower_frames a)
    wants lower.New = refl
    wants (lower.Sinking l) = lowering_wants l
    wants (lower.Ending r) = refl
    wants (lower.Over r) = refl

-- a lowering that goes on, and one that is over
lowering_leaves : {l m : Lowering} {what : Seen} → LoweringCase l what (On m) → Leaves (lowering_next l) (lowering_needs l) what (lowering_frames l) (lowering_frames m)
lowering_leaves (LoweringCase.SawMore c m t) = ap lowering_frames t.0
lowering_leaves (LoweringCase.Latched m t) = ap lowering_frames t
lowering_leaves (LoweringCase.Missed m t) = ap lowering_frames t
lowering_leaves (LoweringCase.IsTall c u t) = refl
lowering_leaves (LoweringCase.IsLow c r t) = refl
lowering_leaves (LoweringCase.LatchedUpper u m t) = ap lowering_frames t
lowering_leaves (LoweringCase.MissedUpper u m t) = ap lowering_frames t
lowering_leaves (LoweringCase.IsSpare u c s t) = refl
lowering_leaves (LoweringCase.IsNeeded u c x r t) = refl
lowering_leaves (LoweringCase.PutAnchor s m t) = ap (λ (z : Lowering). suc (lowering_frames z)) t
lowering_leaves (LoweringCase.Refused s m t) = ap lowering_frames t
lowering_leaves (LoweringCase.PutDead s m t) = sym (ap (λ (z : Lowering). suc (lowering_frames z)) t)
lowering_leaves (LoweringCase.Retired x m t) = ap lowering_frames t
lowering_leaves (LoweringCase.OpenedTop x r m t) = ap lowering_frames t

lowered_leaves : {l : Lowering} {r : Lowered} {what : Seen} → LoweringCase l what (Over r) → Leaves (lowering_next l) (lowering_needs l) what (lowering_frames l) 0
lowered_leaves (LoweringCase.SawOne c r t) = refl
lowered_leaves (LoweringCase.OpenedAnchor r last t) = refl

lower_leaves : {a b : LowerStage} {what : Seen} → LowerCase a what b → Leaves (lower_next_in a) (lower_needs_in a) what (lower_frames a) (lower_frames b)
lower_leaves (LowerCase.Began l t) = ap lowering_frames t
lower_leaves (LowerCase.Sank l what m t) = lowering_leaves (lowering_case l what _ t)
lower_leaves (LowerCase.Finished l what r t) = lowered_leaves (lowering_case l what _ t)
lower_leaves (LowerCase.Ended r last t) = refl

not_begin_lowering : (l : Lowering) → lowering_next l ≢ act.Begin
not_begin_lowering Looking e = cc
not_begin_lowering LatchingAnchor e = cc
not_begin_lowering LatchedAnchor e = cc
not_begin_lowering (LatchingTop t) e = cc
not_begin_lowering (LatchedTop t) e = cc
not_begin_lowering (PuttingAnchor s) e = cc
not_begin_lowering (PuttingDead s) e = cc
not_begin_lowering (Retiring x) e = cc
not_begin_lowering (OpeningTop x what) e = cc
not_begin_lowering (OpeningAnchor what) e = cc

lower_begun : {a b : LowerStage} {what : Seen} → LowerCase a what b → lower_next_in b ≢ act.Begin
lower_begun (LowerCase.Began l t) = not_begin_lowering l
lower_begun (LowerCase.Sank l what m t) = not_begin_lowering m
lower_begun other = λ z. cc

lower_running : {a b : LowerStage} {what : Seen} → LowerCase a what b → lower_next_in a ≢ act.End → lower_answer_in b ≡ None
lower_running (LowerCase.Ended r last t) ne = absurd (ne refl)
lower_running other ne = refl

pub lower_follows : (p q : Lower) (what : Seen) → Takes (proc.Lower p) what (proc.Lower q) → Follows (proc.Lower p) what (proc.Lower q)
lower_follows p q what t = (let is = lower_case p.stage what q.stage t in record {
  frames = lower_leaves is;
  begun = lower_begun is;
  op = refl;
  work = refl;
  running = lower_running is;
})

-- the top page is retired right after the put of the dead page
lowering_after : {l m : Lowering} {what : Seen} → LoweringCase l what (On m) → RetiresAfter (lowering_next l) what (lowering_next m)
lowering_after (LoweringCase.SawMore c m t) = subst (λ z. RetiresAfter (act.Get 0) (seen.Words c) (lowering_next z)) (sym t.0) tt
lowering_after (LoweringCase.Latched m t) = subst (λ z. RetiresAfter (act.Latch 0) seen.Done (lowering_next z)) (sym t) tt
lowering_after (LoweringCase.Missed m t) = subst (λ z. RetiresAfter (act.Latch 0) seen.Missed (lowering_next z)) (sym t) tt
lowering_after (LoweringCase.IsTall c u t) = tt
lowering_after (LoweringCase.IsLow c r t) = tt
lowering_after (LoweringCase.LatchedUpper u m t) = subst (λ z. RetiresAfter (act.Latch u.top) seen.Done (lowering_next z)) (sym t) tt
lowering_after (LoweringCase.MissedUpper u m t) = subst (λ z. RetiresAfter (act.Latch u.top) seen.Missed (lowering_next z)) (sym t) tt
lowering_after (LoweringCase.IsSpare u c s t) = tt
lowering_after (LoweringCase.IsNeeded u c x r t) = tt
lowering_after (LoweringCase.PutAnchor s m t) = subst (λ z. RetiresAfter (act.Put 0 s.anchor) seen.Done (lowering_next z)) (sym t) tt
lowering_after (LoweringCase.Refused s m t) = subst (λ z. RetiresAfter (act.Put 0 s.anchor) seen.Refused (lowering_next z)) (sym t) tt
lowering_after (LoweringCase.PutDead s m t) = subst (λ z. RetiresAfter (act.Put s.top s.dead) seen.Done (lowering_next z)) (sym t) tt
lowering_after (LoweringCase.Retired x m t) = subst (λ z. RetiresAfter (act.Retire x) seen.Done (lowering_next z)) (sym t) tt
lowering_after (LoweringCase.OpenedTop x r m t) = subst (λ z. RetiresAfter (act.Open x) seen.Done (lowering_next z)) (sym t) tt

lower_after : {a b : LowerStage} {what : Seen} → LowerCase a what b → RetiresAfter (lower_next_in a) what (lower_next_in b)
lower_after (LowerCase.Began l t) = subst (λ z. RetiresAfter act.Begin seen.Done (lowering_next z)) (sym t) tt
lower_after (LowerCase.Sank l what m t) = lowering_after (lowering_case l what _ t)
lower_after other = tt

pub lower_retires : (p q : Lower) (what : Seen) → Takes (proc.Lower p) what (proc.Lower q) → RetiresAfter (next_of (proc.Lower p)) what (next_of (proc.Lower q))
lower_retires p q what t = lower_after (lower_case p.stage what q.stage t)
