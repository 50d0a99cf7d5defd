-- What a post wants, and what follows.
use Rattle.std.proofs.Common.{ℕ, suc, ◌≡◌, ◌≢◌, Some, None, refl, sym, ap, ◌∙◌, arith}
use Rattle.bl_page.specs.declared.page.Page.TheVariants.{Inner}
use Rattle.bl_proc_steps.specs.declared.acts.Action.TheVariants as act
use Rattle.bl_proc_steps.specs.declared.acts.Seen.{Seen}
use Rattle.bl_proc_steps.specs.declared.growth.Growth.{Growth}
use Rattle.bl_proc_steps.specs.declared.growth.Growth.TheVariants as growth
use Rattle.bl_proc_steps.specs.declared.growth.Grew.TheVariants as grew
use Rattle.bl_proc_steps.specs.Growths.{growth_next, growth_needs}
use Rattle.bl_proc_writes.specs.declared.post.Post.{Post}
use Rattle.bl_proc_writes.specs.declared.post.PostStage.{PostStage}
use Rattle.bl_proc_writes.specs.declared.post.PostStage.TheVariants as post
use Rattle.bl_proc.specs.declared.kinds.Proc.TheVariants as proc
use Rattle.bl_proc_writes.specs.Posts.{post_next_in, post_needs_in, post_answer_in}
use Rattle.bl_proc.specs.Processes.{Takes}
use Rattle.bl_proc_deterministic.specs.Frames.{growth_frames, post_frames, Wants, Leaves, Follows}
use Rattle.bl_proc_deterministic.proofs.Following.{approach_wants, edit_wants, edit_leaves, edit_over, approach_leaves, not_begin_way, not_begin, came_frames}
use Rattle.bl_proc_deterministic.proofs.WayCases.{edit_case, GrowthCase, growth_case}
use Rattle.bl_proc_deterministic.proofs.KindCases.{PostCase, post_case}

growth_wants : (g : Growth) → Wants (growth_next g) (growth_needs g) (growth_frames g)
growth_wants growth.Latching = refl
growth_wants growth.Latched = refl
growth_wants (growth.Taking u) = (refl, refl, refl)
growth_wants (growth.PuttingTop u) = (λ e. omega arith)
growth_wants (growth.PuttingAnchor u) = (λ e. omega arith)
growth_wants (growth.OpeningTop u) = refl
growth_wants growth.OpeningGrown = refl
growth_wants growth.OpeningRefused = refl

pub post_wants : (p : Post) → Wants (post_next_in p.stage) (post_needs_in p.stage) (post_frames p.stage)
post_wants p = wants p.stage
  where
    wants : (a : PostStage) → Wants (post_next_in a) (post_needs_in a) (post_frames a)
    wants post.New = refl
    wants (post.Coming a) = approach_wants a None
    wants (post.Growing g) = growth_wants g
    wants (post.Walking w) = refl
    wants (post.Editing c) = edit_wants c
    wants (post.Staying x r) = refl
    wants (post.Ending r) = refl
    wants (post.Over r) = refl

-- a growth that goes on, and one that is over
growth_leaves : {level : ℕ} {g h : Growth} {what : Seen} → GrowthCase level g what (grew.On h) → Leaves (growth_next g) (growth_needs g) what (growth_frames g) (growth_frames h)
growth_leaves (GrowthCase.LatchedAnchor h t) = ap growth_frames t
growth_leaves (GrowthCase.Missed h t) = ap growth_frames t
growth_leaves (GrowthCase.Rises c r t) = refl
growth_leaves (GrowthCase.Stands c t) = refl
growth_leaves (GrowthCase.TookTop r y v t) = refl
growth_leaves (GrowthCase.TopRefused r h t) = ap growth_frames t
growth_leaves (GrowthCase.PutTop r h t) = sym (ap (λ (z : Growth). suc (growth_frames z)) t)
growth_leaves (GrowthCase.PutAnchor r h t) = sym (ap (λ (z : Growth). suc (growth_frames z)) t)
growth_leaves (GrowthCase.OpenedTop x h t) = ap growth_frames t

grown_leaves : {level : ℕ} {g : Growth} {what : Seen} → GrowthCase level g what grew.Grown → Leaves (growth_next g) (growth_needs g) what (growth_frames g) 0
grown_leaves GrowthCase.OpenedGrown = refl

refused_leaves : {level : ℕ} {g : Growth} {what : Seen} → GrowthCase level g what grew.Refused → Leaves (growth_next g) (growth_needs g) what (growth_frames g) 0
refused_leaves GrowthCase.OpenedRefused = refl

not_begin_growth : (g : Growth) → growth_next g ≢ act.Begin
not_begin_growth growth.Latching e = cc
not_begin_growth growth.Latched e = cc
not_begin_growth (growth.Taking u) e = cc
not_begin_growth (growth.PuttingTop u) e = cc
not_begin_growth (growth.PuttingAnchor u) e = cc
not_begin_growth (growth.OpeningTop u) e = cc
not_begin_growth growth.OpeningGrown e = cc
not_begin_growth growth.OpeningRefused e = cc

pub post_leaves : {level key : ℕ} {a b : PostStage} {what : Seen} → PostCase level key a what b → Leaves (post_next_in a) (post_needs_in a) what (post_frames a) (post_frames b)
post_leaves (PostCase.Came a what b t) = approach_leaves a what
post_leaves {level = level} (PostCase.Grew g what h t) = growth_leaves (growth_case level g what _ t)
post_leaves {level = level} (PostCase.Grown g what a t) = grown_leaves (growth_case level g what _ t.0)
post_leaves {level = level} (PostCase.NoRoom g what r t) = refused_leaves (growth_case level g what _ t.0)
post_leaves (PostCase.Entered w c d t) = came_frames w.at w.key w.child (Inner w.parent) d t.2
post_leaves (PostCase.Edited c what d t) = edit_leaves (edit_case c what _ t)
post_leaves (PostCase.Finished c what r t) = edit_over (edit_case c what _ t.1)
post_leaves other = refl

pub post_begun : {level key : ℕ} {a b : PostStage} {what : Seen} → PostCase level key a what b → post_next_in b ≢ act.Begin
post_begun (PostCase.Began a t) = not_begin_way a
post_begun (PostCase.Came a what b t) = not_begin_way b
post_begun (PostCase.Grew g what h t) = not_begin_growth h
post_begun (PostCase.Grown g what a t) = not_begin_way a
post_begun (PostCase.Entered w c d t) = not_begin d
post_begun (PostCase.Lost w c a t) = not_begin_way a
post_begun (PostCase.Edited c what d t) = not_begin d
post_begun other = λ z. cc

post_running : {level key : ℕ} {a b : PostStage} {what : Seen} → PostCase level key a what b → post_next_in a ≢ act.End → post_answer_in level b ≡ None
post_running (PostCase.Ended r last t) ne = absurd (ne refl)
post_running other ne = refl

pub post_follows : (p q : Post) (what : Seen) → Takes (proc.Post p) what (proc.Post q) → Follows (proc.Post p) what (proc.Post q)
post_follows p q what t = (let is = post_case p.level p.key p.stage what q.stage t.2 in record {
  frames = post_leaves is;
  begun = post_begun is;
  op = refl;
  work = λ i. Some (t.0 i, t.1 i);
  running = λ ne. ap (λ (z : ℕ). post_answer_in z q.stage) t.0 ∙ post_running is ne;
})
