-- What each process wants, and what follows.
use Rattle.std.proofs.Common.{ℕ, suc, ◌≡◌, ◌≢◌, Option, None, refl, sym, ap, arith}
use Rattle.bl_proc_steps.specs.declared.acts.Action.TheVariants as act
use Rattle.bl_proc_steps.specs.declared.acts.Seen.{Seen}
use Rattle.bl_proc_steps.specs.declared.approach.Approach.{Approach}
use Rattle.bl_proc_steps.specs.declared.approach.Approach.TheVariants as way
use Rattle.bl_proc_steps.specs.declared.edit.Edit.{Edit}
use Rattle.bl_proc_steps.specs.declared.edit.Edit.TheVariants as edit
use Rattle.bl_proc_steps.specs.declared.edit.Outcome.{Outcome}
use Rattle.bl_proc_steps.specs.declared.edit.Edited.TheVariants as changed
use Rattle.bl_proc_steps.specs.Approaches.{approach_next}
use Rattle.bl_proc_steps.specs.Edits.{edit_next, edit_needs, EntersPair}
use Rattle.bl_page.specs.declared.page.Page.{Page}
use Rattle.bl_proc_deterministic.specs.Frames.{edit_frames, Wants, Leaves}
use Rattle.bl_proc_deterministic.proofs.WayCases.{EditCase}

pub approach_wants : (a : Approach) (needs : Option (ℕ × ℕ)) → Wants (approach_next a) needs 0
approach_wants way.Start needs = refl
approach_wants (way.At x) needs = refl
approach_wants (way.Latching x) needs = refl
approach_wants (way.Latched x) needs = refl
approach_wants (way.Leaving x to) needs = refl

pub edit_wants : (c : Edit) → Wants (edit_next c) (edit_needs c) (edit_frames c)
edit_wants (edit.Putting u v) = (refl, refl, omega arith, omega arith)
edit_wants (edit.Taking u) = (refl, refl, refl)
edit_wants (edit.PuttingNew u) = (λ e. omega arith)
edit_wants (edit.PuttingOld u) = (λ e. omega arith)
edit_wants (edit.OpeningNew u v s) = refl
edit_wants (edit.Opening u v) = refl

-- a change that goes on, and one that is over
pub edit_leaves : {c d : Edit} {what : Seen} → EditCase c what (changed.On d) → Leaves (edit_next c) (edit_needs c) what (edit_frames c) (edit_frames d)
edit_leaves (EditCase.Put x page d t) = ap (λ (z : Edit). suc (edit_frames z)) t
edit_leaves (EditCase.PutRefused x page d t) = ap edit_frames t
edit_leaves (EditCase.Took full y p t) = refl
edit_leaves (EditCase.TakeRefused full d t) = ap edit_frames t
edit_leaves (EditCase.PutNew p d t) = sym (ap (λ (z : Edit). suc (edit_frames z)) t)
edit_leaves (EditCase.PutOld p d t) = sym (ap (λ (z : Edit). suc (edit_frames z)) t)
edit_leaves (EditCase.OpenedNew x y separator d t) = ap edit_frames t

pub edit_over : {c : Edit} {o : Outcome} {what : Seen} → EditCase c what (changed.Over o) → Leaves (edit_next c) (edit_needs c) what (edit_frames c) 0
edit_over (EditCase.Opened x o last t) = refl

pub approach_leaves : (a : Approach) (what : Seen) → Leaves (approach_next a) None what 0 0
approach_leaves way.Start what = refl
approach_leaves (way.At x) what = refl
approach_leaves (way.Latching x) what = refl
approach_leaves (way.Latched x) what = refl
approach_leaves (way.Leaving x to) what = refl

pub not_begin_way : (a : Approach) → approach_next a ≢ act.Begin
not_begin_way way.Start e = cc
not_begin_way (way.At x) e = cc
not_begin_way (way.Latching x) e = cc
not_begin_way (way.Latched x) e = cc
not_begin_way (way.Leaving x to) e = cc

pub not_begin : (c : Edit) → edit_next c ≢ act.Begin
not_begin (edit.Putting u v) e = cc
not_begin (edit.Taking u) e = cc
not_begin (edit.PuttingNew u) e = cc
not_begin (edit.PuttingOld u) e = cc
not_begin (edit.OpeningNew u v s) e = cc
not_begin (edit.Opening u v) e = cc

pub came_frames : (x key value : ℕ) (c : Page) (e : Edit) → EntersPair x c key value e → edit_frames e ≡ 0
came_frames x key value c (edit.Putting u v) t = refl
came_frames x key value c (edit.Taking u) t = refl
came_frames x key value c old t = absurd t
