-- What follows for a process of which a pass has no value.
use Rattle.std.proofs.Common.{ℕ, Bool, true, false, ◌≡◌, Option, Some, None, refl, sym, ◌∙◌, subst}
use Rattle.bl_layout.specs.declared.layout.Layout.{Layout}
use Rattle.bl_page.specs.Machine.{Name}
use Rattle.bl_claims.specs.Trails.{marks_of}
use Rattle.bl_proc_steps.specs.declared.acts.Seen.{Seen}
use Rattle.bl_proc_steps.specs.declared.acts.Seen.TheVariants as seen
use Rattle.bl_proc.specs.declared.kinds.Proc.{Proc}
use Rattle.bl_proc.specs.Processes.{Takes}
use Rattle.bl_proc_deterministic.specs.Courses.{GoesOn}
use Rattle.bl_proc_deterministic.specs.Frames.{op_of, work_of}
use Rattle.bl_proc_bounds.specs.Latches.{IsTidy}
use Rattle.bl_proc_invariant.specs.Logs.{proc_log}
use Rattle.bl_index_rule.specs.declared.known.PassState.{PassState}
use Rattle.bl_claims.specs.Seeing.{name}
use Rattle.bl_index_rule.specs.Observed.{Goes, ends}
use Rattle.bl_index_events.specs.Held.{own_marks, proc_held}
use Rattle.bl_index_events.specs.Runs.{IsOn, IsSince, IsDone, IsSameProcess, EndsAs}
use Rattle.bl_index_events.proofs.Calls.{since_step}
use Rattle.bl_index_events.proofs.Held.{goes_held}

pub on_itself : (l : Layout) (d : PassState) (p : Proc) → IsOn l d p → IsOn l d d.state
on_itself l d p on = record { runs = on.runs; state = refl; pages = on.pages; passes = on.passes; near = on.near; held = on.held }

pub on_as : (l : Layout) (d : PassState) (p : Proc) → IsOn l d d.state → d.state ≡ p → IsOn l d p
on_as l d p on is = record { runs = on.runs; state = is; pages = on.pages; passes = on.passes; near = on.near; held = on.held }

-- what it has got of the page that it latched last
pub on_held : (l : Layout) (d : PassState) (p : Proc) → IsOn l d p → proc_held p (own_marks d)
on_held l d p on = subst (λ (z : Proc). proc_held z (own_marks d)) on.state on.held

pub none_of : {A : Type 0} (o : Option A) → ((v : A) → o ≡ Some v → ⊥) → o ≡ None
none_of None not = refl
none_of (Some v) not = absurd (not v refl)

-- where the process stands after an event
pub goes_takes : (what : Seen) (d e : PassState) → Goes what d e → Takes d.state what e.state
goes_takes what d e goes = subst (λ (z : Proc). Takes d.state what z) (sym goes.state) goes.course.takes

pub goes_to : (what : Seen) (d e : PassState) (p q : Proc) → Goes what d e → d.state ≡ p → Takes p what q → e.state ≡ q
goes_to what d e p q goes is t = goes.state ∙ sym (goes.course.only q (subst (λ (z : Proc). Takes z what q) (sym is) t))

pub on_goes : (l : Layout) (what : Seen) (d e : PassState) (p q : Proc) → IsOn l d p → Goes what d e → Takes p what q → IsOn l e q
on_goes l what d e p q on goes t = record {
  runs = goes.steps.runs;
  state = goes_to what d e p q goes on.state t;
  pages = goes.steps.pages ∙ on.pages;
  passes = goes.steps.passes ∙ on.passes;
  near = goes.steps.near;
  held = goes_held what d e goes on.held;
}

pub on_after : (l : Layout) (what : Seen) (d e : PassState) (p : Proc) → IsOn l d p → Goes what d e → IsOn l e e.state
on_after l what d e p on goes = record {
  runs = goes.steps.runs;
  state = refl;
  pages = goes.steps.pages ∙ on.pages;
  passes = goes.steps.passes ∙ on.passes;
  near = goes.steps.near;
  held = goes_held what d e goes on.held;
}

pub same_goes : (what : Seen) (d e : PassState) → Goes what d e → IsSameProcess d e
same_goes what d e goes pass old since = since_step _ _ _ _ _ since goes.steps

pub same_all : (d e f : PassState) → IsSameProcess d e → IsSameProcess e f → IsSameProcess d f
same_all d e f one two pass old since = two pass old (one pass old since)

-- a latch that was had or missed
pub same_latch : (b : Bool) (d e : PassState) → (b ≡ true → Goes seen.Done d e) → (b ≡ false → Goes seen.Missed d e) → IsSameProcess d e
same_latch true d e done missed = same_goes seen.Done d e (done refl)
same_latch false d e done missed = same_goes seen.Missed d e (missed refl)

-- what a put gave, or its reservation
abbrev pub put_gave : Bool → Seen
put_gave true = seen.Done
put_gave false = seen.Refused

pub goes_put : (b : Bool) (d e : PassState) → (b ≡ true → Goes seen.Done d e) → (b ≡ false → Goes seen.Refused d e) → Goes (put_gave b) d e
goes_put true d e done refused = done refl
goes_put false d e done refused = refused refl

-- a course of the process as it stands
pub course_at : (what : Seen) (p q : Proc) → p ≡ q → GoesOn q what → GoesOn p what
course_at what p q is course = subst (λ (z : Proc). GoesOn z what) (sym is) course

-- a process that has ended
pub is_over : (pass : ℕ) (old d e : PassState) (first last : Proc) → IsSince pass old d → EndsAs d.state last → ends d 0 e → op_of d.state ≡ op_of first → work_of d.state ≡ work_of first → IsDone pass old e first last
is_over pass old d e first last since ending observed op work =
    let done = observed.1 in
    let is_last : done.course.new ≡ last = sym (done.course.only last ending.ended) in
    record {
      d = d;
      before = d.state;
      since = since;
      state = refl;
      at_end = ending.at_end;
      observed = observed.0;
      takes = ending.ended;
      op = op;
      work = work;
      log = subst (λ (z : Proc × Name). proc_log z.0 (marks_of z.1 e.trail)) (λ i. (is_last i, name (since.named i) (since.number i))) done.log;
      tidy = subst (λ (z : Proc × Name). IsTidy z.0 (marks_of z.1 e.trail)) (λ i. ((done.state ∙ is_last) i, name (since.named i) (since.number i))) observed.0.notes.tidy;
    }

-- the same, from an earlier state of the process on
pub done_from : (pass : ℕ) (old e : PassState) (earlier first last : Proc) → IsDone pass old e first last → op_of first ≡ op_of earlier → work_of first ≡ work_of earlier → IsDone pass old e earlier last
done_from pass old e earlier first last done op work = record {
  d = done.d;
  before = done.before;
  since = done.since;
  state = done.state;
  at_end = done.at_end;
  observed = done.observed;
  takes = done.takes;
  op = done.op ∙ op;
  work = done.work ∙ work;
  log = done.log;
  tidy = done.tidy;
}

pub same_number : {a b : ℕ} → Some a ≡ Some b → a ≡ b
same_number e = cc
