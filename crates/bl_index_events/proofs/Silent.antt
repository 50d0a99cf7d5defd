-- What is known of a process that gives up.
use Rattle.std.proofs.Common.{ℕ, ◌≡◌, ◌+◌, Option, None, List, [], refl, sym, ◌∙◌, subst, append-nil}
use Rattle.bl_page.specs.declared.page.Page.{Page}
use Rattle.bl_page.specs.Machine.{Name}
use Rattle.bl_tree_worlds.specs.Worlds.{Know, Stage}
use Rattle.bl_proc.specs.declared.kinds.Proc.{Proc}
use Rattle.bl_proc_invariant.specs.Logs.{proc_log}
use Rattle.bl_proc_invariant.specs.Knowing.{Run, know_of}
use Rattle.bl_index_rule.specs.declared.known.PassState.{PassState}
use Rattle.bl_claims.specs.Trails.{Trail, marks_of}
use Rattle.bl_claims.specs.Seeing.{own, name}
use Rattle.bl_index_rule.specs.Observed.{Finishes, Leaves, MayGiveUp}
use Rattle.bl_index_events.specs.Answered.{SaysNothing, Undone}
use Rattle.bl_index_events.specs.Runs.{IsSince}
use Rattle.bl_index_events.proofs.Calls.{since_end, since_said, end_seen}

-- it runs, has said nothing, and holds nothing
pub record IsSilent (k : Know) : Type 0 where
  pub busy : k.stage ≡ Stage.Busy
  pub silent : k.said ≡ None
  pub empty : k.holds ≡ []
  pub no_middle : k.middle ≡ None

pub may_give_up : (state process : Proc) → state ≡ process → ((marks : Trail) → proc_log process marks → Leaves process marks) → ((got : ℕ → Page) (child time : ℕ) → IsSilent (know_of got child time process)) → MayGiveUp state
may_give_up state process is leaves silent = record {
  busy = λ r e. (here r e).busy;
  silent = λ r e. (here r e).silent;
  empty = λ r e. (here r e).empty;
  no_middle = λ r e. (here r e).no_middle;
  leaves = subst (λ (z : Proc). (marks : Trail) → proc_log z marks → Leaves z marks) (sym is) leaves;
}
  where
    here : (r : Run) → r.state ≡ state → IsSilent (know_of r.got r.child r.time r.state)
    here r e = subst (λ (z : Proc). IsSilent (know_of r.got r.child r.time z)) (sym (e ∙ is)) (silent r.got r.child r.time)

abbrev pub gives_up : (from : List (Option Page)) (pass : ℕ) (old d e : PassState) → old.first ≡ from → IsSince pass old d → MayGiveUp d.state → Finishes None d e → SaysNothing from pass old.trail e.trail
gives_up from pass old d e begins s may t = record {
  number = old.number + 1;
  holds = since_end pass None old d e s t;
  seen = (end_seen pass None old d e from s t begins).1;
  none = since_said pass None old d e None s t may.silent ∙ append-nil (own pass old.trail);
}

-- A process of that state gave up in the call. What it may leave is no more than that.
pub gives_up_undone : (Left : Trail → Type 0) (state : Proc) → ((marks : Trail) → Leaves state marks → Left marks) → (pass : ℕ) (old d e : PassState) → IsSince pass old d → d.state ≡ state → MayGiveUp d.state → Finishes None d e → Leaves d.state (marks_of (name d.pass d.number) e.trail) → Undone Left pass old e
gives_up_undone Left state means pass old d e s is may t left =
    let marks : Trail = marks_of (name d.pass d.number) e.trail in
    record {
      says = gives_up old.first pass old d e refl s may t;
      left = subst (λ (p : Name). Left (marks_of p e.trail)) (λ i. name (s.named i) (s.number i)) (means marks (subst (λ (z : Proc). Leaves z marks) is left));
    }
