-- Where a search or a part stands, and how it goes on.
use Rattle.std.proofs.Common.{ℕ, ◌≡◌, ◌<◌, ◌^◌, Bool, Option, None, Some, refl, sym, subst, ap, ◌∙◌}
use Rattle.bl_page.specs.declared.page.Page.{Page}
use Rattle.bl_page.specs.Machine.Act.{Look}
use Rattle.bl_page.specs.Machine.Looked.{Page as OfPage}
use Rattle.bl_page.specs.Nodes.{node_of}
use Rattle.bl_proc_steps.specs.declared.acts.Action.TheVariants as act
use Rattle.bl_proc_steps.specs.declared.acts.Seen.TheVariants as seen
use Rattle.bl_proc_steps.specs.declared.descent.Descent.{Descent}
use Rattle.bl_proc_steps.specs.declared.descent.Descent.TheVariants.{AtAnchor}
use Rattle.bl_proc_steps.specs.declared.descent.Descended.TheVariants.{On, Here}
use Rattle.bl_proc_steps.specs.Descents.{descent_page, Descends}
use Rattle.bl_proc_steps.proofs.Descents.{here_leads}
use Rattle.bl_tree_worlds.specs.Blank.{IsBlank}
use Rattle.bl_proc.specs.declared.kinds.Proc.{Proc}
use Rattle.bl_proc.specs.declared.parts.PartStage.TheVariants as part
use Rattle.bl_proc.specs.declared.searching.FindStage.TheVariants as find
use Rattle.bl_proc.specs.Parts.{way_by}
use Rattle.bl_proc.specs.Processes.{next_of, Takes}
use Rattle.bl_proc_bounds.specs.Searches.{IsSearch, IsUnderWay}
use Rattle.bl_proc_invariant.specs.Knowing.{know_of, end_of_proc}
use Rattle.bl_proc_invariant.specs.Turns.{event_of}
use Rattle.bl_proc_deterministic.specs.Courses.{GoesOn}
use Rattle.bl_proc_deterministic.proofs.Searches.{find_goes}
use Rattle.bl_proc_deterministic.proofs.Parts.{part_goes}
use Rattle.bl_proc_deterministic.proofs.Listings.{toward_some}
use Rattle.bl_index_rule.specs.declared.known.PassState.{PassState}
use Rattle.bl_index_rule.specs.Observed.{Steps, Goes, Leaves, MayGiveUp, IsUnborn}
use Rattle.bl_claims.specs.Trails.{Trail}
use Rattle.bl_claims.specs.Latches.{OnlyLooks}
use Rattle.bl_proc_bounds.specs.Latches.{IsTidy}
use Rattle.bl_proc_invariant.proofs.Looking.{only_looks}
use Rattle.bl_index_read.specs.declared.sought.Sought.{Sought}
use Rattle.bl_index_read.specs.declared.sought.Sought.TheVariants.{Value, Rows}
use Rattle.bl_index_read.specs.LeafWays.{searching, listing, fresh, probing, going, EndsWith}
use Rattle.bl_index_events.proofs.Silent.{may_give_up}

-- ---- one that is to begin

pub begins : (s : Sought) (key : ℕ) (near : Option ℕ) → next_of (fresh s key near) ≡ act.Begin
begins Value key None = refl
begins Value key (Some x) = refl
begins (Rows direction) from None = refl
begins (Rows direction) from (Some x) = refl

pub unborn : (s : Sought) (key : ℕ) (near : Option ℕ) → key < 2 ^ 64 → IsUnborn (fresh s key near)
unborn s key near small = λ r is. subst (λ (z : Proc). IsBlank (know_of r.got r.child r.time z)) (sym is) (blank r.got r.child r.time s near)
  where
    blank : (got : ℕ → Page) (child time : ℕ) (s : Sought) (near : Option ℕ) → IsBlank (know_of got child time (fresh s key near))
    blank got child time Value None = record { stage = refl; said = refl; holds = refl; goes = refl; children = refl; passed = refl; sound = small }
    blank got child time Value (Some x) = record { stage = refl; said = refl; holds = refl; goes = refl; children = refl; passed = refl; sound = small }
    blank got child time (Rows direction) None = record { stage = refl; said = refl; holds = refl; goes = refl; children = refl; passed = refl; sound = small }
    blank got child time (Rows direction) (Some x) = record { stage = refl; said = refl; holds = refl; goes = refl; children = refl; passed = refl; sound = small }

pub starts : (s : Sought) (key : ℕ) (near : Option ℕ) → GoesOn (fresh s key near) seen.Done
starts Value key None = find_goes (record { key = key; stage = find.New }) seen.Done refl tt
starts Value key (Some x) = find_goes (record { key = key; stage = find.Near x }) seen.Done refl tt
starts (Rows direction) from None = part_goes (record { from = record { key = from; direction = direction }; stage = part.New }) seen.Done refl tt
starts (Rows direction) from (Some x) = part_goes (record { from = record { key = from; direction = direction }; stage = part.Near x }) seen.Done refl tt

pub starts_far : (s : Sought) (key : ℕ) → Takes (fresh s key None) seen.Done (going s key AtAnchor)
starts_far Value key = (refl, refl)
starts_far (Rows direction) from = (refl, refl)

pub starts_near : (s : Sought) (key x : ℕ) → Takes (fresh s key (Some x)) seen.Done (probing s key x)
starts_near Value key x = (refl, refl)
starts_near (Rows direction) from x = (refl, refl)

-- ---- one that is to look at the page that it has in mind

pub probes : (s : Sought) (key x : ℕ) (state : Proc) → state ≡ probing s key x → next_of state ≡ act.Probe x
probes Value key x state e = ap next_of e
probes (Rows direction) from x state e = ap next_of e

pub probing_is_search : (s : Sought) (key x : ℕ) (state : Proc) → state ≡ probing s key x → IsSearch state
probing_is_search Value key x state e = subst IsSearch (sym e) tt
probing_is_search (Rows direction) from x state e = subst IsSearch (sym e) tt

pub probing_under_way : (s : Sought) (key x : ℕ) (state : Proc) → state ≡ probing s key x → IsUnderWay state
probing_under_way Value key x state e = subst IsUnderWay (sym e) tt
probing_under_way (Rows direction) from x state e = subst IsUnderWay (sym e) tt

-- it goes on whatever it sees
pub probing_course : (s : Sought) (key x : ℕ) (free : Bool) (state : Proc) → state ≡ probing s key x → GoesOn state (seen.Probed free)
probing_course Value key x free state e = subst (λ (z : Proc). GoesOn z (seen.Probed free)) (sym e) (find_goes (record { key = key; stage = find.Probing x }) (seen.Probed free) refl tt)
probing_course (Rows direction) from x free state e = subst (λ (z : Proc). GoesOn z (seen.Probed free)) (sym e) (part_goes (record { from = record { key = from; direction = direction }; stage = part.Probing x }) (seen.Probed free) refl tt)

pub probing_takes : (s : Sought) (key x : ℕ) (free : Bool) (way : Descent) → way ≡ way_by x free → Takes (probing s key x) (seen.Probed free) (going s key way)
probing_takes Value key x free way e = (refl, e)
probing_takes (Rows direction) from x free way e = (refl, e)

pub probing_steps : (s : Sought) (key x : ℕ) (free : Bool) (d e : PassState) → d.state ≡ probing s key x → Goes (seen.Probed free) d e → Steps (Look (OfPage x)) d e
probing_steps Value key x free d e is goes = subst (λ (z : Proc). Steps (event_of (end_of_proc z) (next_of z) (seen.Probed free)) d e) is goes.steps
probing_steps (Rows direction) from x free d e is goes = subst (λ (z : Proc). Steps (event_of (end_of_proc z) (next_of z) (seen.Probed free)) d e) is goes.steps

-- ---- one that is to get a page

pub gets : (s : Sought) (key : ℕ) (way : Descent) (state : Proc) → state ≡ going s key way → next_of state ≡ act.Get (descent_page way)
gets Value key way state e = ap next_of e
gets (Rows direction) from way state e = ap next_of e

pub going_is_search : (s : Sought) (key : ℕ) (way : Descent) (state : Proc) → state ≡ going s key way → IsSearch state
going_is_search Value key way state e = subst IsSearch (sym e) tt
going_is_search (Rows direction) from way state e = subst IsSearch (sym e) tt

pub going_under_way : (s : Sought) (key : ℕ) (way : Descent) (state : Proc) → state ≡ going s key way → IsUnderWay state
going_under_way Value key way state e = subst IsUnderWay (sym e) tt
going_under_way (Rows direction) from way state e = subst IsUnderWay (sym e) tt

pub going_may_give_up : (s : Sought) (key : ℕ) (way : Descent) (state : Proc) → state ≡ going s key way → MayGiveUp state
going_may_give_up Value key way state e = may_give_up state (searching key (find.Descending way)) e (λ marks log. log) (λ got child time. record { busy = refl; silent = refl; empty = refl; no_middle = refl })
going_may_give_up (Rows direction) from way state e = may_give_up state (listing direction from (part.Descending way)) e (λ marks log. log) (λ got child time. record { busy = refl; silent = refl; empty = refl; no_middle = refl })

-- one that has given up has only looked
pub going_looks : (s : Sought) (key : ℕ) (way : Descent) (state : Proc) (marks : Trail) → state ≡ going s key way → IsTidy state marks → Leaves state marks → OnlyLooks marks
going_looks Value key way state marks e tidy left = only_looks marks (subst (λ (z : Proc). IsTidy z marks) e tidy) (subst (λ (z : Proc). Leaves z marks) e left)
going_looks (Rows direction) from way state marks e tidy left = only_looks marks (subst (λ (z : Proc). IsTidy z marks) e tidy) (subst (λ (z : Proc). Leaves z marks) e left)

-- it goes on whatever page it gets
pub going_course : (s : Sought) (key : ℕ) (way : Descent) (c : Page) (state : Proc) → state ≡ going s key way → GoesOn state (seen.Words c)
going_course Value key way c state e = subst (λ (z : Proc). GoesOn z (seen.Words c)) (sym e) (find_goes (record { key = key; stage = find.Descending way }) (seen.Words c) refl tt)
going_course (Rows direction) from way c state e = subst (λ (z : Proc). GoesOn z (seen.Words c)) (sym e) (part_goes (record { from = record { key = from; direction = direction }; stage = part.Descending way }) (seen.Words c) refl tt)

pub goes_further : (s : Sought) (key : ℕ) (way next : Descent) (c : Page) → Descends key way c (On next) → Takes (going s key way) (seen.Words c) (going s key next)
goes_further Value key way next c t = (refl, t)
goes_further (Rows direction) from way next c t = (refl, t)

-- a process that is to end with what that page lists, once this one has got it
pub record Arrives (s : Sought) (key : ℕ) (way : Descent) (c : Page) : Type 0 where
  pub state : Proc
  pub ends : EndsWith s key c state
  pub takes : Takes (going s key way) (seen.Words c) state

pub arrives : (s : Sought) (key : ℕ) (way : Descent) (c : Page) → Descends key way c Here → Arrives s key way c
arrives Value key way c t = record { state = searching key (find.Ending ((node_of c).look key)); ends = refl; takes = (refl, (t, refl)) }
arrives (Rows direction) from way c t = (let p = toward_some direction c from (here_leads from way c t) in record { state = listing direction from (part.Ending p.0); ends = (p.0, p.1, refl); takes = (refl, (t, p.1)) })

-- ---- one that has got its leaf

pub ending_is_search : (s : Sought) (key : ℕ) (c : Page) (state : Proc) → EndsWith s key c state → IsSearch state
ending_is_search Value key c state e = subst IsSearch (sym e) tt
ending_is_search (Rows direction) from c state e = subst IsSearch (sym e.2) tt

pub is_to_end : (s : Sought) (key : ℕ) (c : Page) (state : Proc) → EndsWith s key c state → next_of state ≡ act.End
is_to_end Value key c state e = ap next_of e
is_to_end (Rows direction) from c state e = ap next_of e.2

pub ending_course : (s : Sought) (key : ℕ) (c : Page) (state : Proc) → EndsWith s key c state → GoesOn state seen.Done
ending_course Value key c state e = subst (λ (z : Proc). GoesOn z seen.Done) (sym e) (find_goes (record { key = key; stage = find.Ending ((node_of c).look key) }) seen.Done refl tt)
ending_course (Rows direction) from c state e = subst (λ (z : Proc). GoesOn z seen.Done) (sym e.2) (part_goes (record { from = record { key = from; direction = direction }; stage = part.Ending e.0 }) seen.Done refl tt)
