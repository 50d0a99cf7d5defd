-- A post that changes its parent, or has split it, is to a level below the last one: its parent is an inner page.
use Rattle.std.proofs.Common.{ℕ, ◌≡◌, ◌<◌, sym, subst, arith}
use Rattle.bl_page.specs.declared.page.Page.{Page}
use Rattle.bl_page.specs.declared.page.Page.TheVariants.{Inner as InnerPage}
use Rattle.bl_page.specs.declared.page.Inner.{Inner}
use Rattle.bl_proc_steps.specs.declared.acts.Seen.{Seen}
use Rattle.bl_proc_steps.specs.declared.acts.Seen.TheVariants as seen
use Rattle.bl_proc_steps.specs.declared.approach.Approach.{Approach}
use Rattle.bl_proc_steps.specs.declared.approach.Came.{Came}
use Rattle.bl_proc_steps.specs.declared.approach.Came.TheVariants as come
use Rattle.bl_proc_steps.specs.declared.edit.Outcome.{Outcome}
use Rattle.bl_proc_steps.specs.declared.edit.Outcome.TheVariants as outcome
use Rattle.bl_proc_steps.specs.declared.growth.Growth.TheVariants as growth
use Rattle.bl_proc_steps.specs.Approaches.{Comes}
use Rattle.bl_proc_steps.proofs.Ways.{here_leads}
use Rattle.bl_proc_writes.specs.declared.walking.Walk.{Walk}
use Rattle.bl_proc_writes.specs.declared.post.PostStage.{PostStage}
use Rattle.bl_proc_writes.specs.declared.post.PostStage.TheVariants.{New, Coming, Growing, Walking, Editing, Staying, Ending, Over}
use Rattle.bl_proc_writes.specs.declared.post.PostReply.TheVariants as reply
use Rattle.bl_proc_writes.specs.Levels.{MayReply, IsBelowTop}
use Rattle.bl_proc_writes.specs.Posts.{post_reply, PostLacks, PostArrives, PostWalks, PostComes, PostGoes}

lacks_below : (level levels : ℕ) (new : PostStage) → PostLacks level levels new → IsBelowTop level new
lacks_below level levels (Growing growth.Latching) t = tt
lacks_below level levels (Ending reply.Stale) t = tt
lacks_below level levels (Ending reply.TooTall) t = tt
lacks_below level levels new t = absurd t

arrives_below : (level key x : ℕ) (parent : Inner) (new : PostStage) → parent.level ≡ level → PostArrives key x parent new → IsBelowTop level new
arrives_below level key x parent (Walking v) is t = (let low = parent.below_limit in omega (arith, low, is))
arrives_below level key x parent (Staying y reply.Already) is t = tt
arrives_below level key x parent new is t = absurd t

comes_below : (level key : ℕ) (a : Approach) (what : Seen) (m : Came) (new : PostStage) → Comes level key a what m → PostComes level key m new → IsBelowTop level new
comes_below level key a what (come.NoLevel levels) new h t = lacks_below level levels new t
comes_below level key a what (come.On b) new h t = subst (IsBelowTop level) (sym t) tt
comes_below level key a what (come.ToParent x parent) new h t = arrives_below level key x parent new (here_leads level key a what x (InnerPage parent) h).2 t

walks_below : (level : ℕ) (w : Walk) (c : Page) (new : PostStage) → level < 12 → PostWalks level w c new → IsBelowTop level new
walks_below level w c New h t = tt
walks_below level w c (Coming b) h t = tt
walks_below level w c (Growing g) h t = tt
walks_below level w c (Walking v) h t = h
walks_below level w c (Editing d) h t = h
walks_below level w c (Staying y reply.Already) h t = tt
walks_below level w c (Staying y reply.Stale) h t = tt
walks_below level w c (Staying y reply.NoRoom) h t = tt
walks_below level w c (Staying y reply.TooTall) h t = tt
walks_below level w c old h t = absurd t

reply_below : (level : ℕ) (o : Outcome) → level < 12 → MayReply level (post_reply o)
reply_below level outcome.Edited h = tt
reply_below level (outcome.SplitAt s) h = h
reply_below level outcome.Refused h = tt

pub goes_below : (level key : ℕ) (old : PostStage) (what : Seen) (new : PostStage) → IsBelowTop level old → PostGoes level key old what new → IsBelowTop level new
goes_below level key New seen.Done New h t = tt
goes_below level key New seen.Done (Coming b) h t = tt
goes_below level key New seen.Done (Growing g) h t = tt
goes_below level key (Coming a) what new h (m, comes, t) = comes_below level key a what m new comes t
goes_below level key (Growing k) what New h t = tt
goes_below level key (Growing k) what (Coming b) h t = tt
goes_below level key (Growing k) what (Growing g) h t = tt
goes_below level key (Growing k) what (Ending r) h t = subst (MayReply level) (sym t.1) tt
goes_below level key (Walking w) (seen.Words c) new h t = walks_below level w c new h t
goes_below level key (Editing e) what New h t = tt
goes_below level key (Editing e) what (Coming b) h t = tt
goes_below level key (Editing e) what (Growing g) h t = tt
goes_below level key (Editing e) what (Editing d) h t = h
goes_below level key (Editing e) what (Ending r) h t = subst (MayReply level) (sym t.2) (reply_below level t.0 h)
goes_below level key (Staying x q) seen.Done New h t = tt
goes_below level key (Staying x q) seen.Done (Coming b) h t = tt
goes_below level key (Staying x q) seen.Done (Growing g) h t = tt
goes_below level key (Staying x q) seen.Done (Ending r) h t = subst (MayReply level) (sym t) h
goes_below level key (Ending q) seen.Done New h t = tt
goes_below level key (Ending q) seen.Done (Coming b) h t = tt
goes_below level key (Ending q) seen.Done (Growing g) h t = tt
goes_below level key (Ending q) seen.Done (Over r) h t = subst (MayReply level) (sym t) h
goes_below level key old what new h t = absurd t
