use Rattle.std.proofs.Common.{◌≡◌, ◌+◌, Some, None, length, sym, ◌∙◌, refl, subst}
use Rattle.bl_world.specs.Turns.{IsToRelease}
use Rattle.bl_world.specs.Retirements.{HasSeen}
use Rattle.bl_world.proofs.Arms.{stood_is}
use Rattle.bl_world.proofs.Near.{release_only}
use Rattle.bl_world.proofs.lists.Lists.retired_for.Goals as goal

pub returns-in-Reclaim-clause-some : goal.returns-in-Reclaim-clause-some
returns-in-Reclaim-clause-some c = λ p k stood e.
    let is : p ≡ c.index.result.now = stood_is c.args.self.now.processes.items c.args.index p c.index.result.now stood c.index.ensures in
    let of_page : IsToRelease p c.in-Reclaim.reclaim.page = rw (is, c.in-Reclaim.is) refl in
    (c.in-Reclaim.reclaim.page, of_page, rw c.as_slice.ensures.value at (c.retirement_seen.ensures.some k e))

pub returns-in-Reclaim-clause-none : goal.returns-in-Reclaim-clause-none
returns-in-Reclaim-clause-none c = λ p x k stood none of_page has.
    let is : p ≡ c.index.result.now = stood_is c.args.self.now.processes.items c.args.index p c.index.result.now stood c.index.ensures in
    let page : c.in-Reclaim.reclaim.page ≡ x = rw (is, c.in-Reclaim.is) at of_page in
    let there : HasSeen c.args.self.now.events.items (c.args.index + 1) c.in-Reclaim.reclaim.page k (length c.args.self.now.events.items) = subst (λ z. HasSeen c.args.self.now.events.items (c.args.index + 1) z k (length c.args.self.now.events.items)) (sym page) has in
    let same : None ≡ Some k = sym none ∙ c.retirement_seen.ensures.only k (rw c.as_slice.ensures.value there) in
    cc

pub returns-in_default : goal.returns-in_default
returns-in_default c = record {
  some = λ p k stood e. absurd (let f : None ≡ Some k = e in cc);
  none = λ p x k stood e of_page has.
      let is : p ≡ c.index.result.now = stood_is c.args.self.now.processes.items c.args.index p c.index.result.now stood c.index.ensures in
      let q = release_only p x of_page in
      c.in_default.not-Reclaim q.0 (sym is ∙ q.1);
}
