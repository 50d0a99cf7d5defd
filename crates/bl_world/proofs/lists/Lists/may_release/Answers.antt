use Rattle.std.proofs.Common.{◌≡◌, Some, None, ap, sym, ◌∙◌}
use Rattle.std.proofs.lemmas.Bool.{false≢true}
use Rattle.bl_world.specs.declared.owners.Owner.TheVariants as own
use Rattle.bl_world.proofs.Arms.{read_at, stood_is}
use Rattle.bl_world.proofs.lists.Lists.may_release.Goals as goal

pub returns-in-Some : goal.returns-in-Some
returns-in-Some c =
    let owners = c.args.self.now.owners.items in
    let there = read_at owners c.args.at c.index.result.now c.requires.within c.index.ensures in (
      λ t. (c.in-Some.place, rw c.as_slice.ensures.value at (c.retirement_seen.ensures.some c.in-Some.place c.in-Some.is), there ∙ ap Some (c.is_owner.ensures.0 t)),
      λ m.
          let same : Some m.0 ≡ Some c.in-Some.place = sym (c.retirement_seen.ensures.only m.0 (rw c.as_slice.ensures.value m.1)) ∙ c.in-Some.is in
          let place : m.0 ≡ c.in-Some.place = cc in
          let is : own.Retired m.0 ≡ c.index.result.now = stood_is owners c.args.at (own.Retired m.0) c.index.result.now m.2 c.index.ensures in
          c.is_owner.ensures.1 (sym is ∙ ap own.Retired place),
    )

pub returns-in-None : goal.returns-in-None
returns-in-None c = (
  λ e. absurd (false≢true e),
  λ m. absurd (let same : None ≡ Some m.0 = sym c.in-None.is ∙ c.retirement_seen.ensures.only m.0 (rw c.as_slice.ensures.value m.1) in cc),
)
