use Rattle.std.proofs.Common.{◌≡◌, Some, slice_get, arith, ap, sym, ◌∙◌, inl, inr}
use Rattle.std.proofs.lemmas.Bool.{cases_eq}
use Rattle.std.proofs.lemmas.Option.{slice_get_within}
use Rattle.bl_world.specs.declared.owners.Owner.TheVariants as own
use Rattle.bl_world.specs.Views.{view_of}
use Rattle.bl_world.proofs.Arms.{read_at}
use Rattle.bl_world.proofs.Waiting.{holder_first, holder_within, holder_going, may_go, does_wait, none_held}
use Rattle.bl_world.proofs.lists.Lists.ready_holder.Goals as goal
use Rattle.bl_world.proofs.lists.Lists.ready_holder.Goals.{in-Held+else-not-is_waiting, in_default}

pub overflow_sub-number : goal.overflow_sub-number
overflow_sub-number c =
    let w = c.args.self.now in
    let there : slice_get w.owners.items c.loop-at.at ≡ Some (own.Held c.in-Held.number) = read_at w.owners.items c.loop-at.at c.index.result.now (omega (arith, c.loop-at-test.true, c.len-at-end.ensures)) c.index.ensures ∙ ap Some c.in-Held.is in
    let first = holder_first (view_of w) c.requires c.loop-at.at c.in-Held.number there in
    omega (arith, first)

pub is_waiting-requires-clause-started : goal.is_waiting-requires-clause-started
is_waiting-requires-clause-started c =
    let w = c.args.self.now in
    let there : slice_get w.owners.items c.loop-at.at ≡ Some (own.Held c.in-Held.number) = read_at w.owners.items c.loop-at.at c.index.result.now (omega (arith, c.loop-at-test.true, c.len-at-end.ensures)) c.index.ensures ∙ ap Some c.in-Held.is in
    holder_within (view_of w) c.requires c.loop-at.at c.in-Held.number there

pub is_waiting-requires-clause-going : goal.is_waiting-requires-clause-going
is_waiting-requires-clause-going c = λ p stood.
    let w = c.args.self.now in
    let there : slice_get w.owners.items c.loop-at.at ≡ Some (own.Held c.in-Held.number) = read_at w.owners.items c.loop-at.at c.index.result.now (omega (arith, c.loop-at-test.true, c.len-at-end.ensures)) c.index.ensures ∙ ap Some c.in-Held.is in
    holder_going (view_of w) c.requires c.loop-at.at c.in-Held.number p there stood

pub returns-then-not-is_waiting-clause-some : goal.returns-then-not-is_waiting-clause-some
returns-then-not-is_waiting-clause-some c =
    let w = c.args.self.now in
    let there : slice_get w.owners.items c.loop-at.at ≡ Some (own.Held c.in-Held.number) = read_at w.owners.items c.loop-at.at c.index.result.now (omega (arith, c.loop-at-test.true, c.len-at-end.ensures)) c.index.ensures ∙ ap Some c.in-Held.is in
    (may_go (view_of w) c.requires c.loop-at.at c.in-Held.number c.is_waiting.result there c.is_waiting.ensures.1 c.if-not-is_waiting.true, (c.loop-at.at, there))

pub loop-at-preserved : goal.loop-at-preserved
loop-at-preserved c = λ x number l e.
    let w = c.args.self.now in
    elim (cases_eq x c.loop-at.at) [
      | inr n ↦ c.loop-at.invariant x number (omega (arith, l, n)) e
      | inl i ↦
          let here : slice_get w.owners.items c.loop-at.at ≡ Some c.index.result.now = read_at w.owners.items c.loop-at.at c.index.result.now (omega (arith, c.loop-at-test.true, c.len-at-end.ensures)) c.index.ensures in
          let same : Some c.index.result.now ≡ Some (own.Held number) = sym here ∙ (ap (slice_get w.owners.items) (sym i) ∙ e) in
          let is : c.index.result.now ≡ own.Held number = cc in
          elim c.match-index.branch [
            | in-Held+else-not-is_waiting w2 ↦
                let one : own.Held w2.in-Held.number ≡ own.Held number = sym w2.in-Held.is ∙ is in
                let numbers : w2.in-Held.number ≡ number = cc in
                let there : slice_get w.owners.items c.loop-at.at ≡ Some (own.Held w2.in-Held.number) = here ∙ ap Some w2.in-Held.is in
                let waits = does_wait (view_of w) c.requires c.loop-at.at w2.in-Held.number there (w2.is_waiting.ensures.0 w2.if-not-is_waiting.false) in
                rw (← numbers) waits
            | in_default w2 ↦ absurd (w2.in_default.not-Held number is)
          ]
    ]

pub returns-clause-none : goal.returns-clause-none
returns-clause-none c = none_held (view_of c.args.self.now) c.requires (λ y other e.
    (let within = slice_get_within c.args.self.now.owners.items y (own.Held other) e in c.loop-at.invariant y other (omega (arith, within, c.loop-at-test.false, c.len-at-end.ensures)) e))
