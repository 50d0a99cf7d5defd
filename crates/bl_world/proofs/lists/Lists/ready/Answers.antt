use Rattle.std.proofs.Common.{◌+◌, arith, sym, ◌∙◌, subst, inl, inr}
use Rattle.std.proofs.lemmas.Bool.{cases_eq, false≢true}
use Rattle.std.proofs.lemmas.Option.{slice_get_within}
use Rattle.bl_world.specs.Views.{view_of}
use Rattle.bl_world.specs.Waits.{IsGoing}
use Rattle.bl_world.proofs.Waiting.{may_go_free}
use Rattle.bl_world.proofs.lists.Lists.ready.Goals as goal

pub returns-then-is_going-clause-goes : goal.returns-then-is_going-clause-goes
returns-then-is_going-clause-goes c =
    let w = view_of c.args.self.now in
    (may_go_free w (c.loop-index.index + 1) c.in_default.ensures.none (c.is_going.ensures.0 c.if-is_going.true), inr c.in_default.ensures.none)

pub loop-index-preserved : goal.loop-index-preserved
loop-index-preserved c = λ n l g. elim (cases_eq n c.loop-index.index) [
  | inr other ↦ c.loop-index.invariant n (omega (arith, l, other)) g
  | inl i ↦ false≢true (sym c.if-is_going.false ∙ c.is_going.ensures.1 (subst (λ z. IsGoing (view_of c.args.self.now) (z + 1)) i g))
]

pub returns-clause-none : goal.returns-clause-none
returns-clause-none c = λ number g.
    let within = slice_get_within c.args.self.now.processes.items g.place g.process g.stood in
    c.loop-index.invariant g.place (omega (arith, within, c.loop-index-test.false, c.len-index-end.ensures)) (subst (IsGoing (view_of c.args.self.now)) g.counts g)
