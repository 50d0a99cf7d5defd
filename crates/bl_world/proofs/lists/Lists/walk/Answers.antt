use Rattle.std.proofs.Common.{ℕ, ◌≡◌, ◌+◌, arith, refl, sym, ap, subst, inl, inr}
use Rattle.bl_world.specs.Views.{view_of}
use Rattle.bl_world.proofs.Walks.{Comes, has_first, comes_first, comes_within, comes_few, comes_on, comes_here, comes_never}
use Rattle.bl_world.proofs.lists.Lists.walk.Goals as goal
use Rattle.bl_world.proofs.lists.Lists.walk.Goals.{in-Right, in-Down}

pub index-requires : goal.index-requires
index-requires c = (let some = has_first (view_of c.args.self.now) c.args.key c.requires in omega (arith, some))

pub loop-turn-init : goal.loop-turn-init
loop-turn-init c = record { comes = comes_first (view_of c.args.self.now) c.args.key c.index.result.now c.top_page-page.result (omega arith) c.index.ensures (has_first (view_of c.args.self.now) c.args.key c.requires) c.top_page-page.ensures c.requires; count = refl }

pub index-requires-in-loop-turn : goal.index-requires-in-loop-turn
index-requires-in-loop-turn c = (let some = comes_within (view_of c.args.self.now) c.args.key c.loop-turn.page c.loop-turn.gets c.loop-turn.invariant.comes in omega (arith, some))

pub returns-in-Here : goal.returns-in-Here
returns-in-Here c = comes_here (view_of c.args.self.now) c.args.key c.loop-turn.page c.loop-turn.gets c.index-in-loop-turn.result.now c.index-in-loop-turn.ensures c.in-Here.ensures c.loop-turn.invariant.comes

pub unreachable-requires : goal.unreachable-requires
unreachable-requires c = comes_never (view_of c.args.self.now) c.args.key c.loop-turn.page c.loop-turn.gets c.index-in-loop-turn.result.now c.index-in-loop-turn.ensures c.in-Again.ensures c.loop-turn.invariant.comes

pub loop-turn-preserved : goal.loop-turn-preserved
loop-turn-preserved c =
    let inv = c.loop-turn.invariant in
    let v = view_of c.args.self.now in
    let count : c.loop-turn.gets + 1 ≡ c.loop-turn._turn + 1 + 1 = ap (λ (n : ℕ). n + 1) inv.count in
    elim c.match-way_from.branch [
      | in-Right w ↦ record { comes = subst (λ (x : ℕ). ∥ Comes v c.args.key x (c.loop-turn.gets + 1) ∥₁) (sym w.page-is) (comes_on v c.args.key c.loop-turn.page c.loop-turn.gets w.in-Right.next c.index-in-loop-turn.result.now c.index-in-loop-turn.ensures (inl w.in-Right.ensures) inv.comes); count = count }
      | in-Down w ↦ record { comes = subst (λ (x : ℕ). ∥ Comes v c.args.key x (c.loop-turn.gets + 1) ∥₁) (sym w.page-is) (comes_on v c.args.key c.loop-turn.page c.loop-turn.gets w.in-Down.next c.index-in-loop-turn.result.now c.index-in-loop-turn.ensures (inr w.in-Down.ensures) inv.comes); count = count }
    ]

pub unreachable-requires-2 : goal.unreachable-requires-2
unreachable-requires-2 c = (let few = comes_few (view_of c.args.self.now) c.args.key c.loop-turn.page c.loop-turn.gets c.loop-turn.invariant.comes in let count = c.loop-turn.invariant.count in omega (arith, few, count))
