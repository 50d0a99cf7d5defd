use Rattle.std.proofs.Common.{rules, ◌≡◌, ℕ, sym, ap, refl, subst, ◌∙◌, false, inr, arith}
use Rattle.std.proofs.lemmas.Bool.{false≢true}
use Rattle.bl_store_rule.specs.Pages.{Releases}
use Rattle.bl_store.specs.Hands.{known}
use Rattle.bl_store_rule.proofs.Sweeping.{counts_on}
use Rattle.bl_store.proofs.store.Store.sweep_owners.Goals as goal
use Rattle.bl_store.proofs.store.Store.sweep_owners.Goals.{then-state-eq3-2+then-state-oldest+then-release, then-state-eq3-2+then-state-oldest+else-release, else-state-eq3-2}

pub release-requires-clause-rule : goal.release-requires-clause-rule
release-requires-clause-rule g c = let inv = c.loop-i-2.invariant in let number : c.args.hand.now.number ≡ c.loop-i-2.hand.number = c.args.hand.now.own.0 ∙ (sym inv.same.0.2 ∙ sym c.loop-i-2.hand.own.0) in
    λ x time. subst (λ (z : ℕ). Releases g.R.PageRule.holds c.args.self.now.layout z c.loop-i-2.hand.seat.me.0.known x time (g.M.SweepPlay.then c.loop-i-2.hand.seat.me.0.known 1)) number (c.requires.rule.2 c.loop-i-2.hand.seat.me.0.known inv.observed.0 x time inv.observed.2)

pub loop-i-2-preserved : goal.loop-i-2-preserved
loop-i-2-preserved g c = let inv = c.loop-i-2.invariant in elim c.if-state-eq3-2.branch [
  | then-state-eq3-2+then-state-oldest+then-release w ↦ record {
    same = search rules;
    observed = counts_on g.M.SweepPlay.then _ (known c.loop-i-2.hand.seat) (known w.release.new.hand.seat) _ w.release.result c.loop-i-2.released _ c.requires.rule.1 (ap (λ z. known z.seat) w.hand-is) (omega arith) (λ e. omega arith) inv.observed w.release.ensures.observed;
    swept = search rules;
    count = search rules;
    few = search rules;
  }
  | then-state-eq3-2+then-state-oldest+else-release w ↦ record {
    same = search rules;
    observed = counts_on g.M.SweepPlay.then _ (known c.loop-i-2.hand.seat) (known w.release.new.hand.seat) _ w.release.result c.loop-i-2.released _ c.requires.rule.1 (ap (λ z. known z.seat) w.hand-is) (omega arith) (λ e. absurd (let f = w.if-release.false in cc)) inv.observed w.release.ensures.observed;
    swept = search rules;
    count = search rules;
    few = search rules;
  }
  | else-state-eq3-2 w ↦ record {
    same = search rules;
    observed = counts_on g.M.SweepPlay.then _ (known c.loop-i-2.hand.seat) (known c.loop-i-2.hand.seat) _ false c.loop-i-2.released _ c.requires.rule.1 (ap (λ z. known z.seat) w.hand-is) (omega arith) (λ e. absurd (false≢true e)) inv.observed (inr refl);
    swept = search rules;
    count = search rules;
    few = search rules;
  }
]
