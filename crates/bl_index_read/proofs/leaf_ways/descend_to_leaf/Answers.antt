use Rattle.std.proofs.Common.{rules, ℕ, subst, ◌+◌, ◌-◌, ◌≡◌, ◌≤◌, arith}
use Rattle.bl_index_read.specs.LeafWays.{HasGivenUp, HasLeaf}
use Rattle.bl_index_events.proofs.Calls.{since_step}
use Rattle.bl_index_read.proofs.Ways.{going_under_way, going_is_search, ending_is_search}
use Rattle.bl_index_read.proofs.Setting.{none_given}
use Rattle.bl_index_read.proofs.Paces.{at_step, at_last}
use Rattle.bl_index_read.proofs.leaf_ways.descend_to_leaf.Goals as goal

pub returns-in_err-glance-clause-came : goal.returns-in_err-glance-clause-came
returns-in_err-glance-clause-came c =
    λ old pass off.
    let l = c.args.tree.now.store.layout in
    let came = c.in_err-glance.ensures.came old pass 0 off.since off.turn in
    none_given _ c.from_residual.result c.from_residual.ensures (subst (λ (z : ℕ). HasGivenUp l pass z old c.seek_leaf.new.hand.seat) (let z : 0 + 0 ≡ c.args.turns = omega (arith, c.if-turns-eq0.true) in z) came)

pub returns-then-turns-eq0-clause-came : goal.returns-then-turns-eq0-clause-came
returns-then-turns-eq0-clause-came c =
    λ old pass off.
    let l = c.args.tree.now.store.layout in
    subst (λ (z : ℕ). HasLeaf l pass c.args.sought c.args.key z old c.seek_leaf.new.hand.seat c.in_ok-glance.glance) (let z : 0 + 0 ≡ c.args.turns = omega (arith, c.if-turns-eq0.true) in z) (c.in_ok-glance.ensures.came old pass 0 off.since off.turn)

pub returns-in_err-glance-in-Further-clause-came : goal.returns-in_err-glance-in-Further-clause-came
returns-in_err-glance-in-Further-clause-came c =
    λ old pass off.
    let l = c.args.tree.now.store.layout in
    let went = c.in-Further.ensures.got in
    let process = c.in-Further.ensures.reached in
    let since = since_step _ _ _ _ _ off.since went in
    let turn = at_step _ _ _ _ _ off.since.named off.since.number off.turn _ _ process.pages went (going_is_search c.args.sought c.args.key c.in-Further.next _ process.state) (going_under_way c.args.sought c.args.key c.in-Further.next _ process.state) in
    let came = c.in_err-glance-in-Further.ensures.came old pass 1 since turn in
    none_given _ c.from_residual-in_err-glance-in-Further.result c.from_residual-in_err-glance-in-Further.ensures (subst (λ (z : ℕ). HasGivenUp l pass z old c.seek_leaf-in-Further.new.hand.seat) (let z : 1 + (c.args.turns - 1) ≡ c.args.turns = omega (arith, c.if-turns-eq0.false) in z) came)

pub returns-in_ok-glance-in-Further-clause-came : goal.returns-in_ok-glance-in-Further-clause-came
returns-in_ok-glance-in-Further-clause-came c =
    λ old pass off.
    let l = c.args.tree.now.store.layout in
    let went = c.in-Further.ensures.got in
    let process = c.in-Further.ensures.reached in
    let since = since_step _ _ _ _ _ off.since went in
    let turn = at_step _ _ _ _ _ off.since.named off.since.number off.turn _ _ process.pages went (going_is_search c.args.sought c.args.key c.in-Further.next _ process.state) (going_under_way c.args.sought c.args.key c.in-Further.next _ process.state) in
    subst (λ (z : ℕ). HasLeaf l pass c.args.sought c.args.key z old c.seek_leaf-in-Further.new.hand.seat c.in_ok-glance-in-Further.glance) (let z : 1 + (c.args.turns - 1) ≡ c.args.turns = omega (arith, c.if-turns-eq0.false) in z) (c.in_ok-glance-in-Further.ensures.came old pass 1 since turn)

pub returns-in-Leaf-clause-came : goal.returns-in-Leaf-clause-came
returns-in-Leaf-clause-came c =
    λ old pass off.
    let went = c.in-Leaf.ensures.got in
    let at = c.in-Leaf.ensures.reached in
    record {
      running = search rules;
      reads = at.0;
      leaf = at.1;
      process = at.2;
      since = since_step _ _ _ _ _ off.since went;
      last = at_last _ _ _ _ _ off.since.named off.since.number off.turn _ _ at.2.pages went (ending_is_search c.args.sought c.args.key at.1.page _ at.1.ends) c.args.turns (let le : 0 + 1 ≤ c.args.turns = omega (arith, c.if-turns-eq0.false) in le);
    }

pub returns-then-turns-eq0-clause-reads : goal.returns-then-turns-eq0-clause-reads
returns-then-turns-eq0-clause-reads c = let off = c.requires.off.2 in
    let has = c.in_ok-glance.ensures.came c.requires.off.0 c.requires.off.1 0 off.since off.turn in (has.reads, record { own = search rules; running = has.running; on = has.process })

pub returns-in_ok-glance-in-Further-clause-reads : goal.returns-in_ok-glance-in-Further-clause-reads
returns-in_ok-glance-in-Further-clause-reads c = let off = c.requires.off.2 in let old = c.requires.off.0 in let pass = c.requires.off.1 in
    let went = c.in-Further.ensures.got in
    let process = c.in-Further.ensures.reached in
    let since = since_step _ _ _ _ _ off.since went in
    let turn = at_step _ _ _ _ _ off.since.named off.since.number off.turn _ _ process.pages went (going_is_search c.args.sought c.args.key c.in-Further.next _ process.state) (going_under_way c.args.sought c.args.key c.in-Further.next _ process.state) in
    let has = c.in_ok-glance-in-Further.ensures.came old pass 1 since turn in (has.reads, record { own = search rules; running = has.running; on = has.process })
