use Rattle.std.proofs.Common.{rules, ℕ, refl, subst, ◌+◌, ◌≡◌, ◌≤◌, ◌∙◌, None, arith}
use Rattle.bl_store.specs.Hands.{known}
use Rattle.bl_index_read.specs.Turns.{IsAtTurn}
use Rattle.bl_index_events.proofs.Calls.{since_step, own_looks}
use Rattle.bl_index_events.proofs.Silent.{gives_up}
use Rattle.bl_index_read.proofs.Ways.{going_under_way, going_is_search, ending_is_search, going_may_give_up, going_looks}
use Rattle.bl_index_read.proofs.Paces.{at_step, at_last, at_end}
use Rattle.bl_index_read.proofs.Keeping.{still_itself, still_on, kept_leaf}
use Rattle.bl_index_read.proofs.leaf_ways.descend_to_page.Goals as goal

pub loop-got-init : goal.loop-got-init
loop-got-init c =
    record {
      same = search rules;
      running = c.requires.off.2.runs.running;
      process = c.requires.off.2.runs.on;
      still = still_itself c.args.hand.now.seat;
      since = λ old pass s. s;
      turn = λ old pass got s t. subst (λ (z : ℕ). IsAtTurn c.args.tree.now.store.layout.pages pass (old.number + 1) z (known c.args.hand.now.seat).trail) (let z : got ≡ got + 0 = omega arith in z) t;
    }

pub loop-got-preserved : goal.loop-got-preserved
loop-got-preserved c =
    let inv = c.loop-got.invariant in
    let went = c.in-Further.ensures.got.2.0 in
    let process = c.in-Further.ensures.reached in
    record {
      same = search rules;
      running = search rules;
      process = process;
      still = still_on c.args.hand.now.seat c.loop-got.hand.seat c.go_on_keeping.new.hand.seat inv.still c.in-Further.ensures.still;
      since = λ old pass s. since_step _ _ _ _ _ (inv.since old pass s) went;
      turn = λ old pass got s t.
          let on = inv.since old pass s in
          subst (λ (z : ℕ). IsAtTurn c.args.tree.now.store.layout.pages pass (old.number + 1) z (known c.go_on_keeping.new.hand.seat).trail) (let z : got + c.loop-got._got + 1 ≡ got + (c.loop-got._got + 1) = omega arith in z)
          (at_step _ _ _ _ _ on.named on.number (inv.turn old pass got s t) _ _ process.pages went (going_is_search c.args.sought c.args.key c.in-Further.next _ process.state) (going_under_way c.args.sought c.args.key c.in-Further.next _ process.state));
    }

pub returns-in-Leaf-clause-reads : goal.returns-in-Leaf-clause-reads
returns-in-Leaf-clause-reads c = let at = c.in-Leaf.ensures.reached in (at.0, record { own = search rules; running = search rules; on = at.2 })

pub returns-in-Leaf-clause-still : goal.returns-in-Leaf-clause-still
returns-in-Leaf-clause-still c = still_on c.args.hand.now.seat c.loop-got.hand.seat c.go_on_keeping.new.hand.seat c.loop-got.invariant.still c.in-Leaf.ensures.still

pub returns-in-Leaf-clause-came : goal.returns-in-Leaf-clause-came
returns-in-Leaf-clause-came c = λ old pass off.
    let inv = c.loop-got.invariant in
    let on = inv.since old pass off.since in
    let got = c.in-Leaf.ensures.got in
    let went = got.2.0 in
    let at = c.in-Leaf.ensures.reached in
    let l = c.args.tree.now.store.layout in (
      record {
        running = search rules;
        reads = at.0;
        leaf = at.1;
        process = at.2;
        since = since_step _ _ _ _ _ on went;
        last = at_last _ _ _ _ _ on.named on.number (inv.turn old pass 0 off.since off.turn) _ _ at.2.pages went (ending_is_search c.args.sought c.args.key at.1.page _ at.1.ends) c.args.turns (let le : 0 + c.loop-got._got + 1 ≤ c.args.turns = omega arith in le);
      },
      rw c.page-page.ensures (kept_leaf l pass c.args.sought c.args.key c.loop-got.way old _ c.go_on_keeping.new.hand.seat c.in-Leaf.glance on inv.process got.0 got.1 went got.2.1 c.in-Leaf.ensures.keeps),
    )

pub give_up-requires-clause-may : goal.give_up-requires-clause-may
give_up-requires-clause-may c = going_may_give_up c.args.sought c.args.key c.loop-got.way _ c.loop-got.invariant.process.state

pub returns-clause-came : goal.returns-clause-came
returns-clause-came c = λ old pass off.
    let inv = c.loop-got.invariant in
    let on = inv.since old pass off.since in
    let observed = c.give_up.ensures.observed in
    let end = at_end _ _ _ _ _ on.named on.number (inv.turn old pass 0 off.since off.turn) None _ observed in
    let all : 0 + c.loop-got._got ≡ c.args.turns = omega arith in
    record {
      idle = c.give_up.ensures.idle;
      within = c.give_up.ensures.within;
      rests = observed.runs;
      first = observed.notes.first ∙ on.beginning;
      seen = observed.notes.seen;
      out = record {
        adds = gives_up _ _ _ _ _ refl on (going_may_give_up c.args.sought c.args.key c.loop-got.way _ inv.process.state) observed;
        bounded = end.0;
        gets = end.1 ∙ all;
        below = end.2;
        looks = own_looks _ _ _ _ on (going_looks c.args.sought c.args.key c.loop-got.way _ _ inv.process.state c.give_up.ensures.tidy c.give_up.ensures.leaves);
      };
    }
