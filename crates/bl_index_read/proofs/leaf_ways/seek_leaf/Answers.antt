use Rattle.std.proofs.Common.{rules, ℕ, refl, subst, ap, ◌+◌, ◌≡◌, ◌≤◌, ◌∙◌, None, arith}
use Rattle.bl_store.specs.Hands.{known}
use Rattle.bl_index_read.specs.Turns.{IsAtTurn}
use Rattle.bl_index_events.proofs.Calls.{since_step, own_looks}
use Rattle.bl_index_events.proofs.Silent.{gives_up}
use Rattle.bl_index_read.proofs.Ways.{going_under_way, going_is_search, ending_is_search, going_may_give_up, going_looks}
use Rattle.bl_index_read.proofs.Paces.{at_step, at_last, at_end}
use Rattle.bl_index_read.proofs.leaf_ways.seek_leaf.Goals as goal

pub loop-turn-init : goal.loop-turn-init
loop-turn-init c =
    record {
      same = search rules;
      running = search rules;
      process = c.requires.runs.on;
      since = λ old pass s. s;
      turn = λ old pass got s t. subst (λ (z : ℕ). IsAtTurn c.args.tree.now.store.layout.pages pass (old.number + 1) z (known c.args.hand.now.seat).trail) (let z : got ≡ got + 0 = omega arith in z) t;
    }

pub loop-turn-preserved : goal.loop-turn-preserved
loop-turn-preserved c =
    let inv = c.loop-turn.invariant in
    let went = c.in-Further.ensures.got in
    let process = c.in-Further.ensures.reached in
    record {
      same = search rules;
      running = search rules;
      process = process;
      since = λ old pass s. since_step _ _ _ _ _ (inv.since old pass s) went;
      turn = λ old pass got s t.
          let on = inv.since old pass s in
          subst (λ (z : ℕ). IsAtTurn c.args.tree.now.store.layout.pages pass (old.number + 1) z (known c.go_on.new.hand.seat).trail) (let z : got + c.loop-turn._turn + 1 ≡ got + (c.loop-turn._turn + 1) = omega arith in z)
          (at_step _ _ _ _ _ on.named on.number (inv.turn old pass got s t) _ _ process.pages went (going_is_search c.args.sought c.args.key c.in-Further.next _ process.state) (going_under_way c.args.sought c.args.key c.in-Further.next _ process.state));
    }

pub returns-in-Leaf-clause-came : goal.returns-in-Leaf-clause-came
returns-in-Leaf-clause-came c = λ old pass got s t.
    let inv = c.loop-turn.invariant in
    let on = inv.since old pass s in
    let went = c.in-Leaf.ensures.got in
    let at = c.in-Leaf.ensures.reached in
    record {
      running = search rules;
      reads = at.0;
      leaf = at.1;
      process = at.2;
      since = since_step _ _ _ _ _ on went;
      last = at_last _ _ _ _ _ on.named on.number (inv.turn old pass got s t) _ _ at.2.pages went (ending_is_search c.args.sought c.args.key at.1.page _ at.1.ends) (got + c.args.turns) (let le : got + c.loop-turn._turn + 1 ≤ got + c.args.turns = omega arith in le);
    }

pub give_up-requires-clause-may : goal.give_up-requires-clause-may
give_up-requires-clause-may c = going_may_give_up c.args.sought c.args.key c.loop-turn.way _ c.loop-turn.invariant.process.state

pub returns-clause-came : goal.returns-clause-came
returns-clause-came c = λ old pass got s t.
    let inv = c.loop-turn.invariant in
    let on = inv.since old pass s in
    let observed = c.give_up.ensures.observed in
    let end = at_end _ _ _ _ _ on.named on.number (inv.turn old pass got s t) None _ observed in
    let all : c.loop-turn._turn ≡ c.args.turns = omega arith in
    record {
      idle = c.give_up.ensures.idle;
      within = c.give_up.ensures.within;
      rests = observed.runs;
      first = observed.notes.first ∙ on.beginning;
      seen = observed.notes.seen;
      out = record {
        adds = gives_up _ _ _ _ _ refl on (going_may_give_up c.args.sought c.args.key c.loop-turn.way _ inv.process.state) observed;
        bounded = end.0;
        gets = end.1 ∙ ap (λ (z : ℕ). got + z) all;
        below = end.2;
        looks = own_looks _ _ _ _ on (going_looks c.args.sought c.args.key c.loop-turn.way _ _ inv.process.state c.give_up.ensures.tidy c.give_up.ensures.leaves);
      };
    }
