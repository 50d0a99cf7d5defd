use Rattle.std.proofs.Common.{rules, ℕ, ◌≡◌, ◌+◌, ◌-◌, ◌*◌, ◌≤◌, ◌∙◌, List, length, refl, sym, ap, subst, arith}
use Rattle.std.proofs.lemmas.List.{take_all}
use Rattle.bl_model.specs.declared.operation.KeyReply.{KeyReply}
use Rattle.bl_index.specs.Calls.{first_of, pages_of, number_of, trail}
use Rattle.bl_map_calls.specs.Finds.{FindsMany}
use Rattle.bl_map_calls.proofs.Finding.{finds_none, finds_then}
use Rattle.bl_map_calls.proofs.Groups.{part_long, part_on, part_anew, long_anew}
use Rattle.bl_map_calls.proofs.calls.find_many.Goals as goal

pub loop-group-init : goal.loop-group-init
loop-group-init g c = record { same = search rules; long = search rules; found = finds_none _ _ _ _ }

pub loop-group-preserved : goal.loop-group-preserved
loop-group-preserved g c =
    let inv = c.loop-group.invariant in
    let from = c.loop-group.group * 8 in
    let to = c.min-to.result in
    let found = c.find_abreast.ensures.found in
    let many : length c.find_abreast.new.replies ≡ to - from = found.each ∙ part_long c.args.keys.now from to (omega arith) (omega arith) in
    let within : from + (to - from) ≤ length c.loop-group.replies = omega (arith, inv.long) in
    let long = long_anew c.loop-group.replies c.find_abreast.new.replies from (to - from) within many in
    let keys = part_on c.args.keys.now from to ((c.loop-group.group + 1) * 8) (omega arith) (omega arith) in
    let replies = part_anew c.loop-group.replies c.find_abreast.new.replies _ from to ((c.loop-group.group + 1) * 8) (omega arith) (omega (arith, inv.long)) many long in
    record {
      same = search rules;
      long = long ∙ inv.long;
      found = subst (λ (z : List ℕ × List KeyReply). FindsMany (first_of c.args.index.now) (pages_of c.args.index.now) (number_of c.args.pass.now) z.0 z.1 (trail c.args.pass.now) (trail c.find_abreast.new.pass)) (λ i. (sym keys i, sym replies i))
          (finds_then _ _ _ _ _ _ _ _ _ _ _ inv.same.2 inv.found found);
    }

pub returns-clause-found : goal.returns-clause-found
returns-clause-found g c =
    let inv = c.loop-group.invariant in
    let keys = take_all (c.loop-group.group * 8) c.args.keys.now (omega arith) in
    let replies = take_all (c.loop-group.group * 8) c.loop-group.replies (omega (arith, inv.long)) in
    subst (λ (z : List ℕ × List KeyReply). FindsMany (first_of c.args.index.now) (pages_of c.args.index.now) (number_of c.args.pass.now) z.0 z.1 (trail c.args.pass.now) (trail c.loop-group.pass)) (λ i. (keys i, replies i)) inv.found
