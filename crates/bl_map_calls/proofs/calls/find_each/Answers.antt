use Rattle.std.proofs.Common.{rules, ℕ, ◌∙◌, List, sym, subst, arith}
use Rattle.std.proofs.lemmas.List.{take_more, take_more_set, length-set, take_all}
use Rattle.bl_model.specs.declared.operation.KeyReply.{KeyReply}
use Rattle.bl_index.specs.Calls.{first_of, pages_of, number_of, trail}
use Rattle.bl_map_calls.specs.Finds.{FindsMany}
use Rattle.bl_map_calls.proofs.Finding.{finds_none, finds_one_more}
use Rattle.bl_map_calls.proofs.calls.find_each.Goals as goal

pub loop-i-init : goal.loop-i-init
loop-i-init g c = record { same = search rules; long = search rules; found = finds_none _ _ _ _ }

pub loop-i-preserved : goal.loop-i-preserved
loop-i-preserved g c =
    let inv = c.loop-i.invariant in
    let keys = take_more c.args.keys.now c.loop-i.i 0 (omega arith) in
    let replies = take_more_set c.loop-i.replies c.loop-i.i c.find.result (omega (arith, inv.long)) in
    record {
      same = search rules;
      long = length-set c.loop-i.replies c.loop-i.i c.find.result ∙ inv.long;
      found = subst (λ (z : List ℕ × List KeyReply). FindsMany (first_of c.args.index.now) (pages_of c.args.index.now) (number_of c.args.pass.now) z.0 z.1 (trail c.args.pass.now) (trail c.find.new.pass)) (λ i. (sym keys i, sym replies i))
          (finds_one_more _ _ _ _ _ _ _ _ _ _ _ inv.same.2 inv.found c.find.ensures.works c.find.ensures.searched);
    }

pub returns-clause-found : goal.returns-clause-found
returns-clause-found g c =
    let inv = c.loop-i.invariant in
    let keys = take_all c.loop-i.i c.args.keys.now (omega arith) in
    let replies = take_all c.loop-i.i c.loop-i.replies (omega (arith, inv.long)) in
    subst (λ (z : List ℕ × List KeyReply). FindsMany (first_of c.args.index.now) (pages_of c.args.index.now) (number_of c.args.pass.now) z.0 z.1 (trail c.args.pass.now) (trail c.loop-i.pass)) (λ i. (keys i, replies i)) inv.found
