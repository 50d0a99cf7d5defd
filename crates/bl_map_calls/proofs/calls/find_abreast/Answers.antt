use Rattle.std.proofs.Common.{rules, ℕ, ◌≡◌, ◌++◌, ◌-◌, ◌∙◌, List, length, take, drop, refl, sym, ap, subst, append-nil, arith}
use Rattle.std.proofs.lemmas.List.{take-append-drop, drop_all, take_all, length-drop}
use Rattle.bl_model.specs.declared.operation.KeyReply.{KeyReply}
use Rattle.bl_index.specs.Calls.{first_of, pages_of, number_of, trail}
use Rattle.bl_map_calls.specs.Finds.{FindsMany}
use Rattle.bl_map_calls.proofs.Finding.{finds_each, finds_lost, finds_then}
use Rattle.bl_map_calls.proofs.calls.find_abreast.Goals as goal

pub returns-then-found-keys-clause-found : goal.returns-then-found-keys-clause-found
returns-then-found-keys-clause-found g c =
    let count = c.find_many-found.result in
    let left = length c.args.keys.now - count in
    let answered = c.find_many-found.new.replies in
    let rest = length answered - count in
    let found = c.find_many-found.ensures.finds in
    let some = finds_lost _ _ _ _ _ _ _ _ _ _ refl c.patience.ensures (finds_each _ _ _ _ _ _ _ _ _ refl c.patience.ensures found.each) (found.stops (omega arith)) in
    let all = finds_then _ _ _ _ _ _ _ _ _ _ _ c.find_many-found.ensures.same.2 some c.find_each.ensures.found in
    let keys = ap (λ (z : List ℕ). take count c.args.keys.now ++ z) (take_all left (drop count c.args.keys.now) (omega (arith, length-drop count c.args.keys.now))) ∙ take-append-drop count c.args.keys.now in
    let none = drop_all rest (drop count answered) (omega (arith, length-drop count answered)) in
    let replies = ap (λ (z : List KeyReply). take count answered ++ (c.find_each.new.replies ++ z)) none ∙ ap (λ (z : List KeyReply). take count answered ++ z) (append-nil c.find_each.new.replies) in
    subst (λ (z : List ℕ × List KeyReply). FindsMany (first_of c.args.index.now) (pages_of c.args.index.now) (number_of c.args.pass.now) z.0 z.1 (trail c.args.pass.now) (trail c.find_each.new.pass)) (λ i. (keys i, sym replies i)) all

pub returns-else-found-keys-clause-found : goal.returns-else-found-keys-clause-found
returns-else-found-keys-clause-found g c =
    let found = c.find_many-found.ensures.finds in
    let all : c.find_many-found.result ≡ length c.args.keys.now = omega (arith, found.most) in
    let many = finds_each _ _ _ _ _ _ _ _ _ refl c.patience.ensures found.each in
    let keys = take_all c.find_many-found.result c.args.keys.now (omega (arith, all)) in
    let replies = take_all c.find_many-found.result c.find_many-found.new.replies (omega (arith, all, c.find_many-found.ensures.long)) in
    let same = found.all all in
    subst (λ (z : List ℕ × List KeyReply × List _). FindsMany (first_of c.args.index.now) (pages_of c.args.index.now) (number_of c.args.pass.now) z.0 z.1 (trail c.args.pass.now) z.2) (λ i. (keys i, replies i, sym same i)) many
