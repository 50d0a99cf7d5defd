use Rattle.std.proofs.Common.{◌≡◌, ◌+◌, ◌-◌, ◌++◌, ℕ, List, length, take, drop, subst, length-drop, sym, ◌∙◌, arith}
use Rattle.bl_journal.specs.Records.{Begins, came_in}
use Rattle.std.proofs.lemmas.List.{take_all}
use Rattle.bl_journal.proofs.Told.{HasRead, read_one, read_all, begins_rest}
use Rattle.bl_journal.proofs.reading.told_by.Goals as goal

pub overflow_sub-result : goal.overflow_sub-result
overflow_sub-result c = c.loop-body.invariant.short

pub loop-body-preserved : goal.loop-body-preserved
loop-body-preserved c =
    let body : List ℕ = c.in-Some.body.now in
    let rest : List ℕ = c.loop-body.rest.now in
    let after : List ℕ = c.in-Some.ensures.0 in
    let begins : Begins c.args.salt rest body after = c.in-Some.ensures.1 in
    let more = read_one c.args.salt c.args.words.now rest body after c.loop-body.came.items c.loop-body.went.items c.loop-body.invariant begins in
    let is_rest : take (length rest - (length body + 4)) (drop (length body + 4) rest) ≡ after =
    take_all (length rest - (length body + 4)) (drop (length body + 4) rest) (omega (arith, length-drop (length body + 4) rest)) ∙ begins_rest c.args.salt rest body after begins in
    subst (λ (l : List ℕ). HasRead c.args.salt c.args.words.now l c.take_body.new.came.items c.take_body.new.went.items) (sym is_rest)
    (subst (λ (l : List (ℕ × ℕ)). HasRead c.args.salt c.args.words.now after l c.take_body.new.went.items) (sym c.in_ok-take_body.ensures.came)
    (subst (λ (l : List (ℕ × ℕ)). HasRead c.args.salt c.args.words.now after (c.loop-body.came.items ++ came_in body) l) (sym c.in_ok-take_body.ensures.went) more))

pub returns-clause-tells : goal.returns-clause-tells
returns-clause-tells c = read_all c.args.salt c.args.words.now c.loop-body.rest.now c.loop-body.came.items c.loop-body.went.items c.loop-body.invariant c.in_default.ensures
