use Rattle.std.proofs.Common.{ℕ, List, [], sym, subst}
use Rattle.bl_journal.specs.Records.{Begins, body_words}
use Rattle.bl_journal.proofs.journal.Journal.put.Goals as goal

pub returns-clause-kept : goal.returns-clause-kept
returns-clause-kept g c = λ modelled old new keeps leads.
    let begins : Begins c.args.self.now.salt c.as_slice.result.now (body_words c.args.came.now c.args.went.now) [] =
    subst (λ (l : List ℕ). Begins c.args.self.now.salt l (body_words c.args.came.now c.args.went.now) []) (sym c.as_slice.ensures.value) c.in_ok-record.ensures in
    c.append.ensures.kept modelled old new c.args.came.now c.args.went.now keeps begins leads

pub returns-clause-any_moment : goal.returns-clause-any_moment
returns-clause-any_moment g c = λ modelled old new keeps leads.
    let begins : Begins c.args.self.now.salt c.as_slice.result.now (body_words c.args.came.now c.args.went.now) [] =
    subst (λ (l : List ℕ). Begins c.args.self.now.salt l (body_words c.args.came.now c.args.went.now) []) (sym c.as_slice.ensures.value) c.in_ok-record.ensures in
    c.append.ensures.any_moment modelled old new c.args.came.now c.args.went.now keeps begins leads

pub returns-clause-ends : goal.returns-clause-ends
returns-clause-ends g c = λ modelled.
    let begins : Begins c.args.self.now.salt c.as_slice.result.now (body_words c.args.came.now c.args.went.now) [] =
    subst (λ (l : List ℕ). Begins c.args.self.now.salt l (body_words c.args.came.now c.args.went.now) []) (sym c.as_slice.ensures.value) c.in_ok-record.ensures in
    c.append.ensures.ends modelled c.args.came.now c.args.went.now begins
