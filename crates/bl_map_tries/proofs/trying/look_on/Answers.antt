use Rattle.std.proofs.Common.{ℕ, ◌≡◌, ◌<◌, ◌≤◌, ◌+◌, ◌∙◌, subst, arith}
use Rattle.std.specs.Prelude.{◌⊎◌}
use Rattle.bl_index.specs.Calls.{pages_of}
use Rattle.bl_map_tries.proofs.GoingOn.{reached}
use Rattle.bl_map_tries.proofs.trying.look_on.Goals as goal

pub returns-clause-refused : goal.returns-clause-refused
returns-clause-refused c = let out = c.set_out-to.ensures.refused in let some = c.mend_some.ensures.kept.0 in let end = c.come_to_end.ensures.kept.0 in omega (arith, out, some, end)

pub returns-clause-walks : goal.returns-clause-walks
returns-clause-walks c = λ is.
    let out = c.set_out-to.ensures in let some = c.mend_some.ensures in let end = c.come_to_end.ensures in
    let pages = pages_of c.args.index.now in let new = c.come_to_end.new.self.next in
    let far = reached pages c.set_out-to.new.self.next c.set_out-to.result c.mend_some.new.walk.next new out.most.0 out.most.1 out.some some.on.0 some.on.1 (some.whole is) end.goes end.over in
    record {
      reached = subst (λ (z : ℕ). ((z < new) × (new < pages) × (new ≤ z + 4096)) ⊎ ((new ≡ 0) × (pages ≤ z + 4096))) out.next far;
      begun = λ none. end.kept.1 ∙ (some.kept.1 ∙ out.begun none);
      goes = λ on. end.kept.1 ∙ (some.kept.1 ∙ out.goes on);
      refused = (let first = out.refused in let then = some.kept.0 in let last = end.kept.0 in omega (arith, first, then, last));
    }
