use Rattle.std.proofs.Common.{◌≡◌, ◌∙◌, ℕ, List, refl, inl, inr, sym, subst, rules}
use Rattle.bl_journal.specs.Logs.{IsLogOf}
use Rattle.bl_outside.proofs.Scenes.{stays, turns}
use Rattle.bl_outside.proofs.tape.TapeOutside.keep.Goals as goal

pub returns-in_default-clause-any_moment : goal.returns-in_default-clause-any_moment
returns-in_default-clause-any_moment c = λ modelled old new held leads. stays c.args.self.now _ _ refl refl refl (refl, inl held)

pub returns-in-Err-clause-any_moment : goal.returns-in-Err-clause-any_moment
returns-in-Err-clause-any_moment c = λ modelled old new held leads.
    let same : c.remember.new.past.items ≡ c.args.self.now.past.items = search rules in
    stays c.args.self.now _ _ same refl refl (refl, inl held)

pub returns-in-Ok-remember-clause-any_moment : goal.returns-in-Ok-remember-clause-any_moment
returns-in-Ok-remember-clause-any_moment c = λ modelled old new held leads.
    let log : c.as_slice.result.now ≡ c.args.self.now.log.items = search rules in
    let is : IsLogOf c.in-Ok.after.items new = c.in-Ok.ensures old new (subst (λ (z : List ℕ). IsLogOf z old) (sym log) held) leads in
    let r = c.in-Ok-remember.ensures.ok in
    let printed : c.deref.result.now ≡ c.args.self.now.printed.items = search rules in
    let was : c.deref-2.result.now ≡ c.args.self.now.log.items = search rules in
    turns c.args.self.now _ r.0 _ r.3 (r.1 ∙ printed) (r.2 ∙ was) (refl, inl held) (refl, inr is)
