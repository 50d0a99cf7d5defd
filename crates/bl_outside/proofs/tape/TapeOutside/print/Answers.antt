use Rattle.std.proofs.Common.{◌≡◌, ◌∙◌, [], ◌++◌, refl, sym, append-nil, rules}
use Rattle.bl_outside.proofs.Scenes.{stays, turns}
use Rattle.bl_outside.proofs.tape.TapeOutside.print.Goals as goal

pub returns-in_default-clause-any_moment : goal.returns-in_default-clause-any_moment
returns-in_default-clause-any_moment c = λ modelled m held. stays c.args.self.now _ _ refl refl refl (([], c.args.text.now, refl, sym (append-nil c.args.self.now.printed.items)), held)

pub returns-in-Err-clause-any_moment : goal.returns-in-Err-clause-any_moment
returns-in-Err-clause-any_moment c = λ modelled m held.
    let same : c.remember.new.past.items ≡ c.args.self.now.past.items = search rules in
    stays c.args.self.now _ _ same refl refl (([], c.args.text.now, refl, sym (append-nil c.args.self.now.printed.items)), held)

pub returns-in-Ok-remember-clause-any_moment : goal.returns-in-Ok-remember-clause-any_moment
returns-in-Ok-remember-clause-any_moment c = λ modelled m held.
    let all : c.in-Ok.after.items ≡ c.args.self.now.printed.items ++ c.args.text.now = search rules in
    let r = c.in-Ok-remember.ensures.ok in
    let printed : c.deref-2.result.now ≡ c.args.self.now.printed.items = search rules in
    let was : c.deref-3.result.now ≡ c.args.self.now.log.items = search rules in
    turns c.args.self.now _ r.0 _ r.3 (r.1 ∙ printed) (r.2 ∙ was) (([], c.args.text.now, refl, sym (append-nil c.args.self.now.printed.items)), held) ((c.args.text.now, [], sym (append-nil c.args.text.now), all), held)
