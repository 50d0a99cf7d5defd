use Rattle.std.proofs.Common.{◌⊎◌, inl, inr, ⊎_elim, ℕ, List, [], sym, ◌∙◌, subst}
use Rattle.bl_journal.specs.Rows.{IsLeft}
use Rattle.bl_journal.specs.Logs.{IsLogOf}
use Rattle.bl_journal.proofs.Moments.{leaves_less, leaves_then}
use Rattle.bl_journal.proofs.Keeping.{leaves_log}
use Rattle.bl_journal.proofs.journal.Journal.change_anew.Goals as goal

pub returns-in_err-rows-clause-any_moment : goal.returns-in_err-rows-clause-any_moment
returns-in_err-rows-clause-any_moment g c = λ modelled old new keeps leads.
    leaves_less g.D.Device.moment g.D.Device.leaves c.args.self.now.device c.read.new.device _ (λ (f : List ℕ). IsLogOf f old ⊎ IsLogOf f new) (c.read.ensures.any_moment modelled)
    (λ f was. inl (leaves_log g.D.Device.seen g.D.Device.moment g.D.Device.leaves old c.args.self.now keeps f was))

pub returns-in_err-after-clause-any_moment : goal.returns-in_err-after-clause-any_moment
returns-in_err-after-clause-any_moment g c = λ modelled old new keeps leads.
    leaves_less g.D.Device.moment g.D.Device.leaves c.args.self.now.device c.read.new.device _ (λ (f : List ℕ). IsLogOf f old ⊎ IsLogOf f new) (c.read.ensures.any_moment modelled)
    (λ f was. inl (leaves_log g.D.Device.seen g.D.Device.moment g.D.Device.leaves old c.args.self.now keeps f was))

pub returns-clause-kept : goal.returns-clause-kept
returns-clause-kept g c = λ modelled old new keeps leads.
    let left_old = c.in_ok-rows.ensures.left modelled old keeps.log in
    let left_new = c.in_ok-after.ensures old new left_old leads in
    let left : IsLeft c.as_slice.result.now [] new = subst (λ (l : List (ℕ × ℕ)). IsLeft l [] new) (sym c.as_slice.ensures.value) left_new in
    c.begin_anew.ensures.kept (c.read.ensures.same modelled) new left

pub returns-clause-any_moment : goal.returns-clause-any_moment
returns-clause-any_moment g c = λ modelled old new keeps leads.
    let left_old = c.in_ok-rows.ensures.left modelled old keeps.log in
    let left_new = c.in_ok-after.ensures old new left_old leads in
    let left : IsLeft c.as_slice.result.now [] new = subst (λ (l : List (ℕ × ℕ)). IsLeft l [] new) (sym c.as_slice.ensures.value) left_new in
    let P = λ (f : List ℕ). IsLogOf f old ⊎ IsLogOf f new in
    let read = leaves_less g.D.Device.moment g.D.Device.leaves c.args.self.now.device c.read.new.device _ P (c.read.ensures.any_moment modelled)
    (λ f was. inl (leaves_log g.D.Device.seen g.D.Device.moment g.D.Device.leaves old c.args.self.now keeps f was)) in
    let anew = leaves_less g.D.Device.moment g.D.Device.leaves c.read.new.device c.begin_anew.new.self.device _ P (c.begin_anew.ensures.any_moment (c.read.ensures.same modelled) new left)
    (λ f was. ⊎_elim (λ before. inl (subst (λ (l : List ℕ). IsLogOf l old) (sym (c.in_ok-rows.ensures.durable modelled f before ∙ c.read.ensures.seen modelled)) keeps.log)) (λ log. inr log) was) in
    leaves_then g.D.Device.moment g.D.Device.leaves c.args.self.now.device c.read.new.device c.begin_anew.new.self.device P read anew
