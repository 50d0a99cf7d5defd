use Rattle.std.proofs.Common.{◌≡◌, ◌∙◌, ℕ, List, length, sym, ap, subst, arith, rules}
use Rattle.bl_journal.specs.Files.{Only}
use Rattle.bl_journal.specs.Logs.{IsLogOf}
use Rattle.bl_journal.specs.Memory.{content_at}
use Rattle.bl_journal.specs.declared.memory.Memory.{Memory}
use Rattle.bl_journal.proofs.Past.{at_now}
use Rattle.bl_outside.proofs.tape.log_after.Goals as goal

-- a crash leaves what is there
only : (m : Memory) → Only m.bytes.items (λ c. c ≡ content_at m.past.items m.bytes.items (length m.past.items))
only m c left = left ∙ at_now m.past.items m.bytes.items (length m.past.items) (omega arith)

pub commit-requires : goal.commit-requires
commit-requires c = record {
  kept = λ modelled.
      let was : c.new.result.bytes.items ≡ c.args.log.now = search rules in
      (c.requires.0, c.over-journal.ensures.keeps modelled (only c.new.result) c.requires.0 (subst (λ (z : List ℕ). IsLogOf z c.requires.0) (sym was) c.requires.1));
}

pub returns : goal.returns
returns c old new log leads =
    let was : c.new.result.bytes.items ≡ c.args.log.now = search rules in
    let kept = c.in_ok-commit.ensures.kept tt old new (c.over-journal.ensures.keeps tt (only c.new.result) old (subst (λ (z : List ℕ). IsLogOf z old) (sym was) log)) leads in
    let is : c.in_ok-to_vec-2.field-0.items ≡ c.into_device-device.result.bytes.items = search rules in
    let same : c.into_device-device.result.bytes.items ≡ c.commit.new.self.device.bytes.items = ap (λ (z : Memory). z.bytes.items) c.into_device-device.ensures in
    subst (λ (z : List ℕ). IsLogOf z new) (sym (is ∙ same)) kept.log
