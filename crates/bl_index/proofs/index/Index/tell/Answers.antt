use Rattle.std.proofs.Common.{Option, List, sym, ap, subst, ◌∙◌}
use Rattle.bl_layout.specs.declared.layout.Layout.{Layout}
use Rattle.bl_page.specs.declared.page.Page.{Page}
use Rattle.bl_claims.specs.Trails.{Trail}
use Rattle.bl_index_rule.specs.declared.known.PassState.{PassState}
use Rattle.bl_claims.specs.Seeing.{IsSeen, AreWithin}
use Rattle.bl_index.proofs.Taken.{same_pass, of_inside}
use Rattle.bl_index.proofs.index.Index.tell.Goals as goal

pub invariant_of-pass-inside : goal.invariant_of-pass-inside
invariant_of-pass-inside c =
    let own = of_inside c.self.view_is c.pass.view_is c.requires.own.0 in let theirs = of_inside c.self.view_is c.other.view_is c.requires.own.1 in let e = c.tell_by.ensures in (
      e.same.1 ∙ c.pass.inside.idle,
      (
        e.same.2.0 ∙ c.pass.inside.empty,
        (
          subst (λ (z : Layout × Trail). AreWithin z.0.passes z.1) (λ i. ((theirs.1 ∙ sym (e.same.0.1 ∙ own.1)) i, sym e.observed.hears.is i)) c.other.inside.within,
          (
            e.observed.runs ∙ c.pass.inside.rests,
            (subst (λ (z : List (Option Page) × Trail). ∥ IsSeen z.0 z.1 ∥₁) (λ i. ((theirs.2 ∙ sym (e.observed.first ∙ own.2)) i, sym e.observed.hears.is i)) c.other.inside.seen, tt),
          ),
        ),
      ),
    )

pub invariant_of-other-inside : goal.invariant_of-other-inside
invariant_of-other-inside c =
    let e = c.tell_by.ensures in (
      e.other.1,
      (
        e.other.2,
        (
          subst (λ (z : Layout × PassState). AreWithin z.0.passes z.1.trail) (λ i. (sym e.other.0.1 i, sym e.other.3 i)) c.other.inside.within,
          (
            ap (λ (z : PassState). z.runs) e.other.3 ∙ c.other.inside.rests,
            (subst (λ (z : PassState). ∥ IsSeen z.first z.trail ∥₁) (sym e.other.3) c.other.inside.seen, tt),
          ),
        ),
      ),
    )

pub returns-clause-hears : goal.returns-clause-hears
returns-clause-hears c = rw (← c.pass.view_is, ← c.other.view_is) (c.tell_by.ensures.observed.hears)

pub returns-clause-same : goal.returns-clause-same
returns-clause-same c = rw (← c.pass.view_is) (same_pass c.pass.inside.hand c.tell_by.new.hand c.tell_by.ensures.same.0 c.tell_by.ensures.observed.first)

pub returns-clause-other : goal.returns-clause-other
returns-clause-other c = rw (← c.other.view_is) (let e = c.tell_by.ensures in (same_pass c.other.inside.hand c.tell_by.new.other e.other.0 (ap (λ (z : PassState). z.first) e.other.3), ap (λ (z : PassState). z.trail) e.other.3))
