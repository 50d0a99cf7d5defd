use Rattle.std.proofs.Common.{Option, List, refl, sym, subst, ◌∙◌}
use Rattle.bl_page.specs.declared.page.Page.{Page}
use Rattle.bl_claims.specs.Seeing.{IsSeen}
use Rattle.bl_claims.specs.Trails.{Trail}
use Rattle.bl_store.specs.Hands.{known}
use Rattle.bl_index.specs.Meetings.{Meet}
use Rattle.bl_index.proofs.Taken.{same_pass, of_inside}
use Rattle.bl_index.proofs.index.Index.meet.Goals as goal

pub invariant_of-one-inside : goal.invariant_of-one-inside
invariant_of-one-inside c =
    let e = c.meet_hands.ensures in let s = e.same.0 in (
      s.idle,
      (
        s.empty,
        (
          s.within,
          (
            s.runs ∙ c.one.inside.rests,
            (∣ subst (λ (z : List (Option Page)). IsSeen z (known c.meet_hands.new.one.seat).trail) (sym s.first) e.meet.seen ∣₁, tt),
          ),
        ),
      ),
    )

pub invariant_of-two-inside : goal.invariant_of-two-inside
invariant_of-two-inside c =
    let own = of_inside {index = c.args.self.now} refl c.one.view_is c.requires.own.0 in let theirs = of_inside {index = c.args.self.now} refl c.two.view_is c.requires.own.1 in let e = c.meet_hands.ensures in let s = e.same.1 in (
      s.idle,
      (
        s.empty,
        (
          s.within,
          (
            s.runs ∙ c.two.inside.rests,
            (∣ subst (λ (z : List (Option Page) × Trail). IsSeen z.0 z.1) (λ i. ((own.2 ∙ sym (s.first ∙ theirs.2)) i, sym e.meet.same i)) e.meet.seen ∣₁, tt),
          ),
        ),
      ),
    )

pub returns-clause-same : goal.returns-clause-same
returns-clause-same c =
    rw (← c.one.view_is, ← c.two.view_is) (
    let e = c.meet_hands.ensures in
    (same_pass c.one.inside.hand c.meet_hands.new.one e.same.0.same e.same.0.first, same_pass c.two.inside.hand c.meet_hands.new.two e.same.1.same e.same.1.first))

pub returns-clause-meet : goal.returns-clause-meet
returns-clause-meet c =
    let own = of_inside {index = c.args.self.now} refl c.one.view_is c.requires.own.0 in rw (← c.one.view_is, ← c.two.view_is) (
    let e = c.meet_hands.ensures in
    subst (λ (z : List (Option Page)). Meet z c.one.inside.hand.number c.two.inside.hand.number (known c.one.inside.hand.seat).trail (known c.two.inside.hand.seat).trail (known c.meet_hands.new.one.seat).trail (known c.meet_hands.new.two.seat).trail) own.2 e.meet)
