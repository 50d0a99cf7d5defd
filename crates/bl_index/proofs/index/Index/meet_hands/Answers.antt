use Rattle.std.proofs.Common.{◌≡◌, Option, List, sym, ap, subst, ◌∙◌}
use Rattle.bl_layout.specs.declared.layout.Layout.{Layout}
use Rattle.bl_page.specs.declared.page.Page.{Page}
use Rattle.bl_claims.specs.Trails.{Trail}
use Rattle.bl_claims.specs.Seeing.{IsSeen, AreWithin, GoesOnFrom}
use Rattle.bl_store.specs.Hands.{known}
use Rattle.bl_index_rule.specs.declared.known.PassState.{PassState}
use Rattle.bl_index.proofs.Encounters.{met}
use Rattle.bl_index.proofs.index.Index.meet_hands.Goals as goal

pub tell_by-requires-clause-own : goal.tell_by-requires-clause-own
tell_by-requires-clause-own c = let l = c.learn_by.ensures in let own = rw (← c.self.view_is) at c.requires.own in
    ((l.other.0.0 ∙ own.1.0, l.other.0.1 ∙ own.1.1), (l.same.0.0 ∙ own.0.0, l.same.0.1 ∙ own.0.1))

pub tell_by-requires-clause-idle : goal.tell_by-requires-clause-idle
tell_by-requires-clause-idle c = let l = c.learn_by.ensures in (l.same.1 ∙ c.requires.idle.0.0, l.same.2.0 ∙ c.requires.idle.0.1)

pub tell_by-requires-clause-begins : goal.tell_by-requires-clause-begins
tell_by-requires-clause-begins c = let l = c.learn_by.ensures in
    subst (λ (z : PassState). GoesOnFrom z.trail (known c.learn_by.new.hand.seat).trail) (sym l.other.3) l.observed.learns.begins_theirs

pub returns-clause-same : goal.returns-clause-same
returns-clause-same c =
    let own = rw (← c.self.view_is) at c.requires.own in let l = c.learn_by.ensures in let t = c.tell_by.ensures in
    let layout_one : c.tell_by.new.other.seat.me.0.layout ≡ c.self.inside.tree.store.layout = t.other.0.1 ∙ (l.same.0.1 ∙ own.0.1) in
    let layout_two : c.tell_by.new.hand.seat.me.0.layout ≡ c.self.inside.tree.store.layout = t.same.0.1 ∙ (l.other.0.1 ∙ own.1.1) in
    let one_is : known c.tell_by.new.other.seat ≡ known c.learn_by.new.hand.seat = t.other.3 in
    let seen = l.observed.within in (
      record {
        same = (t.other.0.0 ∙ l.same.0.0, t.other.0.1 ∙ l.same.0.1, t.other.0.2 ∙ l.same.0.2);
        idle = t.other.1;
        empty = t.other.2;
        first = ap (λ (z : PassState). z.first) one_is ∙ l.observed.first;
        runs = ap (λ (z : PassState). z.runs) one_is ∙ l.observed.runs;
        within = subst (λ (z : Layout × PassState). AreWithin z.0.passes z.1.trail) (λ i. (sym layout_one i, sym one_is i)) seen;
      },
      record {
        same = (t.same.0.0 ∙ l.other.0.0, t.same.0.1 ∙ l.other.0.1, t.same.0.2 ∙ l.other.0.2);
        idle = t.same.1 ∙ l.other.1;
        empty = t.same.2.0 ∙ l.other.2;
        first = t.observed.first ∙ ap (λ (z : PassState). z.first) l.other.3;
        runs = t.observed.runs ∙ ap (λ (z : PassState). z.runs) l.other.3;
        within = subst (λ (z : Layout × Trail). AreWithin z.0.passes z.1) (λ i. (sym layout_two i, sym t.observed.hears.is i)) seen;
      },
    )

pub returns-clause-meet : goal.returns-clause-meet
returns-clause-meet c =
    let l = c.learn_by.ensures in let t = c.tell_by.ensures in let learned = (known c.learn_by.new.hand.seat).trail in
    met (known c.args.one.now.seat).first c.args.one.now.number c.args.two.now.number (known c.args.one.now.seat).trail (known c.args.two.now.seat).trail learned (known c.tell_by.new.other.seat).trail (known c.tell_by.new.hand.seat).trail
    l.observed.learns (subst (λ (z : List (Option Page)). IsSeen z learned) l.observed.first l.observed.seen) (ap (λ (z : PassState). z.trail) t.other.3) t.observed.hears.is
