use Rattle.std.proofs.Common.{◌≡◌, refl, sym, ap, subst, ◌∙◌}
use Rattle.bl_layout.specs.declared.layout.Layout.{Layout}
use Rattle.bl_page.specs.Words.{words_of}
use Rattle.bl_proc_steps.specs.declared.acts.Seen.TheVariants as seen
use Rattle.bl_proc.specs.Processes.{next_of}
use Rattle.bl_store.specs.Drafts.{IsSplice}
use Rattle.bl_store.specs.Hands.{known, words_in, BeginsAt}
use Rattle.bl_store_rule.specs.declared.view.Reading.{Reading}
use Rattle.bl_index_rule.specs.declared.known.PassState.{PassState}
use Rattle.bl_index_rule.specs.Observed.{Goes}
use Rattle.bl_index_rule.proofs.Pages.{puts_page, refuses_put}
use Rattle.bl_index_events.proofs.Standing.{course_at}
use Rattle.bl_index_events.proofs.tree.Tree.replace_splice.Goals as goal

pub reserve-requires-clause-refuses : goal.reserve-requires-clause-refuses
reserve-requires-clause-refuses c = refuses_put _ _ (known c.args.hand.now.seat) c.requires.runs.on.runs _ c.requires.next.0 c.requires.next.1 c.requires.course.1

pub put_splice-requires-clause-reads : goal.put_splice-requires-clause-reads
put_splice-requires-clause-reads c =
    subst (λ (z : Layout × Reading). BeginsAt z.0 c.args.glance.first z.1) (λ i. (sym c.reserve.ensures.same.0.1 i, sym (c.in-Ok.ensures.reads refl) i)) c.requires.reads

pub put_splice-requires-clause-rule : goal.put_splice-requires-clause-rule
put_splice-requires-clause-rule c =
    let same : known c.reserve.new.hand.seat ≡ known c.args.hand.now.seat = (c.in-Ok.ensures.no_page refl).1 in
    let state = ap (λ (d : PassState). d.state) same in (
      words_of c.requires.next.0,
      subst (λ (z : Reading). IsSplice c.args.change (words_in z) (words_of c.requires.next.0)) (sym (c.in-Ok.ensures.reads refl)) c.requires.next.2,
      puts_page _ _ (known c.reserve.new.hand.seat) (ap (λ (d : PassState). d.runs) same ∙ c.requires.runs.on.runs) _ _ c.requires.next.0 (ap next_of state ∙ c.requires.next.1) refl (course_at seen.Done _ _ state c.requires.course.0),
    )

pub returns-in-Ok-clause-done : goal.returns-in-Ok-clause-done
returns-in-Ok-clause-done c = λ e.
    let same : known c.reserve.new.hand.seat ≡ known c.args.hand.now.seat = (c.in-Ok.ensures.no_page refl).1 in
    subst (λ (d : PassState). Goes seen.Done d (known c.put_splice.new.hand.seat)) same c.put_splice.ensures.observed.1
