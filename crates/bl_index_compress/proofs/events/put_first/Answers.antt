use Rattle.std.proofs.Common.{◌≡◌, refl, ap, subst, ◌∙◌, arith}
use Rattle.bl_proc_steps.specs.declared.acts.Seen.TheVariants as seen
use Rattle.bl_proc.specs.Processes.{next_of}
use Rattle.bl_store.specs.Hands.{known}
use Rattle.bl_index_rule.specs.declared.known.PassState.{PassState}
use Rattle.bl_index_rule.specs.Observed.{Goes}
use Rattle.bl_index_rule.proofs.Pages.{puts_page, refuses_put}
use Rattle.bl_index_events.proofs.Standing.{course_at}
use Rattle.bl_index_compress.proofs.events.put_first.Goals as goal

pub reserve-requires-clause-refuses : goal.reserve-requires-clause-refuses
reserve-requires-clause-refuses c = refuses_put _ _ (known c.args.hand.now.seat) c.requires.runs.on.runs _ c.requires.next.0 c.requires.next.1 c.requires.course.1

pub put-requires-clause-rule : goal.put-requires-clause-rule
put-requires-clause-rule c =
    let same : known c.reserve.new.hand.seat ≡ known c.args.hand.now.seat = (c.in-Ok.ensures.no_page refl).1 in
    let state = ap (λ (d : PassState). d.state) same in
    puts_page _ _ (known c.reserve.new.hand.seat) (ap (λ (d : PassState). d.runs) same ∙ c.requires.runs.on.runs) _ _ c.requires.next.0 (ap next_of state ∙ c.requires.next.1) c.requires.next.2 (course_at seen.Done _ _ state c.requires.course.0)

pub returns-in-Ok-clause-done : goal.returns-in-Ok-clause-done
returns-in-Ok-clause-done c =
    let same : known c.reserve.new.hand.seat ≡ known c.args.hand.now.seat = (c.in-Ok.ensures.no_page refl).1 in
    let has = c.in-Ok.ensures.stock in let put = c.put.ensures.stock in
    (put.0, (let all = has.1 in let less = put.1 in omega (arith, all, less)), c.put.ensures.same.2 ∙ has.2, subst (λ (d : PassState). Goes seen.Done d (known c.put.new.hand.seat)) same c.put.ensures.observed.1)
