use Rattle.std.proofs.Common.{rules, ◌<◌, ◌≤◌, length, refl, sym, ap, ◌∙◌, subst, arith}
use Rattle.bl_page.specs.declared.page.Page.TheVariants.{Inner}
use Rattle.bl_page.specs.declared.page.Inner.{Inner as InnerIs}
use Rattle.bl_page.specs.Words.{words_of}
use Rattle.bl_proc_steps.specs.declared.acts.Seen.TheVariants as seen
use Rattle.bl_proc_routes.proofs.Spellings.{pairs_counted}
use Rattle.bl_proc_compress.specs.declared.compression.Compression.TheVariants.{LatchingLeft}
use Rattle.bl_proc_compress.specs.declared.compress.CompressReply.TheVariants as reply
use Rattle.bl_proc_compress.specs.declared.compress.CompressStage.TheVariants as stages
use Rattle.bl_proc.specs.Processes.{next_of}
use Rattle.bl_proc_deterministic.proofs.Families.{family_some}
use Rattle.bl_store.specs.Hands.{known, IsSameHand}
use Rattle.bl_store.specs.declared.store.Hand.{Hand}
use Rattle.bl_index_rule.specs.declared.known.PassState.{PassState}
use Rattle.bl_index_events.specs.Runs.{IsOn, IsSameProcess}
use Rattle.bl_index_events.proofs.Standing.{on_as, on_goes, same_goes}
use Rattle.bl_index_compress.specs.CompressStands.{compress_of}
use Rattle.bl_index_compress.proofs.Arrives.{has_parent}
use Rattle.bl_index_compress.proofs.CompressionCourses.{alone_has_room, same_hands, stage_course}
use Rattle.bl_index_compress.proofs.families.meet_family.Goals as goal

pub reopen-requires-clause-next : goal.reopen-requires-clause-next
reopen-requires-clause-next c =
    let p = has_parent c.args.target c.args.at _ _ c.requires.there in
    let count = pairs_counted (Inner p.parent) c.words_from.result tt (c.words_from.ensures.words ∙ p.is) in
    let one : length p.parent.children.items < 2 = (let few = c.if-parent-lt2.true in omega (arith, count, few)) in
    ap (λ (h : Hand PassState). next_of (known h.seat).state) c.words_from.ensures.same ∙ ap next_of (p.stands (stages.Staying c.args.at) (refl, one))

pub reopen-requires-clause-course : goal.reopen-requires-clause-course
reopen-requires-clause-course c =
    let p = has_parent c.args.target c.args.at _ _ c.requires.there in
    let count = pairs_counted (Inner p.parent) c.words_from.result tt (c.words_from.ensures.words ∙ p.is) in
    let one : length p.parent.children.items < 2 = (let few = c.if-parent-lt2.true in omega (arith, count, few)) in
    stage_course c.args.target (stages.Staying c.args.at) seen.Done _ (ap (λ (h : Hand PassState). (known h.seat).state) c.words_from.ensures.same ∙ p.stands (stages.Staying c.args.at) (refl, one)) refl tt

pub returns-then-parent-lt2-clause-alone : goal.returns-then-parent-lt2-clause-alone
returns-then-parent-lt2-clause-alone c =
    let j = c.args.target in let still = c.words_from.ensures.same in
    let p = has_parent j c.args.at _ _ c.requires.there in
    let count = pairs_counted (Inner p.parent) c.words_from.result tt (c.words_from.ensures.words ∙ p.is) in
    let one : length p.parent.children.items < 2 = (let few = c.if-parent-lt2.true in omega (arith, count, few)) in
    let l = c.args.tree.now.store.layout in
    let before = on_as l (known c.args.hand.now.seat) _ c.requires.runs.on (p.stands (stages.Staying c.args.at) (refl, one)) in
    let on = subst (λ (h : Hand PassState). IsOn l (known h.seat) (compress_of j (stages.Staying c.args.at))) (sym still) before in
    let same = subst (λ (h : Hand PassState). IsSameHand c.args.hand.now.seat h.seat) (sym still) (refl, refl, refl) in
    record {
      same = same_hands c.args.hand.now.seat c.words_from.new.hand.seat c.reopen.new.hand.seat same c.reopen.ensures.same.0;
      empty = c.reopen.ensures.same.2.0 ∙ (ap (λ (h : Hand PassState). h.seat.me.0.stock) still ∙ c.requires.empty);
      state = compress_of j (stages.Ending reply.Alone);
      runs = record { own = search rules; running = search rules; on = on_goes l seen.Done _ _ _ _ on c.reopen.ensures.goes (refl, refl, refl, refl) };
      left = (reply.Alone, refl, refl);
      since = subst (λ (h : Hand PassState). IsSameProcess (known h.seat) (known c.reopen.new.hand.seat)) still (same_goes _ _ _ c.reopen.ensures.goes);
      no_room = λ hint e. alone_has_room hint e;
    }

pub siblings_in-requires : goal.siblings_in-requires
siblings_in-requires c =
    let p = has_parent c.args.target c.args.at _ _ c.requires.there in
    let count = pairs_counted (Inner p.parent) c.words_from.result tt (c.words_from.ensures.words ∙ p.is) in
    (p.parent, c.words_from.ensures.words ∙ p.is, p.within, (let many = c.if-parent-lt2.false in omega (arith, count, many)))

pub returns-clause-met : goal.returns-clause-met
returns-clause-met c =
    let p = has_parent c.args.target c.args.at _ _ c.requires.there in
    let is = c.words_from.ensures.words ∙ p.is in
    let count = pairs_counted (Inner p.parent) c.words_from.result tt is in
    let two : 2 ≤ length p.parent.children.items = (let many = c.if-parent-lt2.false in omega (arith, count, many)) in
    let f = family_some c.args.at c.args.target.key p.parent p.within two in
    let found = c.siblings_in.ensures p.parent f.0 is f.1 in (
      c.words_from.ensures.same,
      (
        f.0,
        record { at = found.0; key = found.1; parent = is ∙ ap (λ (i : InnerIs). words_of (Inner i)) (sym f.1.parent_is); level = ap (λ (i : InnerIs). i.level) f.1.parent_is ∙ p.level },
        p.stands (stages.Compressing (LatchingLeft f.0)) (two, f.1),
      ),
    )
