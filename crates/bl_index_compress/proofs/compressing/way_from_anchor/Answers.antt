use Rattle.std.proofs.Common.{rules, ◌<◌, ◌≤◌, refl, sym, ap, ◌∙◌, subst, arith}
use Rattle.bl_page.specs.Nodes.{roots_of}
use Rattle.bl_proc_steps.specs.declared.approach.Came.TheVariants as descend
use Rattle.bl_proc_compress.specs.declared.compress.CompressReply.TheVariants as reply
use Rattle.bl_proc_compress.specs.declared.compress.CompressStage.TheVariants as stages
use Rattle.bl_store.specs.Hands.{known, read_words}
use Rattle.bl_store.specs.declared.store.Hand.{Hand}
use Rattle.bl_index_rule.specs.declared.known.PassState.{PassState}
use Rattle.bl_index_events.specs.Runs.{IsOn}
use Rattle.bl_index_events.proofs.Standing.{on_as}
use Rattle.bl_index_compress.specs.CompressStands.{compress_of}
use Rattle.bl_index_compress.proofs.Arrives.{from_anchor}
use Rattle.bl_index_compress.proofs.compressing.way_from_anchor.Goals as goal

pub returns-then-levels_in-target-clause-none : goal.returns-then-levels_in-target-clause-none
returns-then-levels_in-target-clause-none c =
    let a = c.requires.anchor in let j = c.args.target in
    let levels = c.levels_in.ensures.levels a.page a.is in
    let few : (roots_of a.page).levels ≤ j.level = (let low = c.if-levels_in-target.true in omega (arith, levels, low)) in
    let is = from_anchor j _ _ a (stages.Ending reply.Alone) (descend.NoLevel (roots_of a.page).levels, (few, refl), refl) in
    subst (λ (h : Hand PassState). IsOn c.args.tree.now.store.layout (known h.seat) (compress_of j (stages.Ending reply.Alone))) (sym c.levels_in.ensures.same) (on_as _ _ _ c.requires.runs.on is)

pub took_words-requires-clause-page : goal.took_words-requires-clause-page
took_words-requires-clause-page c = let a = c.requires.anchor in (a.page, ap (λ (h : Hand PassState). read_words h.seat) c.levels_in.ensures.same ∙ a.is)

pub returns-clause-on : goal.returns-clause-on
returns-clause-on c =
    let a = c.requires.anchor in let j = c.args.target in
    let levels = c.levels_in.ensures.levels a.page a.is in
    let some : j.level < (roots_of a.page).levels = (let high = c.if-levels_in-target.false in omega (arith, levels, high)) in
    let turned = c.took_words.ensures.goes a.page (ap (λ (h : Hand PassState). read_words h.seat) c.levels_in.ensures.same ∙ a.is) in
    let is = from_anchor j _ _ a (stages.Coming c.took_words.result) (descend.On c.took_words.result, (some, turned), refl) in
    (search rules, subst (λ (h : Hand PassState). IsOn c.args.tree.now.store.layout (known h.seat) (compress_of j (stages.Coming c.took_words.result))) (sym (c.took_words.ensures.same ∙ c.levels_in.ensures.same)) (on_as _ _ _ c.requires.runs.on is))
