use Rattle.std.proofs.Common.{rules, ℕ, ◌≡◌, ◌<◌, sym, ap, subst, ◌∙◌, arith}
use Rattle.bl_page.specs.Nodes.{roots_of}
use Rattle.bl_proc_steps.specs.declared.acts.Seen.TheVariants as seen
use Rattle.bl_proc_steps.specs.declared.approach.Approach.TheVariants as approach
use Rattle.bl_proc_steps.specs.declared.approach.Approached.TheVariants as came
use Rattle.bl_proc_steps.specs.Approaches.{Approaches}
use Rattle.bl_store.specs.Hands.{known, read_words, IsRunning, ReadsFrom}
use Rattle.bl_store.specs.declared.store.Hand.{Hand}
use Rattle.bl_index_rule.specs.declared.known.PassState.{PassState}
use Rattle.bl_index_events.specs.Runs.{IsOn, IsSameProcess, Runs}
use Rattle.bl_index_events.proofs.Standing.{goes_takes, on_after, on_goes, same_goes}
use Rattle.bl_proc.specs.declared.kinds.Proc.{Proc}
use Rattle.bl_proc.specs.Processes.{Takes}
use Rattle.bl_index_descend.specs.Events.{HasGotAnchor}
use Rattle.bl_index_descend.proofs.reaching.look_up.Goals as goal

pub returns-then-levels_in-level-clause-err : goal.returns-then-levels_in-level-clause-err
returns-then-levels_in-level-clause-err g c =
    let went = c.look-glance.ensures.goes in let start = g.J.Target.at c.args.target.now c.args.path.now approach.Start in
    let takes = subst (λ (z : Proc). Takes z (seen.Words went.0) (known c.look-glance.new.hand.seat).state) c.requires.runs.on.state (goes_takes _ _ _ went.2) in
    let got : HasGotAnchor start (read_words c.look-glance.new.hand.seat) (known c.look-glance.new.hand.seat) = record { page = went.0; is = went.1; takes = takes } in
    let runs : Runs c.args.tree.now c.look-glance.new.hand (known c.look-glance.new.hand.seat).state = record { own = search rules; running = search rules; on = on_after c.args.tree.now.store.layout _ _ _ _ c.requires.runs.on went.2 } in
    subst (λ (h : Hand PassState). ReadsFrom h.seat c.look-glance.result × Runs c.args.tree.now h (known h.seat).state × HasGotAnchor start (read_words h.seat) (known h.seat)) (sym c.levels_in.ensures.same) (c.look-glance.ensures.reads, runs, got)

pub returns-then-levels_in-level-clause-since : goal.returns-then-levels_in-level-clause-since
returns-then-levels_in-level-clause-since g c = subst (λ (h : Hand PassState). IsSameProcess (known c.args.hand.now.seat) (known h.seat)) (sym c.levels_in.ensures.same) (same_goes _ _ _ c.look-glance.ensures.goes.2)

pub took_words-requires-clause-page : goal.took_words-requires-clause-page
took_words-requires-clause-page g c = (let went = c.look-glance.ensures.goes in (went.0, ap (λ (h : Hand PassState). read_words h.seat) c.levels_in.ensures.same ∙ went.1))

pub returns-clause-ok : goal.returns-clause-ok
returns-clause-ok g c =
    let j = c.args.target.now in let went = c.look-glance.ensures.goes in let layout = c.args.tree.now.store.layout in
    let turned = c.took_words.ensures.goes went.0 (ap (λ (h : Hand PassState). read_words h.seat) c.levels_in.ensures.same ∙ went.1) in
    let turns = subst (λ (z : ℕ × ℕ). Approaches z.0 z.1 approach.Start (seen.Words went.0) (came.On c.took_words.result)) (λ i. (c.level-level.ensures i, c.key.ensures i)) turned in
    let levels : c.levels_in.result ≡ (roots_of went.0).levels = c.levels_in.ensures.levels went.0 went.1 in
    let led : g.J.Target.level_of j < (roots_of went.0).levels = omega (arith, levels, c.level-level.ensures, c.if-levels_in-level.false) in
    let on = on_goes layout (seen.Words went.0) _ _ _ _ c.requires.runs.on went.2 (g.met.J.Target.enters j c.args.path.now c.took_words.result went.0 (c.requires.led went.0 led) turns) in
    let both = sym (c.took_words.ensures.same ∙ c.levels_in.ensures.same) in (
      search rules,
      record {
        own = search rules;
        running = subst (λ (h : Hand PassState). IsRunning h.seat) both (search rules);
        on = subst (λ (h : Hand PassState). IsOn layout (known h.seat) (g.J.Target.at j c.args.path.now c.took_words.result)) both on;
      },
    )

pub returns-clause-since : goal.returns-clause-since
returns-clause-since g c = subst (λ (h : Hand PassState). IsSameProcess (known c.args.hand.now.seat) (known h.seat)) (sym (c.took_words.ensures.same ∙ c.levels_in.ensures.same)) (same_goes _ _ _ c.look-glance.ensures.goes.2)
