use Rattle.std.proofs.Common.{◌∙◌, ◌++◌, ◌<◌, ℕ, List, length, ap, sym, subst, arith}
use Rattle.bl_serve_lines.specs.declared.serving.Totals.{Totals}
use Rattle.bl_serve.specs.Holding.{HoldsChunk}
use Rattle.bl_serve_ground.specs.Standing.{index_in}
use Rattle.bl_serve.proofs.Chunked.{holds_behind, leads_behind}
use Rattle.bl_serve_ground.proofs.Rests.{rests_on}
use Rattle.bl_serve.proofs.chunks.run_chunk.Goals as goal

pub answer_at-requires-clause-rests : goal.answer_at-requires-clause-rests
answer_at-requires-clause-rests g c κs within = rests_on c.args.session.ground c.args.session.passes.items c.in_ok-session.session.ground c.in_ok-session.session.passes.items c.requires.rests c.in_ok-session.ensures.resettles

pub returns-clause-held : goal.returns-clause-held
returns-clause-held g c =
    let before = c.in_ok-session.session in
    let h = c.in_ok-back.ensures.held in
    let some : 0 < length before.passes.items = (let a = before.some in let b = before.passes.ok in omega (arith, a, b)) in
    let number = ap (λ (t : Totals). t.requests) c.in_ok-session.ensures.totals in (
      h.0,
      h.1 ∙ ap (λ (z : List ℕ). z ++ h.0) c.in_ok-session.ensures.text,
      holds_behind c.args.session.ground c.args.session.passes.items before.ground before.passes.items c.in_ok-back.back.ground c.in_ok-back.back.passes.items c.args.session.totals.requests c.args.lines.now h.0 c.requires.rests some c.in_ok-session.ensures.resettles c.in_ok-back.ensures.ground
          (subst (λ (n : ℕ). HoldsChunk (index_in before.ground) n c.args.lines.now h.0 before.passes.items c.in_ok-back.back.passes.items) number h.2),
    )

pub returns-clause-leads : goal.returns-clause-leads
returns-clause-leads g c keeps =
    let before = c.in_ok-session.session in
    let h = c.in_ok-back.ensures.held in
    let some : 0 < length before.passes.items = (let a = before.some in let b = before.passes.ok in omega (arith, a, b)) in
    leads_behind c.args.session.ground c.args.session.passes.items before.ground before.passes.items c.in_ok-back.back.ground c.in_ok-back.back.passes.items before.totals.requests c.args.lines.now h.0 c.requires.rests some c.in_ok-session.ensures.resettles c.in_ok-back.ensures.ground h.2
    c.histories_lead.ensures c.args.session.changes before.changes c.in_ok-back.back.changes c.in_ok-session.ensures.changes (c.in_ok-back.ensures.noted keeps)
