use Rattle.std.proofs.Common.{◌≡◌, ◌≢◌, ◌∙◌, ◌+◌, ◌++◌, ℕ, List, length, ap, append_assoc, arith, rules}
use Rattle.std.specs.Prelude.{codes}
use Rattle.bl_serve_lines.specs.Text.{numbered}
use Rattle.bl_serve_lines.specs.declared.serving.Totals.{Totals}
use Rattle.bl_serve_reading.specs.declared.section_reader.SectionEnd.TheVariants as section_end
use Rattle.bl_serve.specs.Sections.{rests}
use Rattle.bl_serve_ground.specs.Standing.{sizes_in}
use Rattle.bl_serve.proofs.Holding.{plain_section, rest_section}
use Rattle.bl_serve.proofs.serving.serve_chunk.Goals as goal

pub returns-then-ne-clause-serves : goal.returns-then-ne-clause-serves
returns-then-ne-clause-serves g c = let h = c.in_ok-session.ensures.held in let other : c.args.end ≢ section_end.Rest = search rules in
    (h.0, h.1, plain_section (sizes_in c.args.session.ground) c.args.session.ground c.args.session.totals.requests c.args.lines.now c.args.end h.0 c.args.session.passes.items c.in_ok-session.session.ground c.in_ok-session.session.passes.items other h.2)

-- the bytes behind the last LF are one line more
pub returns-clause-serves : goal.returns-clause-serves
returns-clause-serves g c = let h = c.in_ok-session.ensures.held in let is : c.args.end ≡ section_end.Rest = search rules in
    let last : List ℕ = numbered c.count.new.totals.requests (codes "malformed") in
    let number : c.count.new.totals.requests ≡ c.args.session.totals.requests + length c.args.lines.now + 1 = let counted = c.count.ensures.requests in let same = ap (λ (t : Totals). t.requests) c.in_ok-session.ensures.totals in let one : rests c.args.end ≡ 1 = ap rests is in omega (arith, counted, same, one) in (
      h.0 ++ last,
      c.in_ok-push_line.ensures ∙ (ap (λ (z : List ℕ). z ++ last) h.1 ∙ append_assoc c.args.session.text.items h.0 last),
      rest_section (sizes_in c.args.session.ground) c.args.session.ground c.args.session.totals.requests c.count.new.totals.requests c.args.lines.now c.args.end h.0 c.args.session.passes.items c.in_ok-session.session.ground c.in_ok-session.session.passes.items is number h.2,
    )
