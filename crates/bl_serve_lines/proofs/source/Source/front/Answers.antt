use Rattle.std.proofs.Common.{◌-◌, ◌<◌, ◌∙◌, take, drop, length, subst, sym, arith}
use Rattle.std.proofs.lemmas.List.{length-take-le}
use Rattle.bl_serve_lines.specs.Streams.{IsFirstLine}
use Rattle.bl_serve_lines.proofs.Cuts.{first_line, found_first}
use Rattle.bl_serve_lines.proofs.source.Source.front.Goals as goal

pub slice_bounds-result-end : goal.slice_bounds-result-end
slice_bounds-result-end c = let first = found_first _ c.in_ok-place.place c.next.new.self (sym c.memchr_iter-ends.ensures.value ∙ c.in_ok-place.ensures.steps) in
    let low : c.in_ok-place.place < length (take (c.self.inside.upto - c.self.inside.from) (drop c.self.inside.from c.deref.result.now)) = first.0.high in
    sym (length-take-le c.in_ok-place.place (take (c.self.inside.upto - c.self.inside.from) (drop c.self.inside.from c.deref.result.now)) (omega (arith, low)))

pub returns : goal.returns
returns c = let is = c.deref.ensures.value in let first = found_first _ c.in_ok-place.place c.next.new.self (sym c.memchr_iter-ends.ensures.value ∙ c.in_ok-place.ensures.steps) in
    subst (λ bytes. IsFirstLine (take c.in_ok-place.place (take (c.self.inside.upto - c.self.inside.from) (drop c.self.inside.from bytes))) c.args.self.now) (sym is)
    (first_line c.self.inside.bytes.items _ c.self.inside.from c.self.inside.upto c.in_ok-place.place c.self.invariant.0 c.self.invariant.1 c.self.view_is (rw is at first))
