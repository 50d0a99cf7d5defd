use Rattle.std.proofs.Common.{◌≡◌, map, take}
use Rattle.bl_serve_lines.specs.Dealt.{numbers}
use Rattle.bl_serve.proofs.joining.are_all.Given as goal

abbrev pub invariant-loop-place : goal.invariant-loop-place
invariant-loop-place l = map (λ w. w.share) (take l.place l.outputs) ≡ numbers 0 l.place
