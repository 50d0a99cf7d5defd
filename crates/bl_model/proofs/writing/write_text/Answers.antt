use Rattle.std.proofs.Common.{◌≡◌, ◌++◌, inl, inr, ap, ◌∙◌, sym, drop, take}
use Rattle.std.proofs.KnownBytes.{Appends-trans, Appends-kept}
use Rattle.bl_model.proofs.Written.{or_left, or_right, rest_is, turn_on, split_on}
use Rattle.bl_model.proofs.writing.write_text.Goals as goal
use Rattle.bl_model.proofs.writing.write_text.Goals.{in-Ok, in-Err+else-ne}

pub loop-preserved : goal.loop-preserved
loop-preserved g c = let i = c.loop.invariant in elim c.match-write.branch [
  | in-Ok w ↦ let now : c.match-write.rest.now ≡ drop w.in-Ok.count c.loop.rest.now = ap (λ b. b.now) w.rest-is ∙ rest_is c.loop.rest.now w.in-Ok.count in
      let e = w.in-Ok.ensures in record {
        out = i.out ++ take w.in-Ok.count c.loop.rest.now;
        wrote = Appends-trans _ _ _ _ _ i.wrote e.bytes;
        whole = i.whole ∙ split_on i.out c.loop.rest.now w.in-Ok.count ∙ ap (λ t. (i.out ++ take w.in-Ok.count c.loop.rest.now) ++ t) (sym now);
        turns = elim i.turns [
          | inl few ↦ inl (rw now (turn_on c.loop.counter w.in-Ok.count c.loop.rest.now c.args.text.now e.bound w.in-Ok.count-test.1 few))
          | inr failed ↦ inr (or_left _ _ _ e.failed failed)
        ];
      }
  | in-Err+else-ne w ↦ let now = ap (λ b. b.now) w.rest-is in let e = w.in-Err.ensures in record {
    out = i.out;
    wrote = Appends-kept _ _ _ _ i.wrote e.bytes;
    whole = i.whole ∙ ap (λ t. i.out ++ t) (sym now);
    turns = inr (or_right _ _ e.failed);
  }
]
