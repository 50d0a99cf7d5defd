use Rattle.std.proofs.Common.{◌≡◌, ℕ, ◌+◌, ◌*◌, length, take, drop, subst, sym, ap, ◌∙◌, inl, inr, arith}
use Rattle.std.specs.List.{AllByRecursion}
use Rattle.std.proofs.lemmas.Bool.{cases_eq}
use Rattle.std.proofs.lemmas.List.{length_push, length-drop, take_all}
use Rattle.bl_image.specs.Images.{ArePage, NamesBelow, Fits64, page_words, chunk}
use Rattle.bl_image.proofs.Chunks.{fit_more, below_more, bytes_more}
use Rattle.bl_image.proofs.reading.stored_pages.Goals as goal

pub loop-x-preserved : goal.loop-x-preserved
loop-x-preserved c =
    let pushed = c.in-Ok-push.ensures.items in
    let page_is = c.in-Some.ensures in
    record {
      count = ap length c.in-Ok-push.ensures.items ∙ length_push c.loop-x.pages.items c.in-Some.page ∙ ap (λ n. n + 1) c.loop-x.invariant.count;
      words = subst (AllByRecursion (λ page. Fits64 (page_words page))) (sym pushed) (fit_more c.loop-x.pages.items c.in-Some.page c.loop-x.invariant.words page_is.1);
      names = subst (AllByRecursion (NamesBelow c.bound_of-most.result)) (sym pushed) (below_more c.bound_of-most.result c.loop-x.pages.items c.in-Some.page c.loop-x.invariant.names page_is.0);
      bytes_are = bytes_more c.loop-x.pages.items c.push.new.self.items c.in-Some.page c.loop-x.x c.args.bytes.now pushed page_is.2 c.loop-x.invariant.bytes_are;
      each = λ y lt. elim (cases_eq y c.loop-x.x) [
        | inl same ↦ subst (λ y. ArePage c.bound_of-most.result (chunk c.args.bytes.now y)) (sym same) (c.in-Some.page, page_is.0, page_is.1, page_is.2)
        | inr other ↦ c.loop-x.invariant.each y (omega arith)
      ];
    }

pub returns-clause-ok : goal.returns-clause-ok
returns-clause-ok c =
    let kept = c.args.head.stored in
    let at : c.loop-x.x ≡ kept = omega (arith, c.loop-x-test.false) in
    let behind = drop 32 c.args.bytes.now in
    record {
      many = c.loop-x.invariant.count ∙ at;
      words = c.loop-x.invariant.words;
      within = subst (λ (n : ℕ). AllByRecursion (NamesBelow n) c.loop-x.pages.items) c.bound_of-most.ensures.bound c.loop-x.invariant.names;
      bytes_are = c.loop-x.invariant.bytes_are ∙ ap (λ n. take (256 * n) behind) at
          ∙ take_all (256 * kept) behind (omega (arith, length-drop 32 c.args.bytes.now, c.requires.long));
    }

pub returns-in_default-clause-fault : goal.returns-in_default-clause-fault
returns-in_default-clause-fault c =
    let most = c.bound_of-most.ensures.bound in (
      c.args.head.count,
      c.args.head.stored,
      c.requires,
      omega (arith, c.loop-x-test.true),
      subst (λ (n : ℕ). ¬ ArePage n (chunk c.args.bytes.now c.loop-x.x)) most c.in_default.ensures,
      λ y lt. subst (λ (n : ℕ). ArePage n (chunk c.args.bytes.now y)) most (c.loop-x.invariant.each y lt),
    )
