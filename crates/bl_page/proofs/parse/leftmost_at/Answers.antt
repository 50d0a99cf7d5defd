use Rattle.std.proofs.Common.{◌≡◌, ◌+◌, ◌^◌, ◌<◌, ◌≤◌, [], ◌∷◌, ◌++◌, length, take, drop, get_or, arith, sym, ap, ◌∙◌, subst}
use Rattle.std.proofs.lemmas.List.{take_more, get_or-drop, length-drop}
use Rattle.bl_page.specs.Pairs.{AreNumbers, IsNumber}
use Rattle.bl_page.proofs.PagesIn.{not_numbers, AreNumbers-push, AreNumbers-up}
use Rattle.bl_page.proofs.parse.leftmost_at.Goals as goal
use Rattle.bl_page.proofs.parse.leftmost_at.Goals.{then-page-eq0-via-then-page-eq0, then-page-eq0-via-else-page-eq0+then-page-most}

pub returns-then-page-eq0-clause-found : goal.returns-then-page-eq0-clause-found
returns-then-page-eq0-clause-found c =
    let few : c.args.count ≤ length (drop 4 c.args.words.now) = omega (arith, length-drop 4 c.args.words.now, c.told-words) in
    elim c.then-page-eq0.branch [
      | then-page-eq0-via-then-page-eq0 w ↦ not_numbers c.args.most c.args.words.now c.args.count c.loop-i.i c.loop-i-test.true few (λ h. omega (arith, h.0, w.if-page-eq0.true))
      | then-page-eq0-via-else-page-eq0+then-page-most w ↦ not_numbers c.args.most c.args.words.now c.args.count c.loop-i.i c.loop-i-test.true few (λ h. omega (arith, h.1, w.if-page-most.true))
    ]

pub loop-i-preserved : goal.loop-i-preserved
loop-i-preserved c =
    let words = c.args.words.now in
    let is_child : IsNumber c.args.most (get_or words (4 + c.loop-i.i) 0) = (omega (arith, c.if-page-eq0.false), omega (arith, c.if-page-most.false)) in
    let within : c.loop-i.i < length (drop 4 words) = omega (arith, length-drop 4 words, c.told-words) in
    record {
      count = omega (arith, c.push.ensures.len, c.loop-i.invariant.count);
      items = c.push.ensures.items ∙ ap (λ t. t ++ get_or words (4 + c.loop-i.i) 0 ∷ []) c.loop-i.invariant.items
          ∙ ap (λ x. take c.loop-i.i (drop 4 words) ++ x ∷ []) (sym (get_or-drop 4 words c.loop-i.i 0)) ∙ sym (take_more (drop 4 words) c.loop-i.i 0 within);
      pages = subst (AreNumbers c.args.most) (sym c.push.ensures.items) (AreNumbers-push c.args.most _ _ c.loop-i.invariant.pages is_child);
    }

pub returns-clause-found : goal.returns-clause-found
returns-clause-found c =
    let all : c.loop-i.i ≡ c.args.count = omega (arith, c.loop-i-test.false) in
    (AreNumbers-up c.args.most (2 ^ 32) c.loop-i.leftmost.items c.requires.most c.loop-i.invariant.pages, c.loop-i.invariant.items ∙ ap (λ n. take n (drop 4 c.args.words.now)) all)
