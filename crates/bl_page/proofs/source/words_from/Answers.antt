use Rattle.std.proofs.Common.{arith, ◌∙◌, ap, sym, get_or, get_or-set_other, ext_get_or, length-set}
use mathlib.Core.Logic.{dite}
use native.Mathlib.Decide.{ℕ_discrete}
use Rattle.std.proofs.lemmas.Grind.{get_or-set_at}
use Rattle.bl_page.proofs.source.words_from.Goals as goal

pub loop-place-preserved : goal.loop-place-preserved
loop-place-preserved g c = let inv = c.loop-place.invariant in let long = inv.long in let at = c.loop-place.place in
    let read = c.word.ensures.word ∙ ap (λ hand. get_or (g.W.Words.shown c.args.source.now hand) at 0) inv.hand in record {
      hand = c.word.ensures.same ∙ inv.hand;
      long = length-set c.loop-place.words at c.word.result ∙ inv.long;
      read = λ k low. dite (ℕ_discrete k at)
          (λ e. get_or-set_at c.loop-place.words at k c.word.result 0 e (omega arith) ∙ read ∙ ap (λ i. get_or (g.W.Words.shown c.args.source.now c.args.hand.now) i 0) (sym e))
          (λ ne. get_or-set_other c.loop-place.words at k c.word.result 0 ne ∙ inv.read k (omega arith));
    }

pub returns-clause-words : goal.returns-clause-words
returns-clause-words g c = let inv = c.loop-place.invariant in let size = inv.long in let long = g.W.Words.long _ _ c.requires.sees in
    ext_get_or 0 c.loop-place.words _ (size ∙ sym long) (λ k low. inv.read k (omega arith))
