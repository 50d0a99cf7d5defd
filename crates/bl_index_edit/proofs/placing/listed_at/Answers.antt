use Rattle.std.proofs.Common.{◌≡◌, ◌+◌, ◌*◌, ◌-◌, ◌≤◌, length, get_or, Some, ap, sym, ◌∙◌, arith}
use Rattle.bl_page.specs.Pairs.{place}
use Rattle.bl_page.specs.Faults.{count_in, pairs_of}
use Rattle.bl_page.proofs.Lookups.{place-le}
use Rattle.bl_page.proofs.Halving.{pair-before, pairs-length, listed-at, unlisted, key_at}
use Rattle.bl_index_edit.proofs.placing.listed_at.Goals as goal
use Rattle.bl_index_edit.proofs.placing.listed_at.Goals.{else-place-gt0-via-then-place-gt0+else-word-key, else-place-gt0-via-else-place-gt0}

pub returns-then-word-key-clause-listed : goal.returns-then-word-key-clause-listed
returns-then-word-key-clause-listed g c =
    let words = g.W.Words.shown c.args.source.now c.args.hand.now in
    let pairs = pairs_of words in
    let long = g.W.Words.long _ _ c.requires.sees in
    let few = c.requires.pairs.few in
    let p = c.args.place in
    let size = pairs-length (count_in words) words long few in
    let most : p ≤ length pairs = omega (arith, place-le c.args.key pairs, c.requires.place) in
    let before = pair-before words (count_in words) p long few c.if-place-gt0.true (omega (arith, most, size)) in
    let value : c.word-then-word-key.result ≡ get_or words (3 + 2 * p) 0 = c.word-then-word-key.ensures.word ∙ ap (λ hand. get_or (g.W.Words.shown c.args.source.now hand) (3 + 2 * p) 0) c.word.ensures.same in
    let key : key_at pairs (p - 1) ≡ c.args.key = before.0 ∙ sym c.word.ensures.word ∙ c.if-word-key.true in
    sym (listed-at 0 c.args.key (p - 1) pairs c.requires.pairs.rises (omega (arith, most, c.if-place-gt0.true)) key ∙ ap Some (before.1 ∙ sym value))

pub returns-else-place-gt0-clause-listed : goal.returns-else-place-gt0-clause-listed
returns-else-place-gt0-clause-listed g c =
    let words = g.W.Words.shown c.args.source.now c.args.hand.now in
    let pairs = pairs_of words in
    let long = g.W.Words.long _ _ c.requires.sees in
    let few = c.requires.pairs.few in
    let at = c.requires.place in
    let size = pairs-length (count_in words) words long few in
    let most = place-le c.args.key pairs in
    sym (unlisted 0 c.args.key pairs c.requires.pairs.rises (λ some is. elim c.else-place-gt0.branch [
      | else-place-gt0-via-then-place-gt0+else-word-key w ↦
          let before = pair-before words (count_in words) (place c.args.key pairs) long few some (omega (arith, most, size)) in
          w.if-word-key.false (w.word.ensures.word ∙ ap (λ p. get_or words (2 + 2 * p) 0) at ∙ sym before.0 ∙ is)
      | else-place-gt0-via-else-place-gt0 w ↦ omega (arith, some, at, w.if-place-gt0.false)
    ]))
