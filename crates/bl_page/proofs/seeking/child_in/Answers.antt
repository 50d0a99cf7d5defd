use Rattle.std.proofs.Common.{◌≡◌, ℕ, ◌+◌, ◌*◌, ◌-◌, ◌<◌, ◌≤◌, List, length, get_or, ap, subst, sym, ◌∙◌, arith}
use Rattle.bl_page.specs.Pairs.{BeginsWith, IsChild, IsChildFor, place}
use Rattle.bl_page.specs.Faults.{count_in, pairs_of, HasPairs}
use Rattle.bl_page.proofs.Lookups.{child_at_place, place-some, place-le, NameChildren-at}
use Rattle.bl_page.proofs.Halving.{pair-before, pairs-length, word_at}
use Rattle.bl_page.proofs.seeking.child_in.Goals as goal

-- the word that is read is that of the pair before the place
child_at : (words : List ℕ) (key p : ℕ) → length words ≡ 32 → HasPairs words → BeginsWith (get_or words 1 0) (pairs_of words) → get_or words 1 0 ≤ key → p ≡ place key (pairs_of words)
    → (word_at (pairs_of words) (place key (pairs_of words) - 1) ≡ get_or words (3 + 2 * p) 0) × (0 < place key (pairs_of words)) × (place key (pairs_of words) ≤ length (pairs_of words))
child_at words key p long has first covers is =
    let pairs = pairs_of words in
    let some = place-some (get_or words 1 0) key pairs first covers in
    let most = place-le key pairs in
    let size = pairs-length (count_in words) words long has.few in
    let before = pair-before words (count_in words) (place key pairs) long has.few some (omega (arith, most, size)) in
    (before.1 ∙ ap (λ p. get_or words (3 + 2 * p) 0) (sym is), some, most)

pub overflow_cast-result : goal.overflow_cast-result
overflow_cast-result g c =
    let words = g.W.Words.shown c.args.source.now c.args.hand.now in
    let pairs = pairs_of words in
    let is = child_at words c.args.key c.place_in-place.result (g.W.Words.long _ _ c.requires.sees) c.requires.pairs c.requires.first c.requires.covers c.place_in-place.ensures.place in
    let read : c.word.result ≡ get_or words (3 + 2 * c.place_in-place.result) 0 = c.word.ensures.word ∙ ap (λ hand. get_or (g.W.Words.shown c.args.source.now hand) (3 + 2 * c.place_in-place.result) 0) c.place_in-place.ensures.same in
    let child : IsChild (word_at pairs (place c.args.key pairs - 1)) = NameChildren-at pairs (place c.args.key pairs - 1) c.requires.pages (omega (arith, is.1, is.2)) in
    record { fits = omega (arith, child.1, is.0, read) }

pub returns-clause-child : goal.returns-clause-child
returns-clause-child g c =
    let words = g.W.Words.shown c.args.source.now c.args.hand.now in
    let pairs = pairs_of words in
    let is = child_at words c.args.key c.place_in-place.result (g.W.Words.long _ _ c.requires.sees) c.requires.pairs c.requires.first c.requires.covers c.place_in-place.ensures.place in
    let read : c.word.result ≡ get_or words (3 + 2 * c.place_in-place.result) 0 = c.word.ensures.word ∙ ap (λ hand. get_or (g.W.Words.shown c.args.source.now hand) (3 + 2 * c.place_in-place.result) 0) c.place_in-place.ensures.same in
    subst (λ page. IsChildFor pairs c.args.key page) (is.0 ∙ sym read) (child_at_place 0 c.args.key pairs c.requires.pairs.rises is.1)
