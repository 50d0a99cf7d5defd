use Rattle.std.proofs.Common.{◌≡◌, ◌<◌, length, ap, sym, subst, ◌∙◌}
use Rattle.bl_page.specs.declared.page.Page.{Page}
use Rattle.bl_page.specs.Faults.{HasPairs, pairs_of as pairs_in_words}
use Rattle.bl_page.specs.Pairs.{place}
use Rattle.bl_page.proofs.Once.{once}
use Rattle.bl_page.specs.Nodes.{IsTreePage}
use Rattle.bl_rearrange.specs.Rearranged.{pairs_of}
use Rattle.bl_proc_routes.specs.WordEdits.{IsShiftedUp}
use Rattle.bl_proc_routes.proofs.Spellings.{tree_pairs}
use Rattle.bl_proc_routes.proofs.Respellings.{respelled_with}
use Rattle.bl_proc_routes.proofs.word_edits.words_with.Goals as goal

pub place_in-place-requires-clause-pairs : goal.place_in-place-requires-clause-pairs
place_in-place-requires-clause-pairs g c = subst (λ hand. HasPairs (g.W.Words.shown c.args.source.now hand)) (sym c.word-head.ensures.same) (tree_pairs c.requires.page.0 (g.W.Words.shown c.args.source.now c.args.hand.now) c.requires.page.1 c.requires.page.2)

pub returns-clause-words : goal.returns-clause-words
returns-clause-words g c = λ p e.
    let shown = g.W.Words.shown c.args.source.now in
    let same = once c.requires.page.0 p (sym c.requires.page.2 ∙ e) in
    let old = shown c.args.hand.now in
    let at : c.place_in-place.result ≡ place c.args.key (pairs_in_words old) = c.place_in-place.ensures.place ∙ ap (λ hand. place c.args.key (pairs_in_words (shown hand))) c.word-head.ensures.same in
    let up : IsShiftedUp c.place_in-place.result c.args.key c.args.word old c.shifted_up.new.words = subst (λ hand. IsShiftedUp c.place_in-place.result c.args.key c.args.word (shown hand) c.shifted_up.new.words) (c.place_in-place.ensures.same ∙ c.word-head.ensures.same) c.shifted_up.ensures.shifted in
    respelled_with c.args.key old c.shifted_up.new.words c.word-head.result c.place_in-place.result c.shifted_up.array_long c.word-head.ensures.word at p c.args.word
    (subst IsTreePage same c.requires.page.1) e (subst (λ (q : Page). length (pairs_of q) < 14) same c.requires.page.3) up
