use Rattle.std.proofs.Common.{◌≡◌, ℕ, Option, Some, None, refl, ap, sym, subst, ◌∙◌}
use Rattle.std.specs.Prelude.{IsSome}
use Rattle.bl_model.specs.Rows.{map_of}
use Rattle.bl_page.specs.declared.page.Page.{Page}
use Rattle.bl_page.specs.Faults.{HasPairs, pairs_of as pairs_in_words}
use Rattle.bl_page.specs.Pairs.{place}
use Rattle.bl_page.proofs.Once.{once}
use Rattle.bl_page.specs.Nodes.{IsTreePage}
use Rattle.bl_rearrange.specs.Rearranged.{pairs_of}
use Rattle.bl_proc_routes.specs.WordEdits.{IsShiftedDown}
use Rattle.bl_proc_routes.proofs.Spellings.{tree_pairs}
use Rattle.bl_proc_routes.proofs.Respellings.{respelled_without, place_within}
use Rattle.bl_proc_routes.proofs.word_edits.words_without.Goals as goal

the_value : (o : Option ℕ) → IsSome o → (v : ℕ) × (o ≡ Some v)
the_value (Some v) is = (v, refl)
the_value None is = absurd (cc)

pub place_in-place-requires-clause-pairs : goal.place_in-place-requires-clause-pairs
place_in-place-requires-clause-pairs g c = subst (λ hand. HasPairs (g.W.Words.shown c.args.source.now hand)) (sym c.word-head.ensures.same) (tree_pairs c.requires.page.0 (g.W.Words.shown c.args.source.now c.args.hand.now) c.requires.page.1 c.requires.page.2)

pub shifted_down-requires-clause-place : goal.shifted_down-requires-clause-place
shifted_down-requires-clause-place g c =
    let shown = g.W.Words.shown c.args.source.now in
    let listed = the_value (map_of (pairs_of c.requires.page.0) c.args.key) c.requires.page.3 in
    let at : c.place_in-place.result ≡ place c.args.key (pairs_in_words (shown c.args.hand.now)) = c.place_in-place.ensures.place ∙ ap (λ hand. place c.args.key (pairs_in_words (shown hand))) c.word-head.ensures.same in
    place_within c.requires.page.0 (shown c.args.hand.now) c.args.key listed.0 c.place_in-place.result c.requires.page.1 c.requires.page.2 listed.1 at

pub returns-clause-words : goal.returns-clause-words
returns-clause-words g c = λ p e.
    let shown = g.W.Words.shown c.args.source.now in
    let same = once c.requires.page.0 p (sym c.requires.page.2 ∙ e) in
    let old = shown c.args.hand.now in
    let listed = the_value (map_of (pairs_of p) c.args.key) (subst (λ (q : Page). IsSome (map_of (pairs_of q) c.args.key)) same c.requires.page.3) in
    let at : c.place_in-place.result ≡ place c.args.key (pairs_in_words old) = c.place_in-place.ensures.place ∙ ap (λ hand. place c.args.key (pairs_in_words (shown hand))) c.word-head.ensures.same in
    let down : IsShiftedDown c.place_in-place.result old c.shifted_down.new.words = subst (λ hand. IsShiftedDown c.place_in-place.result (shown hand) c.shifted_down.new.words) (c.place_in-place.ensures.same ∙ c.word-head.ensures.same) c.shifted_down.ensures.shifted in
    respelled_without c.args.key old c.shifted_down.new.words c.word-head.result c.place_in-place.result c.shifted_down.array_long c.word-head.ensures.word at p listed.0
    (subst IsTreePage same c.requires.page.1) e listed.1 down
