use Rattle.std.proofs.Common.{List, ℕ, sym, subst, ◌∙◌}
use Rattle.std.specs.List.{AllByRecursion}
use Rattle.bl_image.specs.Images.{IsSpelled}
use Rattle.bl_image.specs.declared.image.Image.{Image}
use Rattle.bl_index.specs.Closed.{IsIdleOf, ClosesHands}
use Rattle.bl_index.proofs.Gathered.{all_there}
use Rattle.bl_index.proofs.AtRest.{all_spelled, closed_sound, closes_hands}
use Rattle.bl_index.proofs.index.Index.close_hands.Goals as goal

pub close-words-requires-clause-own : goal.close-words-requires-clause-own
close-words-requires-clause-own c = λ k hand at. all_there (IsIdleOf c.self.inside.tree) c.args.hands.items k hand (rw (← c.self.view_is) at c.requires.own) at

pub from_words-image-requires-clause-spelled : goal.from_words-image-requires-clause-spelled
from_words-image-requires-clause-spelled c =
    subst (λ (z : List (List ℕ)). AllByRecursion IsSpelled z) (sym c.as_slice.ensures.value) (all_spelled c.self.inside.tree.store.layout c.args.hands.items c.close-words.result.items c.close-words.ensures (rw (← c.self.view_is) at c.requires.all))

pub new-requires : goal.new-requires
new-requires c =
    let spelled = c.from_words-image.ensures in
    closed_sound c.self.inside.tree.store.layout c.args.hands.items c.close-words.result.items c.close-words.ensures (rw (← c.self.view_is) at c.requires.all) c.from_words-image.result.pages.items (spelled.words ∙ c.as_slice.ensures.value) spelled.fits

pub returns : goal.returns
returns c =
    let spelled = c.from_words-image.ensures in
    rw (← c.self.view_is) (subst (λ (z : Image). ClosesHands c.self.inside.tree c.args.hands.items z.pages.items) (sym c.new.ensures)
    (closes_hands c.self.inside.tree c.args.hands.items (rw (← c.self.view_is) at c.requires.all) c.close-words.result.items c.close-words.ensures c.from_words-image.result.pages.items (spelled.words ∙ c.as_slice.ensures.value) spelled.fits))
